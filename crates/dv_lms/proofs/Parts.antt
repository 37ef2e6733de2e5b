-- The parts of public keys and of signatures, written into their octets.
use Rattle.std.proofs.Common.{◌≡◌, ℕ, ◌+◌, ◌*◌, ◌<◌, List, [], ◌∷◌, ◌++◌, length, take, sym, ap, ◌∙◌, arith, length-append}
use Rattle.std.proofs.lemmas.List.{take_all, take_at}
use borrow.Rule.Slice.PartMut.{put_mid}
use Rattle.dv_lmots.specs.Lmots.{joined}
use Rattle.dv_lmots.proofs.Buffers.{filled, filled_front, length-filled}
use Rattle.dv_lmots.proofs.Joined.{joined_next}

-- a public key: its start, I and the root
pub public_written : (start z id root : List ℕ) → length start ≡ 12 → length z ≡ 48 → length id ≡ 16 → length root ≡ 32
    → put_mid 28 32 (put_mid 12 16 (start ++ z) id) root ≡ start ++ id ++ root
public_written start z id root ls lz li lr =
    let m0 : List ℕ = start ++ z in
    let l0 : length m0 ≡ 60 = omega (arith, length-append start z) in
    let m1 : List ℕ = put_mid 12 16 m0 id in
    let l1 : length m1 ≡ 60 = length-filled m0 id 12 16 li (omega arith) ∙ l0 in
    let s1 : take 28 m1 ≡ start ++ id = filled start m0 id 12 16 28 (take_at start z 12 ls) (omega arith) (omega arith) in
    let l2 : length (put_mid 28 32 m1 root) ≡ 60 = length-filled m1 root 28 32 lr (omega arith) ∙ l1 in
    sym (take_all 60 (put_mid 28 32 m1 root) (omega arith)) ∙ filled (start ++ id) m1 root 28 32 60 s1 (omega arith) (omega arith)

-- the start of a signature: a and c are what was written over q and over the type
pub start_written : (z a q ra ots c kind rc : List ℕ) → length z ≡ 1296 → take 4 z ≡ 0 ∷ 0 ∷ 0 ∷ 0 ∷ []
    → a ≡ q ++ ra → length q ≡ 4 → length a ≡ 4 → length ots ≡ 1124 → c ≡ kind ++ rc → length kind ≡ 4
    → take 1136 (put_mid 1132 4 (put_mid 8 1124 (put_mid 4 4 z a) ots) c) ≡ 0 ∷ 0 ∷ 0 ∷ 0 ∷ [] ++ q ++ ots ++ kind
start_written z a q ra ots c kind rc lz zeros ea lq la lo ec lk =
    let m1 : List ℕ = put_mid 4 4 z a in
    let l1 : length m1 ≡ 1296 = length-filled z a 4 4 la (omega arith) ∙ lz in
    let s1 : take 8 m1 ≡ 0 ∷ 0 ∷ 0 ∷ 0 ∷ [] ++ q =
    ap (λ (p : List ℕ). take 8 (put_mid 4 4 z p)) ea ∙ filled_front _ z q ra 4 4 8 zeros (omega arith) (omega arith) in
    let m2 : List ℕ = put_mid 8 1124 m1 ots in
    let l2 : length m2 ≡ 1296 = length-filled m1 ots 8 1124 lo (omega arith) ∙ l1 in
    let s2 : take 1132 m2 ≡ 0 ∷ 0 ∷ 0 ∷ 0 ∷ [] ++ q ++ ots = filled _ m1 ots 8 1124 1132 s1 (omega arith) (omega arith) in
    ap (λ (p : List ℕ). take 1136 (put_mid 1132 4 m2 p)) ec ∙ filled_front _ m2 kind rc 1132 4 1136 s2 (omega arith) (omega arith)

-- one more sibling of the path
pub sibling_written : (start octets hash : List ℕ) (path : ℕ → List ℕ) (d k : ℕ) → take (1136 + 32 * d) octets ≡ start ++ joined path d → length octets ≡ 1296 → d < 5
    → hash ≡ path d → length hash ≡ 32 → take (1136 + 32 * (d + 1)) (put_mid (1136 + 32 * d) k octets hash) ≡ start ++ joined path (d + 1)
sibling_written start octets hash path d k held long lt e len =
    filled (start ++ joined path d) octets hash (1136 + 32 * d) k (1136 + 32 * (d + 1)) held (omega arith) (omega arith) ∙ joined_next start path d hash e

-- the whole path
pub path_written : (start octets : List ℕ) (path : ℕ → List ℕ) (d : ℕ) → take (1136 + 32 * d) octets ≡ start ++ joined path d → length octets ≡ 1136 + 32 * d
    → octets ≡ start ++ joined path d
path_written start octets path d held long = sym (take_all (1136 + 32 * d) octets (omega arith)) ∙ held
