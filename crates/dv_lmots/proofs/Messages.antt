-- The message of a chain in its buffer: a prefix of 22 octets, the number of a step, and a value.
use Rattle.std.proofs.Common.{◌≡◌, ℕ, List, [], ◌++◌, ◌∷◌, length, take, drop, set, ap, ◌∙◌, arith, length-append, length-drop}
use Rattle.std.proofs.lemmas.List.{append-nil, drop_all, length-set, nil_from_length, set_split, take-set-le, take_at}
use Rattle.std.proofs.lemmas.Slice.{take-put_mid_below}
use borrow.Rule.Slice.PartMut.{put_mid}
use Rattle.sha2.specs.Sha256.{sha256}
use Rattle.dv_lmots.proofs.Buffers.{drop-filled, filled_front, length-filled}

-- a message of which each part was written: a and b are what was written from octets 16 and 20 on
pub new_message : (id z a b v u w ra rb : List ℕ) → length id ≡ 16 → length z ≡ 39 → length v ≡ 32
    → a ≡ u ++ ra → length u ≡ 4 → length a ≡ 39 → b ≡ w ++ rb → length w ≡ 2 → length b ≡ 35
    → (take 22 (put_mid 23 32 (put_mid 20 35 (put_mid 16 39 (id ++ z) a) b) v) ≡ (id ++ u) ++ w)
    × (drop 23 (put_mid 23 32 (put_mid 20 35 (put_mid 16 39 (id ++ z) a) b) v) ≡ v)
new_message id z a b v u w ra rb lid lz lv ea lu la eb lw lb =
    let m0 : List ℕ = id ++ z in
    let l0 : length m0 ≡ 55 = omega (arith, length-append id z) in
    let m1 : List ℕ = put_mid 16 39 m0 a in
    let l1 : length m1 ≡ 55 = length-filled m0 a 16 39 la (omega arith) ∙ l0 in
    let m2 : List ℕ = put_mid 20 35 m1 b in
    let l2 : length m2 ≡ 55 = length-filled m1 b 20 35 lb (omega arith) ∙ l1 in
    let s1 : take 20 m1 ≡ id ++ u =
    ap (λ (p : List ℕ). take 20 (put_mid 16 39 m0 p)) ea ∙ filled_front id m0 u ra 16 39 20 (take_at id z 16 lid) (omega arith) (omega arith) in
    let s2 : take 22 m2 ≡ (id ++ u) ++ w =
    ap (λ (p : List ℕ). take 22 (put_mid 20 35 m1 p)) eb ∙ filled_front (id ++ u) m1 w rb 20 35 22 s1 (omega arith) (omega arith) in
    (take-put_mid_below 23 32 m2 v 22 (omega arith) (omega arith) ∙ s2, drop-filled m2 v 23 32 (omega arith) (omega arith))

-- one step: its number is written before the value, and the hash of the message over the value
pub next_message : (m next : List ℕ) (j : ℕ) → length m ≡ 55 → length next ≡ 32
    → (take 22 (put_mid 23 32 (set m 22 j) next) ≡ take 22 m) × (drop 23 (put_mid 23 32 (set m 22 j) next) ≡ next)
next_message m next j lm ln =
    let l : length (set m 22 j) ≡ 55 = length-set m 22 j ∙ lm in (
      take-put_mid_below 23 32 (set m 22 j) next 22 (omega arith) (omega arith) ∙ take-set-le 22 m 22 j (omega arith),
      drop-filled (set m 22 j) next 23 32 (omega arith) (omega arith),
    )

-- what a step hashes
pub hashed_message : (m : List ℕ) (j : ℕ) → length m ≡ 55 → sha256 (set m 22 j) ≡ sha256 (take 22 m ++ j ∷ drop 23 m)
hashed_message m j lm = ap sha256 (set_split m 22 j (omega arith))

-- the octets of a hash, and two more written after them
pub two_more : (hash z b w r : List ℕ) → length hash ≡ 32 → length z ≡ 2 → b ≡ w ++ r → length w ≡ 2 → length b ≡ 2 → put_mid 32 2 (hash ++ z) b ≡ hash ++ w
two_more hash z b w r lh lz eb lw lb =
    let front : take 32 (hash ++ z) ≡ hash = take_at hash z 32 lh in
    let rest : drop 2 (drop 32 (hash ++ z)) ≡ [] = drop_all 2 (drop 32 (hash ++ z)) (omega (arith, length-drop 32 (hash ++ z), length-append hash z)) in
    let none : r ≡ [] = nil_from_length r (omega (arith, ap length eb, length-append w r)) in
    (λ i. front i ++ ((eb ∙ ap (λ (p : List ℕ). w ++ p) none ∙ append-nil w) i ++ rest i)) ∙ ap (λ (p : List ℕ). hash ++ p) (append-nil w)
