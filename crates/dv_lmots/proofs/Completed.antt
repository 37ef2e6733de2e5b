-- A signature's values, completed to the ends of their chains, are the ends that the key is made of.
use Rattle.std.proofs.Common.{◌≡◌, ℕ, ◌-◌, ◌<◌, List, [], ◌∷◌, ◌++◌, length, slice_index, refl, ap, ◌∙◌, arith, length-append}
use Rattle.sha2.specs.Sha256.{sha256}
use Rattle.sha2.proofs.Facts256.{length-sha256}
use Rattle.dv_lmots.specs.Lmots.{HasOtsForm, candidate_of, chain, chain_end, chain_prefix, completed_value, digits, joined, key_from, key_of, id_and_number, ots_of, private_value, randomizer, randomizer_in, signed_value, value_in}
use Rattle.dv_lmots.proofs.ChainSteps.{chain_completed, length-chain_steps}
use Rattle.dv_lmots.proofs.Joined.{joined_same, length-joined, slice_range-joined, slice_range-middle}
use Rattle.dv_lmots.proofs.Octets.{digit_le}

-- a private value is a hash
length-private_value : (id seed : List ℕ) (q i : ℕ) → length (private_value id seed q i) ≡ 32
unfolding private_value
length-private_value id seed q i = length-sha256 _

-- so is each value of its chain
length-signed_value : (id seed : List ℕ) (q : ℕ) (ds : List ℕ) (i : ℕ) → length (signed_value id seed q ds i) ≡ 32
length-signed_value id seed q ds i = length-chain_steps (chain_prefix id q i) (private_value id seed q i) 0 (slice_index ds i - 0) (length-private_value id seed q i)

-- the length of a leaf's signature
length-ots_of : (id seed : List ℕ) (q : ℕ) (m : List ℕ) → length (ots_of id seed q m) ≡ 1124
length-ots_of id seed q m =
    let c : List ℕ = randomizer id seed q in
    let ds : List ℕ = digits id q c m in
    let kind : List ℕ = 0 ∷ 0 ∷ 0 ∷ 4 ∷ [] in
    omega (
      arith,
      length-append (kind ++ c) (joined (signed_value id seed q ds) 34),
      length-append kind c,
      length-private_value id seed q 0xFFFD,
      length-joined (signed_value id seed q ds) (length-signed_value id seed q ds) 34,
    )

-- a leaf's signature has a signature's form
pub HasOtsForm-ots_of : (id seed : List ℕ) (q : ℕ) (m : List ℕ) → HasOtsForm (ots_of id seed q m)
HasOtsForm-ots_of id seed q m = (length-ots_of id seed q m, refl)

-- the same ends make the same key
pub key_from_same : (id : List ℕ) (q : ℕ) (y z : ℕ → List ℕ) → ((i : ℕ) → i < 34 → y i ≡ z i) → key_from id q y ≡ key_from id q z
unfolding key_from
key_from_same id q y z same = ap (λ (ends : List ℕ). sha256 (id_and_number id q ++ 0x80 ∷ 0x80 ∷ [] ++ ends)) (joined_same y z 34 same)

-- the public key that a leaf's signature gives is the leaf's
pub candidate_of-ots_of : (id seed : List ℕ) (q : ℕ) (m : List ℕ) → candidate_of id q m (ots_of id seed q m) ≡ key_of id seed q
candidate_of-ots_of id seed q m =
    let c : List ℕ = randomizer id seed q in
    let ds : List ℕ = digits id q c m in
    let y : ℕ → List ℕ = signed_value id seed q ds in
    let sig : List ℕ = ots_of id seed q m in
    let kind : List ℕ = 0 ∷ 0 ∷ 0 ∷ 4 ∷ [] in
    let lc : length c ≡ 32 = length-private_value id seed q 0xFFFD in
    let start : length (kind ++ c) ≡ 36 = omega (arith, length-append kind c) in
    let same_c : randomizer_in sig ≡ c = slice_range-middle kind c (joined y 34) 4 36 refl (omega arith) in
    let each : (i : ℕ) → i < 34 → completed_value id q ds sig i ≡ chain_end id seed q i =
    λ i lt.
    let value : value_in sig i ≡ y i = rw start at (slice_range-joined (kind ++ c) y (length-signed_value id seed q ds) 34 i lt) in
    ap (λ (x : List ℕ). chain id q i x (slice_index ds i) 255) value
    ∙ chain_completed id q i (private_value id seed q i) 0 (slice_index ds i) 255 (omega arith) (digit_le id q c m i) in
    ap (λ (d : List ℕ). key_from id q (completed_value id q (digits id q d m) sig)) same_c
    ∙ key_from_same id q (completed_value id q ds sig) (chain_end id seed q) each
