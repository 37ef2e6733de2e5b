-- What a key signs verifies under its public octets.
use Rattle.std.proofs.Common.{◌≡◌, ℕ, zero, suc, ◌+◌, ◌-◌, ◌*◌, ◌/◌, ◌%◌, ◌^◌, ◌<◌, List, [], ◌++◌, length, refl, sym, ap, ◌∙◌, subst, arith, inl, inr, append-nil, add-one, length-append, shr-shr}
use Rattle.std.proofs.lemmas.List.{append_assoc}
use Rattle.std.proofs.lemmas.Bool.{cases_lt}
use Rattle.std.proofs.lemmas.Nat.{from_be_bytes-to_be_bytes_4}
use Rattle.std.specs.Prelude.{slice_range}
use Rattle.std.specs.Int.{w32, to_be_bytes}
use Rattle.sha2.proofs.Facts256.{length-sha256}
use Rattle.dv_lmots.specs.Lmots.{HasOtsForm, candidate_of, joined, key_of, ots_of}
use Rattle.dv_lmots.proofs.Joined.{length-joined, slice_range-joined, slice_range-middle}
use Rattle.dv_lms.specs.Height.{leaf_count, levels, lms_type, signature_len}
use Rattle.dv_lms.specs.Identity.{Identity}
use Rattle.dv_lms.specs.Signed.{public_of, public_start, signature_of, signature_start}
use Rattle.dv_lms.specs.Tree.{leaf_hash, node, pair_hash, path_node, root, sibling}
use Rattle.dv_lms.specs.Verifies.{HasSignatureForm, IsPublicKey, Verifies, ancestor, id_in, leaf_in, ots_in, parent_hash, root_from, root_in, sibling_in}
use Rattle.dv_lms.proofs.Heights.{leaf_count-le}
use Rattle.dv_lms.proofs.Paths.{top_number}

-- a node is a hash
length-node : (key : Identity) (d r : ℕ) → length (node key d r) ≡ 32
unfolding node leaf_hash pair_hash
length-node key zero r = length-sha256 _
length-node key (suc d) r = length-sha256 _

-- a node and its sibling give their parent
parent_hash-node : (key : Identity) (d r : ℕ) → parent_hash key.id r (node key d r) (node key d (sibling r)) ≡ node key (suc d) (r / 2)
unfolding node
parent_hash-node key d r = elim (cases_lt (r % 2) 1) [
  | inl even ↦
      let rest : r % 2 ≡ 0 = omega arith in
      let left : 2 * (r / 2) ≡ r = omega arith in
      rw (rest, left) refl
  | inr odd ↦
      let rest : r % 2 ≡ 1 = omega arith in
      let left : 2 * (r / 2) ≡ r - 1 = omega arith in
      let right : r - 1 + 1 ≡ r = omega arith in
      rw (rest, left, right) refl
]

-- the siblings of the path lead from the leaf q to the nodes above it
ancestor-node : (key : Identity) (q : ℕ) (siblings : ℕ → List ℕ) (x : List ℕ) (d : ℕ) → x ≡ node key 0 (leaf_count key.height + q)
    → ((k : ℕ) → k < d → siblings k ≡ path_node key q k)
    → ancestor key.id siblings (leaf_count key.height + q) x d ≡ node key d ((leaf_count key.height + q) / 2 ^ d)
unfolding ancestor
ancestor-node key q siblings x zero leaf path =
    let same : (leaf_count key.height + q) / 2 ^ 0 ≡ leaf_count key.height + q = omega arith in
    rw same leaf
ancestor-node key q siblings x (suc d) leaf path =
    let first : ℕ = leaf_count key.height + q in
    let r : ℕ = first / 2 ^ d in
    let below = ancestor-node key q siblings x d leaf (λ k lt. path k (omega arith)) in
    let up : first / 2 ^ suc d ≡ r / 2 = ap (λ (k : ℕ). first / 2 ^ k) (sym (add-one d)) ∙ sym (shr-shr first d 1) in
    rw (below, path d (omega arith), up) (parent_hash-node key d r)

-- the public octets of a key
module _ (key : Identity) (id : length key.id ≡ 16) where
  -- they have the form of a public key
  IsPublicKey-public_of : IsPublicKey key.height (public_of key)
  IsPublicKey-public_of =
      let start : List ℕ = public_start key.height in
      let top = length-node key (levels key.height) 1 in
      (omega (arith, length-append (start ++ key.id) (root key), length-append start key.id), refl)

  -- they hold I
  id_in-public_of : id_in (public_of key) ≡ key.id
  id_in-public_of = slice_range-middle (public_start key.height) key.id (root key) 12 28 refl (omega arith)

  -- and the root
  root_in-public_of : root_in (public_of key) ≡ root key
  root_in-public_of =
      let start : List ℕ = public_start key.height in
      let top : length (root key) ≡ 32 = length-node key (levels key.height) 1 in
      let before : length (start ++ key.id) ≡ 28 = omega (arith, length-append start key.id) in
      let last = slice_range-middle (start ++ key.id) (root key) [] 28 60 before (omega arith) in
      subst (λ (octets : List ℕ). slice_range octets 28 60 ≡ root key) (append-nil (start ++ key.id ++ root key)) last

-- the signature of a message with the leaf q
module _ (key : Identity) (m : List ℕ) (q : ℕ) (small : q < leaf_count key.height) (form : HasOtsForm (ots_of key.id key.seed q m)) where
  -- it holds the one-time signature
  ots_in-signature_of : ots_in (signature_of key q m) ≡ ots_of key.id key.seed q m
  ots_in-signature_of =
      let ots : List ℕ = ots_of key.id key.seed q m in
      let first : List ℕ = to_be_bytes w32 0 ++ to_be_bytes w32 q in
      let kind : List ℕ = to_be_bytes w32 (lms_type key.height) in
      let path : List ℕ = joined (path_node key q) (levels key.height) in
      let long : length ots ≡ 1124 = form.0 in
      let e = slice_range-middle first ots (kind ++ path) 8 1132 refl (omega arith) in
      subst (λ (octets : List ℕ). slice_range octets 8 1132 ≡ ots) (sym (append_assoc (first ++ ots) kind path)) e

  -- the LMS type
  type_in-signature_of : slice_range (signature_of key q m) 1132 1136 ≡ to_be_bytes w32 (lms_type key.height)
  type_in-signature_of =
      let ots : List ℕ = ots_of key.id key.seed q m in
      let first : List ℕ = to_be_bytes w32 0 ++ to_be_bytes w32 q in
      let long : length ots ≡ 1124 = form.0 in
      let path : List ℕ = joined (path_node key q) (levels key.height) in
      slice_range-middle (first ++ ots) (to_be_bytes w32 (lms_type key.height)) path 1132 1136 (omega (arith, length-append first ots)) refl

  -- the length of what stands before the path
  length-signature_start : length (signature_start key.height q (ots_of key.id key.seed q m)) ≡ 1136
  length-signature_start =
      let ots : List ℕ = ots_of key.id key.seed q m in
      let first : List ℕ = to_be_bytes w32 0 ++ to_be_bytes w32 q in
      let long : length ots ≡ 1124 = form.0 in
      omega (arith, length-append (first ++ ots) (to_be_bytes w32 (lms_type key.height)), length-append first ots)

  -- the path's nodes are hashes
  length-path_node : (d : ℕ) → length (path_node key q d) ≡ 32
  length-path_node d = length-node key d (sibling ((leaf_count key.height + q) / 2 ^ d))

  -- the length of the whole
  length-signature_of : length (signature_of key q m) ≡ signature_len key.height
  length-signature_of =
      let start : List ℕ = signature_start key.height q (ots_of key.id key.seed q m) in
      let path = length-joined (path_node key q) length-path_node (levels key.height) in
      let before : length start ≡ 1136 = length-signature_start in
      omega (arith, length-append start (joined (path_node key q) (levels key.height)))

  -- it holds the path
  sibling_in-signature_of : (d : ℕ) → d < levels key.height → sibling_in (signature_of key q m) d ≡ path_node key q d
  sibling_in-signature_of d lt =
      let start : List ℕ = signature_start key.height q (ots_of key.id key.seed q m) in
      let before : length start ≡ 1136 = length-signature_start in
      rw before at (slice_range-joined start (path_node key q) length-path_node (levels key.height) d lt)

  -- and the number of the leaf
  leaf_in-signature_of : leaf_in (signature_of key q m) ≡ q
  leaf_in-signature_of =
      let most = leaf_count-le key.height in
      from_be_bytes-to_be_bytes_4 q (omega arith)

  -- so it has the form of a signature
  HasSignatureForm-signature_of : HasSignatureForm key.height (signature_of key q m)
  HasSignatureForm-signature_of = (
    length-signature_of,
    refl,
    subst (λ (n : ℕ). n < leaf_count key.height) (sym leaf_in-signature_of) small,
    subst (λ (ots : List ℕ). HasOtsForm ots) (sym ots_in-signature_of) form,
    type_in-signature_of,
  )

  -- the leaf that the one-time key of a signature makes
  leaf_hash-node : leaf_hash key.id (leaf_count key.height + q) (key_of key.id key.seed q) ≡ node key 0 (leaf_count key.height + q)
  unfolding node
  leaf_hash-node =
      let number : leaf_count key.height + q - leaf_count key.height ≡ q = omega arith in
      rw number refl

  -- the root that it gives is the key's
  root_from-signature_of : candidate_of key.id q m (ots_of key.id key.seed q m) ≡ key_of key.id key.seed q
      → root_from key.height key.id m (signature_of key q m) ≡ root key
  root_from-signature_of given =
      let sig : List ℕ = signature_of key q m in
      let count : ℕ = leaf_count key.height in
      let h : ℕ = levels key.height in
      let top : (count + q) / 2 ^ h ≡ 1 = top_number count q small in
      let leaf : leaf_hash key.id (count + q) (candidate_of key.id q m (ots_in sig)) ≡ node key 0 (count + q) =
      ap (λ (ots : List ℕ). leaf_hash key.id (count + q) (candidate_of key.id q m ots)) ots_in-signature_of
      ∙ ap (leaf_hash key.id (count + q)) given ∙ leaf_hash-node in
      let up = ancestor-node key q (sibling_in sig) (leaf_hash key.id (count + q) (candidate_of key.id q m (ots_in sig))) h leaf sibling_in-signature_of in
      ap (λ (n : ℕ). ancestor key.id (sibling_in sig) (count + n) (leaf_hash key.id (count + n) (candidate_of key.id n m (ots_in sig))) h) leaf_in-signature_of
      ∙ up ∙ ap (node key h) top

-- what a key signs verifies, where its leaf's one-time signature gives the leaf's one-time key
pub Verifies-signature_of : (key : Identity) (m : List ℕ) (q : ℕ) → length key.id ≡ 16 → q < leaf_count key.height
    → HasOtsForm (ots_of key.id key.seed q m) → candidate_of key.id q m (ots_of key.id key.seed q m) ≡ key_of key.id key.seed q
    → Verifies (public_of key) m (signature_of key q m)
Verifies-signature_of key m q id small form given = (
  key.height,
  IsPublicKey-public_of key id,
  HasSignatureForm-signature_of key m q small form,
  ap (λ (i : List ℕ). root_from key.height i m (signature_of key q m)) (id_in-public_of key id)
      ∙ root_from-signature_of key m q small form given ∙ sym (root_in-public_of key id),
)
