-- When a signature is one of a message under a public key (RFC 8554 5.4.2 and 6.3).
use Rattle.std.specs.Prelude.{◌≡◌, ℕ, zero, suc, ◌+◌, ◌*◌, ◌/◌, ◌%◌, ◌^◌, ◌<◌, ◌==◌, List, length, slice_range, if◌then◌else◌}
use Rattle.std.specs.Int.{w32, to_be_bytes, from_be_bytes}
use Rattle.dv_lmots.specs.Lmots.{HasOtsForm, candidate_of}
use Rattle.dv_lms.specs.declared.height.Height.{Height}
use Rattle.dv_lms.specs.Height.{leaf_count, levels, lms_type, signature_len}
use Rattle.dv_lms.specs.Signed.{public_start}
use Rattle.dv_lms.specs.Tree.{leaf_hash, pair_hash}

-- the octets are a public key for trees of this height: 60 of them, which begin as such a key does
abbrev pub IsPublicKey : Height → List ℕ → Type 0
IsPublicKey height public = (length public ≡ 60) × (slice_range public 0 12 ≡ public_start height)

-- I of a public key
abbrev pub id_in : List ℕ → List ℕ
id_in public = slice_range public 12 28

-- the root of a public key
abbrev pub root_in : List ℕ → List ℕ
root_in public = slice_range public 28 60

-- q of a signature
abbrev pub leaf_in : List ℕ → ℕ
leaf_in sig = from_be_bytes w32 (slice_range sig 4 8)

-- the one-time signature of a signature
abbrev pub ots_in : List ℕ → List ℕ
ots_in sig = slice_range sig 8 1132

-- the sibling of a signature that stands d levels above its leaf
abbrev pub sibling_in : List ℕ → ℕ → List ℕ
sibling_in sig d = slice_range sig (1136 + 32 * d) (1136 + 32 * d + 32)

-- the octets have the form of a signature for trees of this height: their number, no signed public
-- keys, a leaf of the tree, a one-time signature, and the LMS type
abbrev pub HasSignatureForm : Height → List ℕ → Type 0
HasSignatureForm height sig =
    (length sig ≡ signature_len height)
    × (slice_range sig 0 4 ≡ to_be_bytes w32 0)
    × (leaf_in sig < leaf_count height)
    × HasOtsForm (ots_in sig)
    × (slice_range sig 1132 1136 ≡ to_be_bytes w32 (lms_type height))

-- the parent of node r, whose hash is x and whose sibling's hash is s
abbrev pub parent_hash : List ℕ → ℕ → List ℕ → List ℕ → List ℕ
parent_hash id r x s = (if r % 2 == 0 then pair_hash id (r / 2) x s else pair_hash id (r / 2) s x)

-- the node that stands d levels above node r, whose hash is x, by the siblings on the way
unfoldable pub ancestor : List ℕ → (ℕ → List ℕ) → ℕ → List ℕ → ℕ → List ℕ
ancestor id siblings r x zero = x
ancestor id siblings r x (suc d) = parent_hash id (r / 2 ^ d) (ancestor id siblings r x d) (siblings d)

-- the root that a signature of a message gives: the one-time signature gives a one-time key, this the
-- leaf, and the siblings lead from the leaf upwards
abbrev pub root_from : Height → List ℕ → List ℕ → List ℕ → List ℕ
root_from height id m sig =
    let q = leaf_in sig in
    let r = leaf_count height + q in
    ancestor id (sibling_in sig) r (leaf_hash id r (candidate_of id q m (ots_in sig))) (levels height)

-- the signature is one of the message under the public key: both have their forms for trees of one
-- height, and the signature gives the root of the key
abbrev pub Verifies : List ℕ → List ℕ → List ℕ → Type 0
Verifies public m sig = (height : Height)
    × IsPublicKey height public
    × HasSignatureForm height sig
    × (root_from height (id_in public) m sig ≡ root_in public)
