-- The tree of a key (RFC 8554 5.3): the root is node 1, the children of node r are 2r and 2r + 1, and
-- the leaves are the nodes from 2^h on.
use Rattle.std.specs.Prelude.{ℕ, zero, suc, ◌+◌, ◌-◌, ◌*◌, ◌/◌, ◌%◌, ◌^◌, ◌==◌, List, [], ◌∷◌, ◌++◌, if◌then◌else◌}
use Rattle.sha2.specs.Sha256.{sha256}
use Rattle.dv_lmots.specs.Lmots.{id_and_number, key_of}
use Rattle.dv_lms.specs.Height.{leaf_count, levels}
use Rattle.dv_lms.specs.Identity.{Identity}

-- node r where it is the leaf of a one-time key: H(I || u32str(r) || D_LEAF || K)
unfoldable pub leaf_hash : List ℕ → ℕ → List ℕ → List ℕ
leaf_hash id r ots_key = sha256 (id_and_number id r ++ 0x82 ∷ 0x82 ∷ [] ++ ots_key)

-- node r over its two children: H(I || u32str(r) || D_INTR || left || right)
unfoldable pub pair_hash : List ℕ → ℕ → List ℕ → List ℕ → List ℕ
pair_hash id r left right = sha256 (id_and_number id r ++ 0x83 ∷ 0x83 ∷ [] ++ left ++ right)

-- node r of a key's tree, which stands d levels above the leaves
unfoldable pub node : Identity → ℕ → ℕ → List ℕ
node key zero r = leaf_hash key.id r (key_of key.id key.seed (r - leaf_count key.height))
node key (suc d) r = pair_hash key.id r (node key d (2 * r)) (node key d (2 * r + 1))

-- the root of a key's tree
abbrev pub root : Identity → List ℕ
root key = node key (levels key.height) 1

-- the other child of the same parent
abbrev pub sibling : ℕ → ℕ
sibling r = (if r % 2 == 0 then r + 1 else r - 1)

-- the sibling that stands d levels above the leaf q, on the way from there to the root
abbrev pub path_node : Identity → ℕ → ℕ → List ℕ
path_node key q d = node key d (sibling ((leaf_count key.height + q) / 2 ^ d))
