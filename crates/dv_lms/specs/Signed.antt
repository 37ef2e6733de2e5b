-- The octets of public keys and of signatures: HSS with one level (RFC 8554 6.1 and 6.2).
use Rattle.std.specs.Prelude.{ℕ, List, ◌++◌}
use Rattle.std.specs.Int.{w32, to_be_bytes}
use Rattle.dv_lmots.specs.Lmots.{joined, ots_of}
use Rattle.dv_lms.specs.declared.height.Height.{Height}
use Rattle.dv_lms.specs.Height.{levels, lms_type}
use Rattle.dv_lms.specs.Identity.{Identity}
use Rattle.dv_lms.specs.Tree.{path_node, root}

-- how a public key begins, 12 octets: u32str(1), the number of levels of trees, then the LMS type and
-- the LM-OTS type
abbrev pub public_start : Height → List ℕ
public_start height = to_be_bytes w32 1 ++ to_be_bytes w32 (lms_type height) ++ to_be_bytes w32 4

-- the public key, 60 octets: its start, I, and the root
abbrev pub public_of : Identity → List ℕ
public_of key = public_start key.height ++ key.id ++ root key

-- how a signature with the leaf q begins, 1,136 octets: u32str(0), the number of signed public keys,
-- then u32str(q), the one-time signature and the LMS type
abbrev pub signature_start : Height → ℕ → List ℕ → List ℕ
signature_start height q ots =
    to_be_bytes w32 0 ++ to_be_bytes w32 q ++ ots ++ to_be_bytes w32 (lms_type height)

-- the signature of a message with the leaf q: its start, and the siblings from the leaf upwards
abbrev pub signature_of : Identity → ℕ → List ℕ → List ℕ
signature_of key q m =
    signature_start key.height q (ots_of key.id key.seed q m) ++ joined (path_node key q) (levels key.height)
