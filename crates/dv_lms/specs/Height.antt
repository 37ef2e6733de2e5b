-- How high a tree is, and what the standard says of each height (RFC 8554 5.1).
use Rattle.std.specs.Prelude.{ℕ, ◌+◌, ◌*◌, ◌^◌}
use Rattle.dv_lms.specs.declared.height.Height.{Height}
use Rattle.dv_lms.specs.declared.height.Height.TheVariants.{H5}

-- h, how many levels of nodes stand above the leaves
abbrev pub levels : Height → ℕ
levels H5 = 5

-- how many leaves a tree has
abbrev pub leaf_count : Height → ℕ
leaf_count height = 2 ^ levels height

-- the LMS type: LMS_SHA256_M32_H5
abbrev pub lms_type : Height → ℕ
lms_type H5 = 5

-- the length of a signature: its start in 1,136 octets, and a hash for each level
abbrev pub signature_len : Height → ℕ
signature_len height = 1136 + 32 * levels height
