-- How large trees are.
use Rattle.std.proofs.Common.{◌≡◌, ◌≤◌, lit≤, refl}
use Rattle.dv_lms.specs.declared.height.Height.{Height}
use Rattle.dv_lms.specs.declared.height.Height.TheVariants.{H5}
use Rattle.dv_lms.specs.Height.{leaf_count, levels, signature_len}

-- the most leaves
pub leaf_count-le : (height : Height) → leaf_count height ≤ 32
leaf_count-le H5 = lit≤ tt

-- the most levels
pub levels-le : (height : Height) → levels height ≤ 5
levels-le H5 = lit≤ tt

-- the length of a signature, in the one number that the code has
pub signature_len-is : (height : Height) → signature_len height ≡ 1296
signature_len-is H5 = refl
