-- How much a register may hold.
use Rattle.std.proofs.Common.{◌≡◌, ℕ, ◌≤◌, List, ◌++◌, length, arith, length-append, lit≤}
use Rattle.std.specs.List.{AllByRecursion}
use Rattle.dv_lms.specs.Height.{leaf_count}
use Rattle.dv_lms.specs.declared.height.Height.{Height}
use Rattle.dv_lms.specs.declared.height.Height.TheVariants.{H5}
use Rattle.dv_outside.specs.Releases.{Entry}
use Rattle.dv_register.specs.Layout.{IsEntry, head_of, records_of}
use Rattle.dv_register.proofs.MemoryLemmas.{length-head_of, length-records_of}

-- No key has more leaves.
pub leaf_count-le : (height : Height) → leaf_count height ≤ 1024
leaf_count-le H5 = lit≤ tt

-- So no register is long.
pub gate_small : (key : List ℕ) (first gate : ℕ) (height : Height) (list : List Entry) → length key ≡ 60 → AllByRecursion IsEntry list → length list ≤ leaf_count height
    → length (head_of key first ++ records_of list) ≡ gate → gate ≤ 1073748044
gate_small key first gate height list sixty entries fits is =
    omega (arith, length-head_of key first sixty, length-records_of list entries, length-append (head_of key first) (records_of list), is, fits, leaf_count-le height)
