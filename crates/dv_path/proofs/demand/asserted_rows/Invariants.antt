use Rattle.std.proofs.Common.{◌≡◌, take}
use Rattle.std.specs.Prelude.{map}
use Rattle.dv_path.specs.Rows.{octets_of, rows_in}
use Rattle.dv_path.proofs.demand.asserted_rows.Given as goal

abbrev pub invariant-loop-place : goal.invariant-loop-place
invariant-loop-place l = map (λ row. row.items) l.rows.items ≡ rows_in l.marks l.inhibit_any (take l.place (octets_of l.policies)) l.bag
