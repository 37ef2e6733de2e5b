use Rattle.std.proofs.Common.{◌≡◌}
use Rattle.std.specs.List.{range_with_len}
use Rattle.std.specs.Prelude.{map}
use Rattle.dv_path.specs.Rows.{is_marked, octets_of}
use Rattle.dv_path.proofs.demand.columns.Given as goal

abbrev pub invariant-loop-position : goal.invariant-loop-position
invariant-loop-position l =
    map (λ column. column.items) l.columns.items ≡ map (λ position. map (λ policy. is_marked l.marks l.inhibit_any l.bag policy position) (octets_of l.policies)) (range_with_len 0 l.position)
