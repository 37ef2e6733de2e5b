use Rattle.std.proofs.Common.{◌≡◌, length, None}
use Rattle.dv_schema.specs.Reading.{all_at, whole_at}
use Rattle.dv_schema.specs.Answers.{skipped}
use Rattle.dv_asn1.proofs.cursor.Cursor.+skip_value.Given as goal

abbrev pub decreases-skip_value : goal.decreases-skip_value
decreases-skip_value l = l.self.now.levels

abbrev pub invariant-loop-inside : goal.invariant-loop-inside
invariant-loop-inside l = (skipped (all_at (whole_at None l.inside.levels) (length l.inside.rest) l.inside)
    ≡ skipped (all_at (whole_at None l.initial.inside.levels) (length l.initial.inside.rest) l.initial.inside)) × (l.inside.levels ≡ l.initial.inside.levels)

abbrev pub decreases-loop-inside : goal.decreases-loop-inside
decreases-loop-inside l = length l.inside.rest
