use Rattle.std.proofs.Common.{◌≤◌, ◌+◌, IfSome, List, ℕ, length}
use Rattle.dv_schema.specs.Reading.{Spot}
use Rattle.dv_repeats.specs.Lists.{AreKeys}
use Rattle.dv_repeats.proofs.GoneLemmas.{IsGone}
use Rattle.dv_repeats.proofs.repeated.first_repeated.Given as goal

-- the members of some windows were looked for among all behind them
abbrev pub invariant-loop-scan : goal.invariant-loop-scan
invariant-loop-scan g l =
    (l.number + length l.from.rest ≤ length l.list.rest) × IfSome l.first (λ first. l.number ≤ first)
    × ((ks : List (List ℕ)) (q : Spot) → AreKeys g.K.Keyed.turn ks l.list q → IsGone g.K.Keyed.turn l.number l.first l.from ks q)

abbrev pub decreases-loop-scan : goal.decreases-loop-scan
decreases-loop-scan g l = length l.from.rest
