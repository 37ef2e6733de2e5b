use Rattle.std.proofs.Common.{◌≡◌, ◌<◌, ◌≤◌, ◌+◌, IfSome, List, ℕ, length}
use Rattle.dv_schema.specs.Reading.{Spot}
use Rattle.dv_repeats.specs.Lists.{AreKeys}
use Rattle.dv_repeats.specs.Windows.{keys_of}
use Rattle.dv_repeats.proofs.ScanLemmas.{IsGoing}
use Rattle.dv_repeats.proofs.repeated.go_over.Given as goal

-- the keys of the first members are in the window, and those passed since are none of them
abbrev pub invariant-loop-ahead : goal.invariant-loop-ahead
invariant-loop-ahead g l =
    (length l.window.keys.items ≤ l.passed) × (length l.window.keys.items < 1024 → length l.window.keys.items ≡ l.passed)
    × (l.passed + length l.ahead.rest ≤ length l.from.rest) × (length l.window.keys.items + length l.next.rest ≤ length l.from.rest)
    × IfSome l.known (λ first. l.number + l.passed ≤ first)
    × ((ks : List (List ℕ)) (q : Spot) → AreKeys g.K.Keyed.turn ks l.from q → IsGoing g.K.Keyed.turn (keys_of l.window.keys.items) (length l.window.keys.items) l.passed l.next l.ahead ks q)

abbrev pub decreases-loop-ahead : goal.decreases-loop-ahead
decreases-loop-ahead g l = length l.ahead.rest
