use Rattle.std.proofs.Common.{◌*◌, ◌≤◌}
use Rattle.lms_bench.proofs.work.Bench.steps.Given as goal

-- no octet is past 255
abbrev pub invariant-loop-digit : goal.invariant-loop-digit
invariant-loop-digit l = (l.sum ≤ 255 * l.digit-index) × (l.checksum ≤ 255 * l.digit-index)
