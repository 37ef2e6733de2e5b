use Rattle.std.proofs.Common.{◌≡◌, ◌≤◌, length, take}
use Rattle.dv_files.proofs.seed.agreement.Given as goal

abbrev pub invariant-loop-k : goal.invariant-loop-k
invariant-loop-k l = (l.k ≤ length l.octets) × (take l.k l.octets ≡ take l.k l.start)
