use Rattle.std.proofs.Common.{◌≡◌, ◌+◌}
use Rattle.dv_session.proofs.framer.tests.octet_by_octet.Given as goal

-- one octet was fed in each turn
abbrev pub invariant-loop-octet : goal.invariant-loop-octet
invariant-loop-octet g l = l.framer.before + l.framer.behind ≡ l.octet-index
