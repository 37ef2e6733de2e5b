use Rattle.std.proofs.Common.{◌≤◌, ℕ, List, length}
use Rattle.dv_signed.specs.Certificates.{AreLeft}
use Rattle.dv_signed.proofs.certificates.next_certificate.Given as goal

abbrev pub invariant-loop-octets : goal.invariant-loop-octets
invariant-loop-octets l = record {
  left : (cs : List (List ℕ)) → AreLeft cs l.fn.c → AreLeft cs l.c;
  less : length l.c.rest ≤ length l.fn.c.rest;
}

abbrev pub decreases-loop-octets : goal.decreases-loop-octets
decreases-loop-octets l = length l.c.rest
