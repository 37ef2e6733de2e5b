use Rattle.std.proofs.Common.{sym, ap, subst, length}
use Rattle.dv_session.specs.Splitting.{IsBegun}
use Rattle.dv_session.proofs.RequestLemmas.{nothing_begun}
use Rattle.dv_session.proofs.framer.Framer.new.Goals as goal

pub invariant_of-result : goal.invariant_of-result
invariant_of-result c = record {
  reads = λ going. (subst IsBegun (sym c.new.ensures.items) nothing_begun, sym (ap length c.new.ensures.items));
  stopped = λ stopped. c.new.ensures.items;
}
