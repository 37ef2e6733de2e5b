use Rattle.dv_cert.proofs.OrderLemmas.{joined_at}
use Rattle.dv_cert.proofs.order.joined.Goals as goal

pub loop-part-preserved : goal.loop-part-preserved
loop-part-preserved c =
    joined_at c.args.parts.now c.loop-part.part-index _ c.loop-part.octets.items c.extend_from_slice.new.self.items c.loop-part-test.true c.in_ok-extend_from_slice.ensures.items c.loop-part.invariant
