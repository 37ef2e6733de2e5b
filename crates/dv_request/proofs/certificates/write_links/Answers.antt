use Rattle.std.proofs.Common.{arith, ap, length}
use Rattle.dv_request.specs.Made.{retagged}
use Rattle.dv_request.proofs.ChainLemmas.{links_room}
use Rattle.dv_request.proofs.certificates.write_links.Goals as goal

pub write_token-requires : goal.write_token-requires
write_token-requires c =
    let room = links_room c.args.chain.now c.loop-certificate.certificate-index c.certificate-item.result c.loop-certificate-test.true c.certificate-item.is in
    let same = ap (λ o. length (retagged 160 o)) c.deref.ensures.value in
    omega (arith, room, same, c.loop-certificate.invariant.room, c.requires)
