use Rattle.std.proofs.Common.{◌<◌, [], length, subst, arith}
use Rattle.dv_draft.specs.Records.{IsCertificate}
use Rattle.dv_cert.proofs.OrderLemmas.{certificate_is, lists_long}
use Rattle.dv_cert.proofs.room.Room.new.Goals as goal

pub signer_of_own-requires : goal.signer_of_own-requires
signer_of_own-requires c =
    let some : 0 < length c.args.certificates.now = omega (arith, c.requires.some) in
    let e = certificate_is c.args.certificates.now 0 c.index-certificates-0.result c.as_slice-own.result.now some c.index-certificates-0.is c.as_slice-own.ensures.value in
    subst IsCertificate e (c.requires.decoded 0 [] (lists_long c.args.certificates.now 0 some))
