use Rattle.dv_answer.proofs.MessageLemmas.{no_signed_data}
use Rattle.dv_answer.proofs.SignedLemmas.{request_in}
use Rattle.dv_answer.proofs.signed.Signatures.read.Goals as goal

pub returns-in-Err : goal.returns-in-Err
returns-in-Err c = λ octets info. no_signed_data octets c.args.content.now info c.in-Err.ensures.only

pub returns-in-Ok : goal.returns-in-Ok
returns-in-Ok c = λ octets info.
    (let found = c.in-Ok.ensures.found in
    request_in octets c.args.content.now c.in-Ok.signed c.of.result info found.0 found.1 c.of.ensures)
