use Rattle.std.proofs.Common.{arith, ap, ◌+◌, ◌∙◌}
use Rattle.std.specs.Option.{option_copied}
use Rattle.dv_request.specs.Materials.{data_of}
use Rattle.dv_request.proofs.MessageLemmas.{header_few, length-message, overhead_few}
use Rattle.dv_request.proofs.make.Draft.message_len.Goals as goal

pub content_header_len-requires : goal.content_header_len-requires
content_header_len-requires c =
    let more = overhead_few c.args.self.now.material.now in
    let few = header_few c.encoded_len-content.result (omega (arith, more, c.encoded_len-content.ensures.few)) in
    omega (arith, few, more, c.encoded_len-content.ensures.few)

pub overflow_add-result : goal.overflow_add-result
overflow_add-result c =
    let more = overhead_few c.args.self.now.material.now in
    let few = header_few c.encoded_len-content.result (omega (arith, more, c.encoded_len-content.ensures.few)) in
    omega (arith, few, more, c.encoded_len-content.ensures.few, c.content_header_len.ensures)

pub returns-clause-octets : goal.returns-clause-octets
returns-clause-octets c =
    let d = c.args.self.now in
    ap (λ n. n + c.encoded_len-content.result) c.content_header_len.ensures ∙ length-message d.service (data_of d.material.now) (option_copied d.nonce) d.at c.encoded_len-content.result c.encoded_len-content.ensures.octets

pub returns-clause-few : goal.returns-clause-few
returns-clause-few c =
    let more = overhead_few c.args.self.now.material.now in
    let few = header_few c.encoded_len-content.result (omega (arith, more, c.encoded_len-content.ensures.few)) in
    omega (arith, few, c.encoded_len-content.ensures.few, c.content_header_len.ensures)
