use Rattle.std.proofs.Common.{ℕ, List, arith, subst}
use Rattle.std.specs.Option.{option_copied}
use Rattle.dv_schema.specs.Schema.{spelling}
use Rattle.dv_asn1.specs.Writing.{Writes}
use Rattle.dv_asn1.proofs.Written.{written_more}
use Rattle.dv_cms.specs.Types.{content_header}
use Rattle.dv_request.specs.Made.{request_from}
use Rattle.dv_request.specs.Request.{request_data_type}
use Rattle.dv_request.specs.Types.{dvcs_request}
use Rattle.dv_request.specs.Materials.{data_of}
use Rattle.dv_request.proofs.MessageLemmas.{header_few, length-message, message_is, overhead_few}
use Rattle.dv_request.proofs.make.Draft.write_message.Goals as goal

pub write_content_header-requires-clause-total : goal.write_content_header-requires-clause-total
write_content_header-requires-clause-total c =
    let more = overhead_few c.args.self.now.material.now in
    let few = header_few c.encoded_len.result (omega (arith, more, c.encoded_len.ensures.few)) in
    omega (arith, few, more, c.encoded_len.ensures.few)

pub write_content_header-requires-clause-room : goal.write_content_header-requires-clause-room
write_content_header-requires-clause-room c =
    let d = c.args.self.now in
    let size = length-message d.service (data_of d.material.now) (option_copied d.nonce) d.at c.encoded_len.result c.encoded_len.ensures.octets in
    omega (arith, size, c.requires)

pub write-requires : goal.write-requires
write-requires c =
    let d = c.args.self.now in
    let size = length-message d.service (data_of d.material.now) (option_copied d.nonce) d.at c.encoded_len.result c.encoded_len.ensures.octets in
    omega (arith, size, c.requires, c.encoded_len.ensures.octets, c.write_content_header.ensures.room)

pub returns : goal.returns
returns c =
    let d = c.args.self.now in
    let content : List ℕ = spelling dvcs_request (request_from d.service (data_of d.material.now) (option_copied d.nonce) d.at) in
    let front : List ℕ = content_header request_data_type c.encoded_len.result in
    let both = written_more c.args.out.now c.write_content_header.new.out c.write.new.out front content c.write_content_header.ensures c.write.ensures in
    subst (Writes c.args.out.now c.write.new.out) (message_is d.service (data_of d.material.now) (option_copied d.nonce) d.at c.encoded_len.result c.encoded_len.ensures.octets) both
