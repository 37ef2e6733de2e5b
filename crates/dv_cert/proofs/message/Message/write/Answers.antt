use Rattle.std.proofs.Common.{◌≡◌, ◌+◌, ◌++◌, List, ℕ, length, arith}
use Rattle.std.proofs.lemmas.List.{length-append}
use Rattle.dv_schema.specs.Tlv.{tlv}
use Rattle.dv_asn1.proofs.Written.{written_more}
use Rattle.dv_names.specs.declared.identifiers.TheConstants.{ID_SIGNED_DATA}
use Rattle.dv_x509.proofs.OwnLemmas.{boxed, value_size}
use Rattle.dv_cert.specs.Messages.{info_octets, signer_octets}
use Rattle.dv_cert.specs.Sealed.{message_with, signed_data_with}
use Rattle.dv_cert.proofs.message.Message.write.Goals as goal

pub returns : goal.returns
unfolding message_with
returns c =
    let m = c.args.self.now in
    let signed : List ℕ = signed_data_with m.certificates.now (info_octets m.info) (signer_octets m.signer) in
    let kind : List ℕ = tlv 6 ID_SIGNED_DATA in
    let inner = value_size 160 c.value_len.result c.data_len.result signed c.data_len.ensures.octets c.value_len.ensures.octets in
    let all : 11 + c.value_len.result ≡ length (kind ++ tlv 160 signed) = omega (arith, inner, length-append kind (tlv 160 signed)) in
    let last = c.write_data.new.out in
    boxed c.args.out.now c.header.new.self last 48 (11 + c.value_len.result) (kind ++ tlv 160 signed) all c.header.ensures
    (written_more c.header.new.self c.tlv.new.self last kind (tlv 160 signed) c.tlv.ensures
    (boxed c.tlv.new.self c.header-2.new.self last 160 c.data_len-2.result signed c.data_len-2.ensures.octets c.header-2.ensures c.write_data.ensures))
