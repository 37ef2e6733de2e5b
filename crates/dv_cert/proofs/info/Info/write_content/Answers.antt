use Rattle.std.proofs.Common.{◌≡◌, ◌++◌, List, ℕ, length}
use Rattle.dv_schema.specs.Tlv.{tlv}
use Rattle.dv_asn1.proofs.Written.{written_more}
use Rattle.dv_names.specs.declared.identifiers.TheConstants.{ID_CT_DVCS_RESPONSE_DATA}
use Rattle.dv_x509.proofs.OwnLemmas.{boxed, value_size}
use Rattle.dv_cert.specs.Messages.{info_octets}
use Rattle.dv_cert.specs.Sealed.{content_of}
use Rattle.dv_cert.proofs.info.Info.write_content.Goals as goal

pub returns : goal.returns
unfolding content_of
returns c =
    let info : List ℕ = info_octets c.args.self.now in
    let kind : List ℕ = tlv 6 ID_CT_DVCS_RESPONSE_DATA in
    let string : c.value_len.result ≡ length (tlv 4 info) = value_size 4 c.value_len.result c.encoded_len.result info c.encoded_len.ensures.octets c.value_len.ensures.octets in
    let last = c.write.new.out in
    boxed c.args.out.now c.header.new.self last 48 c.content_contents_len.result (kind ++ tlv 160 (tlv 4 info)) c.content_contents_len.ensures.octets c.header.ensures
    (written_more c.header.new.self c.tlv.new.self last kind (tlv 160 (tlv 4 info)) c.tlv.ensures
    (boxed c.tlv.new.self c.header-2.new.self last 160 c.value_len.result (tlv 4 info) string c.header-2.ensures
    (boxed c.header-2.new.self c.header-3.new.self last 4 c.encoded_len-2.result info c.encoded_len-2.ensures.octets c.header-3.ensures c.write.ensures)))
