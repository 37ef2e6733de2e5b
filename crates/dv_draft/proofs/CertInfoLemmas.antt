-- The DVCSCertInfo of a draft that has its serial number.
use Rattle.std.proofs.Common.{◌≡◌, ◌++◌, ℕ, List, ap, sym, ◌∙◌, append_assoc}
use Rattle.dv_schema.specs.Tlv.{integer_octets, tlv}
use Rattle.dv_schema.specs.Schema.{ValueOf, spelling}
use Rattle.dv_draft.specs.CertInfo.{after_serial, before_serial, cert_info_of}
use Rattle.dv_draft.specs.Types.{draft, imprint}

-- what stands before the serial number, the serial number, and what stands behind it
pub cert_info_is : (serial : ℕ) (d : ValueOf draft) → cert_info_of serial d ≡ tlv 48 (before_serial d ++ tlv 2 (integer_octets serial) ++ after_serial d)
unfolding cert_info_of
cert_info_is serial d =
    let s : List ℕ = tlv 2 (integer_octets serial) in
    ap (tlv 48) (sym (append_assoc (before_serial d) s (after_serial d) ∙ append_assoc d.0 (spelling imprint d.1.0) (s ++ after_serial d)))
