-- The parts of a certificate as values of their schemas.
use Rattle.dv_schema.specs.Schema.{ValueOf}
use Rattle.dv_x509.specs.declared.tbs.PublicKeyInfo.{PublicKeyInfo}
use Rattle.dv_x509.specs.declared.tbs.Tbs.{Tbs}
use Rattle.dv_x509.specs.declared.tbs.Validity.{Validity}
use Rattle.dv_x509.specs.Fields.{key_of, tbs_of, validity_of}
use Rattle.dv_x509.specs.Types.{public_key_info, tbs_certificate, validity}

-- a Validity: both moments
abbrev pub view_validity : Validity → ValueOf validity
view_validity v = validity_of v.from v.until

-- a SubjectPublicKeyInfo: its algorithm and its bits
abbrev pub view_key : PublicKeyInfo → ValueOf public_key_info
view_key k = key_of k.alg k.bits

-- a TBSCertificate: its fields
abbrev pub view_tbs : Tbs → ValueOf tbs_certificate
view_tbs t = tbs_of t.version t.serial t.alg t.issuer (view_validity t.validity) t.subject (view_key t.key) t.issuer_id t.subject_id t.extensions
