-- What a signer says of its certificate, as a value of its schema.
use Rattle.std.specs.Prelude.{option_map}
use Rattle.std.specs.Option.{option_copied}
use Rattle.dv_schema.specs.Schema.{ValueOf}
use Rattle.dv_names.specs.Views.{view_algorithm}
use Rattle.dv_signed.specs.declared.essential.CertificateId.{CertificateId}
use Rattle.dv_signed.specs.declared.essential.SigningCertificate.{SigningCertificate}
use Rattle.dv_signed.specs.Essential.{certificate_id, signing_certificate}

-- an ESSCertIDv2: its hashAlgorithm, where it isn't the default, its certHash, and its issuerSerial
abbrev pub view_id : CertificateId → ValueOf certificate_id
view_id i = (option_map view_algorithm i.hash_alg, (i.hash.now, (option_copied i.issuer_serial, tt)))

-- a SigningCertificateV2: the contents octets of its certs, and its policies
abbrev pub view_signing : SigningCertificate → ValueOf signing_certificate
view_signing s = (s.certs.now, (option_copied s.policies, tt))
