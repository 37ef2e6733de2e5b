-- The octets of the parts of a message.
use Rattle.std.specs.Prelude.{List, ℕ}
use Rattle.dv_cert.specs.declared.info.Info.{Info}
use Rattle.dv_cert.specs.declared.message.Message.{Message}
use Rattle.dv_cert.specs.declared.signer.SignerInfo.{SignerInfo}
use Rattle.dv_cert.specs.Sealed.{info_of, message_with, signer_info_with}

-- a DVCSCertInfo
abbrev pub info_octets : Info → List ℕ
info_octets i = info_of i.before.now i.serial i.after.now

-- a SignerInfo
abbrev pub signer_octets : SignerInfo → List ℕ
signer_octets s = signer_info_with s.signer.now s.attributes.now s.signature.now

-- a whole message
abbrev pub message_octets : Message → List ℕ
message_octets m = message_with m.certificates.now (info_octets m.info) (signer_octets m.signer)
