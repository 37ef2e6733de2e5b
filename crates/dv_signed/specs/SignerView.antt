-- A signer as a value of its schema.
use Rattle.std.specs.Option.{option_copied}
use Rattle.dv_schema.specs.Schema.{ValueOf}
use Rattle.dv_names.specs.Views.{view_algorithm}
use Rattle.dv_cms.specs.Types.{signer_info}
use Rattle.dv_signed.specs.declared.signer.SignerInfo.{SignerInfo}
use Rattle.dv_signed.specs.Fields.{signer_with}
use Rattle.dv_signed.specs.SidView.{view_sid}

-- a SignerInfo: its fields
abbrev pub view_signer : SignerInfo → ValueOf signer_info
view_signer s =
    signer_with s.version (view_sid s.sid) (view_algorithm s.digest_alg) (option_copied s.attributes) (view_algorithm s.signature_alg) s.signature.now (option_copied s.unsigned_attributes)
