-- A SignedData as a value of its schema.
use Rattle.std.specs.Option.{option_copied}
use Rattle.dv_schema.specs.Schema.{ValueOf}
use Rattle.dv_cms.specs.Types.{signed_data}
use Rattle.dv_signed.specs.declared.signed_data.SignedData.{SignedData}
use Rattle.dv_signed.specs.Fields.{signed_with}

-- a SignedData: its fields
abbrev pub view_signed : SignedData → ValueOf signed_data
view_signed s =
    signed_with s.version s.digest_algs.now s.content_type.now (option_copied s.content) (option_copied s.certificate_set) (option_copied s.crls) s.signer_infos.now
