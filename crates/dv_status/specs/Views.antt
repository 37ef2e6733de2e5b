-- The types of the code as values of their schemas.
use Rattle.std.specs.Prelude.{ℕ, List, Option, option_map}
use Rattle.std.specs.Option.{option_copied}
use Rattle.dv_schema.specs.Schema.{FieldsOf}
use Rattle.dv_status.specs.declared.status.StatusInfo.{StatusInfo}
use Rattle.dv_status.specs.Fail.{fail_octets}
use Rattle.dv_status.specs.Types.{status_fields}

-- a PKIStatusInfo, under any tag: its status, the contents octets of its texts, and its failure bits
abbrev pub view_status : StatusInfo → FieldsOf status_fields
view_status s = (s.status, (option_copied s.text, (option_map fail_octets s.fail, tt)))
