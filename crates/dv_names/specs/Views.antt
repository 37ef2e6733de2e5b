-- The types of the code as values of their schemas.
use Rattle.std.specs.Option.{option_copied}
use Rattle.dv_schema.specs.Schema.{ValueOf, FieldsOf}
use Rattle.dv_schema.specs.Rules.{flag_octets}
use Rattle.dv_schema.specs.Types.{oid}
use Rattle.dv_names.specs.declared.algorithm.Oid.{Oid}
use Rattle.dv_names.specs.declared.algorithm.AlgId.{AlgId}
use Rattle.dv_names.specs.declared.algorithm.DigestInfo.{DigestInfo}
use Rattle.dv_names.specs.declared.name.Name.{Name}
use Rattle.dv_names.specs.declared.general.GeneralName.{GeneralName}
use Rattle.dv_names.specs.declared.policy.PolicyInfo.{PolicyInfo}
use Rattle.dv_names.specs.declared.extension.Extension.{Extension}
use Rattle.dv_names.specs.Types.{algorithm_identifier, digest_info, name, general_name, policy_fields, extension}

-- an OBJECT IDENTIFIER: its contents octets
abbrev pub view_oid : Oid → ValueOf oid
view_oid o = o.octets.now

-- an AlgorithmIdentifier: its identifier, and its parameters as a whole value
abbrev pub view_algorithm : AlgId → ValueOf algorithm_identifier
view_algorithm a = (view_oid a.oid, (option_copied a.params, tt))

-- a DigestInfo: its algorithm, and the octets of the digest
abbrev pub view_digest : DigestInfo → ValueOf digest_info
view_digest d = (view_algorithm d.alg, (d.digest.now, tt))

-- a Name: its whole octets
abbrev pub view_name : Name → ValueOf name
view_name n = n.raw.now

-- a GeneralName: its tag, and its contents octets
abbrev pub view_general : GeneralName → ValueOf general_name
view_general g = (g.tag, g.raw.now)

-- a PolicyInformation, under any tag: its identifier, and the contents octets of its qualifiers
abbrev pub view_policy : PolicyInfo → FieldsOf policy_fields
view_policy p = (view_oid p.oid, (option_copied p.qualifiers, tt))

-- an Extension: its identifier, whether it is critical, and the contents octets of its value
abbrev pub view_extension : Extension → ValueOf extension
view_extension e = (view_oid e.oid, (flag_octets e.critical, (e.value.now, tt)))
