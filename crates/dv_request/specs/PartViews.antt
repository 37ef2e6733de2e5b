-- The tokens of a target and the input of its path, as values of their schemas.
use Rattle.std.proofs.Common.{inl, inr}
use Rattle.dv_schema.specs.Schema.{ValueOf, FieldsOf}
use Rattle.dv_schema.specs.Rules.{flag_octets}
use Rattle.dv_status.specs.Views.{view_status}
use Rattle.dv_request.specs.declared.path_input.PathInput.{PathInput}
use Rattle.dv_request.specs.declared.token.Token.{Token}
use Rattle.dv_request.specs.declared.token.Token.TheVariants.{Certificate, Status, Other}
use Rattle.dv_request.specs.Types.{token, path_fields}

-- a PathProcInput, under any tag: the contents octets of its policies, and its three flags
abbrev pub view_path : PathInput → FieldsOf path_fields
view_path p = (p.policies.now, (flag_octets p.inhibit_mapping, (flag_octets p.explicit, (flag_octets p.inhibit_any, tt))))

-- a CertEtcToken: a certificate as its whole octets, a status, or another value as its whole octets
abbrev pub view_token : Token → ValueOf token
view_token (Certificate octets) = inl octets.now
view_token (Status status) = inr (inl (view_status status))
view_token (Other octets) = inr (inr octets.now)
