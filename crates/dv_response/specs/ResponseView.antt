-- Responses as values of their schema.
use Rattle.std.proofs.Common.{inl, inr}
use Rattle.dv_schema.specs.Schema.{ValueOf}
use Rattle.dv_response.specs.declared.response.Response.{Response}
use Rattle.dv_response.specs.declared.response.Response.TheVariants.{Certified, Refused}
use Rattle.dv_response.specs.Types.{response}
use Rattle.dv_response.specs.Views.{view_cert_info, view_notice}

-- a DVCSResponse: a DVCSCertInfo, or a DVCSErrorNotice
abbrev pub view_response : Response → ValueOf response
view_response (Certified info) = inl (view_cert_info info)
view_response (Refused notice) = inr (view_notice notice)
