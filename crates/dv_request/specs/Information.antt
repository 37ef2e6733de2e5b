-- The fields of a request's information as a value of their schema.
use Rattle.std.specs.Prelude.{ℕ, ◌==◌, List, Option, Some, None, option_map, if◌then◌else◌}
use Rattle.std.specs.Borrow.{Bor}
use Rattle.std.specs.Option.{option_copied}
use Rattle.std.proofs.Common.{inl, inr}
use Rattle.dv_schema.specs.Schema.{ValueOf}
use Rattle.dv_time.specs.Views.{view_moment}
use Rattle.dv_names.specs.declared.policy.PolicyInfo.{PolicyInfo}
use Rattle.dv_names.specs.Views.{view_policy}
use Rattle.dv_request.specs.declared.service.Service.{Service}
use Rattle.dv_request.specs.declared.service.Service.TheVariants.{Cpd, Vsd, Cpkc, Ccpd}
use Rattle.dv_request.specs.declared.request_time.RequestTime.{RequestTime}
use Rattle.dv_request.specs.declared.request_time.RequestTime.TheVariants.{At, Token}
use Rattle.dv_request.specs.Types.{request_information, request_time}

-- a version that is there: any but the default
abbrev pub view_version : ℕ → Option ℕ
view_version n = if n == 1 then None else Some n

-- the number of a service (RFC 3029 7.6)
abbrev pub number_of : Service → ℕ
number_of Cpd = 1
number_of Vsd = 2
number_of Cpkc = 3
number_of Ccpd = 4

-- a DVCSTime: a moment, or a token as its whole octets
abbrev pub view_request_time : RequestTime → ValueOf request_time
view_request_time (At moment) = inl (view_moment moment)
view_request_time (Token octets) = inr octets.now

-- a DVCSRequestInformation of these fields, in their order
abbrev pub information : ℕ → Service → Option (Bor (List ℕ)) → Option RequestTime → Option (Bor (List ℕ)) → Option PolicyInfo → Option (Bor (List ℕ)) → Option (Bor (List ℕ)) → Option (Bor (List ℕ))
    → ValueOf request_information
information version service nonce time requester policy dvcs locations extensions =
    (view_version version, (number_of service, (option_copied nonce, (option_map view_request_time time, (option_copied requester, (option_map view_policy policy, (option_copied dvcs, (option_copied locations, (option_copied extensions, tt)))))))))
