-- The fields of a certificate of service as a value of their schema.
use Rattle.std.specs.Prelude.{ℕ, List, Option, None, option_map}
use Rattle.std.specs.Borrow.{Bor}
use Rattle.std.specs.Option.{option_copied}
use Rattle.dv_schema.specs.Schema.{ValueOf}
use Rattle.dv_time.specs.Views.{view_moment}
use Rattle.dv_names.specs.declared.algorithm.DigestInfo.{DigestInfo}
use Rattle.dv_names.specs.declared.policy.PolicyInfo.{PolicyInfo}
use Rattle.dv_names.specs.Views.{view_digest, view_policy}
use Rattle.dv_status.specs.declared.status.StatusInfo.{StatusInfo}
use Rattle.dv_status.specs.Views.{view_status}
use Rattle.dv_request.specs.declared.info.RequestInfo.{RequestInfo}
use Rattle.dv_request.specs.InfoView.{view_info}
use Rattle.dv_response.specs.Types.{cert_info, error_notice}

-- a DVCSCertInfo of these fields, in their order; its version is the default
abbrev pub certified : RequestInfo → DigestInfo → Bor (List ℕ) → ℕ → Option StatusInfo → Option PolicyInfo → Option (Bor (List ℕ)) → Option (Bor (List ℕ)) → Option (Bor (List ℕ)) → ValueOf cert_info
certified info imprint serial time status policy signers certs extensions = (
  None,
  (
    view_info info,
    (
      view_digest imprint,
      (
        serial.now,
        (
          view_moment time,
          (
            option_map view_status status,
            (
              option_map view_policy policy,
              (option_copied signers, (option_copied certs, (option_copied extensions, tt))),
            ),
          ),
        ),
      ),
    ),
  ),
)

-- a DVCSErrorNotice of these fields
abbrev pub refused : StatusInfo → Option (Bor (List ℕ)) → ValueOf (error_notice 160)
refused status transaction = (view_status status, (option_copied transaction, tt))
