-- The steps that a request passes before it gets the draft of a certificate. The first one that refuses it decides the failure, a bit
-- of RFC 4210, section 5.2.3.
use Rattle.std.specs.Prelude.{ℕ, Bool, true, false, not, ◌==◌, ◌&&◌, ◌||◌, nat_le, nat_lt, List, [], ◌∷◌, Option, Some, None, if◌then◌else◌}
use Rattle.std.proofs.Common.{inl, inr}
use Rattle.std.specs.List.{list_any}
use Rattle.dv_schema.specs.Octets.{same_octets}
use Rattle.dv_schema.specs.Schema.{FieldsOf, ValueOf}
use Rattle.dv_schema.specs.Tlv.{tlv}
use Rattle.dv_time.specs.Text.{civil_in, second_of}
use Rattle.dv_names.specs.Types.{extension, general_name, policy_fields}
use Rattle.dv_members.specs.Members.{values_in}
use Rattle.dv_request.specs.Targets.{targets_in}
use Rattle.dv_request.specs.Types.{data_of_request, dvcs_request, request_time}
use Rattle.dv_svc_pkc.specs.Certificates.{pkc_failure}
use Rattle.dv_svc_possession.specs.Possession.{claim_failure}
use Rattle.dv_answer.specs.Messages.{is_token, takes, version_of}

-- What the steps look at of a server: the whole Name that is its subject, the first and the last moment at which its certificate
-- holds, and the contents octets of its policy.
pub record Office : Type 0 where
  pub subject : List ℕ
  pub from : ℕ
  pub until : ℕ
  pub policy : Option (List ℕ)

-- ---- the fields of a request that the steps look at (RFC 3029, section 7)

abbrev pub service_of : ValueOf dvcs_request → ℕ
service_of v = v.0.1.0

-- its requestTime
abbrev pub time_of : ValueOf dvcs_request → Option (ValueOf request_time)
time_of v = v.0.1.1.1.0

-- its requestPolicy
abbrev pub policy_of : ValueOf dvcs_request → Option (FieldsOf policy_fields)
policy_of v = v.0.1.1.1.1.1.0

-- the contents octets of its dvcs, the names of the servers that it is for
abbrev pub servers_of : ValueOf dvcs_request → Option (List ℕ)
servers_of v = v.0.1.1.1.1.1.1.0

-- the contents octets of its extensions
abbrev pub extensions_of : ValueOf dvcs_request → Option (List ℕ)
extensions_of v = v.0.1.1.1.1.1.1.1.1.0

-- ---- what a step tests

-- the service is that of signed documents, 2
abbrev pub is_vsd : ValueOf dvcs_request → Bool
is_vsd v = service_of v == 2

-- the services for which the time of the request counts: validation of a document, 2, and of certificates, 3
abbrev pub is_timed : ℕ → Bool
is_timed service = service == 2 || service == 3

-- it is a text of a second that is later than the moment
abbrev pub is_after : ℕ → Option (ValueOf request_time) → Bool
is_after moment (Some (inl text)) = nat_lt moment (second_of (civil_in text))
is_after moment _ = false

-- the name is a directoryName that holds this Name, octet for octet
abbrev pub is_directory_name : List ℕ → ValueOf general_name → Bool
is_directory_name subject name = name.0 == 164 && same_octets subject name.1

-- there are names of servers, and none of them is this Name
abbrev pub is_for_others : List ℕ → Option (List ℕ) → Bool
is_for_others subject None = false
is_for_others subject (Some names) = not (list_any (is_directory_name subject) (values_in general_name names))

-- A policy is asked for, and the server has none or one with another identifier. Qualifiers aren't compared.
abbrev pub is_another_policy : Option (List ℕ) → Option (FieldsOf policy_fields) → Bool
is_another_policy own None = false
is_another_policy None (Some asked) = true
is_another_policy (Some own) (Some asked) = not (same_octets own (tlv 6 asked.0))

abbrev pub is_critical : ValueOf extension → Bool
is_critical (id, (None, value)) = false
is_critical (id, (Some flag, value)) = true

-- one of the extensions is critical
abbrev pub has_critical : Option (List ℕ) → Bool
has_critical None = false
has_critical (Some octets) = list_any is_critical (values_in extension octets)

-- the server's certificate holds at this moment
abbrev pub is_valid_at : Office → ℕ → Bool
is_valid_at office moment = nat_le office.from moment && nat_le moment office.until

-- ---- the steps, in their order

-- The form of the request. badRequest, 2: the version isn't 1, or the service and the data disagree. badTime, 3: its time is a token, or it
-- counts, and is later than the moment.
abbrev pub form_failure : ℕ → ValueOf dvcs_request → Option ℕ
form_failure moment v =
    if not (version_of v == 1) then Some 2 else
    if not (takes (service_of v) v.1.0) then Some 2 else
    if is_token (time_of v) then Some 3 else
    if is_timed (service_of v) && is_after moment (time_of v) then Some 3 else None

-- What it asks of this server. wrongAuthority, 6: it is for others. unacceptedPolicy, 15: it asks for another policy.
-- unacceptedExtension, 16: an extension is critical, and none is known.
abbrev pub office_failure : Office → ValueOf dvcs_request → Option ℕ
office_failure office v =
    if is_for_others office.subject (servers_of v) then Some 6 else
    if is_another_policy office.policy (policy_of v) then Some 15 else
    if has_critical (extensions_of v) then Some 16 else None

-- the failure of a claim of possession, or of targets
abbrev pub data_failure : ValueOf data_of_request → Option ℕ
data_failure (inl message) = None
data_failure (inr (inl claim)) = claim_failure claim
data_failure (inr (inr certs)) = pkc_failure (targets_in certs)

-- timeNotAvailable, 14: the server's certificate doesn't hold at the moment of service
abbrev pub time_failure : Office → ℕ → Option ℕ
time_failure office moment = if is_valid_at office moment then None else Some 14

-- the first of the failures that there is
abbrev pub first_of : List (Option ℕ) → Option ℕ
first_of [] = None
first_of (Some bit ∷ more) = Some bit
first_of (None ∷ more) = first_of more
