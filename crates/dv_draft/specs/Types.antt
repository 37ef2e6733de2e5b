-- The draft of a certificate of service: the fields of a DVCSCertInfo (RFC 3029 9.1) but its serial number, its version and its
-- extensions, in the profile of this project.
use Rattle.std.specs.Prelude.{ℕ, zero, suc, Bool, true, false, ◌-◌, ◌^◌, ◌==◌, ◌&&◌, List, [], ◌∷◌, length, Option, Some, None, Result, Ok, Err}
use Rattle.dv_schema.specs.declared.refusal.Der.{Der}
use Rattle.dv_schema.specs.Octets.{is_one_of}
use Rattle.dv_schema.specs.Reading.{read_all}
use Rattle.dv_schema.specs.Schema.{Schema, node, raw, such, Body, kept, done, field, optional, ValueOf}
use Rattle.dv_schema.specs.Types.{list_of}
use Rattle.dv_time.specs.Types.{generalized_time}
use Rattle.dv_names.specs.declared.digest.DigestKind.{DigestKind}
use Rattle.dv_names.specs.Digest.{kind_of, length_of}
use Rattle.dv_names.specs.Types.{digest_info, policy_fields}
use Rattle.dv_status.specs.Fail.{fail_octets}
use Rattle.dv_status.specs.Types.{status_info}
use Rattle.dv_members.specs.Members.{front_of}
use Rattle.dv_request.specs.Types.{request_information, target_chains}
use Rattle.dv_cms.specs.Types.{signer_info}

-- ---- the imprint

-- a digest of the length that its algorithm gives
abbrev pub has_length : Option DigestKind → List ℕ → Bool
has_length None digest = false
has_length (Some kind) digest = length digest == length_of kind

-- a DigestInfo that was read has a known algorithm, and a digest of its length
abbrev pub is_known : Result (ValueOf digest_info) Der → Bool
is_known (Ok v) = has_length (kind_of v.0) v.1.0
is_known (Err d) = false

-- a DigestInfo whose algorithm is SHA-256, SHA-384 or SHA-512, its parameters absent or NULL, and whose digest has that algorithm's
-- length
abbrev pub imprint : Schema
imprint = such (λ octets. is_known (read_all digest_info (front_of octets))) digest_info

-- ---- the status

-- the contents of the BIT STRING with this failure bit alone
abbrev pub one_bit : ℕ → List ℕ
one_bit bit = fail_octets (2 ^ (31 - bit))

-- those of the first so many failure bits
abbrev pub one_bits : ℕ → List (List ℕ)
one_bits zero = []
one_bits (suc n) = one_bit n ∷ one_bits n

-- no failure bit, or one alone
abbrev pub is_one_or_none : Option (List ℕ) → Bool
is_one_or_none None = true
is_one_or_none (Some octets) = is_one_of (one_bits 27) octets

-- there are none
abbrev pub is_absent : Option (List ℕ) → Bool
is_absent None = true
is_absent (Some octets) = false

-- a PKIStatusInfo that was read has no text, and one failure bit at most
abbrev pub is_plain : Result (ValueOf (status_info 160)) Der → Bool
is_plain (Ok v) = is_absent v.1.0 && is_one_or_none v.1.1.0
is_plain (Err d) = false

-- a PKIStatusInfo <A0> without texts and with one failure bit at most
abbrev pub plain_status : Schema
plain_status = such (λ octets. is_plain (read_all (status_info 160) (front_of octets))) (status_info 160)

-- ---- the draft

-- a PolicyInformation <A1>, kept as its contents
abbrev pub kept_policy : Schema
kept_policy = node 161 (kept policy_fields)

-- The draft: SEQUENCE { dvReqInfo DVCSRequestInformation, messageImprint DigestInfo, responseTime GeneralizedTime,
-- dvStatus PKIStatusInfo <A0> opt, policy PolicyInformation <A1> opt, reqSignature SET OF SignerInfo <A2> opt, whose order isn't compared,
-- certs SEQUENCE OF TargetEtcChain <A3> opt, at least one }. The information is kept as its whole octets, and the last three as the
-- octets of their contents.
abbrev pub draft_fields : Body
draft_fields =
    field (raw request_information) (field imprint (field generalized_time (optional plain_status (optional kept_policy
    (optional (list_of 162 false signer_info) (optional (target_chains 163) done))))))

abbrev pub draft : Schema
draft = node 48 draft_fields
