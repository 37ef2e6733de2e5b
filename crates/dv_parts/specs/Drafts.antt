-- The draft of a service, from what it found.
use Rattle.std.specs.Prelude.{◌<◌, ◌^◌, ℕ, false, List, length, Option}
use Rattle.sha2.specs.Sha256.{sha256}
use Rattle.dv_schema.specs.Schema.{ValueOf, spelling}
use Rattle.dv_schema.specs.Fits.{Fits}
use Rattle.dv_time.specs.Views.{view_moment}
use Rattle.dv_names.specs.declared.digest.DigestKind.TheVariants.{Sha256}
use Rattle.dv_request.specs.Types.{dvcs_request, request_information, target_chains}
use Rattle.dv_draft.specs.Parts.{imprint_of}
use Rattle.dv_draft.specs.Types.{draft, imprint, plain_status}

-- The draft for a request with this imprint, at a moment, with this status where there is one, under the policy of the server, with the signers of the
-- request where it is signed, and with these entries where there are some: the information of the request stands as it is.
abbrev pub draft_with : ValueOf dvcs_request → ValueOf imprint → ℕ → Option (ValueOf plain_status) → Option (List ℕ) → Option (List ℕ) → Option (List ℕ) → ValueOf draft
draft_with request imprint moment status policy signers certs =
    (spelling request_information request.0, (imprint, (view_moment moment, (status, (policy, (signers, (certs, tt)))))))

-- the imprint of octets that a server makes: their SHA-256 digest, its algorithm without parameters
abbrev pub imprint_by_server : List ℕ → ValueOf imprint
imprint_by_server octets = imprint_of Sha256 false (sha256 octets)

-- contents octets of a SEQUENCE OF TargetEtcChain, at the depth of a certificate of service
abbrev pub AreTargets : List ℕ → Type 0
AreTargets octets = ∥ Fits (target_chains 163) 31 octets ∥₁ × (length octets < 2 ^ 62)
