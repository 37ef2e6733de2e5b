-- The parts of a draft as values of their schemas.
use Rattle.std.specs.Prelude.{ℕ, Bool, List, [], ◌∷◌, Option, Some, None, option_map, if◌then◌else◌}
use Rattle.dv_schema.specs.Schema.{ValueOf}
use Rattle.dv_time.specs.Views.{view_moment}
use Rattle.dv_names.specs.declared.digest.DigestKind.{DigestKind}
use Rattle.dv_names.specs.declared.digest.DigestKind.TheVariants.{Sha256, Sha384, Sha512}
use Rattle.dv_names.specs.declared.identifiers.TheConstants.{SHA_256, SHA_384, SHA_512}
use Rattle.dv_draft.specs.declared.imprint.Imprint.{Imprint}
use Rattle.dv_draft.specs.declared.service_status.Status.{Status}
use Rattle.dv_draft.specs.Types.{draft, imprint, one_bit, plain_status}

-- the identifier of a digest algorithm
abbrev pub identifier_of : DigestKind → List ℕ
identifier_of Sha256 = SHA_256
identifier_of Sha384 = SHA_384
identifier_of Sha512 = SHA_512

-- a DigestInfo of this algorithm, with the parameters NULL or without, and of this digest
abbrev pub imprint_of : DigestKind → Bool → List ℕ → ValueOf imprint
imprint_of kind with_null digest = ((identifier_of kind, (if with_null then Some (5 ∷ 0 ∷ []) else None, tt)), (digest, tt))

-- the imprint of a draft
abbrev pub view_imprint : Imprint → ValueOf imprint
view_imprint i = imprint_of i.kind i.with_null i.digest

-- a PKIStatusInfo of this status, and of this failure bit where there is one
abbrev pub status_of : ℕ → Option ℕ → ValueOf plain_status
status_of status bit = (status, (None, (option_map one_bit bit, tt)))

-- the status of a draft
abbrev pub view_status : Status → ValueOf plain_status
view_status s = status_of s.status s.bit

-- a draft of these parts, in their order
abbrev pub draft_of : List ℕ → Imprint → ℕ → Option Status → Option (List ℕ) → Option (List ℕ) → Option (List ℕ) → ValueOf draft
draft_of info imprint time status policy signers certs =
    (info, (view_imprint imprint, (view_moment time, (option_map view_status status, (policy, (signers, (certs, tt)))))))
