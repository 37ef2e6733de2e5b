-- A draft whose parts are copied, and what is refused in its fields.
use Rattle.std.proofs.Common.{◌≡◌, ℕ, Bool, Option, Result, Ok, Err, List, refl, ap, ◌∙◌}
use Rattle.std.specs.Prelude.{option_map}
use Rattle.dv_schema.specs.declared.refusal.Der.{Der}
use Rattle.dv_schema.specs.Reading.{Spot, Item, ◌>>=◌, item_at, is_tag_of, maybe_at, read, read_fields, starts_list, within}
use Rattle.dv_schema.specs.Schema.{node, raw, Body, FieldsOf, ValueOf}
use Rattle.dv_time.specs.Types.{generalized_time}
use Rattle.dv_time.specs.Views.{view_moment}
use Rattle.dv_names.specs.declared.digest.DigestKind.{DigestKind}
use Rattle.dv_request.specs.Types.{request_information}
use Rattle.dv_draft.specs.declared.service_status.Status.{Status}
use Rattle.dv_draft.specs.Parts.{imprint_of, view_status}
use Rattle.dv_draft.specs.Types.{draft, draft_fields, imprint, plain_status}

-- the value of a draft with these parts
abbrev parts : DigestKind → Bool → ℕ → Option Status → List ℕ → List ℕ → Option (List ℕ) → Option (List ℕ) → Option (List ℕ) → ValueOf draft
parts kind with_null time status info digest policy signers certs =
    (info, (imprint_of kind with_null digest, (view_moment time, (option_map view_status status, (policy, (signers, (certs, tt)))))))

-- a copy of each part makes the same draft
pub copied_parts : (kind : DigestKind) (with_null : Bool) (time : ℕ) (status : Option Status) (info info' digest digest' : List ℕ) (policy policy' signers signers' certs certs' : Option (List ℕ))
    → info ≡ info' → digest ≡ digest' → policy ≡ policy' → signers ≡ signers' → certs ≡ certs'
    → parts kind with_null time status info digest policy signers certs ≡ parts kind with_null time status info' digest' policy' signers' certs'
copied_parts kind with_null time status info info' digest digest' policy policy' signers signers' certs certs' a b c d e =
    let make = parts kind with_null time status in
    ap (λ (x : List ℕ). make x digest policy signers certs) a ∙ ap (λ (x : List ℕ). make info' x policy signers certs) b
    ∙ ap (λ (x : Option (List ℕ)). make info' digest' x signers certs) c ∙ ap (λ (x : Option (List ℕ)). make info' digest' policy' x certs) d
    ∙ ap (make info' digest' policy' signers') e

-- a value, by its item and its fields
node_is : (tag : ℕ) (b : Body) (p : Spot) → read (node tag b) p ≡ (item_at (is_tag_of tag) p >>= λ i. read_fields b p.place (within i) >>= λ v. Ok (v, i.after))
unfolding read
node_is tag b p = refl

-- fields of a draft whose status is refused
status_fault : (own : ℕ) (p q r s : Spot) (info : List ℕ) (v : ValueOf imprint) (time : ValueOf generalized_time) (d : Der) → read (raw request_information) p ≡ Ok (info, q) → read imprint q ≡ Ok (v, r)
    → read generalized_time r ≡ Ok (time, s) → maybe_at (starts_list (is_tag_of 160) s.rest) s (read plain_status s) ≡ Err d → read_fields draft_fields own p ≡ Err d
unfolding read_fields
status_fault own p q r s info v time d a b c bad = rw (a, b, c, bad) refl

-- a draft whose status is refused
pub draft_fault : (p q r s t after : Spot) (info : List ℕ) (v : ValueOf imprint) (time : ValueOf generalized_time) (d : Der) → item_at (is_tag_of 48) p ≡ Ok (record { tag = 48; inside = q; after = after })
    → read (raw request_information) q ≡ Ok (info, r) → read imprint r ≡ Ok (v, s) → read generalized_time s ≡ Ok (time, t)
    → maybe_at (starts_list (is_tag_of 160) t.rest) t (read plain_status t) ≡ Err d → read draft p ≡ Err d
draft_fault p q r s t after info v time d item a b c bad =
    node_is 48 draft_fields p ∙ ap (λ (x : Result Item Der). x >>= λ i. read_fields draft_fields p.place (within i) >>= λ w. Ok (w, i.after)) item
    ∙ ap (λ (x : Result (FieldsOf draft_fields) Der). x >>= λ w. Ok (w, after)) (status_fault p.place q r s t info v time d a b c bad)
