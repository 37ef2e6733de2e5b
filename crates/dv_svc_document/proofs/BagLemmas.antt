-- The bag of the certificates of a document.
use Rattle.std.proofs.Common.{◌≡◌, ◌≤◌, ◌++◌, ◌∷◌, ◌∙◌, ℕ, suc, Some, List, [], length, map, take, refl, sym, ap, subst}
use Rattle.std.specs.Prelude.{All, IsOk, slice_get}
use Rattle.std.specs.Result.{result_unwrap_or}
use Rattle.std.proofs.lemmas.List.{map-append, take_all}
use Rattle.std.proofs.lemmas.List.Elements.{All-append}
use Rattle.dv_schema.specs.Octets.{IsBytes}
use Rattle.dv_schema.specs.Schema.{FieldsOf}
use Rattle.dv_request.specs.Materials.{IsCertificate as FitsMessage}
use Rattle.dv_x509.specs.Types.{certificate_fields}
use Rattle.dv_draft.specs.Records.{IsCertificate}
use Rattle.dv_draft.proofs.WellCertificates.{decoded_fits}
use Rattle.dv_path.specs.Members.{Adds, member_of, no_certificate}
use Rattle.dv_parts.proofs.Elements.{all_one, take_one}

-- one certificate more
pub bag_more : (certificates : List (List ℕ)) (i : ℕ) (octets : List ℕ) (old new : List (FieldsOf certificate_fields)) → old ≡ map (member_of 48) (take i certificates) → slice_get certificates i ≡ Some octets → Adds old new 48 octets
    → new ≡ map (member_of 48) (take (suc i) certificates)
bag_more certificates i octets old new before is adds =
    let added : adds.added ≡ member_of 48 octets = sym (ap (λ r. result_unwrap_or r no_certificate) adds.decoded) in
    adds.is ∙ (ap (λ (l : List (FieldsOf certificate_fields)). l ++ adds.added ∷ []) before
    ∙ (ap (λ (v : FieldsOf certificate_fields). map (member_of 48) (take i certificates) ++ v ∷ []) added
    ∙ (sym (map-append (member_of 48) (take i certificates) (octets ∷ [])) ∙ ap (map (member_of 48)) (sym (take_one certificates i octets is)))))

pub read_more : (certificates : List (List ℕ)) (i : ℕ) (octets : List ℕ) (old new : List (FieldsOf certificate_fields)) → All IsCertificate (take i certificates) → slice_get certificates i ≡ Some octets → Adds old new 48 octets
    → All IsCertificate (take (suc i) certificates)
read_more certificates i octets old new before is adds =
    let read : IsCertificate octets = subst IsOk (sym adds.decoded) refl in
    subst (All IsCertificate) (sym (take_one certificates i octets is)) (All-append IsCertificate (take i certificates) (octets ∷ []) before (all_one IsCertificate octets read))

-- which fits where a message holds it
pub fit_one : (octets : List ℕ) (old new : List (FieldsOf certificate_fields)) → IsBytes octets → Adds old new 48 octets → FitsMessage octets
fit_one octets old new bytes adds = decoded_fits octets bytes (subst IsOk (sym adds.decoded) refl)

pub fit_more : (certificates : List (List ℕ)) (i : ℕ) (octets : List ℕ) → All FitsMessage (take i certificates) → slice_get certificates i ≡ Some octets → FitsMessage octets → All FitsMessage (take (suc i) certificates)
fit_more certificates i octets before is fits =
    subst (All FitsMessage) (sym (take_one certificates i octets is)) (All-append FitsMessage (take i certificates) (octets ∷ []) before (all_one FitsMessage octets fits))

-- all of them
pub fit_all : (certificates : List (List ℕ)) (i : ℕ) → length certificates ≤ i → All FitsMessage (take i certificates) → All FitsMessage certificates
fit_all certificates i le all = subst (All FitsMessage) (take_all i certificates le) all
