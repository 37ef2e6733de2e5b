-- The targets of a request that has a spelling.
use Rattle.std.proofs.Common.{◌≡◌, ◌≢◌, ◌<◌, ◌++◌, ◌∙◌, ℕ, zero, suc, true, Option, Some, List, [], ◌∷◌, length, refl, sym, ap, subst, inr, arith}
use Rattle.std.specs.Borrow.{Bor}
use Rattle.std.specs.Prelude.{slice_get}
use Rattle.std.specs.List.{AllByRecursion}
use Rattle.std.specs.Option.{option_copied}
use Rattle.std.proofs.lemmas.List.{append-nil, length-append}
use Rattle.std.proofs.Math.Logic.{∥∥₁_elim, ∥∥₁_map}
use Rattle.dv_schema.specs.Tlv.{length_octets, tlv}
use Rattle.dv_schema.specs.Schema.{ValueOf, contents, raw, sequence_of, spelled_if, spelling}
use Rattle.dv_schema.specs.Fits.{FieldsFit, Fits}
use Rattle.dv_schema.specs.Reading.{first_contents}
use Rattle.dv_schema.specs.Decodes.{HasSpelling}
use Rattle.dv_schema.proofs.Distinct.{first_is}
use Rattle.dv_schema.proofs.Lists.{member_short}
use Rattle.dv_schema.proofs.Spellings.{fields_more, fits_more}
use Rattle.dv_names.specs.Types.{general_name}
use Rattle.dv_request.specs.declared.data.Data.{Data}
use Rattle.dv_request.specs.declared.data.Data.TheVariants.{Message, Imprint, Certs}
use Rattle.dv_request.specs.declared.request.Request.{Request}
use Rattle.dv_request.specs.DataView.{targets_of, view_data}
use Rattle.dv_request.specs.InfoView.{view_info}
use Rattle.dv_members.specs.Members.{values_in}
use Rattle.dv_request.specs.RequestView.{view_request}
use Rattle.dv_request.specs.Targets.{targets_in}
use Rattle.dv_request.specs.Types.{data_of_request, dvcs_request, request_fields, request_information, target_chain, target_chains}
use Rattle.dv_request.proofs.DataLemmas.{certs_spelled, targets_short}
use Rattle.dv_members.proofs.MemberLemmas.{values_of_octets}
use Rattle.dv_parts.proofs.RequestLemmas.{data_short}

-- there is at least one target, and each fits where it stands
abbrev pub AreFit : List (ValueOf target_chain) → Type 0
AreFit targets = (targets ≢ []) × AllByRecursion (Fits target_chain 28) targets

-- those of a whole value that lists them
listed_fit : (octets : List ℕ) → Fits (raw (target_chains 160)) 29 octets → AreFit (targets_in octets)
listed_fit octets f =
    let w : List ℕ = f.0 in
    let vs : List (ValueOf target_chain) = f.2.2.0 in
    let fits : FieldsFit (sequence_of true target_chain) 28 vs = f.2.2.2 in
    let first : first_contents octets ≡ w = ap first_contents (f.1 ∙ sym (append-nil (tlv 160 w))) ∙ first_is 160 w [] refl f.2.1 in
    let again = (values_of_octets target_chain true 0 w vs refl f.2.2.1 (fields_more (sequence_of true target_chain) 28 32 vs (omega arith) fits)).1 in
    let same : targets_in octets ≡ vs = ap (values_in target_chain) first ∙ again in
    subst AreFit (sym same) (fits.0 refl, fits.1)

-- those of a request
pub targets_fit : (info : ValueOf request_information) (octets : List ℕ) (transaction : Option (List ℕ)) → ∥ Fits dvcs_request 30 (info, (inr (inr octets), (transaction, tt))) ∥₁ → ∥ AreFit (targets_in octets) ∥₁
targets_fit info octets transaction h = ∥∥₁_map h (λ f. listed_fit octets f.2.1.0)

-- what holds of each holds of one
pub at_place : {X : Type 0} (P : X → Type 0) (xs : List X) (i : ℕ) (x : X) → AllByRecursion P xs → slice_get xs i ≡ Some x → P x
at_place P [] i x all is = absurd cc
at_place P (y ∷ ys) zero x all is = let same : y ≡ x = cc in subst P same all.0
at_place P (y ∷ ys) (suc i) x all is = at_place P ys i x all.1 is

-- a target of a request fits, and is shorter than the request
pub record IsFit (t : ValueOf target_chain) : Type 0 where
  pub fits : ∥ Fits target_chain 28 t ∥₁
  pub short : length (spelling target_chain t) < 4294967296

fit_in : (info : ValueOf request_information) (d : Data) (transaction : Option (List ℕ)) (i : ℕ) (t : ValueOf target_chain) → ∥ Fits dvcs_request 30 (info, (view_data d, (transaction, tt))) ∥₁
    → length (spelling data_of_request (view_data d)) < 4294967296 → slice_get (targets_of d) i ≡ Some t → IsFit t
fit_in info (Message octets) transaction i t h few is = absurd cc
fit_in info (Imprint digest) transaction i t h few is = absurd cc
fit_in info (Certs octets n) transaction i t h few is =
    let spelled : ∥ HasSpelling (raw (target_chains 160)) octets.now ∥₁ = certs_spelled info octets.now transaction h in
    let all = targets_short octets.now spelled in
    let one = member_short (spelling target_chain) (targets_in octets.now) i t is in
    record {
      fits = ∥∥₁_map (targets_fit info octets.now transaction h) (λ a. at_place (Fits target_chain 28) (targets_in octets.now) i t a.1 is);
      short = omega (arith, few, all, one);
    }

pub target_fit : (r : Request) (i : ℕ) (t : ValueOf target_chain) → slice_get (targets_of r.matter) i ≡ Some t → IsFit t
target_fit r i t is = fit_in (view_info r.info) r.matter (option_copied r.transaction) i t r.spelled (data_short r) is

-- ---- its targets

-- there is one
pub some_target : (r : Request) (octets : Bor (List ℕ)) (n : ℕ) → r.matter ≡ Certs octets n → targets_in octets.now ≢ []
some_target r octets n is =
    let spelled = subst (λ (d : Data). ∥ Fits dvcs_request 30 (view_info r.info, (view_data d, (option_copied r.transaction, tt))) ∥₁) is r.spelled in
    let no : IsProp ⊥ = hlevel in
    λ e. ∥∥₁_elim (targets_fit (view_info r.info) octets.now (option_copied r.transaction) spelled) no (λ a. a.0 e)
