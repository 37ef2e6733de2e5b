-- An imprint that is a copy of a claim.
use Rattle.std.proofs.Common.{◌≡◌, ◌<◌, ◌++◌, ◌∷◌, ◌∙◌, ℕ, Bool, Option, Some, None, List, [], length, is_some, Result, Ok, Err, refl, ap, arith}
use Rattle.std.specs.Borrow.{Bor}
use Rattle.std.specs.Prelude.{IfOk}
use Rattle.std.specs.Option.{option_copied}
use Rattle.std.proofs.lemmas.List.{length-append}
use Rattle.std.proofs.Math.Logic.{∥∥₁_elim, ∥∥₁_prop}
use Rattle.dv_schema.specs.Schema.{ValueOf, contents, raw, spelled_if, spelling}
use Rattle.dv_schema.specs.Fits.{Fits}
use Rattle.dv_schema.specs.Tlv.{length_octets}
use Rattle.dv_schema.proofs.Spellings.{fits_more}
use Rattle.dv_names.specs.declared.algorithm.DigestInfo.{DigestInfo}
use Rattle.dv_names.specs.declared.digest.DigestKind.{DigestKind}
use Rattle.dv_names.specs.Digest.{kind_of}
use Rattle.dv_names.specs.Types.{digest_info, general_name}
use Rattle.dv_names.specs.Views.{view_digest}
use Rattle.dv_request.specs.declared.request.Request.{Request}
use Rattle.dv_request.specs.DataView.{view_data}
use Rattle.dv_request.specs.InfoView.{view_info}
use Rattle.dv_request.specs.RequestView.{view_request}
use Rattle.dv_request.specs.Types.{data_of_request, request_fields, request_information}
use Rattle.dv_draft.specs.Parts.{imprint_of}
use Rattle.dv_draft.proofs.MadeLemmas.{imprint_is}

-- a copy of what is there is there
copied_some : (o : Option (Bor (List ℕ))) → is_some o ≡ is_some (option_copied o)
copied_some None = refl
copied_some (Some x) = refl

-- an imprint that is a copy of a claim
pub copy_is : (claim : DigestInfo) (k : DigestKind) (b : Bool) (digest : List ℕ) → kind_of (view_digest claim).0 ≡ Some k → b ≡ is_some claim.alg.params → digest ≡ claim.digest.now
    → ◌≡◌ {A = ValueOf digest_info} (imprint_of k b digest) (view_digest claim)
copy_is claim k b digest named flag same =
    let o : Option (List ℕ) = option_copied claim.alg.params in
    ap (λ (x : Bool). imprint_of k x digest) (flag ∙ copied_some claim.alg.params)
    ∙ (ap (λ (x : List ℕ). imprint_of k (is_some o) x) same ∙ imprint_is claim.alg.oid.octets.now o claim.digest.now k named)

-- what holds of an Ok holds where more follows from it
pub if_ok : {A E : Type 0} {P Q : A → Type 0} (r : Result A E) → ((a : A) → P a → Q a) → IfOk r P → IfOk r Q
if_ok (Ok a) f h = f a h
if_ok (Err e) f h = tt
