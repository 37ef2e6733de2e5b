-- Going over the targets of a request.
use Rattle.std.proofs.Common.{◌≡◌, ◌++◌, ◌∷◌, ◌∙◌, ℕ, suc, Some, List, [], take, sym, ap, subst}
use Rattle.std.specs.Prelude.{slice_get}
use Rattle.std.proofs.lemmas.List.{map-append}
use Rattle.std.proofs.lemmas.List.Elements.{All-append}
use Rattle.dv_schema.specs.Schema.{ValueOf}
use Rattle.dv_request.specs.TargetView.{view_target}
use Rattle.dv_request.specs.Types.{target_chain}
use Rattle.dv_path.specs.Anchors.{Anchored}
use Rattle.dv_parts.proofs.Elements.{all_one, take_one}
use Rattle.dv_svc_pkc.specs.declared.entry.Finding.{Finding}
use Rattle.dv_svc_pkc.specs.Validated.{AreFindings, IsFinding}

-- one finding more
pub one_found : (anchors : List Anchored) (when : ℕ) (ts : List (ValueOf target_chain)) (i : ℕ) (fs gs : List Finding) (f : Finding) → AreFindings anchors when (take i ts) fs → slice_get ts i ≡ Some (view_target f.target) → IsFinding anchors when f
    → gs ≡ fs ++ f ∷ [] → AreFindings anchors when (take (suc i) ts) gs
one_found anchors when ts i fs gs f a is found more =
    let view : Finding → ValueOf target_chain = λ x. view_target x.target in
    subst (AreFindings anchors when (take (suc i) ts)) (sym more) (record {
      one_each = map-append view fs (f ∷ []) ∙ (ap (λ l. l ++ view f ∷ []) a.one_each ∙ sym (take_one ts i (view f) is));
      right = All-append (IsFinding anchors when) fs (f ∷ []) a.right (all_one (IsFinding anchors when) f found);
    })
