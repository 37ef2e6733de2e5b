-- A request has one draft at most.
use Rattle.std.proofs.Common.{◌≡◌, ◌∙◌, ℕ, zero, suc, Option, Some, None, List, [], ◌∷◌, length, inl, inr, refl, sym, ap, ap₂, subst, arith}
use Rattle.std.specs.Prelude.{All}
use Rattle.std.specs.List.{zip}
use Rattle.dv_schema.specs.Schema.{ValueOf}
use Rattle.dv_time.proofs.TimeLemmas.{same_text}
use Rattle.dv_request.specs.Targets.{targets_in}
use Rattle.dv_request.specs.Types.{dvcs_request, request_time, target_chain}
use Rattle.dv_path.specs.Anchors.{Anchored}
use Rattle.dv_path.specs.Paths.{Search}
use Rattle.dv_path.proofs.OnePath.{one_path}
use Rattle.dv_draft.specs.Types.{draft}
use Rattle.dv_parts.specs.Moments.{time_of}
use Rattle.dv_parts.proofs.MomentLemmas.{one_when}
use Rattle.dv_svc_pkc.specs.Drafts.{IsPkc, pkc_of}
use Rattle.dv_svc_pkc.specs.Outcomes.{IsOutcome, search_of}

-- what is found of a target is one
one_outcome : (s : Search) (a b : Option (List ℕ)) → IsOutcome s a → IsOutcome s b → a ≡ b
one_outcome s None None p q = refl
one_outcome s None (Some path) p q = absurd (p path q.1.is)
one_outcome s (Some path) None p q = absurd (q path p.1.is)
one_outcome s (Some path) (Some other) p q = ap Some (one_path s path other p.0 q.0 p.1 q.1).0

-- and of targets
one_outcomes : (anchors : List Anchored) (when : ℕ) (ts : List (ValueOf target_chain)) (xs ys : List (Option (List ℕ))) → length xs ≡ length ts → length ys ≡ length ts
    → All (λ x. IsOutcome (search_of anchors when x.0) x.1) (zip ts xs) → All (λ x. IsOutcome (search_of anchors when x.0) x.1) (zip ts ys) → xs ≡ ys
one_outcomes anchors when [] [] [] m n p q = refl
one_outcomes anchors when [] [] (y ∷ ys) m n p q = absurd (omega arith)
one_outcomes anchors when [] (x ∷ xs) ys m n p q = absurd (omega arith)
one_outcomes anchors when (t ∷ ts) [] ys m n p q = absurd (omega arith)
one_outcomes anchors when (t ∷ ts) (x ∷ xs) [] m n p q = absurd (omega arith)
one_outcomes anchors when (t ∷ ts) (x ∷ xs) (y ∷ ys) m n p q =
    ap₂ (λ (o : Option (List ℕ)) (os : List (Option (List ℕ))). o ∷ os)
    (one_outcome (search_of anchors when t) x y (p zero (t, x) (omega arith)) (q zero (t, y) (omega arith)))
    (one_outcomes anchors when ts xs ys (omega arith) (omega arith) (λ k d lt. p (suc k) d (omega arith)) (λ k d lt. q (suc k) d (omega arith)))

-- so there is one draft
pub one_pkc : (request : ValueOf dvcs_request) (certs : List ℕ) (anchors : List Anchored) (moment : ℕ) (policy signers : Option (List ℕ)) (d e : ValueOf draft)
    → IsPkc request certs anchors moment policy signers d → IsPkc request certs anchors moment policy signers e → d ≡ e
one_pkc request certs anchors moment policy signers d e p q =
    let when : p.when ≡ q.when = one_when (time_of request) moment p.when q.when p.is_when q.is_when in
    let right = subst (λ (n : ℕ). All (λ x. IsOutcome (search_of anchors n x.0) x.1) (zip (targets_in certs) p.outcomes)) when p.right in
    let same = one_outcomes anchors q.when (targets_in certs) p.outcomes q.outcomes p.one_each q.one_each right q.right in
    p.is ∙ (ap (λ (os : List (Option (List ℕ))). pkc_of request certs os moment policy signers) same ∙ sym q.is)
