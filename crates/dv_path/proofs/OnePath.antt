-- One path is chosen at most.
use Rattle.std.proofs.Common.{◌≡◌, ◌<◌, ℕ, List, sym, subst, inl, inr, arith}
use Rattle.std.proofs.lemmas.Bool.{cases_lt}
use Rattle.dv_schema.specs.Schema.{FieldsOf}
use Rattle.dv_walks.specs.Walk.{IsBefore}
use Rattle.dv_walks.proofs.OrderLemmas.{cases_before}
use Rattle.dv_x509.specs.Types.{certificate_fields}
use Rattle.dv_path.specs.Anchors.{Anchored}
use Rattle.dv_path.specs.Paths.{IsChosen, IsFirstAnchor, Search, last_of}

-- two numbers of which none is less are the same
level : (x y : ℕ) → ¬ (x < y) → ¬ (y < x) → x ≡ y
level x y f g =
    elim (cases_lt x y) [
      | inl lt ↦ absurd (f lt)
      | inr le ↦ elim (cases_lt y x) [ inl lt ↦ absurd (g lt) | inr ge ↦ omega arith ]
    ]

-- two lists of which none is before the other are the same
same_path : (p q : List ℕ) → ¬ IsBefore p q → ¬ IsBefore q p → p ≡ q
same_path p q f g =
    elim (cases_before p q) [ inl same ↦ same | inr apart ↦ elim apart [ inl before ↦ absurd (f before) | inr behind ↦ absurd (g behind) ] ]

-- one anchor is the first that issued a certificate
one_anchor : (anchors : List Anchored) (v : FieldsOf certificate_fields) (t a b : ℕ) → IsFirstAnchor anchors v t a → IsFirstAnchor anchors v t b → a ≡ b
one_anchor anchors v t a b h k =
    level a b (λ lt. k.least a h.anchor lt h.is h.issues) (λ lt. h.least b k.anchor lt k.is k.issues)

pub one_path : (s : Search) (p q : List ℕ) (a b : ℕ) → IsChosen s p a → IsChosen s q b → (p ≡ q) × (a ≡ b)
one_path s p q a b h k =
    let same : p ≡ q = same_path p q (k.least p h.is) (h.least q k.is) in
    let anchored : IsFirstAnchor s.anchors (last_of s.bag p) s.when b = subst (λ (w : List ℕ). IsFirstAnchor s.anchors (last_of s.bag w) s.when b) (sym same) k.anchored in
    (same, one_anchor s.anchors (last_of s.bag p) s.when a b h.anchored anchored)
