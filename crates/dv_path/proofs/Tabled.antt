-- What is entered of a certificate, step by step.
use Rattle.std.proofs.Common.{◌≡◌, ◌≢◌, ◌∙◌, ◌<◌, ◌≤◌, ◌+◌, ◌&&◌, ℕ, Bool, true, false, eqb, List, length, length-set, get_or-set_other, get_or-set_same, set, refl, sym, ap, subst, inl, inr, arith}
use Rattle.std.specs.Prelude.{◌↔◌, IsTrue, MatchBool, Some, slice_get, slice_index}
use Rattle.std.proofs.lemmas.Bool.{and_from, and_parts, cases_Bool, cases_lt, eq-eqb, eqb-true}
use Rattle.std.proofs.lemmas.Option.{get_or_from_slice_get}
use Rattle.dv_schema.specs.Schema.{FieldsOf}
use Rattle.dv_walks.specs.Graph.{AddsEnd, AddsLead, AddsLimit, GraphState, IsFresh, ends_at, leads, limit_of}
use Rattle.dv_x509.specs.Types.{certificate_fields}
use Rattle.dv_path.specs.Anchors.{Anchored}
use Rattle.dv_path.specs.Issuing.{Issues, bound_of}
use Rattle.dv_path.specs.Members.{member, no_certificate}
use Rattle.dv_path.specs.Paths.{IsFirstAnchor}
use Rattle.dv_path.specs.Tables.{AddsAnchor, AddsBound, AddsIssuers, HasNoAnchor, IsTable}

-- the certificate that was read at a position
pub member_is : (bag : List (FieldsOf certificate_fields)) (position : ℕ) (v : FieldsOf certificate_fields) → slice_get bag position ≡ Some v → member bag position ≡ v
member_is bag position v e = get_or_from_slice_get bag position v no_certificate e

-- ---- leads

-- the lead that was added
led : (g h : GraphState) (from to : ℕ) → AddsLead g h from to → leads h from to ≡ true
led g h from to a =
    let here : (eqb from from && eqb to to) ≡ true = and_from (eqb from from) (eqb to to) (eq-eqb from from refl) (eq-eqb to to refl) in
    a.leads from to ∙ rw here refl

-- another one
not_led : (g h : GraphState) (from to x y : ℕ) → AddsLead g h from to → (x ≡ from → y ≢ to) → leads h x y ≡ leads g x y
not_led g h from to x y a other =
    elim (cases_Bool (eqb x from && eqb y to)) [
      | inl t ↦ (let p = and_parts (eqb x from) (eqb y to) t in absurd (other (eqb-true x from p.0) (eqb-true y to p.1)))
      | inr f ↦ a.leads x y ∙ rw f refl
    ]

-- before the first one
pub none_added : (bag : List (FieldsOf certificate_fields)) (v : FieldsOf certificate_fields) (t : ℕ) (g : GraphState) (c : ℕ) → ((j : ℕ) → leads g c j ≡ false) → AddsIssuers bag v t g g c 0
none_added bag v t g c fresh =
    record {
      size = refl;
      issuers = λ j lt. absurd (omega arith);
      left = λ j _. fresh j;
      others = λ a j _. refl;
      ends = λ node. refl;
      limits = λ node. refl;
    }

-- the next one issued it
pub next_added : (bag : List (FieldsOf certificate_fields)) (v : FieldsOf certificate_fields) (t : ℕ) (g h k : GraphState) (c n : ℕ) → AddsIssuers bag v t g h c n → AddsLead h k c n → Issues (member bag n) v t
    → AddsIssuers bag v t g k c (n + 1)
next_added bag v t g h k c n a l issues =
    record {
      size = l.size ∙ a.size;
      issuers = λ j lt.
          elim (cases_lt j n) [
            | inl before ↦
                (let same : leads k c j ≡ leads h c j = not_led h k c n c j l (λ _ at. omega arith) in
                subst (λ (b : Bool). IsTrue b ↔ Issues (member bag j) v t) (sym same) (a.issuers j before))
            | inr behind ↦
                (let at : j ≡ n = omega arith in
                let yes : leads k c j ≡ true = ap (leads k c) at ∙ led h k c n l in
                (λ _. subst (λ (i : ℕ). Issues (member bag i) v t) (sym at) issues, λ _. yes))
          ];
      left = λ j le. not_led h k c n c j l (λ _ at. omega arith) ∙ a.left j (omega arith);
      others = λ x j other. not_led h k c n x j l (λ e _. other e) ∙ a.others x j other;
      ends = λ node. l.ends node ∙ a.ends node;
      limits = λ node. l.limits node ∙ a.limits node;
    }

-- the next one didn't
pub next_left : (bag : List (FieldsOf certificate_fields)) (v : FieldsOf certificate_fields) (t : ℕ) (g h : GraphState) (c n : ℕ) → AddsIssuers bag v t g h c n → ¬ Issues (member bag n) v t → AddsIssuers bag v t g h c (n + 1)
next_left bag v t g h c n a not_issued =
    record {
      size = a.size;
      issuers = λ j lt.
          elim (cases_lt j n) [
            | inl before ↦ a.issuers j before
            | inr behind ↦
                (let at : j ≡ n = omega arith in
                let none : leads h c j ≡ false = a.left j behind in
                (λ yes. absurd (let e : true ≡ false = sym yes ∙ none in cc), λ issued. absurd (not_issued (subst (λ (i : ℕ). Issues (member bag i) v t) at issued))))
          ];
      left = λ j le. a.left j (omega arith);
      others = a.others;
      ends = a.ends;
      limits = a.limits;
    }

-- what the test of a position says
same_position : (c : ℕ) → eqb c c ≡ true
same_position c = eq-eqb c c refl

other_position : (a c : ℕ) → a ≢ c → eqb a c ≡ false
other_position a c other = elim (cases_Bool (eqb a c)) [ inl t ↦ absurd (other (eqb-true a c t)) | inr f ↦ f ]

-- an anchor issued it
pub anchored_at : (anchors : List Anchored) (v : FieldsOf certificate_fields) (t : ℕ) (g h : GraphState) (firsts : List ℕ) (c place : ℕ) → c < length firsts → AddsEnd g h c → IsFirstAnchor anchors v t place
    → AddsAnchor anchors v t g h firsts (set firsts c place) c
anchored_at anchors v t g h firsts c place lt e first =
    let yes : ends_at h c ≡ true = e.ends c ∙ rw (same_position c) refl in
    let at : slice_index (set firsts c place) c ≡ place = get_or-set_same firsts c place 0 lt in
    record {
      size = e.size;
      room = length-set firsts c place;
      leads = e.leads;
      anchored = subst (λ (b : Bool). MatchBool b (IsFirstAnchor anchors v t (slice_index (set firsts c place) c)) (HasNoAnchor anchors v t)) (sym yes) (subst (IsFirstAnchor anchors v t) (sym at) first);
      others = λ node other. (e.ends node ∙ rw (other_position node c other) refl, get_or-set_other firsts c node place 0 other);
      limits = e.limits;
    }

-- none did
pub no_anchor : (anchors : List Anchored) (v : FieldsOf certificate_fields) (t : ℕ) (g : GraphState) (firsts : List ℕ) (c : ℕ) → ends_at g c ≡ false → HasNoAnchor anchors v t → AddsAnchor anchors v t g g firsts firsts c
no_anchor anchors v t g firsts c fresh none =
    record {
      size = refl;
      room = refl;
      leads = λ a b. refl;
      anchored = subst (λ (b : Bool). MatchBool b (IsFirstAnchor anchors v t (slice_index firsts c)) (HasNoAnchor anchors v t)) (sym fresh) none;
      others = λ node other. (refl, refl);
      limits = λ node. refl;
    }

-- it has a bound
pub bounded_by : (v : FieldsOf certificate_fields) (g h : GraphState) (c bound : ℕ) → AddsLimit g h c bound → bound_of v ≡ Some bound → AddsBound v g h c
bounded_by v g h c bound l is =
    record {
      size = l.size;
      leads = l.leads;
      ends = l.ends;
      bounded = l.limits c ∙ rw (same_position c) (sym is);
      others = λ node other. l.limits node ∙ rw (other_position node c other) refl;
    }

-- ---- the table

pub nothing_entered : (bag : List (FieldsOf certificate_fields)) (anchors : List Anchored) (t : ℕ) (g : GraphState) (firsts : List ℕ) → length bag ≤ length firsts → IsFresh (length bag) g → IsTable bag anchors t g firsts 0
nothing_entered bag anchors t g firsts room f =
    record {
      size = f.size;
      room = room;
      issuers = λ c j lt within. absurd (omega arith);
      anchored = λ c lt. absurd (omega arith);
      bounded = λ c lt. absurd (omega arith);
      no_issuers = λ c j le. f.leads c j;
      no_anchors = λ c le. f.ends c;
      no_bounds = λ c le. f.limits c;
    }

-- what the table says of one certificate
record IsEntered (bag : List (FieldsOf certificate_fields)) (anchors : List Anchored) (t : ℕ) (g : GraphState) (firsts : List ℕ) (c : ℕ) : Type 0 where
  issuers : (j : ℕ) → j < length bag → IsTrue (leads g c j) ↔ Issues (member bag j) (member bag c) t
  anchored : MatchBool (ends_at g c) (IsFirstAnchor anchors (member bag c) t (slice_index firsts c)) (HasNoAnchor anchors (member bag c) t)
  bounded : limit_of g c ≡ bound_of (member bag c)

-- the next certificate
here_entered : (bag : List (FieldsOf certificate_fields)) (anchors : List Anchored) (t : ℕ) (v : FieldsOf certificate_fields) (g h k m : GraphState) (firsts news : List ℕ) (n : ℕ) → member bag n ≡ v
    → AddsIssuers bag v t g h n (length bag) → AddsAnchor anchors v t h k firsts news n → AddsBound v k m n → IsEntered bag anchors t m news n
here_entered bag anchors t v g h k m firsts news n is i a b =
    let V : FieldsOf certificate_fields → Type 0 = λ x. MatchBool (ends_at k n) (IsFirstAnchor anchors x t (slice_index news n)) (HasNoAnchor anchors x t) in
    record {
      issuers = λ j within.
          (let same : leads m n j ≡ leads h n j = b.leads n j ∙ a.leads n j in
          subst (λ (y : Bool). IsTrue y ↔ Issues (member bag j) (member bag n) t) (sym same) (subst (λ (x : FieldsOf certificate_fields). IsTrue (leads h n j) ↔ Issues (member bag j) x t) (sym is) (i.issuers j within)));
      anchored = subst (λ (y : Bool). MatchBool y (IsFirstAnchor anchors (member bag n) t (slice_index news n)) (HasNoAnchor anchors (member bag n) t)) (sym (b.ends n)) (subst V (sym is) a.anchored);
      bounded = b.bounded ∙ ap (λ (x : FieldsOf certificate_fields). bound_of x) (sym is);
    }

-- one before it
before_entered : (bag : List (FieldsOf certificate_fields)) (anchors : List Anchored) (t : ℕ) (v : FieldsOf certificate_fields) (g h k m : GraphState) (firsts news : List ℕ) (n c : ℕ) → c < n → IsTable bag anchors t g firsts n
    → AddsIssuers bag v t g h n (length bag) → AddsAnchor anchors v t h k firsts news n → AddsBound v k m n → IsEntered bag anchors t m news c
before_entered bag anchors t v g h k m firsts news n c lt table i a b =
    let other : c ≢ n = λ e. omega arith in
    let end : ends_at m c ≡ ends_at g c = b.ends c ∙ (a.others c other).0 ∙ i.ends c in
    let first : slice_index news c ≡ slice_index firsts c = (a.others c other).1 in
    record {
      issuers = λ j within.
          (let same : leads m c j ≡ leads g c j = b.leads c j ∙ a.leads c j ∙ i.others c j other in
          subst (λ (y : Bool). IsTrue y ↔ Issues (member bag j) (member bag c) t) (sym same) (table.issuers c j lt within));
      anchored = subst (λ (y : Bool). MatchBool y (IsFirstAnchor anchors (member bag c) t (slice_index news c)) (HasNoAnchor anchors (member bag c) t)) (sym end)
          (subst (λ (f : ℕ). MatchBool (ends_at g c) (IsFirstAnchor anchors (member bag c) t f) (HasNoAnchor anchors (member bag c) t)) (sym first) (table.anchored c lt));
      bounded = b.others c other ∙ a.limits c ∙ i.limits c ∙ table.bounded c lt;
    }

-- either
entered : (bag : List (FieldsOf certificate_fields)) (anchors : List Anchored) (t : ℕ) (v : FieldsOf certificate_fields) (g h k m : GraphState) (firsts news : List ℕ) (n c : ℕ) → c < n + 1 → member bag n ≡ v → IsTable bag anchors t g firsts n
    → AddsIssuers bag v t g h n (length bag) → AddsAnchor anchors v t h k firsts news n → AddsBound v k m n → IsEntered bag anchors t m news c
entered bag anchors t v g h k m firsts news n c lt is table i a b =
    elim (cases_lt c n) [
      | inl before ↦ before_entered bag anchors t v g h k m firsts news n c before table i a b
      | inr behind ↦
          (let at : n ≡ c = omega arith in
          subst (IsEntered bag anchors t m news) at (here_entered bag anchors t v g h k m firsts news n is i a b))
    ]

-- one more certificate was entered
pub one_entered : (bag : List (FieldsOf certificate_fields)) (anchors : List Anchored) (t : ℕ) (v : FieldsOf certificate_fields) (g h k m : GraphState) (firsts news : List ℕ) (n : ℕ) → slice_get bag n ≡ Some v → IsTable bag anchors t g firsts n
    → AddsIssuers bag v t g h n (length bag) → AddsAnchor anchors v t h k firsts news n → AddsBound v k m n → IsTable bag anchors t m news (n + 1)
one_entered bag anchors t v g h k m firsts news n got table i a b =
    let is = member_is bag n v got in
    let at = λ (c : ℕ) (lt : c < n + 1). entered bag anchors t v g h k m firsts news n c lt is table i a b in
    record {
      size = b.size ∙ a.size ∙ i.size ∙ table.size;
      room = omega (arith, a.room, table.room);
      issuers = λ c j lt within. (at c lt).issuers j within;
      anchored = λ c lt. (at c lt).anchored;
      bounded = λ c lt. (at c lt).bounded;
      no_issuers = λ c j le. b.leads c j ∙ a.leads c j ∙ i.others c j (λ e. omega arith) ∙ table.no_issuers c j (omega arith);
      no_anchors = λ c le. b.ends c ∙ (a.others c (λ e. omega arith)).0 ∙ i.ends c ∙ table.no_anchors c (omega arith);
      no_bounds = λ c le. b.others c (λ e. omega arith) ∙ a.limits c ∙ i.limits c ∙ table.no_bounds c (omega arith);
    }
