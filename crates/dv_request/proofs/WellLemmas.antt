-- What has a spelling by a schema whose primitive contents are those of their tags is well formed, so it may stand where any value may.
use Rattle.std.proofs.Common.{◌≡◌, ◌≢◌, ◌-◌, ◌/◌, ◌%◌, ◌<◌, ◌++◌, ◌⊎◌, ℕ, zero, suc, true, eqb, Option, Some, None, List, [], ◌∷◌, inl, inr, refl, sym, ap, subst, ◌∙◌, eq-eqb, arith}
use Rattle.std.specs.Prelude.{IfSome}
use Rattle.std.specs.List.{AllByRecursion, concat, flat_map}
use Rattle.dv_schema.specs.Tlv.{tlv}
use Rattle.dv_schema.specs.Rules.{is_allowed}
use Rattle.dv_schema.specs.Schema.{Schema, node, tagged, whole, raw, such, choice, Body, plain, unsigned, kept, done, field, optional, keyed, sequence_of, set_of, distinct_of, ValueOf, FieldsOf, spelling, spelled_if, contents, is_among}
use Rattle.dv_schema.specs.Fits.{Fits, FieldsFit, FitsIn, WellFormed, inner, is_tag}

-- a tag of one octet that any value may have
abbrev pub IsTag : ℕ → Type 0
IsTag tag = (tag % 32 ≢ 31) × (is_tag None tag ≡ true)

-- contents that fit are allowed under this primitive tag
abbrev pub Allows : ℕ → Body → Type 0
Allows tag b = (n : ℕ) (v : FieldsOf b) → FieldsFit b n v → is_allowed tag (contents b v) ≡ true

abbrev mutual
  -- a schema whose values are well formed
  pub IsStrict : Schema → Type 0
  IsStrict (node tag b) = IsTag tag × (((tag / 32 % 2 ≡ 1) × AreStrict b) ⊎ ((tag / 32 % 2 ≢ 1) × Allows tag b))
  IsStrict (tagged tags f) = (t : ℕ) → is_among (Some tags) t ≡ true → IsTag t × (((t / 32 % 2 ≡ 1) × AreStrict (f t)) ⊎ ((t / 32 % 2 ≢ 1) × Allows t (f t)))
  IsStrict (whole tags) = Unit {0}
  IsStrict (raw s) = IsStrict s
  IsStrict (such test s) = IsStrict s
  IsStrict (choice a b) = IsStrict a × IsStrict b

  -- contents that are well-formed values
  pub AreStrict : Body → Type 0
  AreStrict (plain rule) = ⊥
  AreStrict (unsigned rule) = ⊥
  AreStrict (kept b) = AreStrict b
  AreStrict done = Unit {0}
  AreStrict (field s b) = IsStrict s × AreStrict b
  AreStrict (optional s b) = IsStrict s × AreStrict b
  AreStrict (keyed tag rule keys f) = ⊥
  AreStrict (sequence_of some s) = IsStrict s
  AreStrict (set_of some s) = IsStrict s
  AreStrict (distinct_of some key tag b also) = IsTag tag × (tag / 32 % 2 ≡ 1) × AreStrict b

-- well-formed values, one after another
abbrev pub Parts : ℕ → List ℕ → Type 0
Parts n c = (ps : List (List ℕ)) × (c ≡ concat ps) × AllByRecursion (WellFormed n) ps

-- a value of such contents
strict_node : (tag : ℕ) (b : Body) (n : ℕ) (v : FieldsOf b) → IsTag tag → ((tag / 32 % 2 ≡ 1) × ((m : ℕ) → FieldsFit b m v → Parts m (contents b v))) ⊎ ((tag / 32 % 2 ≢ 1) × Allows tag b)
    → FitsIn tag n (contents b v) (λ k. FieldsFit b k v) → WellFormed n (tlv tag (contents b v))
strict_node tag b zero v t i f = let none : 0 < 0 = f.0 in absurd (omega arith)
strict_node tag b (suc n) v t (inl h) f =
    let one : eqb (tag / 32 % 2) 1 ≡ true = eq-eqb _ _ h.0 in
    let less : suc n - 1 ≡ n = omega arith in
    let e : inner tag (suc n - 1) ≡ n = rw one less in
    let p = h.1 n (subst (λ (k : ℕ). FieldsFit b k v) e f.2) in
    (tag, contents b v, refl, t.0, t.1, f.1, inr (h.0, p.0, p.1, p.2))
strict_node tag b (suc n) v t (inr h) f = (tag, contents b v, refl, t.0, t.1, f.1, inl (h.0, h.1 (inner tag (suc n - 1)) v f.2))

-- members, one after another
members : {A : Type 0} (spell : A → List ℕ) (P : A → Type 0) (n : ℕ) → ((x : A) → P x → WellFormed n (spell x)) → (vs : List A) → AllByRecursion P vs → Parts n (flat_map spell vs)
members spell P n well [] all = ([], refl, tt)
members spell P n well (x ∷ xs) all =
    let p = members spell P n well xs all.1 in
    (spell x ∷ p.0, ap (λ (l : List ℕ). spell x ++ l) p.1, (well x all.0, p.2))

-- a field that may be absent, and then more
maybe : {A : Type 0} (spell : A → List ℕ) (P : A → Type 0) (n : ℕ) → ((x : A) → P x → WellFormed n (spell x)) → (o : Option A) → IfSome o P → (c : List ℕ) → Parts n c → Parts n (spelled_if spell o ++ c)
maybe spell P n well None h c p = p
maybe spell P n well (Some x) h c p = (spell x ∷ p.0, ap (λ (l : List ℕ). spell x ++ l) p.1, (well x h, p.2))

mutual
  pub well : (s : Schema) (n : ℕ) (v : ValueOf s) → IsStrict s → Fits s n v → WellFormed n (spelling s v)
  well (node tag b) n v t f =
      strict_node tag b n v t.0 (elim t.1 [ inl h ↦ inl (h.0, λ m g. parts b m v h.1 g) | inr h ↦ inr h ]) f
  well (tagged tags f) n v t e =
      let k = t v.0 e.0 in
      strict_node v.0 (f v.0) n v.1 k.0 (elim k.1 [ inl h ↦ inl (h.0, λ m g. parts (f v.0) m v.1 h.1 g) | inr h ↦ inr h ]) e.1
  well (whole tags) n v t f = f.0
  well (raw s) n v t f = subst (WellFormed n) (sym f.1) (well s n f.0 t f.2)
  well (such test s) n v t f = well s n v t f.0
  well (choice a b) n (inl x) t f = well a n x t.0 f
  well (choice a b) n (inr y) t f = well b n y t.1 f

  pub parts : (b : Body) (n : ℕ) (v : FieldsOf b) → AreStrict b → FieldsFit b n v → Parts n (contents b v)
  parts (plain rule) n v t f = absurd t
  parts (unsigned rule) n v t f = absurd t
  parts (kept b) n v t f = let p = parts b n f.0 t f.2 in (p.0, f.1 ∙ p.1, p.2)
  parts done n v t f = ([], refl, tt)
  parts (field s b) n v t f =
      let p = parts b n v.1 t.1 f.1 in
      (spelling s v.0 ∷ p.0, ap (λ (l : List ℕ). spelling s v.0 ++ l) p.1, (well s n v.0 t.0 f.0, p.2))
  parts (optional s b) n v t f = maybe (spelling s) (Fits s n) n (λ x g. well s n x t.0 g) v.0 f.0 (contents b v.1) (parts b n v.1 t.1 f.1)
  parts (keyed tag rule keys f) n v t g = absurd t
  parts (sequence_of some s) n v t f = members (spelling s) (Fits s n) n (λ x g. well s n x t g) v f.1
  parts (set_of some s) n v t f = members (spelling s) (Fits s n) n (λ x g. well s n x t g) v f.1
  parts (distinct_of some key tag b also) n v t f =
      members (λ (x : FieldsOf b). tlv tag (contents b x)) (λ x. FitsIn tag n (contents b x) (λ k. FieldsFit b k x × ((w : FieldsOf also) × (contents b x ≡ contents also w) × FieldsFit also k w))) n
      (λ x g. strict_node tag b n x t.0 (inl (t.1, λ m h. parts b m x t.2 h)) (g.0, g.1, g.2.0)) v f.1
