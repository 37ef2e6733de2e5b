-- Laws of spellings: what fits with fewer levels fits with more, each spelling has one value, and none is a proper prefix of another.
use Rattle.std.proofs.Common.{◌≡◌, ℕ, zero, suc, ◌+◌, ◌-◌, ◌/◌, ◌%◌, ◌≤◌, ◌⊎◌, Bool, true, false, cond, eqb, Option, Some, None, Result, Ok, Err, List, [], ◌∷◌, ◌++◌, length, refl, sym, ap, ◌∙◌, inl, inr, arith}
use Rattle.std.specs.Prelude.{IfSome, IsTrue}
use Rattle.std.specs.List.{AllByRecursion}
use Rattle.std.proofs.lemmas.List.{append-nil}
use Rattle.dv_schema.specs.declared.refusal.Der.{Der}
use Rattle.dv_schema.specs.Octets.{IsBytes}
use Rattle.dv_schema.specs.Schema.{Schema, node, tagged, whole, raw, such, choice, Body, plain, unsigned, kept, done, field, optional, keyed, sequence_of, set_of, distinct_of, ValueOf, FieldsOf, spelling, contents, key_place}
use Rattle.dv_schema.specs.Fits.{Fits, FieldsFit, FitsIn, WellFormed, inner}
use Rattle.dv_schema.specs.Clear.{is_clear}
use Rattle.dv_schema.specs.Reading.{Spot, read}
use Rattle.dv_schema.specs.Decodes.{IsSpelled}
use Rattle.dv_schema.proofs.Tools.{ok_is}
use Rattle.dv_schema.proofs.Items.{at}
use Rattle.dv_schema.proofs.Takes.{takes}
use Rattle.dv_schema.proofs.Again.{spelled}

-- what holds of each member, and follows
all_more : {A : Type 0} (P Q : A → Type 0) (xs : List A) → ((x : A) → P x → Q x) → AllByRecursion P xs → AllByRecursion Q xs
all_more P Q [] f h = tt
all_more P Q (x ∷ xs) f h = (f x h.0, all_more P Q xs f h.1)

-- a well-formed value is one with more levels too
well_formed_more : (m n : ℕ) (b : List ℕ) → m ≤ n → WellFormed m b → WellFormed n b
well_formed_more zero n b le h = absurd h
well_formed_more (suc m) zero b le h = absurd (omega arith)
well_formed_more (suc m) (suc n) b le h = (
  h.0,
  h.1,
  h.2,
  h.3,
  h.4,
  h.5,
  elim h.6 [
    | inl k ↦ inl k
    | inr k ↦ inr (k.0, k.1, k.2, all_more (WellFormed m) (WellFormed n) k.1 (λ x w. well_formed_more m n x (omega arith) w) k.3)
  ],
)

-- there are more levels inside too
inner_more : (tag m n : ℕ) → m ≤ n → inner tag (m - 1) ≤ inner tag (n - 1)
inner_more tag m n le = go (eqb (tag / 32 % 2) 1)
  where
    go : (b : Bool) → cond b (m - 1) 32 ≤ cond b (n - 1) 32
    go true = omega arith
    go false = omega arith

-- contents that fit
fits_in_more : (tag m n : ℕ) (c : List ℕ) (P : ℕ → Type 0) → m ≤ n → ((j k : ℕ) → j ≤ k → P j → P k) → FitsIn tag m c P → FitsIn tag n c P
fits_in_more tag m n c P le more h = (omega (arith, h.0), h.1, more (inner tag (m - 1)) (inner tag (n - 1)) (inner_more tag m n le) h.2)

-- what holds of a value that is there, and follows
some_more : {A : Type 0} (P Q : A → Type 0) (o : Option A) → ((x : A) → P x → Q x) → IfSome o P → IfSome o Q
some_more P Q None f h = tt
some_more P Q (Some x) f h = f x h

mutual
  -- a value that fits with fewer levels fits with more
  pub fits_more : (s : Schema) (m n : ℕ) (v : ValueOf s) → m ≤ n → Fits s m v → Fits s n v
  fits_more (node tag b) m n v le h = fits_in_more tag m n (contents b v) (λ k. FieldsFit b k v) le (λ j k l f. fields_more b j k v l f) h
  fits_more (tagged tags f) m n v le h = (h.0, fits_in_more v.0 m n (contents (f v.0) v.1) (λ k. FieldsFit (f v.0) k v.1) le (λ j k l g. fields_more (f v.0) j k v.1 l g) h.1)
  fits_more (whole tags) m n v le h = (well_formed_more m n v le h.0, h.1)
  fits_more (raw s) m n v le h = (h.0, h.1, fits_more s m n h.0 le h.2)
  fits_more (such test s) m n v le h = (fits_more s m n v le h.0, h.1)
  fits_more (choice a b) m n (inl v) le h = fits_more a m n v le h
  fits_more (choice a b) m n (inr v) le h = fits_more b m n v le h

  -- and so do contents
  pub fields_more : (b : Body) (m n : ℕ) (v : FieldsOf b) → m ≤ n → FieldsFit b m v → FieldsFit b n v
  fields_more (plain rule) m n v le h = h
  fields_more (unsigned rule) m n v le h = h
  fields_more (kept b) m n v le h = (h.0, h.1, fields_more b m n h.0 le h.2)
  fields_more done m n v le h = tt
  fields_more (field s b) m n v le h = (fits_more s m n v.0 le h.0, fields_more b m n v.1 le h.1)
  fields_more (optional s b) m n v le h = (some_more (Fits s m) (Fits s n) v.0 (λ x k. fits_more s m n x le k) h.0, fields_more b m n v.1 le h.1)
  fields_more (keyed tag rule keys f) m n v le h =
      (fits_in_more tag m n v.0 (λ _. IsTrue (rule v.0)) le (λ j k l r. r) h.0, fields_more (f (key_place keys v.0)) m n v.1 le h.1)
  fields_more (sequence_of some s) m n v le h = (h.0, all_more (Fits s m) (Fits s n) v (λ x k. fits_more s m n x le k) h.1)
  fields_more (set_of some s) m n v le h = (h.0, all_more (Fits s m) (Fits s n) v (λ x k. fits_more s m n x le k) h.1, h.2)
  fields_more (distinct_of some key tag b also) m n v le h =
      let P : FieldsOf b → ℕ → Type 0 = λ x k. FieldsFit b k x × ((w : FieldsOf also) × (contents b x ≡ contents also w) × FieldsFit also k w) in (
        h.0,
        all_more (λ x. FitsIn tag m (contents b x) (P x)) (λ x. FitsIn tag n (contents b x) (P x)) v
            (λ x g. fits_in_more tag m n (contents b x) (P x) le (λ j k l i. (fields_more b j k x l i.0, (i.1.0, i.1.1, fields_more also j k i.1.0 l i.1.2))) g) h.1,
        h.2,
      )

-- where two spellings begin the same octets, they are those of one value
pub prefix_free : (s : Schema) (m n : ℕ) (v w : ValueOf s) (rest rest' : List ℕ) → is_clear s ≡ true → Fits s m v → Fits s n w → spelling s v ++ rest ≡ spelling s w ++ rest' → (v ≡ w) × (rest ≡ rest')
prefix_free s m n v w rest rest' clear f g e =
    let a = spelled s (at (m + n) 0 (spelling s v ++ rest)) v rest clear (fits_more s m (m + n) v (omega arith) f) refl in
    let b = spelled s (at (m + n) 0 (spelling s w ++ rest')) w rest' clear (fits_more s n (m + n) w (omega arith) g) refl in
    let same : read s (at (m + n) 0 (spelling s v ++ rest)) ≡ read s (at (m + n) 0 (spelling s w ++ rest')) = ap (λ (l : List ℕ). read s (at (m + n) 0 l)) e in
    let pair = ok_is (v, at (m + n) (0 + length (spelling s v)) rest) (w, at (m + n) (0 + length (spelling s w)) rest') (sym a ∙ same ∙ b) in
    (ap (λ (y : ValueOf s × Spot). y.0) pair, ap (λ (y : ValueOf s × Spot). y.1.rest) pair)

-- each spelling spells one value
pub one_spelling : (s : Schema) (m n : ℕ) (v w : ValueOf s) → is_clear s ≡ true → Fits s m v → Fits s n w → spelling s v ≡ spelling s w → v ≡ w
one_spelling s m n v w clear f g e = (prefix_free s m n v w [] [] clear f g (ap (λ (l : List ℕ). l ++ []) e)).0

-- no spelling is a proper prefix of another
pub no_prefix : (s : Schema) (m n : ℕ) (v w : ValueOf s) (rest : List ℕ) → is_clear s ≡ true → Fits s m v → Fits s n w → spelling s v ++ rest ≡ spelling s w → rest ≡ []
no_prefix s m n v w rest clear f g e = (prefix_free s m n v w rest [] clear f g (e ∙ sym (append-nil (spelling s w)))).1

-- what reading gave is a spelled value or a refusal
value_or_refusal : (s : Schema) (p : Spot) (r : Result (ValueOf s × Spot) Der) → IsBytes p.rest → read s p ≡ r → IsSpelled s p ⊎ ((d : Der) × (read s p ≡ Err d))
value_or_refusal s p (Ok x) fits e = let t = takes s p x fits e in inl (x.0, x.1.rest, t.1, t.0.octets)
value_or_refusal s p (Err d) fits e = inr (d, e)

-- there is a value or a refusal
pub either_one : (s : Schema) (p : Spot) → IsBytes p.rest → IsSpelled s p ⊎ ((d : Der) × (read s p ≡ Err d))
either_one s p fits = value_or_refusal s p (read s p) fits refl

-- and not and_parts
pub not_both : (s : Schema) (p : Spot) (d : Der) → is_clear s ≡ true → IsSpelled s p → read s p ≡ Err d → ⊥
not_both s p d clear v e = let here = spelled s p v.0 v.1 clear v.2 v.3 in absurd cc
