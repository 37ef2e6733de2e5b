-- The first failure among those of targets.
use Rattle.std.proofs.Common.{◌≡◌, ◌≤◌, ◌<◌, ◌∙◌, ℕ, zero, suc, true, false, is_some, ltb, Option, Some, None, List, [], ◌∷◌, length, take, refl, ap, arith}
use Rattle.std.specs.Prelude.{option_map, slice_get}
use Rattle.std.specs.List.{cons_option, filter_map}
use Rattle.std.proofs.lemmas.Bool.Decides.{nat_tests}
use Rattle.dv_schema.specs.Schema.{ValueOf}
use Rattle.dv_request.specs.Types.{target_chain}
use Rattle.dv_svc_pkc.specs.Certificates.{pkc_failure, target_failure}

-- the first element in front gives nothing
pub front_none : {X : Type 0} (o : Option X) (xs : List X) → cons_option o xs ≡ [] → (o ≡ None) × (xs ≡ [])
front_none None xs e = (refl, e)
front_none (Some x) xs e = absurd cc

-- where those before give nothing, what this one gives is the first
pub first_given : {X Y : Type 0} (f : X → Option Y) (xs : List X) (i : ℕ) (r : Option Y) → filter_map f (take i xs) ≡ [] → option_map f (slice_get xs i) ≡ Some r → is_some r ≡ true → slice_get (filter_map f xs) 0 ≡ r
first_given f [] i r none is some = absurd cc
first_given f (x ∷ xs) zero None none is some = absurd cc
first_given {X} {Y} f (x ∷ xs) zero (Some y) none is some =
    let same : f x ≡ Some y = cc in
    ap (λ (o : Option Y). slice_get (cons_option o (filter_map f xs)) 0) same
first_given {X} {Y} f (x ∷ xs) (suc i) r none is some =
    let p = front_none (f x) (filter_map f (take i xs)) none in
    ap (λ (o : Option Y). slice_get (cons_option o (filter_map f xs)) 0) p.0 ∙ first_given f xs i r p.1 is some

-- one more that gives nothing
pub none_more : {X Y : Type 0} (f : X → Option Y) (xs : List X) (i : ℕ) (r : Option Y) → filter_map f (take i xs) ≡ [] → option_map f (slice_get xs i) ≡ Some r → is_some r ≡ false → filter_map f (take (suc i) xs) ≡ []
none_more f [] i r none is not = absurd cc
none_more {X} {Y} f (x ∷ xs) zero None none is not =
    let same : f x ≡ None = cc in
    ap (λ (o : Option Y). cons_option o []) same
none_more f (x ∷ xs) zero (Some y) none is not = absurd cc
none_more {X} {Y} f (x ∷ xs) (suc i) r none is not =
    let p = front_none (f x) (filter_map f (take i xs)) none in
    ap (λ (o : Option Y). cons_option o (filter_map f (take (suc i) xs))) p.0 ∙ none_more f xs i r p.1 is not

-- the failure of so few targets
pub few_failure : (ts : List (ValueOf target_chain)) (r : Option ℕ) → length ts ≤ 8 → slice_get (filter_map target_failure ts) 0 ≡ r → pkc_failure ts ≡ r
few_failure ts r few first =
    let short : ltb 8 (length ts) ≡ false = grind (arith, nat_tests) in
    rw short first

-- and of too many
pub many_failure : (ts : List (ValueOf target_chain)) → 8 < length ts → pkc_failure ts ≡ Some 2
many_failure ts many =
    let long : ltb 8 (length ts) ≡ true = grind (arith, nat_tests) in
    rw long refl
