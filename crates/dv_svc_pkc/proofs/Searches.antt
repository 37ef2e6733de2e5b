-- The search for a target's path, as the code makes it.
use Rattle.std.proofs.Common.{◌≡◌, ◌≤◌, ◌<◌, ◌∙◌, ℕ, zero, suc, Bool, true, false, is_some, ltb, Option, Some, None, List, [], ◌∷◌, length, get_or, refl, sym, ap, arith}
use Rattle.std.specs.Borrow.{Bor}
use Rattle.std.specs.Prelude.{option_map, slice_get}
use Rattle.std.specs.List.{filter_map, list_all}
use Rattle.std.specs.Option.{option_copied}
use Rattle.std.proofs.lemmas.Bool.Decides.{nat_tests}
use Rattle.dv_schema.specs.Rules.{flag_octets}
use Rattle.dv_schema.specs.Schema.{FieldsOf, ValueOf}
use Rattle.dv_request.specs.declared.path_input.PathInput.{PathInput}
use Rattle.dv_request.specs.declared.target.TargetChain.{TargetChain}
use Rattle.dv_request.specs.PartViews.{view_path}
use Rattle.dv_request.specs.TargetView.{view_target}
use Rattle.dv_request.specs.Types.{target_chain}
use Rattle.dv_x509.specs.Types.{certificate_fields}
use Rattle.dv_path.specs.Anchors.{Anchored}
use Rattle.dv_path.specs.Demands.{Demand, demand_in, demand_of, policies_in}
use Rattle.dv_path.specs.Paths.{Search}
use Rattle.dv_svc_pkc.specs.Certificates.{certificates_of, is_certificate, is_refused, pkc_failure, target_failure}
use Rattle.dv_svc_pkc.specs.Outcomes.{bag_of, demand_with, search_of}
use Rattle.dv_svc_pkc.specs.Slices.{octets_of}
use Rattle.dv_svc_pkc.proofs.Failures.{front_none}
use Rattle.dv_svc_pkc.proofs.Fitting.{and_parts}

-- a flag is there where it is TRUE
flag_is : (b : Bool) → is_some (flag_octets b) ≡ b
flag_is true = refl
flag_is false = refl

-- what an input demands
demand_same : (i : PathInput) → demand_in i ≡ demand_with (view_path i)
demand_same i =
    let make : Bool → Bool → Demand = λ explicit any. record { policies = policies_in i.policies.now; explicit = explicit; inhibit_any = any } in
    sym (ap (λ (b : Bool). make b (is_some (flag_octets i.inhibit_any))) (flag_is i.explicit) ∙ ap (make i.explicit) (flag_is i.inhibit_any))

demands_same : (input : Option (Bor PathInput)) → demand_of input ≡ option_map demand_with (option_map view_path (option_copied input))
demands_same None = refl
demands_same (Some i) = ap Some (demand_same i.now)

-- the search is that of the target
pub same_search : (anchors : List Anchored) (when : ℕ) (t : TargetChain) (bag : List (FieldsOf certificate_fields)) (input : Option (Bor PathInput)) → bag ≡ bag_of (view_target t) → option_copied input ≡ t.input
    → ◌≡◌ {A = Search} (record { bag = bag; target = 0; anchors = anchors; when = when; demand = demand_of input }) (search_of anchors when (view_target t))
same_search anchors when t bag input same is =
    let make : List (FieldsOf certificate_fields) → Option Demand → Search = λ b d. record { bag = b; target = 0; anchors = anchors; when = when; demand = d } in
    let demand = demands_same input ∙ ap (λ (o : Option PathInput). option_map demand_with (option_map view_path o)) is in
    ap (λ (b : List (FieldsOf certificate_fields)). make b (demand_of input)) same ∙ ap (make (bag_of (view_target t))) demand

-- ---- targets that are checked

-- no failure comes first where there is none
pub none_first : {X : Type 0} (xs : List X) → slice_get xs 0 ≡ None → xs ≡ []
none_first [] e = refl
none_first (x ∷ xs) e = absurd cc

none_given : {X Y : Type 0} (f : X → Option Y) (xs : List X) (i : ℕ) (x : X) → filter_map f xs ≡ [] → slice_get xs i ≡ Some x → f x ≡ None
none_given f [] i x none is = absurd cc
none_given {X} {Y} f (y ∷ ys) zero x none is =
    let same : y ≡ x = cc in
    ap f (sym same) ∙ (front_none (f y) (filter_map f ys) none).0
none_given {X} {Y} f (y ∷ ys) (suc i) x none is = none_given f ys i x (front_none (f y) (filter_map f ys) none).1 is

-- where a request is checked, so is each of its targets
pub each_checked : (ts : List (ValueOf target_chain)) (i : ℕ) (t : ValueOf target_chain) → pkc_failure ts ≡ None → slice_get ts i ≡ Some t → target_failure t ≡ None
each_checked ts i t e is = go (ltb 8 (length ts)) refl
  where
    go : (b : Bool) → ltb 8 (length ts) ≡ b → target_failure t ≡ None
    go true long = let bad : pkc_failure ts ≡ Some 2 = rw long refl in absurd cc
    go false short =
        let first : slice_get (filter_map target_failure ts) 0 ≡ None = rw short at e in
        none_given target_failure ts i t (none_first (filter_map target_failure ts) first) is

-- and there are at most 8
pub checked_few : (ts : List (ValueOf target_chain)) → pkc_failure ts ≡ None → length ts ≤ 8
checked_few ts e = go (ltb 8 (length ts)) refl
  where
    go : (b : Bool) → ltb 8 (length ts) ≡ b → length ts ≤ 8
    go true long = let bad : pkc_failure ts ≡ Some 2 = rw long refl in absurd cc
    go false short = grind (arith, nat_tests)

-- a target that is checked is a certificate, and its certificates decode
pub target_good : (t : ValueOf target_chain) → target_failure t ≡ None → (is_refused t ≡ false) × (list_all is_certificate (certificates_of t) ≡ true)
target_good t e = go (is_refused t) (list_all is_certificate (certificates_of t)) refl refl
  where
    go : (a b : Bool) → is_refused t ≡ a → list_all is_certificate (certificates_of t) ≡ b → (is_refused t ≡ false) × (list_all is_certificate (certificates_of t) ≡ true)
    go true b f g = let bad : target_failure t ≡ Some 2 = rw f refl in absurd cc
    go false false f g = let bad : target_failure t ≡ Some 5 = rw (f, g) refl in absurd cc
    go false true f g = (f, g)

-- each of certificates that decode
pub good_at : (slices : List (Bor (List ℕ))) (i : ℕ) (d : Bor (List ℕ)) → list_all is_certificate (octets_of slices) ≡ true → i < length slices → is_certificate (get_or slices i d).now ≡ true
good_at [] i d all lt = absurd (omega arith)
good_at (s ∷ ss) zero d all lt = (and_parts (is_certificate s.now) (list_all is_certificate (octets_of ss)) all).0
good_at (s ∷ ss) (suc i) d all lt = good_at ss i d (and_parts (is_certificate s.now) (list_all is_certificate (octets_of ss)) all).1 (omega arith)
