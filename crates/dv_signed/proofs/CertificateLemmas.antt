-- The certificates in a set.
use Rattle.std.proofs.Common.{◌≡◌, ◌≤◌, ◌<◌, ◌+◌, ℕ, Bool, true, false, eqb, is_some, Option, Some, None, Result, Ok, Err, List, [], ◌∷◌, length, inl, inr, refl, sym, ap, ◌∙◌, arith}
use Rattle.std.specs.Borrow.{Bor}
use Rattle.std.specs.Prelude.{IfSome, MatchOption, filter}
use Rattle.std.proofs.lemmas.Bool.{cases_Bool, ne_eqb}
use Rattle.dv_schema.specs.declared.refusal.Der.{Der}
use Rattle.dv_schema.specs.Octets.{IsBytes}
use Rattle.dv_schema.specs.Schema.{Schema}
use Rattle.dv_schema.specs.Types.{list_of}
use Rattle.dv_schema.specs.Reading.{Spot, maybe_at, read}
use Rattle.dv_schema.specs.Decodes.{HasSpelling}
use Rattle.dv_schema.proofs.Tools.{bind_ok, ok_is}
use Rattle.dv_schema.proofs.Kept.{kept_value}
use Rattle.dv_schema.proofs.Counts.{member_fault, member_none, member_turn}
use Rattle.dv_schema.proofs.Lists.{members_few, members_read}
use Rattle.dv_schema.proofs.Moves.{moves, read_moves}
use Rattle.dv_members.specs.Members.{front_of, values_in}
use Rattle.dv_members.proofs.MemberLemmas.{list_values}
use Rattle.dv_cms.specs.Types.{certificate_choice}
use Rattle.dv_signed.specs.Certificates.{AreLeft, certificates_in, is_certificate}
use Rattle.dv_signed.proofs.SetLemmas.{list_shorter}

-- at the front of a set all of them are left
pub all_left : (set : List ℕ) → ∥ HasSpelling (list_of 160 false certificate_choice) set ∥₁ → AreLeft (certificates_in (Some set)) (front_of set)
all_left set h =
    (values_in certificate_choice set, members_read certificate_choice false 0 (front_of set) (values_in certificate_choice set) (list_values certificate_choice false 160 0 set refl h), refl)

-- what passes a test is no more
filter_few : (f : List ℕ → Bool) (xs : List (List ℕ)) → length (filter f xs) ≤ length xs
filter_few f [] = omega arith
filter_few f (x ∷ xs) =
    elim (cases_Bool (f x)) [
      | inl t ↦ rw t (omega (arith, filter_few f xs))
      | inr t ↦ rw t (omega (arith, filter_few f xs))
    ]

-- there are at most as many as octets
pub left_few : (cs : List (List ℕ)) (p : Spot) → AreLeft cs p → length cs ≤ length p.rest
left_few cs p left =
    let few = members_few (read certificate_choice) (read_moves certificate_choice) (length p.rest) p left.0 left.1 in
    omega (arith, few, filter_few is_certificate left.0, ap length left.2)

-- where the next value is refused, none are left
pub none_left : (cs : List (List ℕ)) (p : Spot) (d : Der) → read certificate_choice p ≡ Err d → AreLeft cs p → cs ≡ []
none_left cs p d e left =
    elim (cases_Bool (eqb (length p.rest) 0)) [
      | inl none ↦ sym left.2 ∙ ap (filter is_certificate) (sym (member_none certificate_choice p left.0 none left.1))
      | inr some ↦ absurd (member_fault certificate_choice p d left.0 some e left.1)
    ]

-- a value that is read is there
some_read : (p q : Spot) (octets : List ℕ) → read certificate_choice p ≡ Ok (octets, q) → eqb (length p.rest) 0 ≡ false
some_read p q octets e = let m = moves certificate_choice p (octets, q) e in ne_eqb (length p.rest) 0 (λ (z : length p.rest ≡ 0). omega (arith, m.less))

-- behind a certificate the others are left
pub certificate_first : (cs : List (List ℕ)) (p q : Spot) (octets : List ℕ) → read certificate_choice p ≡ Ok (octets, q) → is_certificate octets ≡ true → AreLeft cs p → (ds : List (List ℕ)) × (cs ≡ octets ∷ ds) × AreLeft ds q
certificate_first cs p q octets e is left =
    let turn = member_turn certificate_choice p (octets, q) left.0 (some_read p q octets e) e left.1 in
    let one : filter is_certificate (octets ∷ turn.0) ≡ octets ∷ filter is_certificate turn.0 = rw is refl in
    (filter is_certificate turn.0, sym left.2 ∙ ap (filter is_certificate) (sym turn.2) ∙ one, (turn.0, turn.1, refl))

-- behind another value all of them are
pub other_first : (cs : List (List ℕ)) (p q : Spot) (octets : List ℕ) → read certificate_choice p ≡ Ok (octets, q) → is_certificate octets ≡ false → AreLeft cs p → AreLeft cs q
other_first cs p q octets e is left =
    let turn = member_turn certificate_choice p (octets, q) left.0 (some_read p q octets e) e left.1 in
    let one : filter is_certificate (octets ∷ turn.0) ≡ filter is_certificate turn.0 = rw is refl in
    (turn.0, turn.1, sym one ∙ ap (filter is_certificate) turn.2 ∙ left.2)

-- ---- turns of a loop over them

-- a certificate that was found is one of them
pub one_found : (r : Option (Bor (List ℕ))) (cs : List (List ℕ)) (q : Spot) → is_some r ≡ true → MatchOption r (cs ≡ []) (λ o. (ds : List (List ℕ)) × (cs ≡ o.now ∷ ds) × AreLeft ds q)
    → (ds : List (List ℕ)) × (length cs ≡ 1 + length ds) × AreLeft ds q
one_found None cs q there h = absurd cc
one_found (Some o) cs q there h = let size : length cs ≡ 1 + length h.0 = omega (arith, ap length h.1) in (h.0, size, h.2)

-- where none was found there is none
pub none_found : (r : Option (Bor (List ℕ))) (cs : List (List ℕ)) (q : Spot) → is_some r ≡ false → MatchOption r (cs ≡ []) (λ o. (ds : List (List ℕ)) × (cs ≡ o.now ∷ ds) × AreLeft ds q) → cs ≡ []
none_found None cs q there h = h
none_found (Some o) cs q there h = absurd cc

-- where one was found, less is left
pub less_left : (r : Option (Bor (List ℕ))) (m n : ℕ) → is_some r ≡ true → IfSome r (λ o. m < n) → m < n
less_left None m n there h = absurd cc
less_left (Some o) m n there h = h

-- ---- a set that was read

-- a value that was there was read
maybe_some : {A : Type 0} (b : Bool) (p : Spot) (r : Result (A × Spot) Der) (x : A) (q : Spot) → maybe_at b p r ≡ Ok (Some x, q) → r ≡ Ok (x, q)
maybe_some {A} false p r x q e =
    let none : Option A × Spot = (None, p) in
    let no = ap (λ (y : Option A × Spot). y.0) (ok_is none (Some x, q) e) in absurd cc
maybe_some {A} true p r x q e =
    let a = bind_ok r (λ y. Ok (Some y.0, y.1)) (Some x, q) e in
    let made : Option A × Spot = (Some a.0.0, a.0.1) in
    let pair = ok_is made (Some x, q) a.2 in
    let there : Some a.0.0 ≡ Some x = ap (λ (y : Option A × Spot). y.0) pair in
    let value : a.0.0 ≡ x = cc in
    a.1 ∙ ap (λ (y : A). Ok (y, a.0.1)) value ∙ ap (λ (y : Option A × Spot). Ok (x, y.1)) pair

-- its contents have a spelling, and are fewer octets than what was left
pub record IsSet (p : Spot) (set : List ℕ) : Type 0 where
  pub spelled : ∥ HasSpelling (list_of 160 false certificate_choice) set ∥₁
  pub shorter : length set ≤ length p.rest

pub set_read : (b : Bool) (p q : Spot) (set : List ℕ) → IsBytes p.rest → p.levels ≤ 32 → p.place + length p.rest < 18446744073709551616
    → maybe_at b p (read (list_of 160 false certificate_choice) p) ≡ Ok (Some set, q) → IsSet p set
set_read b p q set bytes levels room e =
    let s : Schema = list_of 160 false certificate_choice in
    let one = maybe_some b p (read s p) set q e in
    record { spelled = kept_value s p (set, q) bytes levels room one; shorter = list_shorter 160 false certificate_choice p q set bytes one }
