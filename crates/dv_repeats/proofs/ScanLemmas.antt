-- Going over a list once.
use Rattle.std.proofs.Common.{◌≡◌, ◌∙◌, ◌<◌, ◌≤◌, ◌+◌, ◌-◌, ◌||◌, ℕ, suc, Bool, true, false, Option, None, Some, List, [], length, take, drop, eqb, ltb, not, refl, sym, ap, subst, inl, inr, arith}
use Rattle.std.specs.Prelude.{IfSome, nat_eq, unwrap_or}
use Rattle.std.specs.Option.{option_eq}
use Rattle.std.proofs.lemmas.Bool.{cases_Bool, eqb-true, eqb-false, ltb-true, ltb-false}
use Rattle.std.proofs.lemmas.List.{drop_all, drop_more, get_or-take, length-take-le}
use Rattle.std.proofs.Math.Seq.{take-suc}
use Rattle.dv_schema.proofs.Distinct.{one_of_more}
use Rattle.dv_schema.specs.Octets.{is_one_of, same_octets}
use Rattle.dv_schema.specs.Reading.{Spot}
use Rattle.dv_repeats.specs.Lists.{AreKeys, Turn}
use Rattle.dv_repeats.specs.Scans.{IsBefore, IsScan, RepeatsAt, key_at}
use Rattle.dv_repeats.proofs.ApartLemmas.{none_at, one_at}

-- What is known where so many members were passed, and the keys of the first of them are looked for.
pub record IsGoing (turn : Turn) (keys : List (List ℕ)) (count passed : ℕ) (next ahead : Spot) (ks : List (List ℕ)) (q : Spot) : Type 0 where
  pub here : passed ≤ length ks → AreKeys turn (drop passed ks) ahead q
  pub goes_on : count ≤ length ks → AreKeys turn (drop count ks) next q
  pub holds : count ≤ length ks → (x : List ℕ) → is_one_of keys x ≡ is_one_of (take count ks) x
  pub new : (i j : ℕ) → i < count → i < j → j < passed → j < length ks → same_octets (key_at ks j) (key_at ks i) ≡ false
  pub within : length q.rest ≡ 0 → passed ≤ length ks

-- What a call says that passed a member.
pub record IsPass (turn : Turn) (ahead after : Spot) (key : List ℕ) : Type 0 where
  pub member : (k : List ℕ) (m : Spot) → turn ahead ≡ Some (k, m) → (key ≡ k) × (after ≡ m)
  pub less : length after.rest < length ahead.rest

-- the member with a number, where the list goes on there
next_member : (turn : Turn) (ks : List (List ℕ)) (n : ℕ) (p q : Spot) → n < length ks → AreKeys turn (drop n ks) p q → (m : Spot) × (turn p ≡ Some (key_at ks n, m)) × AreKeys turn (drop (n + 1) ks) m q
next_member turn ks n p q lt h = subst (λ (l : List (List ℕ)). AreKeys turn l p q) (drop_more ks n [] lt) h

-- the end, where it doesn't
at_end : (turn : Turn) (ks : List (List ℕ)) (n : ℕ) (p q : Spot) → length ks ≤ n → AreKeys turn (drop n ks) p q → p ≡ q
at_end turn ks n p q le h = subst (λ (l : List (List ℕ)). AreKeys turn l p q) (drop_all n ks le) h

module _ (turn : Turn) (keys : List (List ℕ)) (count passed : ℕ) (next ahead after : Spot) (key : List ℕ) (ks : List (List ℕ)) (q : Spot) (s : IsGoing turn keys count passed next ahead ks q) (pass : IsPass turn ahead after key) where
  -- a list that is read whole goes on where a member was passed
  inside : length q.rest ≡ 0 → passed < length ks
  inside none =
      elim (cases_Bool (eqb passed (length ks))) [
        | inl t ↦ absurd (let is = eqb-true passed (length ks) t in
            let end = ap (λ (p : Spot). length p.rest) (at_end turn ks passed ahead q (omega (arith, is)) (s.here (omega (arith, is)))) in
            let less = pass.less in omega (arith, end, none, less))
        | inr f ↦ (let ne = eqb-false passed (length ks) f in omega (arith, ne, s.within none))
      ]

  -- what was passed is the member with this number
  is_member : passed < length ks → (key ≡ key_at ks passed) × AreKeys turn (drop (passed + 1) ks) after q
  is_member lt =
      let m = next_member turn ks passed ahead q lt (s.here (omega (arith, lt))) in
      let told = pass.member (key_at ks passed) m.0 m.1 in
      (told.0, subst (λ (p : Spot). AreKeys turn (drop (passed + 1) ks) p q) (sym told.1) m.2)

  -- its key is none of those that are looked for
  fresh : count ≤ passed → is_one_of keys key ≡ false → passed < length ks → (i : ℕ) → i < count → same_octets (key_at ks passed) (key_at ks i) ≡ false
  fresh few alone lt i up =
      let first : List (List ℕ) = take count ks in
      let n = length-take-le count ks (omega (arith, few, lt)) in
      let none = sym (s.holds (omega (arith, few, lt)) key) ∙ alone in
      ap (λ (k : List ℕ). same_octets k (key_at ks i)) (sym (is_member lt).0) ∙ ap (same_octets key) (sym (get_or-take count ks i [] up)) ∙ none_at first key i none (omega (arith, up, n))

  -- no key was seen twice so far
  still_new : count ≤ passed → is_one_of keys key ≡ false → (i j : ℕ) → i < count → i < j → j < passed + 1 → j < length ks → same_octets (key_at ks j) (key_at ks i) ≡ false
  still_new few alone i j up lt below there =
      elim (cases_Bool (eqb j passed)) [
        | inl t ↦ (let is = eqb-true j passed t in ap (λ (n : ℕ). same_octets (key_at ks n) (key_at ks i)) is ∙ fresh few alone (omega (arith, is, there)) i up)
        | inr f ↦ (let ne = eqb-false j passed f in s.new i j up lt (omega (arith, ne, below)) there)
      ]

  -- the member is passed by
  pub passed_by : count ≤ passed → is_one_of keys key ≡ false → IsGoing turn keys count (passed + 1) next after ks q
  passed_by few alone =
      record {
        here = λ le. (is_member (omega (arith, le))).1;
        goes_on = s.goes_on;
        holds = s.holds;
        new = still_new few alone;
        within = λ none. (let lt = inside none in omega (arith, lt));
      }

  -- its key is looked for from here on
  pub taken_up : (more : List (List ℕ)) → count ≡ passed → is_one_of keys key ≡ false → ((x : List ℕ) → is_one_of more x ≡ (same_octets x key || is_one_of keys x)) → IsGoing turn more (count + 1) (passed + 1) after after ks q
  taken_up more same alone grown =
      record {
        here = λ le. (is_member (omega (arith, le))).1;
        goes_on = λ le. (let m = is_member (omega (arith, le, same)) in subst (λ (n : ℕ). AreKeys turn (drop (n + 1) ks) after q) (sym same) m.1);
        holds = λ le x. (let m = is_member (omega (arith, le, same)) in
            let one : count + 1 ≡ suc count = omega arith in
            let here : key ≡ key_at ks count = m.0 ∙ ap (key_at ks) (sym same) in
            grown x ∙ ap (λ (b : Bool). same_octets x key || b) (s.holds (omega (arith, le)) x) ∙ ap (λ (k : List ℕ). same_octets x k || is_one_of (take count ks) x) here
            ∙ sym (one_of_more (take count ks) (key_at ks count) x) ∙ ap (λ (l : List (List ℕ)). is_one_of l x) (sym (ap (λ (n : ℕ). take n ks) one ∙ take-suc ks count [] (omega (arith, le)))));
        new = λ i j up lt below there. still_new (omega (arith, same)) alone i j (omega (arith, up, lt, below, same)) lt below there;
        within = λ none. (let lt = inside none in omega (arith, lt));
      }

  -- its key is one of those that are looked for
  pub found : (from : Spot) (number : ℕ) (known : Option ℕ) → count ≤ passed → (count < 1024 → count ≡ passed) → is_one_of keys key ≡ true → IsScan turn from number known (Some (number + passed)) count next ks q
  found from number known few all there =
      record {
        new = λ i j up lt below before. s.new i j up lt (omega (arith, before)) below;
        repeats = λ n is other. (let at : number + passed ≡ n = ap (λ (o : Option ℕ). unwrap_or o 0) is in
            let same : n - number ≡ passed = omega (arith, at) in (
              λ lt. subst (RepeatsAt ks) (sym same) (repeats (omega (arith, lt, same))),
              λ none. (let lt = inside none in omega (arith, lt, same)),
            ));
        goes_on = s.goes_on;
        within = λ none. (let w = s.within none in omega (arith, w, few));
        all = λ short j from_on below before. (let same = all short in omega (arith, same, from_on, before));
      }
    where
      repeats : passed < length ks → RepeatsAt ks passed
      repeats lt =
          let first : List (List ℕ) = take count ks in
          let n = length-take-le count ks (omega (arith, few, lt)) in
          let w = one_at first key (sym (s.holds (omega (arith, few, lt)) key) ∙ there) in
          let up : w.0 < count = omega (arith, w.1, n) in (
            w.0,
            omega (arith, up, few),
            ap (λ (k : List ℕ). same_octets k (key_at ks w.0)) (sym (is_member lt).0) ∙ ap (same_octets key) (sym (get_or-take count ks w.0 [] up)) ∙ w.2,
          )

module _ (turn : Turn) (keys : List (List ℕ)) (count passed : ℕ) (next ahead : Spot) (ks : List (List ℕ)) (q : Spot) (s : IsGoing turn keys count passed next ahead ks q) where
  -- no member that is behind has to be looked at
  ended : (from : Spot) (number : ℕ) (known : Option ℕ) → count ≤ passed → (count < 1024 → count ≡ passed) → ((j : ℕ) → passed ≤ j → j < length ks → IsBefore (number + j) known → ⊥)
      → IsScan turn from number known known count next ks q
  ended from number known few all end =
      record {
        new = λ i j up lt below before. elim (cases_Bool (ltb j passed)) [
          | inl t ↦ s.new i j up lt (ltb-true j passed t) below
          | inr f ↦ absurd (end j (ltb-false j passed f) below before)
        ];
        repeats = λ n is other. absurd (other is);
        goes_on = s.goes_on;
        within = λ none. (let w = s.within none in omega (arith, w, few));
        all = λ short j from_on below before. end j (let same = all short in omega (arith, same, from_on)) below before;
      }

  -- as the one that is known to repeat a key was reached
  pub reached : (from : Spot) (number : ℕ) (known : Option ℕ) → count ≤ passed → (count < 1024 → count ≡ passed) → known ≡ Some (number + passed) → IsScan turn from number known known count next ks q
  reached from number known few all is =
      ended from number known few all (λ j from_on below before. (let up = subst (IsBefore (number + j)) is before in omega (arith, up, from_on)))

  -- or as no member begins there
  pub stopped : (from : Spot) (number : ℕ) (known : Option ℕ) → count ≤ passed → (count < 1024 → count ≡ passed) → ((k : List ℕ) (m : Spot) → turn ahead ≡ Some (k, m) → ⊥) → IsScan turn from number known known count next ks q
  stopped from number known few all none =
      ended from number known few all (λ j from_on below before. (let m = next_member turn ks passed ahead q (omega (arith, from_on, below)) (s.here (omega (arith, from_on, below))) in none (key_at ks passed) m.0 m.1))

-- nothing was passed
pub begun : (turn : Turn) (from : Spot) (ks : List (List ℕ)) (q : Spot) → AreKeys turn ks from q → IsGoing turn [] 0 0 from from ks q
begun turn from ks q h =
    record {
      here = λ le. h;
      goes_on = λ le. h;
      holds = λ le x. refl;
      new = λ i j up lt below there. absurd (omega (arith, up));
      within = λ none. omega arith;
    }

-- a number that is known
pub known_is : (known : Option ℕ) (n : ℕ) → not (option_eq nat_eq known (Some n)) ≡ false → known ≡ Some n
known_is None n e = absurd cc
known_is (Some first) n e =
    elim (cases_Bool (eqb first n)) [
      | inl t ↦ ap (λ (k : ℕ). Some k) (eqb-true first n t)
      | inr f ↦ absurd (let bad : true ≡ false = sym (ap not f) ∙ e in cc)
    ]

-- or another
pub known_past : (known : Option ℕ) (number passed : ℕ) → not (option_eq nat_eq known (Some (number + passed))) ≡ true → IfSome known (λ first. number + passed ≤ first) → IfSome known (λ first. number + (passed + 1) ≤ first)
known_past None number passed e h = h
known_past (Some first) number passed e h =
    elim (cases_Bool (eqb first (number + passed))) [
      | inl t ↦ absurd (let bad : false ≡ true = sym (ap not t) ∙ e in cc)
      | inr f ↦ (let ne = eqb-false first (number + passed) f in omega (arith, ne, h))
    ]
