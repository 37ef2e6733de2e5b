-- Going over a list window by window.
use Rattle.std.proofs.Common.{◌≡◌, ◌≢◌, ◌∙◌, ◌<◌, ◌≤◌, ◌+◌, ◌-◌, ◌⊎◌, ℕ, false, Option, None, Some, List, [], length, drop, eqb, ltb, refl, sym, ap, subst, inl, inr, arith}
use Rattle.std.specs.Prelude.{IfSome, unwrap_or}
use Rattle.std.proofs.lemmas.Bool.{cases_Bool, eqb-true, eqb-false, ltb-true, ltb-false}
use Rattle.std.proofs.lemmas.List.{drop-drop, get_or-drop, length-drop}
use Rattle.dv_schema.specs.Octets.{same_octets}
use Rattle.dv_schema.specs.Reading.{Spot}
use Rattle.dv_repeats.specs.Lists.{AreApartUpTo, AreKeys, Turn}
use Rattle.dv_repeats.specs.Scans.{IsBefore, IsScan, RepeatsAt, key_at}
use Rattle.dv_repeats.proofs.ApartLemmas.{apart_at, not_repeated}

-- What is known where the keys of so many members were looked for among all behind them.
pub record IsGone (turn : Turn) (number : ℕ) (first : Option ℕ) (from : Spot) (ks : List (List ℕ)) (q : Spot) : Type 0 where
  pub new : (i j : ℕ) → i < number → i < j → j < length ks → IsBefore j first → same_octets (key_at ks j) (key_at ks i) ≡ false
  pub repeats : (n : ℕ) → first ≡ Some n → (n < length ks → RepeatsAt ks n) × (length q.rest ≡ 0 → n < length ks)
  pub here : number ≤ length ks → AreKeys turn (drop number ks) from q
  pub within : length q.rest ≡ 0 → number ≤ length ks

-- nothing was gone over
pub none_gone : (turn : Turn) (from : Spot) (ks : List (List ℕ)) (q : Spot) → AreKeys turn ks from q → IsGone turn 0 None from ks q
none_gone turn from ks q h =
    record {
      new = λ i j up lt below before. absurd (omega (arith, up));
      repeats = λ n e. absurd cc;
      here = λ le. h;
      within = λ none. omega arith;
    }

-- whether the first that repeats a key was known before
was_known : (known : Option ℕ) (n : ℕ) → (known ≡ Some n) ⊎ (known ≢ Some n)
was_known None n = inr (λ e. cc)
was_known (Some first) n =
    elim (cases_Bool (eqb first n)) [
      | inl t ↦ inl (ap (λ (k : ℕ). Some k) (eqb-true first n t))
      | inr f ↦ inr (λ e. eqb-false first n f (ap (λ (o : Option ℕ). unwrap_or o 0) e))
    ]

-- a bound of a number that is known
bound_of : (first : Option ℕ) (n least : ℕ) → first ≡ Some n → IfSome first (λ k. least ≤ k) → least ≤ n
bound_of first n least e h = subst (λ (o : Option ℕ). IfSome o (λ k. least ≤ k)) e h

module _ (turn : Turn) (from next : Spot) (number count : ℕ) (known first : Option ℕ) (ks : List (List ℕ)) (q : Spot) (g : IsGone turn number known from ks q) (earlier : (n : ℕ) → IsBefore n first → IsBefore n known)
    (ahead : IfSome first (λ n. number + count ≤ n)) (scan : (ms : List (List ℕ)) (q : Spot) → AreKeys turn ms from q → IsScan turn from number known first count next ms q) where
  -- the scan of the members that were left
  here : number ≤ length ks → IsScan turn from number known first count next (drop number ks) q
  here le = scan (drop number ks) q (g.here le)

  -- a key behind the members that were gone over
  key_behind : (i : ℕ) → number ≤ i → key_at (drop number ks) (i - number) ≡ key_at ks i
  key_behind i le = let at : number + (i - number) ≡ i = omega (arith, le) in get_or-drop number ks (i - number) [] ∙ ap (key_at ks) at

  -- two members of which the first was looked for
  differ : (i j : ℕ) → i < number + count → i < j → j < length ks → IsBefore j first → same_octets (key_at ks j) (key_at ks i) ≡ false
  differ i j up lt below before =
      elim (cases_Bool (ltb i number)) [
        | inl t ↦ g.new i j (ltb-true i number t) lt below (earlier j before)
        | inr f ↦ (let from_on = ltb-false i number f in
            let size = length-drop number ks in
            let s = here (omega (arith, from_on, lt, below)) in
            let at : number + (j - number) ≡ j = omega (arith, from_on, lt) in
            ap (λ (k : List ℕ). same_octets k (key_at ks i)) (sym (key_behind j (omega (arith, from_on, lt)))) ∙ ap (same_octets (key_at (drop number ks) (j - number))) (sym (key_behind i from_on))
            ∙ s.new (i - number) (j - number) (omega (arith, from_on, up)) (omega (arith, from_on, lt)) (omega (arith, from_on, lt, below, size)) (subst (λ (n : ℕ). IsBefore n first) (sym at) before))
      ]

  -- a member that repeats a key behind those that were gone over
  moved : (n : ℕ) → number ≤ n → RepeatsAt (drop number ks) (n - number) → RepeatsAt ks n
  moved n le r = (
    number + r.0,
    omega (arith, le, r.1),
    ap (λ (k : List ℕ). same_octets k (key_at ks (number + r.0))) (sym (key_behind n le)) ∙ ap (same_octets (key_at (drop number ks) (n - number))) (sym (get_or-drop number ks r.0 [])) ∙ r.2,
  )

  repeats : (n : ℕ) → first ≡ Some n → (n < length ks → RepeatsAt ks n) × (length q.rest ≡ 0 → n < length ks)
  repeats n is =
      let least = bound_of first n (number + count) is ahead in
      let size = length-drop number ks in
      elim (was_known known n) [
        | inl e ↦ g.repeats n e
        | inr ne ↦ (
          λ lt. (let s = here (omega (arith, least, lt)) in moved n (omega (arith, least)) ((s.repeats n is ne).0 (omega (arith, least, lt, size)))),
          λ none. (let le = g.within none in let s = here le in let lt = (s.repeats n is ne).1 none in omega (arith, least, le, lt, size)),
        )
      ]

  -- the list is gone over that much further
  pub gone_on : IsGone turn (number + count) first next ks q
  gone_on =
      record {
        new = λ i j up lt below before. differ i j up lt below before;
        repeats = repeats;
        here = λ le. (let s = here (omega (arith, le)) in let size = length-drop number ks in subst (λ (l : List (List ℕ)). AreKeys turn l next q) (drop-drop count number ks) (s.goes_on (omega (arith, le, size))));
        within = λ none. (let le = g.within none in let s = here le in let size = length-drop number ks in let w = s.within none in omega (arith, le, w, size));
      }

  -- it is gone over to its end
  any_differ : count < 1024 → (i j : ℕ) → i < j → j < length ks → IsBefore j first → same_octets (key_at ks j) (key_at ks i) ≡ false
  any_differ short i j lt below before =
      elim (cases_Bool (ltb i (number + count))) [
        | inl t ↦ differ i j (ltb-true i (number + count) t) lt below before
        | inr f ↦ absurd (let behind = ltb-false i (number + count) f in
            let size = length-drop number ks in
            let s = here (omega (arith, behind, lt, below)) in
            let at : number + (j - number) ≡ j = omega (arith, behind, lt) in
            s.all short (j - number) (omega (arith, behind, lt)) (omega (arith, behind, lt, below, size)) (subst (λ (n : ℕ). IsBefore n first) (sym at) before))
      ]

  pub gone_whole : count < 1024 → AreApartUpTo ks first
  gone_whole short = go first refl
    where
      go : (f : Option ℕ) → first ≡ f → AreApartUpTo ks f
      go None is = apart_at ks (λ i j lt below. any_differ short i j lt below (subst (IsBefore j) (sym is) tt))
      go (Some n) is = (
        λ apart. elim (cases_Bool (ltb n (length ks))) [
          | inl t ↦ absurd (let lt = ltb-true n (length ks) t in not_repeated ks n apart lt ((repeats n is).0 lt))
          | inr f ↦ ltb-false n (length ks) f
        ],
        λ le. apart_at ks (λ i j lt below. any_differ short i j lt below (let up : j < n = omega (arith, below, le) in subst (IsBefore j) (sym is) up)),
      )

  pub gone_within : length q.rest ≡ 0 → IfSome first (λ n. n < length ks)
  gone_within none = go first refl
    where
      go : (f : Option ℕ) → first ≡ f → IfSome f (λ n. n < length ks)
      go None is = tt
      go (Some n) is = (repeats n is).1 none
