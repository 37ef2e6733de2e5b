-- One value is read from its spelling, and only from it.
use Rattle.std.proofs.Common.{◌≡◌, ◌≢◌, ℕ, suc, ◌+◌, ◌-◌, ◌%◌, ◌<◌, ◌≤◌, ◌^◌, ◌||◌, not, Bool, true, false, cond, eqb, ltb, Result, Ok, List, [], ◌∷◌, ◌++◌, take, drop, length, get_or, refl, sym, ap, subst, ◌∙◌, inl, inr, arith, append_assoc}
use Rattle.std.specs.Int.Digits.{digits_of, number_from_digits}
use Rattle.std.proofs.lemmas.Int.Digits.{number_digits_of, first_digits_of, length-digits_of-le, number_lt}
use Rattle.std.proofs.Math.Nat.{pow-le-pow_right}
use Rattle.std.proofs.lemmas.List.{length-take, length-drop, length-append, get_or-take, take-append-drop, take_at, drop_at, drop-drop}
use Rattle.std.proofs.lemmas.Bool.{ltb-false, ltb-true, eqb-false, le-ltb, cases_Bool, ne_eqb, not-false, or_parts}
use Rattle.dv_schema.specs.declared.refusal.Der.{Der}
use Rattle.dv_schema.specs.declared.refusal.Why.TheVariants.{End, Length}
use Rattle.dv_schema.specs.Tlv.{length_octets, tlv}
use Rattle.dv_schema.specs.Rules.{first_or}
use Rattle.dv_schema.specs.Reading.{Spot, Item, refuse, length_at, sized_at, sizes_at, tagged_at, item_at}
use Rattle.dv_schema.proofs.Tools.{bind_ok, ok_is, passed, chosen, IsBytes, IsBytes-drop, IsBytes-take, IsBytes-rest}
use Rattle.dv_schema.proofs.Octets.{digits_back, all_below}

-- the octets that spell a length are its least ones
pub record IsLength (more : List ℕ) (n : ℕ × ℕ) : Type 0 where
  pub octets : take n.1 more ≡ length_octets n.0
  pub within : n.1 ≤ length more
  pub small : n.0 < 18446744073709551616

-- a number of at most eight octets is below 2^64
below_eight : (k : ℕ) (ds : List ℕ) → k ≤ 8 → length ds ≡ k → IsBytes ds → number_from_digits 256 ds < 18446744073709551616
below_eight k ds le len bytes =
    let a = number_lt 256 ds (all_below ds bytes) in
    let pos : 0 < 256 = omega arith in
    let b : 256 ^ length ds ≤ 256 ^ 8 = pow-le-pow_right {n = 256} pos {i = length ds} {j = 8} (omega arith) in
    omega (arith, a, b)

-- the first octet, two ways
first_is : (ds : List ℕ) → first_or ds ≡ get_or ds 0 0
first_is [] = refl
first_is (d ∷ ds) = refl

-- a length of one octet
short_takes : (first : ℕ) (more : List ℕ) → ltb first 128 ≡ true → IsLength (first ∷ more) (first, 1)
short_takes first more h =
    let lt : first < 128 = ltb-true _ _ h in
    let right : length_octets first ≡ first ∷ [] = rw h refl in
    record { octets = sym right; within = omega arith; small = omega arith }

-- a length of more octets
long_takes : (place first : ℕ) (more : List ℕ) (n : ℕ × ℕ) → IsBytes more → 128 ≤ first
    → cond (eqb first 128 || ltb 136 first) (refuse {A = ℕ × ℕ} place Length) (cond (ltb (length more) (first - 128)) (refuse place End)
    (cond (eqb (first_or more) 0 || ltb (number_from_digits 256 (take (first - 128) more)) 128) (refuse place Length)
    (Ok (number_from_digits 256 (take (first - 128) more), 1 + (first - 128))))) ≡ Ok n
    → IsLength (first ∷ more) n
long_takes place first more n bytes high e =
    let k : ℕ = first - 128 in
    let ds : List ℕ = take k more in
    let N : ℕ = number_from_digits 256 ds in
    let g1 = passed (eqb first 128 || ltb 136 first) _ _ n e in
    let g2 = passed (ltb (length more) k) _ _ n g1.1 in
    let g3 = passed (eqb (first_or more) 0 || ltb N 128) _ _ n g2.1 in
    let t1 = or_parts (eqb first 128) (ltb 136 first) g1.0 in
    let t3 = or_parts (eqb (first_or more) 0) (ltb N 128) g3.0 in
    let not128 : first ≢ 128 = eqb-false _ _ t1.0 in
    let upto : first ≤ 136 = ltb-false _ _ t1.1 in
    let have : k ≤ length more = ltb-false _ _ g2.0 in
    let pos : 0 < k = omega arith in
    let len : length ds ≡ k = omega (arith, length-take k more) in
    let some : first_or more ≢ 0 = eqb-false _ _ t3.0 in
    let start : get_or ds 0 0 ≡ first_or more = get_or-take k more 0 0 pos ∙ sym (first_is more) in
    let fits : IsBytes ds = IsBytes-take k more bytes in
    let back : digits_of 256 N ≡ ds = digits_back ds fits (omega arith) in
    let one : 1 + k ≡ suc k = omega arith in
    let head : 128 + length ds ≡ first = omega arith in
    let right : length_octets N ≡ first ∷ ds = rw (t3.1, back) (ap (λ (f : ℕ). f ∷ ds) head) in
    let left : take (1 + k) (first ∷ more) ≡ first ∷ ds = ap (λ (j : ℕ). take j (first ∷ more)) one in
    let made : IsLength (first ∷ more) (N, 1 + k) = record { octets = left ∙ sym right; within = omega arith; small = below_eight k ds (omega arith) len fits } in
    subst (IsLength (first ∷ more)) (ok_is (N, 1 + k) n g3.1) made

-- a length that was read is spelled by its least octets
pub length_takes : (place : ℕ) (more : List ℕ) (n : ℕ × ℕ) → IsBytes more → length_at place more ≡ Ok n → IsLength more n
length_takes place [] n bytes e = absurd cc
length_takes place (first ∷ more) n bytes e =
    elim (chosen (ltb first 128) (Ok (first, 1)) _ (Ok n) e) [
      | inl h ↦ subst (IsLength (first ∷ more)) (ok_is (first, 1) n h.1) (short_takes first more h.0)
      | inr h ↦ long_takes place first more n (IsBytes-rest first more bytes) (ltb-false _ _ h.0) h.1
    ]

-- a list whose first octet isn't 0 has one
some_first : (ds : List ℕ) → 0 < get_or ds 0 0 → 0 < length ds
some_first [] h = h
some_first (d ∷ ds) h = omega arith

-- and has the same first octet whatever follows
first_append : (ds rest : List ℕ) → 0 < get_or ds 0 0 → first_or (ds ++ rest) ≡ get_or ds 0 0
first_append [] rest h = absurd (omega arith)
first_append (d ∷ ds) rest h = refl

-- the octets of a long length are read
long_again : (place n : ℕ) (ds rest : List ℕ) → number_from_digits 256 ds ≡ n → 0 < get_or ds 0 0 → length ds ≤ 8 → ltb n 128 ≡ false
    → length_at place ((128 + length ds) ∷ (ds ++ rest)) ≡ Ok (n, suc (length ds))
long_again place n ds rest num first le big =
    let f : ℕ = 128 + length ds in
    let some = some_first ds first in
    let t1 : ltb f 128 ≡ false = le-ltb _ _ (omega arith) in
    let t2 : eqb f 128 ≡ false = ne_eqb f 128 (λ (e : f ≡ 128). omega arith) in
    let t3 : ltb 136 f ≡ false = le-ltb _ _ (omega arith) in
    let k : f - 128 ≡ length ds = omega arith in
    let t4 : ltb (length (ds ++ rest)) (length ds) ≡ false = le-ltb _ _ (omega (arith, length-append ds rest)) in
    let fo : first_or (ds ++ rest) ≡ get_or ds 0 0 = first_append ds rest first in
    let t5 : eqb (first_or (ds ++ rest)) 0 ≡ false = ne_eqb _ 0 (λ (e : first_or (ds ++ rest) ≡ 0). omega arith) in
    let front : take (length ds) (ds ++ rest) ≡ ds = take_at ds rest (length ds) refl in
    let one : 1 + length ds ≡ suc (length ds) = omega arith in
    rw (t1, t2, t3, k, t4, t5, front, num, big) (ap (λ (j : ℕ). Ok (n, j)) one)

-- the least octets of a long length are read
again_long : (place n : ℕ) (rest : List ℕ) → n < 18446744073709551616 → ltb n 128 ≡ false
    → length_at place ((128 + length (digits_of 256 n)) ∷ (digits_of 256 n ++ rest)) ≡ Ok (n, suc (length (digits_of 256 n)))
again_long place n rest small big =
    let pos : 0 < n = omega (arith, ltb-false n 128 big) in
    let two : 2 ≤ 256 = omega arith in
    let lt : n < 256 ^ 8 = small in
    long_again place n (digits_of 256 n) rest (number_digits_of 256 n two) (first_digits_of 256 n two pos) (length-digits_of-le 256 8 n two lt) big

-- the least octets of a length are read again
pub length_again : (place n : ℕ) (rest : List ℕ) → n < 18446744073709551616 → length_at place (length_octets n ++ rest) ≡ Ok (n, length (length_octets n))
length_again place n rest small =
    elim (cases_Bool (ltb n 128)) [
      | inl h ↦ simp h
      | inr h ↦ simp h (again_long place n rest small h)
    ]

-- A value was read: its octets stand in front of what is left.
pub record IsItem (f : ℕ → Bool) (p : Spot) (bytes : List ℕ) (i : Item) : Type 0 where
  pub is_allowed : f i.tag ≡ true
  pub low_tag : eqb (i.tag % 32) 31 ≡ false
  pub levels : p.levels ≡ i.inside.levels + 1
  pub octets : bytes ≡ tlv i.tag i.inside.rest ++ i.after.rest
  pub small : length i.inside.rest < 18446744073709551616
  pub inside_place : i.inside.place ≡ p.place + (1 + length (length_octets (length i.inside.rest)))
  pub after_levels : i.after.levels ≡ p.levels
  pub after_place : i.after.place ≡ p.place + length (tlv i.tag i.inside.rest)
  pub inside_fits : IsBytes i.inside.rest
  pub after_fits : IsBytes i.after.rest

-- a value was read, once its length was
sized_takes : (f : ℕ → Bool) (p : Spot) (tag : ℕ) (more : List ℕ) (n : ℕ × ℕ) (i : Item) → f tag ≡ true → eqb (tag % 32) 31 ≡ false → IsBytes more → IsLength more n
    → sized_at p tag more n ≡ Ok i → IsItem f p (tag ∷ more) i
sized_takes f p tag more n i ok low bytes len e =
    let g2 = passed (ltb (length more) (n.1 + n.0)) _ _ i e in
    let g3 = passed (eqb p.levels 0) _ _ i g2.1 in
    let have : n.1 + n.0 ≤ length more = ltb-false _ _ g2.0 in
    let some : p.levels ≢ 0 = eqb-false _ _ g3.0 in
    let tail : List ℕ = drop n.1 more in
    let c : List ℕ = take n.0 tail in
    let after : List ℕ = drop (n.1 + n.0) more in
    let clen : length c ≡ n.0 = omega (arith, length-take n.0 tail, length-drop n.1 more) in
    let hlen : length (length_octets (length c)) ≡ n.1 = ap (λ (m : ℕ). length (length_octets m)) clen ∙ ap length (sym len.octets) ∙ omega (arith, length-take n.1 more) in
    let back : drop n.0 tail ≡ after = drop-drop n.0 n.1 more in
    let split : more ≡ length_octets (length c) ++ (c ++ after) =
    sym (take-append-drop n.1 more) ∙ ap (λ (xs : List ℕ). xs ++ tail) (len.octets ∙ ap length_octets (sym clen))
    ∙ ap (λ (xs : List ℕ). length_octets (length c) ++ xs) (sym (take-append-drop n.0 tail) ∙ ap (λ (xs : List ℕ). c ++ xs) back) in
    let whole : tag ∷ more ≡ tlv tag c ++ after = ap (λ (xs : List ℕ). tag ∷ xs) (split ∙ sym (append_assoc (length_octets (length c)) c after)) in
    let made : Item = record {
      tag = tag;
      inside = record { levels = p.levels - 1; place = p.place + (1 + n.1); rest = c };
      after = record { levels = p.levels; place = p.place + (1 + n.1 + n.0); rest = after };
    } in
    let r : IsItem f p (tag ∷ more) made = record {
      is_allowed = ok;
      low_tag = low;
      levels = omega arith;
      octets = whole;
      small = omega (arith, len.small);
      inside_place = omega arith;
      after_levels = refl;
      after_place = omega (arith, length-append (length_octets (length c)) c);
      inside_fits = IsBytes-take n.0 tail (IsBytes-drop n.1 more bytes);
      after_fits = IsBytes-drop (n.1 + n.0) more bytes;
    } in
    subst (IsItem f p (tag ∷ more)) (ok_is made i g3.1) r

-- a value was read from these octets
tagged_takes : (f : ℕ → Bool) (p : Spot) (bytes : List ℕ) (i : Item) → IsBytes bytes → tagged_at f p bytes ≡ Ok i → IsItem f p bytes i
tagged_takes f p [] i fits e = absurd cc
tagged_takes f p (tag ∷ more) i fits e =
    let g1 = passed (not (f tag) || eqb (tag % 32) 31) _ (sizes_at p tag more) i e in
    let t1 = or_parts (not (f tag)) (eqb (tag % 32) 31) g1.0 in
    let b = bind_ok (length_at p.place more) (λ n. sized_at p tag more n) i g1.1 in
    let bytes = IsBytes-rest tag more fits in
    sized_takes f p tag more b.0 i (not-false (f tag) t1.0) t1.1 bytes (length_takes p.place more b.0 bytes b.1) b.2

-- a value was read at a spot
pub item_takes : (f : ℕ → Bool) (p : Spot) (i : Item) → IsBytes p.rest → item_at f p ≡ Ok i → IsItem f p p.rest i
unfolding item_at
item_takes f p i fits e = tagged_takes f p p.rest i fits e

-- one less than one more
sub-one' : (n : ℕ) → suc n - 1 ≡ n
sub-one' n = omega arith

-- the spot with these levels, place and octets
abbrev pub at : ℕ → ℕ → List ℕ → Spot
at levels place rest = record { levels = levels; place = place; rest = rest }

-- a value is read, once its length is
sizes_again : (levels place tag : ℕ) (all h c rest : List ℕ) → length_at place (h ++ (c ++ rest)) ≡ Ok (length c, length h)
    → sizes_at (at (suc levels) place all) tag (h ++ (c ++ rest))
    ≡ Ok (record { tag = tag; inside = at levels (place + (1 + length h)) c; after = at (suc levels) (place + (1 + length h + length c)) rest })
sizes_again levels place tag all h c rest e =
    let t1 : ltb (length (h ++ (c ++ rest))) (length h + length c) ≡ false = le-ltb _ _ (omega (arith, length-append h (c ++ rest), length-append c rest)) in
    let tail : drop (length h) (h ++ (c ++ rest)) ≡ c ++ rest = drop_at h (c ++ rest) (length h) refl in
    let back : drop (length h + length c) (h ++ (c ++ rest)) ≡ rest = sym (drop-drop (length c) (length h) (h ++ (c ++ rest))) ∙ ap (drop (length c)) tail ∙ drop_at c rest (length c) refl in
    let front : take (length c) (c ++ rest) ≡ c = take_at c rest (length c) refl in
    let t0 : eqb (suc levels) 0 ≡ false = ne_eqb (suc levels) 0 (λ (z : suc levels ≡ 0). omega arith) in
    let made : ℕ → Result Item Der = λ l. Ok (record { tag = tag; inside = at l (place + (1 + length h)) c; after = at (suc levels) (place + (1 + length h + length c)) rest }) in
    rw (e, t1, t0, back, tail, front) (ap made (sub-one' levels))

-- a value that is spelled is read, whatever follows
pub item_again : (f : ℕ → Bool) (levels place tag : ℕ) (c rest : List ℕ) → f tag ≡ true → eqb (tag % 32) 31 ≡ false → length c < 18446744073709551616
    → item_at f (at (suc levels) place (tlv tag c ++ rest))
    ≡ Ok (record { tag = tag; inside = at levels (place + (1 + length (length_octets (length c)))) c; after = at (suc levels) (place + length (tlv tag c)) rest })
unfolding item_at
item_again f levels place tag c rest ok low small =
    let h : List ℕ = length_octets (length c) in
    let all : List ℕ = tlv tag c ++ rest in
    let regrouped : (h ++ c) ++ rest ≡ h ++ (c ++ rest) = append_assoc h c rest in
    let read : length_at place (h ++ (c ++ rest)) ≡ Ok (length c, length h) = length_again place (length c) (c ++ rest) small in
    let one = sizes_again levels place tag all h c rest read in
    let size : 1 + length h + length c ≡ length (tlv tag c) = omega (arith, length-append h c) in
    let step : tagged_at f (at (suc levels) place all) (tag ∷ ((h ++ c) ++ rest)) ≡ sizes_at (at (suc levels) place all) tag ((h ++ c) ++ rest) = rw (ok, low) refl in
    step ∙ ap (sizes_at (at (suc levels) place all) tag) regrouped ∙ one
    ∙ ap (λ (n : ℕ). Ok (record { tag = tag; inside = at levels (place + (1 + length h)) c; after = at (suc levels) (place + n) rest })) size
