-- Arcs in decimal, and reading them octet by octet.
use Rattle.std.proofs.Common.{◌≡◌, ◌≢◌, ℕ, zero, suc, ◌+◌, ◌-◌, ◌*◌, ◌/◌, ◌%◌, ◌<◌, ◌≤◌, ◌&&◌, inl, inr, true, false, List, [], ◌∷◌, ◌++◌, length, map, take, drop, Option, Some, None, refl, sym, ap, subst, ◌∙◌, arith, get_or, eqb, leb, ltb, append_assoc}
use Rattle.std.proofs.lemmas.Bool.{and_parts, and_from, le-leb, leb-true, ltb-true, ltb-false, eqb-true, eqb-false, ne_eqb, cases_Bool}
use Rattle.std.proofs.lemmas.List.{append-nil, map-append, take-append-drop, take_more}
use Rattle.std.proofs.lemmas.List.Folds.{list_all-append}
use Rattle.std.proofs.lemmas.Grind.{flat_map-append}
use Rattle.std.proofs.lemmas.Int.Digits.{digits_of_step}
use Rattle.std.specs.List.{flat_map, list_all}
use Rattle.std.specs.Int.Digits.{digits_of}
use Rattle.std.specs.Prelude.{is_some}
use Rattle.dv_names.specs.declared.dotted.Turn.{Turn}
use Rattle.dv_names.specs.declared.dotted.Turn.TheVariants.{First, Second, Later}
use Rattle.dv_names.specs.declared.dotted.Point.{Point}
use Rattle.dv_names.specs.Arcs.{arc_text, dotted, largest_arc, second_limit, are_good, IsGood, Begins}
use Rattle.dv_names.specs.Points.{limit_of, turn_after, grown_of, next_from, next_of, ends_turn, ends_of}

-- ---- one arc in decimal

-- a digit alone
some_small : (d : ℕ) → 0 < d → d < 10 → arc_text d ≡ (48 + d) ∷ []
some_small d pos lt =
    let none : d / 10 ≡ 0 = omega (arith, lt) in
    let same : d % 10 ≡ d = omega (arith, lt) in
    let step : digits_of 10 d ≡ digits_of 10 (d / 10) ++ d % 10 ∷ [] = digits_of_step 10 d (omega arith) pos in
    let alone : digits_of 10 d ≡ d ∷ [] = step ∙ ap (λ (n : ℕ). digits_of 10 n ++ d % 10 ∷ []) none ∙ ap (λ (n : ℕ). n ∷ []) same in
    let some : eqb d 0 ≡ false = ne_eqb d 0 (λ (z : d ≡ 0). omega (arith, z, pos)) in
    rw some (ap (map (λ d. 48 + d)) alone)

pub arc_small : (d : ℕ) → d < 10 → arc_text d ≡ (48 + d) ∷ []
arc_small zero lt = refl
arc_small (suc k) lt = some_small (suc k) (omega arith) lt

-- a digit more
pub arc_grown : (n d : ℕ) → 0 < n → d < 10 → arc_text (n * 10 + d) ≡ arc_text n ++ (48 + d) ∷ []
arc_grown n d pos lt =
    let m : ℕ = n * 10 + d in
    let front : m / 10 ≡ n = omega (arith, lt) in
    let last : m % 10 ≡ d = omega (arith, lt) in
    let step : digits_of 10 m ≡ digits_of 10 (m / 10) ++ m % 10 ∷ [] = digits_of_step 10 m (omega arith) (omega (arith, pos)) in
    let whole : digits_of 10 m ≡ digits_of 10 n ++ d ∷ [] = step ∙ ap (λ (k : ℕ). digits_of 10 k ++ m % 10 ∷ []) front ∙ ap (λ (k : ℕ). digits_of 10 n ++ k ∷ []) last in
    let more : eqb m 0 ≡ false = ne_eqb m 0 (λ (z : m ≡ 0). omega (arith, z, pos)) in
    let some : eqb n 0 ≡ false = ne_eqb n 0 (λ (z : n ≡ 0). omega (arith, z, pos)) in
    rw (more, some) (ap (map (λ d. 48 + d)) whole ∙ map-append (λ d. 48 + d) (digits_of 10 n) (d ∷ []))

-- ---- whole arcs, and the digits of the next one

-- whole arcs, each with its dot
abbrev pub begun : List ℕ → List ℕ
begun done = flat_map (λ a. arc_text a ++ 46 ∷ []) done

-- the digits of the next one
abbrev pub number_text : Option ℕ → List ℕ
number_text None = []
number_text (Some n) = arc_text n

-- which arc is next
abbrev pub turn_of : List ℕ → Turn
turn_of [] = First
turn_of (a ∷ []) = Second a
turn_of (a ∷ b ∷ cs) = Later

-- none is past its limit
abbrev pub AreWithin : List ℕ → Type 0
AreWithin [] = Unit {0}
AreWithin (a ∷ []) = a ≤ 2
AreWithin (a ∷ b ∷ cs) = (a ≤ 2) × (b ≤ second_limit a) × (list_all (λ c. leb c largest_arc) cs ≡ true)

abbrev pub IsWithin : Turn → Option ℕ → Type 0
IsWithin turn None = Unit {0}
IsWithin turn (Some n) = n ≤ limit_of turn

-- the arc after the next one
turn_more : (done : List ℕ) (n : ℕ) → turn_of (done ++ n ∷ []) ≡ turn_after (turn_of done) n
turn_more [] n = refl
turn_more (a ∷ []) n = refl
turn_more (a ∷ b ∷ cs) n = refl

within_more : (done : List ℕ) (n : ℕ) → AreWithin done → n ≤ limit_of (turn_of done) → AreWithin (done ++ n ∷ [])
within_more [] n h le = le
within_more (a ∷ []) n h le = (h, le, refl)
within_more (a ∷ b ∷ cs) n h le =
    (h.0, h.1, list_all-append (λ c. leb c largest_arc) cs (n ∷ []) ∙ and_from _ _ h.2 (and_from (leb n largest_arc) true (le-leb n largest_arc le) refl))

begun_more : (done : List ℕ) (n : ℕ) → begun (done ++ n ∷ []) ≡ begun done ++ (arc_text n ++ 46 ∷ [])
begun_more done n = flat_map-append (λ a. arc_text a ++ 46 ∷ []) done (n ∷ []) ∙ ap (λ (l : List ℕ). begun done ++ l) (append-nil (arc_text n ++ 46 ∷ []))

-- where reading stands: so many arcs are whole, and the text is theirs and the digits
pub record IsAt (turn : Turn) (number : Option ℕ) (done : List ℕ) (text : List ℕ) : Type 0 where
  pub turn_is : turn ≡ turn_of done
  pub arcs : AreWithin done
  pub digits : IsWithin turn number
  pub text_is : text ≡ begun done ++ number_text number

-- what a digit leaves
grown_is : (p q : Point) (n c : ℕ) → grown_of p n c ≡ Some q → (48 ≤ c) × (c ≤ 57) × (n * 10 + (c - 48) ≤ limit_of p.turn) × (q ≡ record { turn = p.turn; number = Some (n * 10 + (c - 48)) })
grown_is p q n c e =
    elim (cases_Bool ((leb 48 c && leb c 57) && leb (n * 10 + (c - 48)) (limit_of p.turn))) [
      | inl t ↦
          let a = and_parts _ _ t in
          let b = and_parts _ _ a.0 in
          let same : Some (record { turn = p.turn; number = Some (n * 10 + (c - 48)) }) ≡ Some q = rw t at e in
          (leb-true 48 c b.0, leb-true c 57 b.1, leb-true (n * 10 + (c - 48)) (limit_of p.turn) a.1, cc)
      | inr f ↦ let none = rw f at e in absurd cc
    ]

-- reading goes on
pub at_next : (turn : Turn) (number : Option ℕ) (done text : List ℕ) (c : ℕ) (q : Point) → IsAt turn number done text → next_from (record { turn = turn; number = number }) number c ≡ Some q → (more : List ℕ) × IsAt q.turn q.number more (text ++ c ∷ [])
at_next turn None done text c q h e =
    let g = grown_is (record { turn = turn; number = None }) q 0 c e in
    let digit : 48 + (0 * 10 + (c - 48)) ≡ c = omega (arith, g.0) in
    let shown : arc_text (0 * 10 + (c - 48)) ≡ c ∷ [] = arc_small (0 * 10 + (c - 48)) (omega (arith, g.0, g.1)) ∙ ap (λ (k : ℕ). k ∷ []) digit in
    let here : IsAt turn (Some (0 * 10 + (c - 48))) done (text ++ c ∷ []) = record {
      turn_is = h.turn_is;
      arcs = h.arcs;
      digits = g.2;
      text_is = ap (λ (l : List ℕ). l ++ c ∷ []) (h.text_is ∙ append-nil (begun done)) ∙ ap (λ (l : List ℕ). begun done ++ l) (sym shown);
    } in
    (done, subst (λ (r : Point). IsAt r.turn r.number done (text ++ c ∷ [])) (sym g.3) here)
at_next turn (Some n) done text c q h e =
    elim (cases_Bool (eqb c 46)) [
      | inl t ↦
          let dot : c ≡ 46 = eqb-true c 46 t in
          let same : Some (record { turn = turn_after turn n; number = None }) ≡ Some q = rw t at e in
          let is_q : q ≡ record { turn = turn_after turn n; number = None } = cc in
          let turn_is : turn_after turn n ≡ turn_of (done ++ n ∷ []) = ap (λ (r : Turn). turn_after r n) h.turn_is ∙ sym (turn_more done n) in
          let le : n ≤ limit_of (turn_of done) = subst (λ (r : Turn). n ≤ limit_of r) h.turn_is h.digits in
          let here : IsAt (turn_after turn n) None (done ++ n ∷ []) (text ++ c ∷ []) = record {
            turn_is = turn_is;
            arcs = within_more done n h.arcs le;
            digits = tt;
            text_is = ap (λ (k : ℕ). text ++ k ∷ []) dot ∙ ap (λ (l : List ℕ). l ++ 46 ∷ []) h.text_is ∙ append_assoc (begun done) (arc_text n) (46 ∷ [])
                ∙ sym (begun_more done n) ∙ sym (append-nil (begun (done ++ n ∷ [])));
          } in
          (done ++ n ∷ [], subst (λ (r : Point). IsAt r.turn r.number (done ++ n ∷ []) (text ++ c ∷ [])) (sym is_q) here)
      | inr f ↦ elim (cases_Bool (eqb n 0)) [
        | inl z ↦ let none = rw (f, z) at e in absurd cc
        | inr s ↦
            let some : n ≢ 0 = eqb-false n 0 s in
            let g = grown_is (record { turn = turn; number = Some n }) q n c (rw (f, s) at e) in
            let digit : 48 + (c - 48) ≡ c = omega (arith, g.0) in
            let shown : arc_text (n * 10 + (c - 48)) ≡ arc_text n ++ c ∷ [] = arc_grown n (c - 48) (omega (arith, some)) (omega (arith, g.0, g.1)) ∙ ap (λ (k : ℕ). arc_text n ++ k ∷ []) digit in
            let here : IsAt turn (Some (n * 10 + (c - 48))) done (text ++ c ∷ []) = record {
              turn_is = h.turn_is;
              arcs = h.arcs;
              digits = g.2;
              text_is = ap (λ (l : List ℕ). l ++ c ∷ []) h.text_is ∙ append_assoc (begun done) (arc_text n) (c ∷ []) ∙ ap (λ (l : List ℕ). begun done ++ l) (sym shown);
            } in
            (done, subst (λ (r : Point). IsAt r.turn r.number done (text ++ c ∷ [])) (sym g.3) here)
      ]
    ]

-- ---- good texts

-- arcs and one more in decimal
dots_moved : (more : List ℕ) (n : ℕ) → flat_map (λ b. 46 ∷ arc_text b) (more ++ n ∷ []) ≡ 46 ∷ (begun more ++ arc_text n)
dots_moved [] n = append-nil (46 ∷ arc_text n)
dots_moved (b ∷ bs) n =
    ap (λ (l : List ℕ). 46 ∷ (arc_text b ++ l)) (dots_moved bs n)
    ∙ ap (λ (l : List ℕ). 46 ∷ l) (sym (append_assoc (arc_text b) (46 ∷ []) (begun bs ++ arc_text n)) ∙ sym (append_assoc (arc_text b ++ 46 ∷ []) (begun bs) (arc_text n)))

pub dotted_more : (a : ℕ) (more : List ℕ) (n : ℕ) → dotted (a ∷ more ++ n ∷ []) ≡ begun (a ∷ more) ++ arc_text n
dotted_more a more n =
    ap (λ (l : List ℕ). arc_text a ++ l) (dots_moved more n)
    ∙ sym (append_assoc (arc_text a) (46 ∷ []) (begun more ++ arc_text n)) ∙ sym (append_assoc (arc_text a ++ 46 ∷ []) (begun more) (arc_text n))

-- whole arcs, at least one, and one more
good_more : (a : ℕ) (more : List ℕ) (n : ℕ) → AreWithin (a ∷ more) → n ≤ limit_of (turn_of (a ∷ more)) → are_good (a ∷ more ++ n ∷ []) ≡ true
good_more a [] n h le = and_from _ _ (and_from _ _ (le-leb a 2 h) (le-leb n (second_limit a) le)) refl
good_more a (b ∷ cs) n h le =
    let g = within_more (a ∷ b ∷ cs) n h le in
    and_from _ _ (and_from _ _ (le-leb a 2 g.0) (le-leb b (second_limit a) g.1)) g.2

-- so reading stands at the end of a good text
pub good_at : (turn : Turn) (n : ℕ) (a : ℕ) (more text : List ℕ) → IsAt turn (Some n) (a ∷ more) text → IsGood text
good_at turn n a more text h =
    (a ∷ more ++ n ∷ [], good_more a more n h.arcs (subst (λ (r : Turn). n ≤ limit_of r) h.turn_is h.digits), dotted_more a more n ∙ sym h.text_is)

-- what is read so far may be the front of a good text
pub begins_at : (turn : Turn) (number : Option ℕ) (done text : List ℕ) → IsAt turn number done text → Begins text
begins_at turn None [] text h =
    (48 ∷ 46 ∷ 48 ∷ [], (0 ∷ 0 ∷ [], refl, ap (λ (l : List ℕ). l ++ 48 ∷ 46 ∷ 48 ∷ []) (sym h.text_is)))
begins_at turn (Some n) [] text h =
    let le : n ≤ 2 = subst (λ (r : Turn). n ≤ limit_of r) h.turn_is h.digits in
    let text_is : text ≡ arc_text n = h.text_is in
    (46 ∷ 48 ∷ [], (n ∷ 0 ∷ [], and_from _ _ (and_from _ _ (le-leb n 2 le) (le-leb 0 (second_limit n) (omega arith))) refl, ap (λ (l : List ℕ). l ++ 46 ∷ 48 ∷ []) (sym text_is)))
begins_at turn None (a ∷ more) text h =
    (48 ∷ [], (a ∷ more ++ 0 ∷ [], good_more a more 0 h.arcs (omega arith), dotted_more a more 0 ∙ ap (λ (l : List ℕ). l ++ 48 ∷ []) (sym (h.text_is ∙ append-nil (begun (a ∷ more))))))
begins_at turn (Some n) (a ∷ more) text h =
    let good = good_at turn n a more text h in
    ([], subst IsGood (sym (append-nil text)) good)

-- ---- reading the whole of a text

-- goes on where there is a point
abbrev pub bind : Option Point → (Point → Option Point) → Option Point
bind None f = None
bind (Some p) f = f p

-- where reading these octets leads
abbrev pub run : List ℕ → Point → Option Point
run [] p = Some p
run (c ∷ cs) p = bind (next_of p c) (run cs)

-- the front
abbrev pub start : Point
start = record { turn = First; number = None }

-- one part behind another
pub run_append : (xs ys : List ℕ) (p : Point) → run (xs ++ ys) p ≡ bind (run xs p) (run ys)
run_append [] ys p = refl
run_append (c ∷ cs) ys p = go (next_of p c) (run_append cs ys)
  where
    go : (o : Option Point) → ((q : Point) → run (cs ++ ys) q ≡ bind (run cs q) (run ys)) → bind o (run (cs ++ ys)) ≡ bind (bind o (run cs)) (run ys)
    go None rest = refl
    go (Some q) rest = rest q

-- a digit that keeps the limit
grown_ok : (turn : Turn) (number : Option ℕ) (n d : ℕ) → d < 10 → n * 10 + d ≤ limit_of turn → grown_of (record { turn = turn; number = number }) n (48 + d) ≡ Some (record { turn = turn; number = Some (n * 10 + d) })
grown_ok turn number n d lt le =
    let back : 48 + d - 48 ≡ d = omega arith in
    let digit : (leb 48 (48 + d) && leb (48 + d) 57) ≡ true = and_from (leb 48 (48 + d)) (leb (48 + d) 57) (le-leb 48 (48 + d) (omega arith)) (le-leb (48 + d) 57 (omega (arith, lt))) in
    let small : leb (n * 10 + d) (limit_of turn) ≡ true = le-leb (n * 10 + d) (limit_of turn) le in
    let both : ((leb 48 (48 + d) && leb (48 + d) 57) && leb (n * 10 + (48 + d - 48)) (limit_of turn)) ≡ true = and_from _ _ digit (ap (λ (k : ℕ). leb (n * 10 + k) (limit_of turn)) back ∙ small) in
    rw both (ap (λ (k : ℕ). Some (record { turn = turn; number = Some (n * 10 + k) })) back)

-- the digits of an arc
digits_run : (fuel n : ℕ) (turn : Turn) → n ≤ fuel → 0 < n → n ≤ limit_of turn → run (map (λ d. 48 + d) (digits_of 10 n)) (record { turn = turn; number = None }) ≡ Some (record { turn = turn; number = Some n })
digits_run zero n turn le pos lim = absurd (omega (arith, le, pos))
digits_run (suc fuel) n turn le pos lim =
    let step : digits_of 10 n ≡ digits_of 10 (n / 10) ++ n % 10 ∷ [] = digits_of_step 10 n (omega arith) pos in
    let split : map (λ d. 48 + d) (digits_of 10 n) ≡ map (λ d. 48 + d) (digits_of 10 (n / 10)) ++ (48 + n % 10) ∷ [] = ap (map (λ d. 48 + d)) step ∙ map-append (λ d. 48 + d) (digits_of 10 (n / 10)) (n % 10 ∷ []) in
    let p : Point = record { turn = turn; number = None } in
    ap (λ (l : List ℕ). run l p) split ∙ run_append (map (λ d. 48 + d) (digits_of 10 (n / 10))) ((48 + n % 10) ∷ []) p
    ∙ elim (cases_Bool (ltb 0 (n / 10))) [
      | inl t ↦
          let some : 0 < n / 10 = ltb-true _ _ t in
          let before = digits_run fuel (n / 10) turn (omega (arith, le)) some (omega (arith, lim)) in
          let whole : n / 10 * 10 + n % 10 ≡ n = omega arith in
          let not_dot : eqb (48 + n % 10) 46 ≡ false = ne_eqb (48 + n % 10) 46 (λ (z : 48 + n % 10 ≡ 46). omega (arith, z)) in
          let not_zero : eqb (n / 10) 0 ≡ false = ne_eqb (n / 10) 0 (λ (z : n / 10 ≡ 0). omega (arith, z, some)) in
          let last = grown_ok turn (Some (n / 10)) (n / 10) (n % 10) (omega arith) (omega (arith, whole, lim)) in
          rw (before, not_dot, not_zero, last, whole) refl
      | inr f ↦
          let none : n / 10 ≡ 0 = omega (arith, ltb-false _ _ f) in
          let same : 0 * 10 + n % 10 ≡ n = omega (arith, none) in
          let last = grown_ok turn None 0 (n % 10) (omega arith) (omega (arith, same, lim)) in
          rw (none, last, same) refl
    ]

-- an arc within its limit
arc_run : (n : ℕ) (turn : Turn) → n ≤ limit_of turn → run (arc_text n) (record { turn = turn; number = None }) ≡ Some (record { turn = turn; number = Some n })
arc_run n turn lim =
    elim (cases_Bool (eqb n 0)) [
      | inl t ↦
          let z : n ≡ 0 = eqb-true n 0 t in
          let first = grown_ok turn None 0 0 (omega arith) (omega arith) in
          rw (t, first, z) refl
      | inr f ↦ rw f (digits_run n n turn (omega arith) (let ne = eqb-false n 0 f in omega (arith, ne)) lim)
    ]

-- the arcs behind the second one, or behind a later one
more_run : (turn : Turn) (n : ℕ) (more : List ℕ) → ends_turn turn ≡ true → list_all (λ c. leb c largest_arc) more ≡ true → (q : Point) × (run (flat_map (λ b. 46 ∷ arc_text b) more) (record { turn = turn; number = Some n }) ≡ Some q) × (ends_of q ≡ true)
more_run turn n [] e h = (record { turn = turn; number = Some n }, refl, and_from _ _ e refl)
more_run turn n (b ∷ bs) e h =
    let parts = and_parts _ _ h in
    let tail : List ℕ = flat_map (λ b. 46 ∷ arc_text b) bs in
    let later : turn_after turn n ≡ Later = behind turn n e in
    let rest = more_run Later b bs refl parts.1 in
    let here = arc_run b Later (leb-true b largest_arc parts.0) in
    (rest.0, ap (λ (r : Turn). run (arc_text b ++ tail) (record { turn = r; number = None })) later ∙ run_append (arc_text b) tail (record { turn = Later; number = None }) ∙ ap (λ (o : Option Point). bind o (run tail)) here ∙ rest.1, rest.2)
  where
    behind : (turn : Turn) (n : ℕ) → ends_turn turn ≡ true → turn_after turn n ≡ Later
    behind First n e = absurd cc
    behind (Second a) n e = refl
    behind Later n e = refl

-- a good text is read to its end
pub good_run : (text : List ℕ) → IsGood text → (q : Point) × (run text start ≡ Some q) × (ends_of q ≡ true)
good_run text ([], e, same) = absurd cc
good_run text (a ∷ [], e, same) = absurd cc
good_run text (a ∷ b ∷ cs, e, same) =
    let parts = and_parts _ _ e in
    let both = and_parts _ _ parts.0 in
    let tail : List ℕ = flat_map (λ b. 46 ∷ arc_text b) cs in
    let first = arc_run a First (leb-true a 2 both.0) in
    let second = arc_run b (Second a) (leb-true b (second_limit a) both.1) in
    let rest = more_run (Second a) b cs refl parts.1 in
    let whole : run (arc_text a ++ (46 ∷ (arc_text b ++ tail))) start ≡ Some rest.0 =
    run_append (arc_text a) (46 ∷ (arc_text b ++ tail)) start ∙ ap (λ (o : Option Point). bind o (run (46 ∷ (arc_text b ++ tail)))) first
    ∙ run_append (arc_text b) tail (record { turn = Second a; number = None }) ∙ ap (λ (o : Option Point). bind o (run tail)) second ∙ rest.1 in
    (rest.0, ap (λ (l : List ℕ). run l start) (sym same) ∙ whole, rest.2)

-- ---- no good text

-- none goes on with an octet that reading refuses
pub stuck : (front rest : List ℕ) (c : ℕ) (p : Point) → run front start ≡ Some p → next_of p c ≡ None → IsGood (front ++ c ∷ rest) → ⊥
stuck front rest c p ran none good =
    let g = good_run (front ++ c ∷ rest) good in
    let there : run (front ++ c ∷ rest) start ≡ None = run_append front (c ∷ rest) start ∙ ap (λ (o : Option Point). bind o (run (c ∷ rest))) ran ∙ ap (λ (o : Option Point). bind o (run rest)) none in
    let here = g.1 in
    absurd cc

-- none ends where reading can't
pub unended : (text : List ℕ) (p : Point) → run text start ≡ Some p → ends_of p ≡ false → IsGood text → ⊥
unended text p ran ends good =
    let g = good_run text good in
    let here = g.1 in
    let same : p ≡ g.0 = cc in
    let yes : ends_of p ≡ true = ap ends_of same ∙ g.2 in
    absurd cc

-- one octet more
pub run_next : (front : List ℕ) (c : ℕ) (p q : Point) → run front start ≡ Some p → next_of p c ≡ Some q → run (front ++ c ∷ []) start ≡ Some q
run_next front c p q ran e = run_append front (c ∷ []) start ∙ ap (λ (o : Option Point). bind o (run (c ∷ []))) ran ∙ ap (λ (o : Option Point). bind o (run [])) e

-- where reading ends whole, the text is good
pub whole_good : (p : Point) (done text : List ℕ) → IsAt p.turn p.number done text → ends_of p ≡ true → IsGood text
whole_good p done text h e = go p.turn p.number done h (and_parts _ _ e).0 (and_parts _ _ e).1
  where
    go : (turn : Turn) (number : Option ℕ) (done : List ℕ) → IsAt turn number done text → ends_turn turn ≡ true → is_some number ≡ true → IsGood text
    go turn None done h t s = absurd cc
    go turn (Some n) [] h t s = (let ends : ends_turn turn ≡ false = ap ends_turn h.turn_is in absurd cc)
    go turn (Some n) (a ∷ more) h t s = good_at turn n a more text h

-- a text in two, at an octet
pub parted : (text : List ℕ) (i : ℕ) → i < length text → text ≡ take i text ++ get_or text i 0 ∷ drop (i + 1) text
parted text i lt =
    sym (take-append-drop (i + 1) text) ∙ ap (λ (l : List ℕ). l ++ drop (i + 1) text) (take_more text i 0 lt) ∙ append_assoc (take i text) (get_or text i 0 ∷ []) (drop (i + 1) text)
