-- Each step keeps the rule.
use Rattle.std.proofs.Common.{◌≡◌, ◌≢◌, ◌⊎◌, ⊎_elim, inl, inr, ℕ, zero, suc, ◌+◌, ◌-◌, ◌%◌, ◌^◌, ◌<◌, ◌≤◌, ◌==◌, Bool, true, false, true≢false, List, [], ◌∷◌, ◌++◌, length, set, Some, refl, ap, sym, ◌∙◌, subst, arith, append_assoc, length-append}
use Rattle.std.specs.Prelude.{slice_get, slice_index, nat_lt, nat_le, if◌then◌else◌}
use Rattle.std.proofs.lemmas.List.{append-nil}
use Rattle.std.proofs.lemmas.Bool.Decides.{nat_tests}
use mathlib.Core.Option.{some, some-ne-none, some-injective}
use mathlib.Core.List.{IsPrefix}
use lib.ListN.{get_elem?}
use Rattle.atomic_table.specs.Table.{State, Me, Step, step, keeps, Allows, Splits, Joins, opening}
use Rattle.atomic_table.proofs.Lists.{at_set, at_snoc, set_else, set_here}
use Rattle.dv_passes.specs.declared.view.Event.{Event}
use Rattle.dv_passes.specs.declared.view.View.{View}
use Rattle.dv_passes.specs.History.{Fits, Kept, Keeps, StandIn, times, once, events_of, all_shares, total, turn_count, first_view}
use Rattle.dv_passes.specs.Plays.{Looked, Checked, Added, after_share, shared, passed, turn_at, nobody, longer, shorter, merged, met, taken_in}
use Rattle.dv_passes.proofs.Prefixes.{prefix_self, prefix_trans, prefix_shorter, prefix_whole, prefix_length, prefix_get}
use Rattle.dv_passes.proofs.Totals.{total_set, total_snoc, total_one, total_two, total_alone}
use Rattle.dv_passes.proofs.Mines.{stand_prefix, stand_snoc, times-append, times-merged, stand_merged, whole}

off : false ≡ true → ⊥
off e = true≢false (sym e)

none_below : (p n : ℕ) → 0 ≡ once n n p
none_below p n = grind (arith, nat_tests)

-- the table is made
pub begins : (start : List Event) → Keeps start (opening (length start ∷ []) [] (first_view start))
begins start = (
  start,
  record {
    word = refl;
    begins = prefix_self start;
    each = one;
    places = λ p. omega (arith, none_below p (length start));
    shares = refl;
    turns = refl;
  },
)
  where
    one : (by : ℕ) (v : View) → get_elem? (first_view start ∷ []) by ≡ some v → Fits start start v
    one zero v e = subst (Fits start start) (some-injective _ _ e) (record { seen = prefix_self start; told = (start, refl); mine = tt; idle = λ h. absurd (omega arith); turn = λ _. refl })
    one (suc by) v e = absurd (some-ne-none v (sym e))

-- every view still fits where one is changed
each_set : (start log now : List Event) (views : List View) (id : ℕ) (w : View) → ((j : ℕ) (u : View) → j ≢ id → get_elem? views j ≡ some u → Fits start now u) → Fits start now w
    → (j : ℕ) (u : View) → get_elem? (set views id w) j ≡ some u → Fits start now u
each_set start log now views id w others mine j u e =
    ⊎_elim
    (λ (x : (j ≡ id) × (w ≡ u)). subst (Fits start now) x.1 mine)
    (λ (x : (j ≢ id) × (get_elem? views j ≡ some u)). others j u x.0 x.1)
    (at_set views id j w u e)

-- what all passes' shares say of one view
pub alone : (start log : List Event) (words : List ℕ) (views : List View) (id : ℕ) (v : View) → Kept start log words views → get_elem? views id ≡ some v → v.share ≡ all_shares → log ≡ start ++ events_of v.mine
alone start log words views id v k at all =
    let fits = k.each id v at in
    let only : (p : ℕ) → total (λ (u : View). times p u.mine) views ≡ times p v.mine = λ p. total_alone (λ (u : View). times p u.mine) (λ (u : View). u.share) views id v at (k.shares ∙ sym all)
    (λ j u e none. ap (times p) ((k.each j u e).idle none)) in
    let stand : StandIn log (length start) v.mine = stand_prefix v.seen log (length start) v.mine fits.seen fits.mine in
    let rest = k.begins.0 in
    let same = whole rest start log (length start) v.mine (sym k.begins.1) refl stand (λ p. sym (only p) ∙ k.places p) in
    sym k.begins.1 ∙ ap (λ (l : List Event). start ++ l) same

-- a view changes, and no number of the rule does
stays : (start log : List Event) (words : List ℕ) (views : List View) (id : ℕ) (v w : View) → Kept start log words views → get_elem? views id ≡ some v → Fits start log w → w.mine ≡ v.mine → w.share ≡ v.share → w.turn ≡ v.turn
    → Kept start log words (set views id w)
stays start log words views id v w k at fits mine share turn = record {
  word = k.word;
  begins = k.begins;
  each = each_set start log log views id w (λ j u _ e. k.each j u e) fits;
  places = λ p. let s = total_set (λ (u : View). times p u.mine) views id v w at in let same : times p w.mine ≡ times p v.mine = ap (times p) mine in omega (arith, k.places p);
  shares = let s = total_set (λ (u : View). u.share) views id v w at in omega (arith, k.shares);
  turns = let s = total_set turn_count views id v w at in let same : turn_count w ≡ turn_count v = ap (λ (b : Bool). if b then 1 else 0) turn in omega (arith, k.turns);
}

-- a load lets the whole history be seen
pub looks : (start : List Event) (slots id : ℕ) (v : View) (out : List (ℕ × Unit {0})) → Allows (Keeps start) slots id (v, out) 0 (λ n. n) (λ found me. (me.1 ≡ out) × Looked start v found me.0)
looks start slots id v out s holds homes at small =
    let log = holds.0 in
    let k = holds.1 in
    let fits = k.each id v at in
    let w : View = record { seen = log; told = []; mine = v.mine; share = v.share; turn = v.turn } in
    let fits' : Fits start log w = record { seen = prefix_self log; told = (log, refl); mine = stand_prefix v.seen log (length start) v.mine fits.seen fits.mine; idle = fits.idle; turn = λ _. refl } in
    let found : slice_index s.words 0 ≡ length log = ap (λ (ws : List ℕ). slice_index ws 0) k.word in
    let words : set s.words 0 (slice_index s.words 0) ≡ s.words = ap (λ (ws : List ℕ). set ws 0 (slice_index ws 0)) k.word ∙ sym k.word in (
      w,
      keeps,
      tt,
      (log, subst (λ (ws : List ℕ). Kept start log ws (set s.views id w)) (sym words) (stays start log s.words s.views id v w k at fits' refl refl refl)),
      (
        refl,
        record {
          is = refl;
          seen = fits.seen;
          told = fits.told;
          count = sym found;
          stand = fits'.mine;
          turn = λ h. sym (fits.turn h);
          alone = λ h. alone start log s.words s.views id v k at h;
        },
      ),
    )

-- a load compares what was seen with what was told
pub checks : (start : List Event) (slots id : ℕ) (v : View) (out : List (ℕ × Unit {0})) → Allows (Keeps start) slots id (v, out) 0 (λ n. n) (λ found me. (me.1 ≡ out) × Checked start v me.0)
checks start slots id v out s holds homes at small =
    let log = holds.0 in
    let k = holds.1 in
    let fits = k.each id v at in
    let w : View = record { seen = v.seen; told = []; mine = v.mine; share = v.share; turn = v.turn } in
    let fits' : Fits start log w = record { seen = fits.seen; told = (log, refl); mine = fits.mine; idle = fits.idle; turn = fits.turn } in
    let words : set s.words 0 (slice_index s.words 0) ≡ s.words = ap (λ (ws : List ℕ). set ws 0 (slice_index ws 0)) k.word ∙ sym k.word in (
      w,
      keeps,
      tt,
      (log, subst (λ (ws : List ℕ). Kept start log ws (set s.views id w)) (sym words) (stays start log s.words s.views id v w k at fits' refl refl refl)),
      (refl, record { is = refl; told = λ le. prefix_shorter v.told v.seen log fits.told fits.seen le; stand = fits.mine }),
    )

-- an addition by the view that has the turn
pub adds : (start : List Event) (slots id : ℕ) (v : View) (out : List (ℕ × Unit {0})) (e : Event) → v.turn ≡ true → 0 < v.share → length v.seen + 1 < 2 ^ 64
    → Allows (Keeps start) slots id (v, out) 0 (λ n. (n + 1) % 2 ^ 64) (λ found me. (me.1 ≡ out) × Added e v found me.0)
adds start slots id v out e turn share room s holds homes at small =
    let log = holds.0 in
    let k = holds.1 in
    let fits = k.each id v at in
    let seen : v.seen ≡ log = fits.turn turn in
    let more : List Event = log ++ e ∷ [] in
    let place : length v.seen ≡ length log = ap length seen in
    let longer_by : length more ≡ length log + 1 = length-append log (e ∷ []) in
    let w : View = record { seen = v.seen ++ e ∷ []; told = v.told; mine = v.mine ++ (length v.seen, e) ∷ []; share = v.share; turn = v.turn } in
    let same : v.seen ++ e ∷ [] ≡ more = ap (λ (l : List Event). l ++ e ∷ []) seen in
    let onto : IsPrefix log more = (e ∷ [], refl) in
    let first : length start ≤ length log = prefix_length start log k.begins in
    let fits' : Fits start more w = record {
      seen = ([], append-nil (v.seen ++ e ∷ []) ∙ same);
      told = prefix_trans v.told log more fits.told onto;
      mine = stand_snoc v.seen (length start) v.mine e (omega arith) fits.mine;
      idle = λ h. absurd (omega arith);
      turn = λ _. same;
    } in
    let others : (j : ℕ) (u : View) → j ≢ id → get_elem? s.views j ≡ some u → Fits start more u = λ j u apart there.
    let f = k.each j u there in
    let both : turn_count v + turn_count u ≤ total turn_count s.views = total_two turn_count s.views id j v u (λ h. apart (sym h)) at there in
    let here : turn_count v ≡ 1 = ap (λ (b : Bool). if b then 1 else 0) turn in
    record {
      seen = prefix_trans u.seen log more f.seen onto;
      told = prefix_trans u.told log more f.told onto;
      mine = f.mine;
      idle = f.idle;
      turn = λ t. let there : turn_count u ≡ 1 = ap (λ (b : Bool). if b then 1 else 0) t in absurd (omega (arith, k.turns));
    } in
    let found : slice_index s.words 0 ≡ length log = ap (λ (ws : List ℕ). slice_index ws 0) k.word in
    let next : (slice_index s.words 0 + 1) % 2 ^ 64 ≡ length more = omega arith in
    let words : set s.words 0 ((slice_index s.words 0 + 1) % 2 ^ 64) ≡ length more ∷ [] = ap (λ (ws : List ℕ). set ws 0 ((slice_index s.words 0 + 1) % 2 ^ 64)) k.word ∙ ap (λ (n : ℕ). n ∷ []) next in (
      w,
      keeps,
      tt,
      (
        more,
        record {
          word = words;
          begins = prefix_trans start log more k.begins onto;
          each = each_set start log more s.views id w others fits';
          places = λ p.
              let t = total_set (λ (u : View). times p u.mine) s.views id v w at in
              let a = times-append p v.mine ((length v.seen, e) ∷ []) in
              let o = one_more (length start) (length log) p first in
              let c : times p ((length v.seen, e) ∷ []) ≡ times p ((length log, e) ∷ []) = ap (λ (n : ℕ). times p ((n, e) ∷ [])) place in
              let q = ap (λ (n : ℕ). once (length start) n p) longer_by in
              omega (arith, k.places p);
          shares = let t = total_set (λ (u : View). u.share) s.views id v w at in omega (arith, k.shares);
          turns = let t = total_set turn_count s.views id v w at in omega (arith, k.turns);
        },
      ),
      (refl, record { is = refl; count = found ∙ sym place }),
    )
  where
    one_more : (from n p : ℕ) → from ≤ n → once from (n + 1) p ≡ once from n p + (if n == p then 1 else 0)
    one_more from n p le = grind (arith, nat_tests)

-- A view is cut in two. The two fit, and have together what the one had
cut : (start : List Event) (id : ℕ) (v left right : View) → ((log : List Event) → Fits start log v → Fits start log left × Fits start log right)
    → ((p : ℕ) → times p left.mine + times p right.mine ≡ times p v.mine) → left.share + right.share ≡ v.share → turn_count left + turn_count right ≡ turn_count v
    → Splits (Keeps start) id v left right
cut start id v left right fit mine share turn s holds at =
    let log = holds.0 in
    let k = holds.1 in
    let fits = fit log (k.each id v at) in (
      log,
      record {
        word = k.word;
        begins = k.begins;
        each = λ j u e. ⊎_elim
            (λ was. each_set start log log s.views id left (λ i y _ d. k.each i y d) fits.0 j u was)
            (λ (same : right ≡ u). subst (Fits start log) same fits.1)
            (at_snoc (set s.views id left) right u j e);
        places = λ p.
            let t = total_set (λ (u : View). times p u.mine) s.views id v left at in
            let n = total_snoc (λ (u : View). times p u.mine) (set s.views id left) right in
            let m = mine p in
            omega (arith, k.places p);
        shares = let t = total_set (λ (u : View). u.share) s.views id v left at in let n = total_snoc (λ (u : View). u.share) (set s.views id left) right in omega (arith, k.shares);
        turns = let t = total_set turn_count s.views id v left at in let n = total_snoc turn_count (set s.views id left) right in omega (arith, k.turns);
      },
    )

pub gives_share : (start : List Event) (id : ℕ) (v : View) → 2 ≤ v.share → Splits (Keeps start) id v (after_share v) (shared v)
gives_share start id v two = cut start id v (after_share v) (shared v)
    (λ log f. (
      record { seen = f.seen; told = f.told; mine = f.mine; idle = λ h. absurd (omega arith); turn = f.turn },
      record { seen = f.seen; told = (log, refl); mine = tt; idle = λ _. refl; turn = λ t. absurd (off t) },
    ))
    (λ p. omega arith) (omega arith) (omega arith)

pub keeps_turn : (start : List Event) (id : ℕ) (v : View) → v.turn ≡ true → Splits (Keeps start) id v (turn_at v.seen) (passed v)
keeps_turn start id v turn = cut start id v (turn_at v.seen) (passed v)
    (λ log f. (
      record { seen = f.seen; told = (log, refl); mine = tt; idle = λ _. refl; turn = λ _. f.turn turn },
      record { seen = f.seen; told = (log, refl); mine = f.mine; idle = f.idle; turn = λ t. absurd (off t) },
    ))
    (λ p. omega arith) (omega arith) (sym (ap (λ (b : Bool). if b then 1 else 0) turn))

-- Two views become one, which fits and has what the two had
glue : (start : List Event) (id : ℕ) (v : View) (other : ℕ) (w both : View)
    → ((log : List Event) → Fits start log v → Fits start log w → ((p : ℕ) → times p v.mine + times p w.mine ≤ 1) → Fits start log both)
    → ((p : ℕ) → times p both.mine ≡ times p v.mine + times p w.mine) → both.share ≡ v.share + w.share → turn_count both ≡ turn_count v + turn_count w
    → Joins (Keeps start) id v other w both nobody
glue start id v other w both fit mine share turn s holds at apart there =
    let log = holds.0 in
    let k = holds.1 in
    let was : get_elem? s.views other ≡ some w = sym (set_else s.views id other both apart) ∙ there in
    let at_most : (p : ℕ) → times p v.mine + times p w.mine ≤ 1 = λ p.
    let two = total_two (λ (u : View). times p u.mine) s.views id other v w (λ h. apart (sym h)) at was in
    let one = once_at_most (length start) (length log) p in
    omega (arith, k.places p) in
    let fits = fit log (k.each id v at) (k.each other w was) at_most in
    let spent : Fits start log nobody = record { seen = (log, refl); told = (log, refl); mine = tt; idle = λ _. refl; turn = λ t. absurd (off t) } in (
      log,
      record {
        word = k.word;
        begins = k.begins;
        each = each_set start log log (set s.views id both) other nobody (λ j u _ e. each_set start log log s.views id both (λ i y _ d. k.each i y d) fits j u e) spent;
        places = λ p.
            let t = total_set (λ (u : View). times p u.mine) s.views id v both at in
            let n = total_set (λ (u : View). times p u.mine) (set s.views id both) other w nobody there in
            let m = mine p in
            omega (arith, k.places p);
        shares = let t = total_set (λ (u : View). u.share) s.views id v both at in let n = total_set (λ (u : View). u.share) (set s.views id both) other w nobody there in omega (arith, k.shares);
        turns = let t = total_set turn_count s.views id v both at in let n = total_set turn_count (set s.views id both) other w nobody there in omega (arith, k.turns);
      },
    )
  where
    once_at_most : (from to p : ℕ) → once from to p ≤ 1
    once_at_most from to p = grind (arith, nat_tests)

-- the seat of the turn takes in a pass
pub takes_in : (start : List Event) (id : ℕ) (v : View) (other : ℕ) (w : View) → v ≡ turn_at v.seen → w.turn ≡ false → Joins (Keeps start) id v other w (taken_in v w) nobody
takes_in start id v other w is turn =
    let mine : v.mine ≡ [] = ap (λ (u : View). u.mine) is in
    let share : v.share ≡ 0 = ap (λ (u : View). u.share) is in
    let has : v.turn ≡ true = ap (λ (u : View). u.turn) is in
    let none : turn_count w ≡ 0 = ap (λ (b : Bool). if b then 1 else 0) turn in
    let one : turn_count v ≡ 1 = ap (λ (b : Bool). if b then 1 else 0) has in
    glue start id v other w (taken_in v w)
    (λ log g f at_most.
    let all : v.seen ≡ log = g.turn has in
    record { seen = g.seen; told = f.seen; mine = subst (λ (l : List Event). StandIn l (length start) w.mine) (sym all) (stand_prefix w.seen log (length start) w.mine f.seen f.mine); idle = f.idle; turn = λ _. all })
    (λ p. let nothing : times p v.mine ≡ 0 = ap (times p) mine in omega arith) (omega arith) (omega arith)

pub longer_is : (P : List Event → List Event → Type 0) (xs ys : List Event) (b : Bool) → nat_lt (length xs) (length ys) ≡ b → (length xs < length ys → P ys xs) → (length ys ≤ length xs → P xs ys) → P (longer xs ys) (shorter xs ys)
longer_is P xs ys true is more less = rw is (more (grind (arith, nat_tests)))
longer_is P xs ys false is more less = rw is (less (grind (arith, nat_tests)))

-- two passes become one
pub meets : (start : List Event) (id : ℕ) (v : View) (other : ℕ) (w : View) → w.turn ≡ false → Joins (Keeps start) id v other w (met v w) nobody
meets start id v other w turn =
    let none : turn_count w ≡ 0 = ap (λ (b : Bool). if b then 1 else 0) turn in
    glue start id v other w (met v w)
    (λ log f g at_most.
    let mines : (l : List Event) → IsPrefix v.seen l → IsPrefix w.seen l → StandIn l (length start) (merged v.mine w.mine) = λ l p q.
    stand_merged l (length start) v.mine w.mine (stand_prefix v.seen l (length start) v.mine p f.mine) (length start) (omega arith) (stand_prefix w.seen l (length start) w.mine q g.mine) at_most in
    let P : List Event → List Event → Type 0 = λ l t. IsPrefix l log × IsPrefix t log × StandIn l (length start) (merged v.mine w.mine) × (v.turn ≡ true → l ≡ log) in
    let is = longer_is P v.seen w.seen (nat_lt (length v.seen) (length w.seen)) refl
    (λ lt. (g.seen, f.seen, mines w.seen (prefix_shorter v.seen w.seen log f.seen g.seen (omega arith)) (prefix_self w.seen), λ t. absurd (let short = prefix_length w.seen log g.seen in let long : length v.seen ≡ length log = ap length (f.turn t) in omega arith)))
    (λ le. (f.seen, g.seen, mines v.seen (prefix_self v.seen) (prefix_shorter w.seen v.seen log g.seen f.seen le), f.turn)) in
    record { seen = is.0; told = is.1; mine = is.2; idle = λ h. let a : v.mine ≡ [] = f.idle (omega arith) in let b : w.mine ≡ [] = g.idle (omega arith) in ap (λ (m : List (ℕ × Event)). merged m w.mine) a ∙ ap (λ (m : List (ℕ × Event)). merged [] m) b; turn = is.3 })
    (λ p. times-merged p v.mine w.mine) refl (omega arith)

-- the loads, where the start has another name
pub looks_as : (start name : List Event) (slots id : ℕ) (me : Me (Unit {0}) View) → start ≡ name → Allows (Keeps start) slots id me 0 (λ n. n) (λ found after. (after.1 ≡ me.1) × Looked name me.0 found after.0)
looks_as start name slots id me same = subst (λ (l : List Event). Allows (Keeps start) slots id me 0 (λ n. n) (λ found after. (after.1 ≡ me.1) × Looked l me.0 found after.0)) same (looks start slots id me.0 me.1)

pub checks_as : (start name : List Event) (slots id : ℕ) (me : Me (Unit {0}) View) → start ≡ name → Allows (Keeps start) slots id me 0 (λ n. n) (λ found after. (after.1 ≡ me.1) × Checked name me.0 after.0)
checks_as start name slots id me same = subst (λ (l : List Event). Allows (Keeps start) slots id me 0 (λ n. n) (λ found after. (after.1 ≡ me.1) × Checked l me.0 after.0)) same (checks start slots id me.0 me.1)
