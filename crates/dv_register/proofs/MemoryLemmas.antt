-- The copies that a register keeps.
use Rattle.std.specs.Prelude.{slice_get, Some}
use Rattle.std.proofs.Common.{◌≡◌, ◌∙◌, ℕ, zero, suc, ◌+◌, ◌*◌, ◌≤◌, List, [], ◌∷◌, ◌++◌, length, take, drop, subst, ap, refl, sym, arith, length-append, length-drop}
use Rattle.std.proofs.lemmas.List.{take-append-le, drop-append-le, take_at, drop_at, drop-drop, take_all}
use Rattle.dv_outside.specs.Station.{Holds}
use Rattle.std.specs.List.{AllByRecursion}
use Rattle.dv_outside.specs.Releases.{Entry}
use Rattle.dv_register.specs.Layout.{IsEntry, head_of, records_of, body_of, open_gate}
use Rattle.dv_register.specs.State.{entries_of}
use Rattle.std.specs.Int.{to_be_bytes, w64}
use Rattle.dv_register.specs.declared.place.Place.{Place}

pub length-entries_of : (places : List Place) (octets : List ℕ) → length (entries_of places octets) ≡ length places
length-entries_of [] octets = refl
length-entries_of (p ∷ places) octets = omega (arith, length-entries_of places octets)

-- the copies stay when octets come behind them
entry_stays : (octets more : List ℕ) (from len : ℕ) → from + len ≤ length octets → take len (drop from (octets ++ more)) ≡ take len (drop from octets)
entry_stays octets more from len within =
    ap (take len) (drop-append-le from octets more (omega (arith, within)))
    ∙ take-append-le len (drop from octets) more (search (arith, length-drop))

pub entries_stay : (places : List Place) (octets more : List ℕ) → AllByRecursion (λ p. p.from + p.len ≤ length octets) places → entries_of places (octets ++ more) ≡ entries_of places octets
entries_stay [] octets more within = refl
entries_stay (p ∷ places) octets more within =
    ap (λ (l : List ℕ). (let e : Entry = record { kind = p.kind; contents = l } in e) ∷ entries_of places (octets ++ more)) (entry_stays octets more p.from p.len within.0)
    ∙ ap (λ (l : List Entry). (let e : Entry = record { kind = p.kind; contents = take p.len (drop p.from octets) } in e) ∷ l) (entries_stay places octets more within.1)

entries_of-append : (places more : List Place) (octets : List ℕ) → entries_of (places ++ more) octets ≡ entries_of places octets ++ entries_of more octets
entries_of-append [] more octets = refl
entries_of-append (p ∷ places) more octets = ap (λ (l : List Entry). (let e : Entry = record { kind = p.kind; contents = take p.len (drop p.from octets) } in e) ∷ l) (entries_of-append places more octets)

-- one more copy
pub entries_of-push : (places : List Place) (octets contents : List ℕ) (kind : ℕ) → AllByRecursion (λ p. p.from + p.len ≤ length octets) places
    → entries_of (places ++ (record { kind = kind; from = length octets; len = length contents }) ∷ []) (octets ++ contents) ≡ entries_of places octets ++ (record { kind = kind; contents = contents }) ∷ []
entries_of-push places octets contents kind within =
    entries_of-append places ((record { kind = kind; from = length octets; len = length contents }) ∷ []) (octets ++ contents)
    ∙ ap (λ (l : List Entry). l ++ entries_of ((record { kind = kind; from = length octets; len = length contents }) ∷ []) (octets ++ contents)) (entries_stay places octets contents within)
    ∙ ap (λ (l : List ℕ). entries_of places octets ++ (let e : Entry = record { kind = kind; contents = l } in e) ∷ [])
    (ap (take (length contents)) (drop_at octets contents (length octets) refl) ∙ take_all (length contents) contents (omega arith))

within_more : (places : List Place) (n m : ℕ) → n ≤ m → AllByRecursion (λ p. p.from + p.len ≤ n) places → AllByRecursion (λ p. p.from + p.len ≤ m) places
within_more [] n m le within = tt
within_more (p ∷ places) n m le within = (omega (arith, within.0, le), within_more places n m le within.1)

within_push : (places : List Place) (p : Place) (n : ℕ) → AllByRecursion (λ q. q.from + q.len ≤ n) places → p.from + p.len ≤ n → AllByRecursion (λ q. q.from + q.len ≤ n) (places ++ p ∷ [])
within_push [] p n within here = (here, tt)
within_push (q ∷ places) p n within here = (within.0, within_push places p n within.1 here)

pub within_note : (places : List Place) (octets contents : List ℕ) (kind : ℕ) → AllByRecursion (λ p. p.from + p.len ≤ length octets) places
    → AllByRecursion (λ p. p.from + p.len ≤ length (octets ++ contents)) (places ++ (record { kind = kind; from = length octets; len = length contents }) ∷ [])
within_note places octets contents kind within =
    within_push places (record { kind = kind; from = length octets; len = length contents }) (length (octets ++ contents))
    (within_more places (length octets) (length (octets ++ contents)) (omega (arith, length-append octets contents)) within) (omega (arith, length-append octets contents))

-- the copy at a place
pub entries_of-get : (places : List Place) (octets : List ℕ) (i : ℕ) (p : Place) → slice_get places i ≡ Some p
    → slice_get (entries_of places octets) i ≡ Some (record { kind = p.kind; contents = take p.len (drop p.from octets) })
entries_of-get [] octets i p is = absurd (cc)
entries_of-get (q ∷ places) octets zero p is = let same : q ≡ p = cc in ap (λ (r : Place). Some (let e : Entry = record { kind = r.kind; contents = take r.len (drop r.from octets) } in e)) same
entries_of-get (q ∷ places) octets (suc i) p is = entries_of-get places octets i p is

-- no register is long
pub length-records_of : (list : List Entry) → AllByRecursion IsEntry list → length (records_of list) ≤ length list * 1048582
length-records_of [] entries = omega arith
length-records_of (e ∷ list) entries =
    omega (arith, length-records_of list entries.1, entries.0.short, length-append (open_gate ∷ body_of e) (records_of list), length-append (open_gate ∷ body_of e) [], length-body_of e)
  where
    length-body_of : (e : Entry) → length (body_of e) ≡ length e.contents + 5
    length-body_of e = omega arith

pub length-head_of : (key : List ℕ) (first : ℕ) → length key ≡ 60 → length (head_of key first) ≡ 76
unfolding head_of
length-head_of key first sixty = omega (arith, sixty, length-append key (to_be_bytes w64 first))

lay_at : (front rest octets new : List ℕ) (place : ℕ) → length front ≡ place → Holds (front ++ rest) place octets new → new ≡ (front ++ octets) ++ drop (length octets) rest
lay_at front rest octets new place is holds =
    holds ∙ ap (λ (l : List ℕ). (l ++ octets) ++ drop (place + length octets) (front ++ rest)) (take_at front rest place is)
    ∙ ap (λ (l : List ℕ). (front ++ octets) ++ l) (sym (drop-drop (length octets) place (front ++ rest)) ∙ ap (drop (length octets)) (drop_at front rest place is))

-- a head and a closed gate, laid over zeros
pub head_laid : (zeros magic key a b c : List ℕ) (first : ℕ) → length magic ≡ 8 → length key ≡ 60 → magic ≡ 68 ∷ 86 ∷ 82 ∷ 69 ∷ 71 ∷ 48 ∷ 48 ∷ 49 ∷ [] → drop 8 (drop 60 (drop 8 zeros)) ≡ 0 ∷ []
    → Holds zeros 0 magic a → Holds a 8 key b → Holds b 68 (to_be_bytes w64 first) c → c ≡ head_of key first ++ 0 ∷ []
unfolding head_of
head_laid zeros magic key a b c first eight sixty is rest one two three =
    let at_a : a ≡ magic ++ drop 8 zeros = lay_at [] zeros magic a 0 refl one ∙ ap (λ n. magic ++ drop n zeros) eight in
    let at_b : b ≡ (magic ++ key) ++ drop 60 (drop 8 zeros) =
    lay_at magic (drop 8 zeros) key b 8 eight (subst (λ (l : List ℕ). Holds l 8 key b) at_a two) ∙ ap (λ n. (magic ++ key) ++ drop n (drop 8 zeros)) sixty in
    let size : length (magic ++ key) ≡ 68 = omega (arith, eight, sixty, length-append magic key) in
    let at_c : c ≡ ((magic ++ key) ++ to_be_bytes w64 first) ++ drop 8 (drop 60 (drop 8 zeros)) =
    lay_at (magic ++ key) (drop 60 (drop 8 zeros)) (to_be_bytes w64 first) c 68 size (subst (λ (l : List ℕ). Holds l 68 (to_be_bytes w64 first) c) at_b three) in
    at_c ∙ ap (λ (l : List ℕ). ((magic ++ key) ++ to_be_bytes w64 first) ++ l) rest ∙ ap (λ (l : List ℕ). ((l ++ key) ++ to_be_bytes w64 first) ++ 0 ∷ []) is
