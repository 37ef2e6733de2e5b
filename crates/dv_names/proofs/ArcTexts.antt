-- The arcs that a dotted decimal says.
use Rattle.std.proofs.Common.{◌≡◌, ◌≢◌, ℕ, suc, ◌+◌, ◌-◌, ◌*◌, ◌<◌, ◌≤◌, ◌&&◌, ◌||◌, inl, inr, Bool, true, false, cond, List, [], ◌∷◌, ◌++◌, length, map, drop, get_or, refl, sym, ap, subst, ◌∙◌, arith, eqb, leb, ltb, append_assoc}
use Rattle.std.proofs.lemmas.Bool.{and_parts, and_from, le-leb, leb-true, eqb-true, ne_eqb, cases_Bool}
use Rattle.std.proofs.lemmas.List.{drop_all}
use Rattle.std.proofs.Math.Seq.{drop-cons}
use Rattle.std.proofs.lemmas.List.Folds.{list_all-append, list_all_at}
use Rattle.std.proofs.lemmas.Int.Digits.{number_digits_of, all_below_base_digits_of}
use Rattle.std.specs.List.{flat_map, list_all}
use Rattle.std.specs.Int.Digits.{digits_of, number_from_digits_after, AllBelowBase}
use Rattle.dv_names.specs.Arcs.{arc_text, dotted, largest_arc, second_limit, are_good, IsGood}

-- the arcs that a text says, after the digits of n
abbrev pub said : ℕ → List ℕ → List ℕ
said n [] = n ∷ []
said n (c ∷ cs) = cond (eqb c 46) (n ∷ said 0 cs) (said (n * 10 + (c - 48)) cs)

-- digits, and then more
digits_said : (ds rest : List ℕ) (n : ℕ) → said n (map (λ d. 48 + d) ds ++ rest) ≡ said (number_from_digits_after 10 n ds) rest
digits_said [] rest n = refl
digits_said (d ∷ ds) rest n =
    let not_dot : eqb (48 + d) 46 ≡ false = ne_eqb (48 + d) 46 (λ (z : 48 + d ≡ 46). omega (arith, z)) in
    let digit : 48 + d - 48 ≡ d = omega arith in
    rw (not_dot, digit) (digits_said ds rest (n * 10 + d))

-- an arc, and then more
arc_said : (n : ℕ) (rest : List ℕ) → said 0 (arc_text n ++ rest) ≡ said n rest
arc_said n rest =
    elim (cases_Bool (eqb n 0)) [
      | inl t ↦ rw t (ap (λ (k : ℕ). said k rest) (sym (eqb-true n 0 t)))
      | inr f ↦ rw f (digits_said (digits_of 10 n) rest 0 ∙ ap (λ (k : ℕ). said k rest) (number_digits_of 10 n (omega arith)))
    ]

-- more arcs
dots_said : (more : List ℕ) (n : ℕ) → said n (flat_map (λ b. 46 ∷ arc_text b) more) ≡ n ∷ more
dots_said [] n = refl
dots_said (b ∷ bs) n = ap (λ (l : List ℕ). n ∷ l) (arc_said b (flat_map (λ b. 46 ∷ arc_text b) bs) ∙ dots_said bs b)

-- a dotted decimal says its arcs
pub arcs_said : (a : ℕ) (more : List ℕ) → said 0 (dotted (a ∷ more)) ≡ a ∷ more
arcs_said a more = arc_said a (flat_map (λ b. 46 ∷ arc_text b) more) ∙ dots_said more a

-- good arcs are at least two
pub good_said : (arcs : List ℕ) → are_good arcs ≡ true → said 0 (dotted arcs) ≡ arcs
good_said [] e = absurd cc
good_said (a ∷ []) e = absurd cc
good_said (a ∷ b ∷ cs) e = arcs_said a (b ∷ cs)

-- none is past the largest
abbrev pub are_small : List ℕ → Bool
are_small arcs = list_all (λ c. leb c largest_arc) arcs

second_small : (a : ℕ) → second_limit a ≤ largest_arc
second_small a = elim (cases_Bool (ltb a 2)) [ inl t ↦ rw t (omega arith) | inr f ↦ rw f (omega arith) ]

pub good_small : (arcs : List ℕ) → are_good arcs ≡ true → are_small arcs ≡ true
good_small [] e = absurd cc
good_small (a ∷ []) e = absurd cc
good_small (a ∷ b ∷ cs) e =
    let parts = and_parts _ _ e in
    let both = and_parts _ _ parts.0 in
    let first = leb-true a 2 both.0 in
    let second = leb-true b (second_limit a) both.1 in
    let top = second_small a in
    and_from _ _ (le-leb a largest_arc (omega (arith, first))) (and_from _ _ (le-leb b largest_arc (omega (arith, second, top))) parts.1)

-- the digits so far are no more than their arc
pub said_small : (n : ℕ) (text : List ℕ) → are_small (said n text) ≡ true → n ≤ largest_arc
said_small n [] e = leb-true n largest_arc (and_parts _ _ e).0
said_small n (c ∷ cs) e =
    elim (cases_Bool (eqb c 46)) [
      | inl t ↦ let h : are_small (n ∷ said 0 cs) ≡ true = rw t at e in leb-true n largest_arc (and_parts _ _ h).0
      | inr f ↦ let h : are_small (said (n * 10 + (c - 48)) cs) ≡ true = rw f at e in omega (arith, said_small (n * 10 + (c - 48)) cs h)
    ]

-- ---- the octets of a text

-- a dot or a digit
abbrev pub is_dotted : ℕ → Bool
is_dotted c = eqb c 46 || (leb 48 c && leb c 57)

digit_dotted : (d : ℕ) → d < 10 → is_dotted (48 + d) ≡ true
digit_dotted d lt =
    let digit : (leb 48 (48 + d) && leb (48 + d) 57) ≡ true = and_from (leb 48 (48 + d)) (leb (48 + d) 57) (le-leb 48 (48 + d) (omega arith)) (le-leb (48 + d) 57 (omega (arith, lt))) in
    elim (cases_Bool (eqb (48 + d) 46)) [ inl t ↦ rw t refl | inr f ↦ rw f digit ]

digits_dotted : (ds : List ℕ) → AllBelowBase 10 ds → list_all is_dotted (map (λ d. 48 + d) ds) ≡ true
digits_dotted [] h = refl
digits_dotted (d ∷ ds) h = and_from _ _ (digit_dotted d h.0) (digits_dotted ds h.1)

arc_dotted : (n : ℕ) → list_all is_dotted (arc_text n) ≡ true
arc_dotted n =
    elim (cases_Bool (eqb n 0)) [
      | inl t ↦ rw t refl
      | inr f ↦ rw f (digits_dotted (digits_of 10 n) (all_below_base_digits_of 10 n (omega arith)))
    ]

dots_dotted : (more : List ℕ) → list_all is_dotted (flat_map (λ b. 46 ∷ arc_text b) more) ≡ true
dots_dotted [] = refl
dots_dotted (b ∷ bs) = list_all-append is_dotted (arc_text b) (flat_map (λ b. 46 ∷ arc_text b) bs) ∙ and_from _ _ (arc_dotted b) (dots_dotted bs)

pub all_dotted : (arcs : List ℕ) → list_all is_dotted (dotted arcs) ≡ true
all_dotted [] = refl
all_dotted (a ∷ more) = list_all-append is_dotted (arc_text a) (flat_map (λ b. 46 ∷ arc_text b) more) ∙ and_from _ _ (arc_dotted a) (dots_dotted more)

-- an octet of a good text that is no dot is a digit
pub digit_in : (text : List ℕ) (i : ℕ) → IsGood text → i < length text → get_or text i 0 ≢ 46 → (48 ≤ get_or text i 0) × (get_or text i 0 ≤ 57)
digit_in text i good lt other =
    let all : list_all is_dotted text ≡ true = subst (λ (l : List ℕ). list_all is_dotted l ≡ true) good.2 (all_dotted good.0) in
    let not_dot : eqb (get_or text i 0) 46 ≡ false = ne_eqb (get_or text i 0) 46 other in
    elim (cases_Bool (leb 48 (get_or text i 0) && leb (get_or text i 0) 57)) [
      | inl t ↦ let parts = and_parts _ _ t in (leb-true 48 (get_or text i 0) parts.0, leb-true (get_or text i 0) 57 parts.1)
      | inr f ↦
          let neither : is_dotted (get_or text i 0) ≡ false = rw (not_dot, f) refl in
          let none = list_all_at is_dotted text i 0 lt neither in
          absurd cc
    ]

-- the rest of a text begins with its next octet
pub opened : (text : List ℕ) (i : ℕ) → i < length text → drop i text ≡ get_or text i 0 ∷ drop (i + 1) text
opened text i lt = let next : i + 1 ≡ suc i = omega arith in drop-cons text i 0 lt ∙ ap (λ (k : ℕ). get_or text i 0 ∷ drop k text) (sym next)

-- the digits so far fit
pub said_within : (text done : List ℕ) (n i : ℕ) → IsGood text → done ++ said n (drop i text) ≡ said 0 text → n ≤ largest_arc
said_within text done n i good h =
    let whole : said 0 text ≡ good.0 = ap (said 0) (sym good.2) ∙ good_said good.0 good.1 in
    let small : are_small (done ++ said n (drop i text)) ≡ true = ap are_small (h ∙ whole) ∙ good_small good.0 good.1 in
    said_small n (drop i text) (and_parts _ _ (sym (list_all-append (λ c. leb c largest_arc) done (said n (drop i text))) ∙ small)).1

-- a digit more
pub said_digit : (text done : List ℕ) (n i : ℕ) → i < length text → get_or text i 0 ≢ 46 → done ++ said n (drop i text) ≡ said 0 text → done ++ said (n * 10 + (get_or text i 0 - 48)) (drop (i + 1) text) ≡ said 0 text
said_digit text done n i lt other h =
    let not_dot : eqb (get_or text i 0) 46 ≡ false = ne_eqb (get_or text i 0) 46 other in
    let here : said n (drop i text) ≡ said (n * 10 + (get_or text i 0 - 48)) (drop (i + 1) text) = ap (said n) (opened text i lt) ∙ rw not_dot refl in
    ap (λ (l : List ℕ). done ++ l) (sym here) ∙ h

-- a dot
pub said_dot : (text done : List ℕ) (n i : ℕ) → i < length text → get_or text i 0 ≡ 46 → done ++ said n (drop i text) ≡ said 0 text → (done ++ n ∷ []) ++ said 0 (drop (i + 1) text) ≡ said 0 text
said_dot text done n i lt dot h =
    let here : said n (drop i text) ≡ n ∷ said 0 (drop (i + 1) text) = ap (said n) (opened text i lt) ∙ rw dot refl in
    append_assoc done (n ∷ []) (said 0 (drop (i + 1) text)) ∙ ap (λ (l : List ℕ). done ++ l) (sym here) ∙ h

-- the end
pub said_all : (text done : List ℕ) (n i : ℕ) → IsGood text → length text ≤ i → done ++ said n (drop i text) ≡ said 0 text → (are_good (done ++ n ∷ []) ≡ true) × (dotted (done ++ n ∷ []) ≡ text)
said_all text done n i good le h =
    let whole : said 0 text ≡ good.0 = ap (said 0) (sym good.2) ∙ good_said good.0 good.1 in
    let last : done ++ n ∷ [] ≡ good.0 = ap (λ (l : List ℕ). done ++ said n l) (sym (drop_all i text le)) ∙ h ∙ whole in
    (ap are_good last ∙ good.1, ap dotted last ∙ good.2)
