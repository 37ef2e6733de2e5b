-- `said` finds what the grammar says, and no more.
use Rattle.std.proofs.Common.{◌≡◌, ◌∙◌, ◌&&◌, ◌||◌, ◌<◌, ◌==◌, ℕ, Bool, cond, codes, true, false, not, refl, sym, ap, ap₂, arith, List, [], ◌∷◌, ◌++◌, map, drop, length, Option, Some, None, true≢false, subst, zero, suc, eqb-true, eq-eqb}
use Rattle.std.specs.Str.{bytes_eq}
use Rattle.std.specs.List.{list_any, before_first, after_first}
use Rattle.clap.proofs.CutLemmas.{Lacks, after_first-at, before_first-Lacks, before_first-at, list_any-Lacks, list_any-at}
use Rattle.clap.proofs.WalkLemmas.{both}
use Rattle.clap.proofs.SimpleLemmas.{is_false}
use Rattle.std.specs.Prelude.{nat_lt}
use Rattle.std.proofs.lemmas.Bool.{ltb-true}
use Rattle.dv_words.specs.Uses.{Text, Use, option, other, said, then_says, gives_once, if_once, uses_of, has_name, is_dashed, is_double_dashed, name_in, has_value, value_in}
use Rattle.dv_words.specs.Grammar.{IsCommand, are_names, is_name, Says, nothing, ended, plain, spaced, joined}
use Rattle.std.specs.Prelude.{IsSomeAnd}
use Rattle.dv_words.specs.declared.parsed.Parsed.{Parsed}
use Rattle.dv_words.specs.Commands.{IsParsed}
use Rattle.dv_words.proofs.Building.{same_text}
use Rattle.dv_words.proofs.Steps.{plain_apart}

-- each name has a byte, and no `=`
pub record AreNames (names : List Text) : Type 0 where
  pub lacks : (n : Text) → has_name names n ≡ true → Lacks 61 n
  pub some : (n : Text) → has_name names n ≡ true → 0 < length n

said_all : (names : List Text) (words : List Text) → said names None (codes "--" ∷ words) ≡ Some (map other words)
unfolding said
said_all names words = refl

abbrev by : List Text → Text → List Text → Bool → Bool → Bool → Bool → Text → Text → Option (List Use)
by names word rest t d k v n value = cond t (Some (map other rest)) (cond (not d) (then_says (other word) (said names None rest))
    (cond (not k) None (cond v (then_says (option n value) (said names None rest)) (said names (Some n) rest))))

said_cons : (names : List Text) (word : Text) (rest : List Text) → said names None (word ∷ rest)
    ≡ by names word rest (bytes_eq word (codes "--")) (is_dashed word) (is_double_dashed word && has_name names (name_in word)) (has_value word) (name_in word) (value_in word)
unfolding said
said_cons names word rest = refl

said_plain : (names : List Text) (word : Text) (words : List Text) → is_dashed word ≡ false → said names None (word ∷ words) ≡ then_says (other word) (said names None words)
said_plain names word words h = said_cons names word words
    ∙ (λ i. by names word words (plain_apart word h i) (h i) (is_double_dashed word && has_name names (name_in word)) (has_value word) (name_in word) (value_in word))

some_apart : (n : Text) → 0 < length n → bytes_eq n [] ≡ false
some_apart [] h = absurd (omega arith)
some_apart (x ∷ xs) h = refl

joined_apart : (n v : Text) → bytes_eq (n ++ 61 ∷ v) [] ≡ false
joined_apart [] v = refl
joined_apart (x ∷ xs) v = refl

said_long : (names : List Text) (n : Text) (rest : List Text) → 0 < length n → Lacks 61 n → has_name names n ≡ true → said names None ((codes "--" ++ n) ∷ rest) ≡ said names (Some n) rest
said_long names n rest some lacks known = said_cons names (codes "--" ++ n) rest
    ∙ (λ i. by names (codes "--" ++ n) rest (some_apart n some i) true (has_name names (before_first-Lacks 61 n lacks i)) (list_any-Lacks 61 n lacks i) (before_first-Lacks 61 n lacks i) (value_in (codes "--" ++ n)))
    ∙ ap (λ k. by names (codes "--" ++ n) rest false true k false n (value_in (codes "--" ++ n))) known

said_joined : (names : List Text) (n v : Text) (rest : List Text) → Lacks 61 n → has_name names n ≡ true → said names None ((codes "--" ++ n ++ 61 ∷ v) ∷ rest) ≡ then_says (option n v) (said names None rest)
said_joined names n v rest lacks known = said_cons names (codes "--" ++ n ++ 61 ∷ v) rest
    ∙ (λ i. by names (codes "--" ++ n ++ 61 ∷ v) rest (joined_apart n v i) true (has_name names (before_first-at 61 n v lacks i)) (list_any-at 61 n v i) (before_first-at 61 n v lacks i) (after_first-at 61 n v lacks i))
    ∙ ap (λ k. by names (codes "--" ++ n ++ 61 ∷ v) rest false true k true n v) known

said_value : (names : List Text) (n v : Text) (rest : List Text) → is_dashed v ≡ false → said names (Some n) (v ∷ rest) ≡ then_says (option n v) (said names None rest)
unfolding said
said_value names n v rest h = ap (λ b. cond b None (then_says (option n v) (said names None rest))) h

pub said-Says : (names : List Text) → AreNames names → (words : List Text) (us : List Use) → Says names words us → said names None words ≡ Some us
unfolding said
said-Says names ok _ _ nothing = refl
said-Says names ok _ _ (ended words) = said_all names words
said-Says names ok _ _ (plain word words us h s) = said_plain names word words h ∙ ap (then_says (other word)) (said-Says names ok words us s)
said-Says names ok _ _ (spaced n v words us known h s) = said_long names n (v ∷ words) (ok.some n known) (ok.lacks n known) known
    ∙ said_value names n v words h ∙ ap (then_says (option n v)) (said-Says names ok words us s)
said-Says names ok _ _ (joined n v words us known s) = said_joined names n v words (ok.lacks n known) known ∙ ap (then_says (option n v)) (said-Says names ok words us s)

-- ---- the converse

Lacks-cons : (x : ℕ) (xs : Text) → (x == 61) ≡ false → Lacks 61 xs → Lacks 61 (x ∷ xs)
Lacks-cons x xs e h zero lt is = true≢false (sym (eq-eqb x 61 is) ∙ e)
Lacks-cons x xs e h (suc i) lt is = h i (omega arith) is

lacks_of : (xs : Text) → list_any (λ x. x == 61) xs ≡ false → Lacks 61 xs
lacks_of [] h = λ i lt e. absurd (omega arith)
lacks_of (x ∷ xs) h = go (x == 61) refl h (lacks_of xs)
  where
    go : (t : Bool) → (x == 61) ≡ t → (t || list_any (λ x. x == 61) xs) ≡ false → (list_any (λ x. x == 61) xs ≡ false → Lacks 61 xs) → Lacks 61 (x ∷ xs)
    go true e h later = absurd (true≢false h)
    go false e h later = Lacks-cons x xs e (later h)

abbrev Cut : Text → Type 0
Cut xs = (a : Text) × (b : Text) × (xs ≡ a ++ 61 ∷ b) × Lacks 61 a

cut : (xs : Text) → list_any (λ x. x == 61) xs ≡ true → Cut xs
cut [] h = absurd (true≢false (sym h))
cut (x ∷ xs) h = go (x == 61) refl h (cut xs)
  where
    go : (t : Bool) → (x == 61) ≡ t → (t || list_any (λ x. x == 61) xs) ≡ true → (list_any (λ x. x == 61) xs ≡ true → Cut xs) → Cut (x ∷ xs)
    go true e h later = ([], xs, ap (λ y. y ∷ xs) (eqb-true x 61 e), λ i lt. absurd (omega arith))
    go false e h later =
        let r = later h in
        (x ∷ r.0, r.1, ap (λ ys. x ∷ ys) r.2, Lacks-cons x r.0 e r.3)

at_equals : (xs : Text) → list_any (λ x. x == 61) xs ≡ true → xs ≡ before_first (λ x. x == 61) xs ++ 61 ∷ after_first (λ x. x == 61) xs
at_equals xs h =
    let r = cut xs h in
    let now : Text → Type 0 = λ (ys : Text). ys ≡ before_first (λ x. x == 61) ys ++ 61 ∷ after_first (λ x. x == 61) ys in
    subst now (sym r.2) (sym (ap₂ (λ a b. a ++ 61 ∷ b) (before_first-at 61 r.0 r.1 r.3) (after_first-at 61 r.0 r.1 r.3)))

double_is : (word : Text) → is_double_dashed word ≡ true → word ≡ codes "--" ++ drop 2 word
double_is [] h = absurd (true≢false (sym h))
double_is (x ∷ []) h = absurd (true≢false (sym (both _ _ h).1))
double_is (x ∷ y ∷ rest) h =
    let parts = both (x == 45) (y == 45) h in
    ap₂ (λ a b. a ∷ b ∷ rest) (eqb-true x 45 parts.0) (eqb-true y 45 parts.1)

abbrev Then : Use → Option (List Use) → List Use → Type 0
Then u o us = (rest : List Use) × (o ≡ Some rest) × (u ∷ rest ≡ us)

then_inv : (u : Use) (o : Option (List Use)) (us : List Use) → then_says u o ≡ Some us → Then u o us
then_inv u None us e = cc
then_inv u (Some xs) us e = (xs, refl, cc)

abbrev Sound : List Text → List Text → Type 0
Sound names words = ((us : List Use) → said names None words ≡ Some us → Says names words us)
    × ((n : Text) (us : List Use) → has_name names n ≡ true → said names (Some n) words ≡ Some us → Says names ((codes "--" ++ n) ∷ words) us)

module _ (names : List Text) where
  free_sound : (word : Text) (rest : List Text) → Sound names rest → (us : List Use) → said names None (word ∷ rest) ≡ Some us → Says names (word ∷ rest) us
  free_sound word rest later us e = go (bytes_eq word (codes "--")) (is_dashed word) (is_double_dashed word) (has_name names (name_in word)) (has_value word) refl refl refl refl refl
      (sym (said_cons names word rest) ∙ e)
    where
      go : (t d b k v : Bool) → bytes_eq word (codes "--") ≡ t → is_dashed word ≡ d → is_double_dashed word ≡ b → has_name names (name_in word) ≡ k → has_value word ≡ v
          → by names word rest t d (b && k) v (name_in word) (value_in word) ≡ Some us → Says names (word ∷ rest) us
      go true d b k v is dashed double known valued e =
          let same : map other rest ≡ us = cc in
          subst (λ w. Says names (w ∷ rest) us) (sym (same_text word (codes "--") is)) (subst (λ xs. Says names (codes "--" ∷ rest) xs) same (ended rest))
      go false false b k v is dashed double known valued e =
          let r = then_inv (other word) (said names None rest) us e in
          subst (λ xs. Says names (word ∷ rest) xs) r.2 (plain word rest r.0 dashed (later.0 r.0 r.1))
      go false true false k v is dashed double known valued e = cc
      go false true true false v is dashed double known valued e = cc
      go false true true true true is dashed double known valued e =
          let r = then_inv (option (name_in word) (value_in word)) (said names None rest) us e in
          let shape : codes "--" ++ name_in word ++ 61 ∷ value_in word ≡ word = sym (double_is word double ∙ ap (λ xs. codes "--" ++ xs) (at_equals (drop 2 word) valued)) in
          subst (λ w. Says names (w ∷ rest) us) shape (subst (λ xs. Says names ((codes "--" ++ name_in word ++ 61 ∷ value_in word) ∷ rest) xs) r.2
          (joined (name_in word) (value_in word) rest r.0 known (later.0 r.0 r.1)))
      go false true true true false is dashed double known valued e =
          let shape : codes "--" ++ name_in word ≡ word = sym (double_is word double ∙ ap (λ xs. codes "--" ++ xs) (sym (before_first-Lacks 61 (drop 2 word) (lacks_of (drop 2 word) valued)))) in
          subst (λ w. Says names (w ∷ rest) us) shape (later.1 (name_in word) us known e)

  waits_sound : (word : Text) (rest : List Text) → Sound names rest → (n : Text) (us : List Use) → has_name names n ≡ true → said names (Some n) (word ∷ rest) ≡ Some us
      → Says names ((codes "--" ++ n) ∷ word ∷ rest) us
  unfolding said
  waits_sound word rest later n us known e = go (is_dashed word) refl e
    where
      go : (d : Bool) → is_dashed word ≡ d → cond d None (then_says (option n word) (said names None rest)) ≡ Some us → Says names ((codes "--" ++ n) ∷ word ∷ rest) us
      go true dashed e = cc
      go false dashed e =
          let r = then_inv (option n word) (said names None rest) us e in
          subst (λ xs. Says names ((codes "--" ++ n) ∷ word ∷ rest) xs) r.2 (spaced n word rest r.0 known dashed (later.0 r.0 r.1))

  pub Says-said : (words : List Text) → Sound names words
  unfolding said
  Says-said [] = (λ us e. let same : [] ≡ us = cc in subst (λ xs. Says names [] xs) same nothing, λ n us known e. cc)
  Says-said (word ∷ rest) = (free_sound word rest (Says-said rest), waits_sound word rest (Says-said rest))

-- ---- a list of names that may be options

are_names-AreNames : (names : List Text) → are_names names ≡ true → AreNames names
are_names-AreNames names h = record { lacks = λ n known. (each names h n known).0; some = λ n known. (each names h n known).1 }
  where
    one : (m : Text) → is_name m ≡ true → Lacks 61 m × (0 < length m)
    one m h = let parts = both (nat_lt 0 (length m)) (not (list_any (λ x. x == 61) m)) h in (lacks_of m (is_false _ parts.1), ltb-true 0 (length m) parts.0)

    each : (names : List Text) → are_names names ≡ true → (n : Text) → has_name names n ≡ true → Lacks 61 n × (0 < length n)
    each [] h n known = absurd (true≢false (sym known))
    each (m ∷ ms) h n known = go (bytes_eq m n) refl known (each ms (both _ _ h).1 n)
      where
        go : (t : Bool) → bytes_eq m n ≡ t → (t || has_name ms n) ≡ true → (has_name ms n ≡ true → Lacks 61 n × (0 < length n)) → Lacks 61 n × (0 < length n)
        go true e known later = subst (λ (x : Text). Lacks 61 x × (0 < length x)) (same_text m n e) (one m (both _ _ h).0)
        go false e known later = later known

-- ---- the two sides of `uses_of`

pub uses-IsCommand : (names words : List Text) (us : List Use) → uses_of names words ≡ Some us → IsCommand names words us
uses-IsCommand names words us e = go (said names None words) refl e
  where
    go : (o : Option (List Use)) → said names None words ≡ o → if_once o ≡ Some us → IsCommand names words us
    go None is e = cc
    go (Some xs) is e = once (gives_once [] xs) refl e
      where
        once : (t : Bool) → gives_once [] xs ≡ t → cond t (Some xs) None ≡ Some us → IsCommand names words us
        once false t e = cc
        once true t e =
            let same : xs ≡ us = cc in
            subst (λ ys. IsCommand names words ys) same (record { says = (Says-said names words).0 xs is; once = t })

pub IsCommand-uses : (names words : List Text) (us : List Use) → are_names names ≡ true → IsCommand names words us → uses_of names words ≡ Some us
IsCommand-uses names words us ok h = ap if_once (said-Says names (are_names-AreNames names ok) words us h.says) ∙ ap (λ t. cond t (Some us) None) h.once

-- the clauses of `parse` in the grammar's words, from the one on `uses_of`
module _ (names words : List Text) (ok : are_names names ≡ true) where
  -- what was taken apart is what the words say
  pub in_grammar : (parsed : Parsed) → IsSomeAnd (uses_of names words) (λ us. IsParsed us parsed) → (us : List Use) × IsCommand names words us × IsParsed us parsed
  in_grammar parsed h = found (uses_of names words) refl h
    where
      found : (o : Option (List Use)) → uses_of names words ≡ o → IsSomeAnd o (λ us. IsParsed us parsed) → (us : List Use) × IsCommand names words us × IsParsed us parsed
      found None is h = absurd h
      found (Some us) is h = (us, uses-IsCommand names words us is, h)

  -- words that say nothing are no command's
  pub no_command : uses_of names words ≡ None → (us : List Use) → IsCommand names words us → ⊥
  no_command h us s = let given : uses_of names words ≡ Some us = IsCommand-uses names words us ok s in cc
