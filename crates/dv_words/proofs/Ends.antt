-- What the ends of `parse` and of `one_dash_word` cite.
use Rattle.std.proofs.Common.{◌≡◌, ◌∙◌, ◌||◌, ◌<◌, ◌+◌, ℕ, zero, suc, ◌≤◌, ◌-◌, take, Bool, cond, codes, true, false, refl, sym, ap, ap₂, arith, List, [], ◌∷◌, map, drop, length, get_or, Option, Some, None, subst, inl, inr, drop-cons, add-one}
use Rattle.std.specs.Str.{bytes_eq}
use Rattle.std.specs.Prelude.{IsSomeAnd}
use Rattle.clap.proofs.WalkLemmas.{both}
use Rattle.clap.specs.Words.{App, HasMatchesOf, kind_of, matches_of, rows_of, found_of}
use Rattle.clap.specs.Kinds.{HasKind, Kinds}
use Rattle.clap.specs.Faults.{fault_of, is_simple_and_free}
use Rattle.clap.specs.declared.error.Error.{Error}
use Rattle.clap.specs.declared.error.kind.ErrorKind.TheVariants.{OutOfMemory}
use Rattle.clap.specs.declared.parser.matches.ArgMatches.{ArgMatches}
use Rattle.dv_words.specs.Uses.{Text, Use, has_name, has_short, if_once, is_single_dashed, uses_of}
use Rattle.dv_words.specs.Commands.{RowsSay, app_with, others_id}
use Rattle.dv_words.proofs.Walked.{Agrees}
use Rattle.dv_words.proofs.Reading.{reads_exactly, short_none, simple}

pub short_step : {X : Type 0} (f : X → Text) (ws : List X) (i : ℕ) (w : X) → i < length ws → w ≡ get_or ws i w
    → has_short (map f (drop i ws)) ≡ cond (bytes_eq (f w) (codes "--")) false (is_single_dashed (f w) || has_short (map f (drop (i + 1) ws)))
unfolding has_short
short_step {X} f ws i w lt is = ap (λ xs. has_short (map f xs)) split
  where
    split : drop i ws ≡ w ∷ drop (i + 1) ws
    split = rw (add-one, drop-cons ws i w) (ap (λ x. x ∷ drop (suc i) ws) (sym is))

module _ {X : Type 0} (f : X → Text) (ws : List X) (i : ℕ) (w : X) (t : Text) where
  abbrev At : Bool → Bool → Type 0
  At a b = cond a false (b || has_short (map f (drop (i + 1) ws))) ≡ has_short (map f (drop i ws))

  step_at : i < length ws → w ≡ get_or ws i w → t ≡ f w → At (bytes_eq t (codes "--")) (is_single_dashed t)
  step_at lt is text = subst (λ x. At (bytes_eq x (codes "--")) (is_single_dashed x)) (sym text) (sym (short_step f ws i w lt is))

  pub at_dashes : i < length ws → w ≡ get_or ws i w → t ≡ f w → true ≡ bytes_eq t (codes "--") → has_short (map f (drop i ws)) ≡ false
  at_dashes lt is text e = sym (step_at lt is text) ∙ ap (λ a. cond a false (is_single_dashed t || has_short (map f (drop (i + 1) ws)))) (sym e)

  pub at_single : i < length ws → w ≡ get_or ws i w → t ≡ f w → false ≡ bytes_eq t (codes "--") → true ≡ is_single_dashed t → has_short (map f (drop i ws)) ≡ true
  at_single lt is text e single = sym (step_at lt is text) ∙ ap₂ (λ a b. cond a false (b || has_short (map f (drop (i + 1) ws)))) (sym e) (sym single)

  pub at_other : i < length ws → w ≡ get_or ws i w → t ≡ f w → false ≡ bytes_eq t (codes "--") → false ≡ is_single_dashed t → has_short (map f (drop i ws)) ≡ has_short (map f (drop (i + 1) ws))
  at_other lt is text e single = sym (step_at lt is text) ∙ ap₂ (λ a b. cond a false (b || has_short (map f (drop (i + 1) ws)))) (sym e) (sym single)

pub at_end : {X : Type 0} (f : X → Text) (ws : List X) (i : ℕ) → length ws ≤ i → has_short (map f (drop i ws)) ≡ false
unfolding has_short
at_end f [] zero le = refl
at_end f [] (suc i) le = refl
at_end f (w ∷ ws) zero le = absurd (omega arith)
at_end f (w ∷ ws) (suc i) le = at_end f ws i (omega arith)

take_whole : {X : Type 0} (ws : List X) (n : ℕ) → length ws ≤ n → take n ws ≡ ws
take_whole [] zero le = refl
take_whole [] (suc n) le = refl
take_whole (w ∷ ws) zero le = absurd (omega arith)
take_whole (w ∷ ws) (suc n) le = ap (λ xs. w ∷ xs) (take_whole ws n (omega arith))

drop_first : {X : Type 0} (f : X → Text) (ws : List X) → drop 1 (map f ws) ≡ map f (take (length ws - 1) (drop 1 ws))
drop_first f [] = sym (ap (map f) (take_whole [] (0 - 1) (omega arith)))
drop_first f (w ∷ ws) = sym (ap (map f) (take_whole ws (length (w ∷ ws) - 1) (omega arith)))

pub some_mapped : {X : Type 0} (f : X → Text) (ws : List X) → 0 < length ws → 0 < length (map f ws)
some_mapped f [] h = absurd (omega arith)
some_mapped f (w ∷ ws) h = omega arith

none_if_short : (names words : List Text) → has_short words ≡ true → uses_of names words ≡ None
none_if_short names words h = ap if_once (short_none names words h None)

-- what the words behind the first are, where one of them begins with one dash
pub none_if_dashed : {X : Type 0} (f : X → Text) (ws : List X) (names : List Text) → true ≡ has_short (map f (take (length ws - 1) (drop 1 ws))) → uses_of names (drop 1 (map f ws)) ≡ None
none_if_dashed f ws names h = none_if_short names (drop 1 (map f ws)) (ap has_short (drop_first f ws) ∙ sym h)

-- and where none does
pub not_dashed : {X : Type 0} (f : X → Text) (ws : List X) → false ≡ has_short (map f (take (length ws - 1) (drop 1 ws))) → has_short (drop 1 (map f ws)) ≡ false
not_dashed f ws h = ap has_short (drop_first f ws) ∙ sym h

module _ (name : Text) (names : List Text) (fresh : has_name names others_id ≡ false) (app : App) (app_is : app ≡ app_with name names) where
  is_simple_app : is_simple_and_free app ≡ true
  is_simple_app = ap is_simple_and_free app_is ∙ simple name names

  agrees : (ws : List Text) → 0 < length ws → has_short (drop 1 ws) ≡ false → Agrees (fault_of app ws) (matches_of app ws) (uses_of names (drop 1 ws))
  agrees [] some short = absurd (omega arith)
  agrees (first ∷ words) some short = subst (λ a. Agrees (fault_of a (first ∷ words)) (matches_of a (first ∷ words)) (uses_of names words)) (sym app_is) (reads_exactly name first names words fresh short)

  pub ok_says : (ws : List Text) (m : ArgMatches) → 0 < length ws → has_short (drop 1 ws) ≡ false → (is_simple_and_free app ≡ true → fault_of app ws ≡ []) → HasMatchesOf app ws m
      → IsSomeAnd (uses_of names (drop 1 ws)) (λ us. RowsSay (rows_of (found_of m)) us)
  ok_says ws m some short passes matches = go (uses_of names (drop 1 ws)) (agrees ws some short)
    where
      go : (o : Option (List Use)) → Agrees (fault_of app ws) (matches_of app ws) o → IsSomeAnd o (λ us. RowsSay (rows_of (found_of m)) us)
      go None h = absurd (h (passes is_simple_app))
      go (Some us) h = subst (λ rs. RowsSay rs us) (sym (matches (both _ _ is_simple_app).0).0) h.1

  pub err_none : (ws : List Text) (e : Error) → 0 < length ws → has_short (drop 1 ws) ≡ false → (is_simple_and_free app ≡ true → HasKind (fault_of app ws) e) → (kind_of e ≡ OutOfMemory → ⊥)
      → uses_of names (drop 1 ws) ≡ None
  err_none ws e some short kinds other = go (uses_of names (drop 1 ws)) (agrees ws some short)
    where
      amid : (k : Kinds) → k ≡ [] → HasKind k e → ⊥
      amid k none h = elim (subst (λ x. HasKind x e) none h) [ inl memory ↦ other memory | inr among ↦ among ]

      go : (o : Option (List Use)) → Agrees (fault_of app ws) (matches_of app ws) o → o ≡ None
      go None h = refl
      go (Some us) h = absurd (amid (fault_of app ws) h.0 (kinds is_simple_app))
