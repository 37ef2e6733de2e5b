-- What one more use makes of what the rows say.
use Rattle.std.proofs.Common.{◌≡◌, ◌∙◌, ◌&&◌, Bool, cond, true, false, not, refl, sym, ap, List, [], ◌∷◌, ◌++◌, Option, Some, None, is_some, append_assoc}
use Rattle.std.specs.Str.{bytes_eq}
use Rattle.std.specs.Prelude.{unwrap_or}
use Rattle.std.proofs.lemmas.List.{append-nil}
use Rattle.clap.specs.Walk.{Row, all_of, has_row, with_values, without, used, reading_by}
use Rattle.clap.specs.declared.parser.matches.ValueSource.TheVariants.{CommandLine}
use Rattle.dv_words.specs.Uses.{Text, Use, option, other, given_to, as_other, values_of, others_of, is_empty, is_new, gives_once, then_says}
use Rattle.dv_words.specs.Commands.{RowsSay, nonempty, others_id}
use Rattle.dv_words.proofs.Building.{option_built, others_built}
use Rattle.dv_words.proofs.Rows.{has_row-all_of, without_none, all_of-with_values}

pub values_of-push : (n : Text) (us : List Use) (u : Use) → values_of n (us ++ u ∷ []) ≡ values_of n us ++ given_to n u
unfolding values_of
values_of-push n [] u = append-nil (given_to n u)
values_of-push n (x ∷ us) u = ap (λ vs. given_to n x ++ vs) (values_of-push n us u) ∙ sym (append_assoc (given_to n x) (values_of n us) (given_to n u))

pub others_of-push : (us : List Use) (u : Use) → others_of (us ++ u ∷ []) ≡ others_of us ++ as_other u
unfolding others_of
others_of-push [] u = append-nil (as_other u)
others_of-push (x ∷ us) u = ap (λ vs. as_other x ++ vs) (others_of-push us u) ∙ sym (append_assoc (as_other x) (others_of us) (as_other u))

nonempty-push : (vs : List Text) (v : Text) → Some (unwrap_or (nonempty vs) [] ++ v ∷ []) ≡ nonempty (vs ++ v ∷ [])
nonempty-push [] v = refl
nonempty-push (x ∷ vs) v = refl

nonempty-same : (vs : List Text) → nonempty vs ≡ nonempty (vs ++ [])
nonempty-same vs = ap nonempty (sym (append-nil vs))

abbrev pushed_value : Bool → List Text → Text → List Text
pushed_value t vs v = vs ++ cond t (v ∷ []) []

push_if : (t : Bool) (vs : List Text) (v : Text) → cond t (Some (unwrap_or (nonempty vs) [] ++ v ∷ [])) (nonempty vs) ≡ nonempty (pushed_value t vs v)
push_if true vs v = nonempty-push vs v
push_if false vs v = nonempty-same vs

abbrev at : Bool → Text → Option (List Text) → Option (List Text)
at t v o = cond t (Some (unwrap_or o [] ++ v ∷ [])) o

-- a word that stands for itself
pub says_other : (rows : List Row) (past : List Use) (w : Text) → RowsSay rows past → RowsSay (used others_built (w ∷ []) rows) (past ++ other w ∷ [])
says_other rows past w h = record {
  options = λ n differs. all_of-with_values others_id n (reading_by others_built) CommandLine (w ∷ []) rows ∙ ap (λ t. at t w (all_of n rows)) differs
      ∙ h.options n differs ∙ nonempty-same (values_of n past) ∙ ap nonempty (sym (values_of-push n past (other w)));
  others = all_of-with_values others_id others_id (reading_by others_built) CommandLine (w ∷ []) rows ∙ ap (at true w) h.others
      ∙ nonempty-push (others_of past) w ∙ ap nonempty (sym (others_of-push past (other w)));
}

no_row : (n : Text) (rows : List Row) (past : List Use) → RowsSay rows past → bytes_eq others_id n ≡ false → (has_row n rows ≡ not (is_empty (values_of n past)))
no_row n rows past h differs = has_row-all_of n rows ∙ ap is_some (h.options n differs) ∙ go (values_of n past)
  where
    go : (vs : List Text) → is_some (nonempty vs) ≡ not (is_empty vs)
    go [] = refl
    go (x ∷ xs) = refl

pub row_is : (n v : Text) (rows : List Row) (past : List Use) → RowsSay rows past → bytes_eq others_id n ≡ false → has_row n rows ≡ not (is_new past (option n v))
row_is n v rows past h differs = no_row n rows past h differs

-- the value of an option that has none
pub says_option : (rows : List Row) (past : List Use) (n v : Text) → RowsSay rows past → bytes_eq others_id n ≡ false → bytes_eq n others_id ≡ false → is_new past (option n v) ≡ true
    → RowsSay (used (option_built n) (v ∷ []) rows) (past ++ option n v ∷ [])
says_option rows past n v h differs apart new = record {
  options = λ m other_than. ap (λ rs. all_of m (with_values n (reading_by (option_built n)) CommandLine (v ∷ []) rs)) same
      ∙ all_of-with_values n m (reading_by (option_built n)) CommandLine (v ∷ []) rows ∙ ap (at (bytes_eq n m) v) (h.options m other_than)
      ∙ push_if (bytes_eq n m) (values_of m past) v ∙ ap nonempty (sym (values_of-push m past (option n v)));
  others = ap (λ rs. all_of others_id (with_values n (reading_by (option_built n)) CommandLine (v ∷ []) rs)) same
      ∙ all_of-with_values n others_id (reading_by (option_built n)) CommandLine (v ∷ []) rows ∙ ap (λ t. at t v (all_of others_id rows)) apart
      ∙ h.others ∙ nonempty-same (others_of past) ∙ ap nonempty (sym (others_of-push past (option n v)));
}
  where
    same : without n rows ≡ rows
    same = without_none n rows (row_is n v rows past h differs ∙ ap not new)

-- ---- the answer, past what was said before

abbrev pub answer : List Use → Option (List Use) → Option (List Use)
answer past None = None
answer past (Some us) = cond (gives_once past us) (Some (past ++ us)) None

pub answer_new : (past : List Use) (u : Use) (o : Option (List Use)) → is_new past u ≡ true → answer (past ++ u ∷ []) o ≡ answer past (then_says u o)
unfolding gives_once
answer_new past u None new = refl
answer_new past u (Some us) new =
    ap (λ t. cond (t && gives_once (past ++ u ∷ []) us) (Some ((past ++ u ∷ []) ++ us)) None) (sym new)
    ∙ ap (λ xs. cond (is_new past u && gives_once (past ++ u ∷ []) us) (Some xs) None) (append_assoc past (u ∷ []) us)

pub answer_old : (past : List Use) (u : Use) (o : Option (List Use)) → is_new past u ≡ false → answer past (then_says u o) ≡ None
unfolding gives_once
answer_old past u None old = refl
answer_old past u (Some us) old = ap (λ t. cond (t && gives_once (past ++ u ∷ []) us) (Some (past ++ u ∷ us)) None) old
