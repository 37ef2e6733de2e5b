-- What clap makes of the commands of `specs/Commands.antt`, and how it looks their arguments up.
use Rattle.std.proofs.Common.{◌≡◌, ◌∙◌, ◌||◌, ℕ, Bool, cond, codes, true, false, refl, sym, ap, List, [], ◌∷◌, ◌++◌, map, fold, Some, None, append_assoc, true≢false, ◌<◌, ◌+◌, length, take, get_or}
use Rattle.std.specs.Str.{bytes_eq}
use Rattle.std.proofs.lemmas.Slice.Eq.{bytes_eq-Decides}
use Rattle.std.proofs.lemmas.List.{append-nil, map-append, take_more}
use Rattle.std.proofs.lemmas.List.Sums.{fold-append}
use Rattle.clap.specs.Walk.{Rule, arg_by_id, arg_by_index, arg_by_long}
use Rattle.clap.specs.Simple.{App, Shape, built, filled, filled_from, help_rule, new_shape, with_index, with_rule}
use Rattle.dv_words.specs.Uses.{Text, has_name}
use Rattle.dv_words.specs.Commands.{app_with, option_rule, others_rule, others_id, with_option}

abbrev pub with_rules : Text → List Rule → App
with_rules name rs = record { top = record (new_shape name) { rules = rs }; subs = [] }

pub fold_options : (name : Text) (rs : List Rule) (names : List Text) → fold with_option (with_rules name rs) names ≡ with_rules name (rs ++ map option_rule names)
fold_options name rs [] = ap (with_rules name) (sym (append-nil rs))
fold_options name rs (n ∷ ns) = fold_options name (rs ++ option_rule n ∷ []) ns ∙ ap (with_rules name) (append_assoc rs (option_rule n ∷ []) (map option_rule ns))

pub app_is : (name : Text) (names : List Text) → app_with name names ≡ with_rules name (map option_rule names ++ others_rule ∷ [])
app_is name names = ap (λ (a : App). record a { top = record a.top { rules = a.top.rules ++ others_rule ∷ [] } }) (fold_options name [] names)

-- the arguments as built
abbrev pub option_built : Text → Rule
option_built n = with_index 1 (filled (option_rule n))

abbrev pub others_built : Rule
others_built = with_index 1 (filled others_rule)

abbrev pub help_built : Rule
help_built = with_index 2 (filled help_rule)

abbrev pub last_rules : List Rule
last_rules = others_built ∷ help_built ∷ []

abbrev pub rules_with : List Text → List Rule
rules_with names = map option_built names ++ last_rules

abbrev pub shape_with : Text → List Text → Shape
shape_with name names = record (new_shape name) { rules = rules_with names; is_built = true; disable_help_subcommand = true }

filled_options : (names : List Text) (rest : List Rule) → filled_from 1 (map option_rule names ++ rest) ≡ map option_built names ++ filled_from 1 rest
filled_options [] rest = refl
filled_options (n ∷ ns) rest = ap (λ rs. option_built n ∷ rs) (filled_options ns rest)

abbrev built_with : Text → List Rule → App
built_with name rs = record { top = record (new_shape name) { rules = rs; is_built = true; disable_help_subcommand = true }; subs = [] }

pub built_is : (name : Text) (names : List Text) → built (app_with name names) ≡ record { top = shape_with name names; subs = [] }
built_is name names =
    ap built (app_is name names)
    ∙ ap (λ rs. built_with name (filled_from 1 rs)) (append_assoc (map option_rule names) (others_rule ∷ []) (help_rule ∷ []))
    ∙ ap (built_with name) (filled_options names (others_rule ∷ help_rule ∷ []))

-- ---- looking up

pub same_text : (a b : Text) → bytes_eq a b ≡ true → a ≡ b
same_text a b e = (bytes_eq-Decides a b).0 e

pub by_long : (names : List Text) (n : Text)
    → arg_by_long (rules_with names) n ≡ cond (has_name names n) (Some (option_built n)) (cond (bytes_eq (codes "help") n || false) (Some help_built) None)
by_long [] n = refl
by_long (m ∷ ms) n = go (bytes_eq m n) refl (by_long ms n)
  where
    go : (t : Bool) → bytes_eq m n ≡ t
        → arg_by_long (rules_with ms) n ≡ cond (has_name ms n) (Some (option_built n)) (cond (bytes_eq (codes "help") n || false) (Some help_built) None)
        → cond (t || false) (Some (option_built m)) (arg_by_long (rules_with ms) n) ≡ cond (t || has_name ms n) (Some (option_built n)) (cond (bytes_eq (codes "help") n || false) (Some help_built) None)
    go true e later = ap (λ x. Some (option_built x)) (same_text m n e)
    go false e later = later

pub by_id : (names : List Text) (n : Text) → has_name names n ≡ true → arg_by_id (rules_with names) n ≡ Some (option_built n)
by_id [] n h = absurd (true≢false (sym h))
by_id (m ∷ ms) n h = go (bytes_eq m n) refl (by_id ms n) h
  where
    go : (t : Bool) → bytes_eq m n ≡ t → (has_name ms n ≡ true → arg_by_id (rules_with ms) n ≡ Some (option_built n)) → (t || has_name ms n) ≡ true → cond t (Some (option_built m)) (arg_by_id (rules_with ms) n) ≡ Some (option_built n)
    go true e later h = ap (λ x. Some (option_built x)) (same_text m n e)
    go false e later h = later h

pub others_by_id : (names : List Text) → has_name names others_id ≡ false → arg_by_id (rules_with names) others_id ≡ Some others_built
others_by_id [] h = refl
others_by_id (m ∷ ms) h = go (bytes_eq m others_id) (others_by_id ms) h
  where
    go : (t : Bool) → (has_name ms others_id ≡ false → arg_by_id (rules_with ms) others_id ≡ Some others_built) → (t || has_name ms others_id) ≡ false → cond t (Some (option_built m)) (arg_by_id (rules_with ms) others_id) ≡ Some others_built
    go true later h = absurd (true≢false h)
    go false later h = later h

pub by_index : (names : List Text) → arg_by_index (rules_with names) 1 ≡ Some others_built
by_index [] = refl
by_index (m ∷ ms) = by_index ms

-- the command with one option more
pub options_more : {X : Type 0} (f : X → Text) (os : List X) (i : ℕ) (d : X) (a : App) → i < length os
    → fold with_option a (map f (take (i + 1) os)) ≡ with_rule (fold with_option a (map f (take i os))) (option_rule (f (get_or os i d)))
options_more f os i d a lt =
    ap (λ xs. fold with_option a (map f xs)) (take_more os i d lt)
    ∙ ap (fold with_option a) (map-append f (take i os) (get_or os i d ∷ []))
    ∙ fold-append with_option a (map f (take i os)) (f (get_or os i d) ∷ [])
