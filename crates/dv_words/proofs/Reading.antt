-- A parse by clap, and what the words say.
use Rattle.std.proofs.Common.{◌≡◌, ◌∙◌, ◌&&◌, ◌||◌, Bool, cond, codes, true, false, not, refl, sym, ap, ap₂, List, [], ◌∷◌, ◌++◌, map, fold, Option, Some, None, is_some, true≢false}
use Rattle.std.specs.Str.{bytes_eq}
use Rattle.std.specs.List.{list_all, list_any, count_by}
use Rattle.clap.specs.Walk.{Held, Row, Rule, rows_after, finished, has_row, idle, is_early_multiple, nothing_held, settled, walk, walk_from, with_default}
use Rattle.clap.specs.Simple.{App, argument_words, matches_of, is_buildable, is_ready, is_ready_leaf, names_of}
use Rattle.clap.specs.Takes.{is_given}
use Rattle.clap.specs.Kinds.{Kinds, or_else}
use Rattle.clap.specs.Faults.{built_fault, check_fault, defaults_fault, given_default_fault, fault_of, is_free_app, is_simple_and_free, level_fault, settle_fault, walk_fault}
use Rattle.clap.specs.declared.error.kind.ErrorKind.TheVariants.{MissingRequiredArgument}
use Rattle.clap.proofs.FaultLemmas.{leaf_fault}
use Rattle.dv_words.specs.Uses.{Text, Use, option, other, said, then_says, values_of, others_of, if_once, uses_of, has_name, has_short, is_dashed, is_double_dashed, name_in, has_value, value_in}
use Rattle.dv_words.specs.Commands.{app_with, option_rule, others_id, others_rule}
use Rattle.dv_words.proofs.Building.{app_is, built_is, help_built, option_built, others_built, rules_with, shape_with}
use Rattle.dv_words.proofs.Says.{answer}
use Rattle.dv_words.proofs.Steps.{or_else_nil, stands, total, end_rows}
use Rattle.dv_words.proofs.Walked.{Agrees, agrees_as, both_walks}

-- ---- no argument has a default, and none is required

or_true : (b : Bool) → (b || true) ≡ true
or_true true = refl
or_true false = refl

same_either : (b : Bool) (rows : List Row) → cond b rows rows ≡ rows
same_either true rows = refl
same_either false rows = refl

abbrev fault_by : Rule → Bool → Kinds
fault_by a b = cond b [] (given_default_fault a a.defaults)

no_defaults : (names : List Text) (rows : List Row) → defaults_fault rows (rules_with names) ≡ []
unfolding defaults_fault
no_defaults [] rows =
    ap (λ b. or_else (fault_by others_built b) (defaults_fault (with_default rows others_built) (help_built ∷ []))) (or_true (has_row others_id rows))
    ∙ ap (λ b. or_else (fault_by help_built b) []) (or_true (has_row (codes "help") (with_default rows others_built)))
no_defaults (n ∷ ns) rows =
    ap (λ b. or_else (fault_by (option_built n) b) (defaults_fault (with_default rows (option_built n)) (rules_with ns))) (or_true (has_row n rows))
    ∙ ap (λ rs. defaults_fault rs (rules_with ns)) (same_either (has_row n rows) rows) ∙ no_defaults ns rows

none_added : (names : List Text) (rows : List Row) → fold with_default rows (rules_with names) ≡ rows
none_added [] rows = ap (λ rs. with_default rs help_built) (same_either (has_row others_id rows) rows) ∙ same_either (has_row (codes "help") rows) rows
none_added (n ∷ ns) rows = ap (λ rs. fold with_default rs (rules_with ns)) (same_either (has_row n rows) rows) ∙ none_added ns rows

none_required : (names : List Text) (rows : List Row) → list_any (λ a. a.required && not (is_given a.id rows)) (rules_with names) ≡ false
none_required [] rows = refl
none_required (n ∷ ns) rows = none_required ns rows

no_checks : (name : Text) (names : List Text) (rows : List Row) → check_fault (shape_with name names) rows false ≡ []
no_checks name names rows = ap (λ b. cond b (MissingRequiredArgument ∷ []) []) (none_required names rows)

-- ---- the command is simple

all_options : (p : Rule → Bool) (f : Text → Rule) (names : List Text) (last : List Rule) → ((n : Text) → p (f n) ≡ true) → list_all p last ≡ true → list_all p (map f names ++ last) ≡ true
all_options p f [] last each end = end
all_options p f (n ∷ ns) last each end = ap₂ (λ a b. a && b) (each n) (all_options p f ns last each end)

any_options : (p : Rule → Bool) (f : Text → Rule) (names : List Text) (last : List Rule) → ((n : Text) → p (f n) ≡ false) → list_any p last ≡ false → list_any p (map f names ++ last) ≡ false
any_options p f [] last each end = end
any_options p f (n ∷ ns) last each end = ap₂ (λ a b. a || b) (each n) (any_options p f ns last each end)

indexed : (names : List Text) → count_by (λ a. is_some a.index) (rules_with names) ≡ 1
indexed [] = refl
indexed (n ∷ ns) = indexed ns

abbrev judged : App → App → Bool
judged a b = (is_buildable a && (is_ready b.top && list_all is_ready_leaf b.subs)) && is_free_app b

abbrev judged_by : Bool → Bool → Bool → Bool → Bool
judged_by a b c d = ((a && true) && ((b && not c) && true)) && (d && true)

early : (names : List Text) → list_any (is_early_multiple (count_by (λ a. is_some a.index) (rules_with names))) (rules_with names) ≡ false
early names = ap (λ n. list_any (is_early_multiple n) (rules_with names)) (indexed names) ∙ any_options (is_early_multiple 1) option_built names (others_built ∷ help_built ∷ []) (λ n. refl) refl

pub simple : (name : Text) (names : List Text) → is_simple_and_free (app_with name names) ≡ true
simple name names =
    let rules : list_all (λ a. a.is_simple) (map option_rule names ++ others_rule ∷ []) ≡ true = all_options (λ a. a.is_simple) option_rule names (others_rule ∷ []) (λ n. refl) refl in
    let built_rules : list_all (λ a. a.is_simple) (rules_with names) ≡ true = all_options (λ a. a.is_simple) option_built names (others_built ∷ help_built ∷ []) (λ n. refl) refl in
    let free : list_all (λ a. a.is_free) (rules_with names) ≡ true = all_options (λ a. a.is_free) option_built names (others_built ∷ help_built ∷ []) (λ n. refl) refl in
    ap₂ judged (app_is name names) (built_is name names) ∙ (λ i. judged_by (rules i) (built_rules i) (early names i) (free i))

-- ---- the parse

answer_is : (o : Option (List Use)) → answer [] o ≡ if_once o
answer_is None = refl
answer_is (Some us) = refl

level : (name : Text) (names words : List Text) → level_fault (shape_with name names) [] nothing_held words false [] ≡ total name names (stands [] None idle false) words
level name names words =
    let end : Held = (walk (rules_with names) [] nothing_held words).held in
    ap (λ x. or_else (walk_fault (shape_with name names) [] (walk_from nothing_held) words) (or_else (settle_fault (rules_with names) false end) x))
    (ap₂ or_else (no_defaults names (settled (rules_with names) end).rows) (no_checks name names (finished (rules_with names) end)))
    ∙ ap (or_else (walk_fault (shape_with name names) [] (walk_from nothing_held) words)) (or_else_nil (settle_fault (rules_with names) false end))

fault_is : (name first : Text) (names words : List Text) → fault_of (app_with name names) (first ∷ words) ≡ total name names (stands [] None idle false) words
fault_is name first names words =
    ap₂ (λ a ws. built_fault a nothing_held ws) (built_is name names) (ap (λ a. argument_words a (first ∷ words)) (app_is name names))
    ∙ leaf_fault (record { top = shape_with name names; subs = [] }) nothing_held words refl
    ∙ level name names words

rows_are : (name first : Text) (names words : List Text) → matches_of (app_with name names) (first ∷ words) ≡ end_rows names (stands [] None idle false) words
rows_are name first names words =
    ap₂ (λ (a : App) ws. rows_after a.top.rules (names_of a) ws) (built_is name names) (ap (λ a. argument_words a (first ∷ words)) (app_is name names))
    ∙ none_added names (settled (rules_with names) (walk (rules_with names) [] nothing_held words).held).rows

pub reads_exactly : (name first : Text) (names words : List Text) → has_name names others_id ≡ false → has_short words ≡ false
    → Agrees (fault_of (app_with name names) (first ∷ words)) (matches_of (app_with name names) (first ∷ words)) (uses_of names words)
unfolding values_of others_of
reads_exactly name first names words fresh short =
    agrees_as _ _ _ _ _ _ (fault_is name first names words) (rows_are name first names words) (sym (answer_is (said names None words)))
    ((both_walks name names fresh words short).0 [] [] None idle refl refl (record { options = λ n apart. refl; others = refl }))

abbrev said_by : List Text → Text → List Text → Bool → Bool → Bool → Bool → Option (List Use)
said_by names word rest t d k v = cond t (Some (map other rest)) (cond (not d) (then_says (other word) (said names None rest))
    (cond (not k) None (cond v (then_says (option (name_in word) (value_in word)) (said names None rest)) (said names (Some (name_in word)) rest))))

said_cons : (names : List Text) (word : Text) (rest : List Text) → said names None (word ∷ rest)
    ≡ said_by names word rest (bytes_eq word (codes "--")) (is_dashed word) (is_double_dashed word && has_name names (name_in word)) (has_value word)
unfolding said
said_cons names word rest = refl

taken_by : (names : List Text) (n word : Text) (rest : List Text) → said names (Some n) (word ∷ rest) ≡ cond (is_dashed word) None (then_says (option n word) (said names None rest))
unfolding said
taken_by names n word rest = refl

-- a word with one `-` alone, before `--`, is refused
pub short_none : (names : List Text) (words : List Text) → has_short words ≡ true → (o : Option Text) → said names o words ≡ None
unfolding has_short
short_none names [] short o = absurd (true≢false (sym short))
short_none names (word ∷ rest) short o = go o (bytes_eq word (codes "--")) (is_dashed word) (is_double_dashed word) refl refl refl short (short_none names rest)
  where
    open_none : (d k v : Bool) → ((o : Option Text) → said names o rest ≡ None) → said_by names word rest false d k v ≡ None
    open_none false k v later = ap (then_says (other word)) (later None)
    open_none true false v later = refl
    open_none true true true later = ap (then_says (option (name_in word) (value_in word))) (later None)
    open_none true true false later = later (Some (name_in word))

    waiting_none : (n : Text) (d : Bool) → ((o : Option Text) → said names o rest ≡ None) → cond d None (then_says (option n word) (said names None rest)) ≡ None
    waiting_none n true later = refl
    waiting_none n false later = ap (then_says (option n word)) (later None)

    go : (o : Option Text) (t d b : Bool) → bytes_eq word (codes "--") ≡ t → is_dashed word ≡ d → is_double_dashed word ≡ b
        → cond t false ((d && not b) || has_short rest) ≡ true → (has_short rest ≡ true → (o : Option Text) → said names o rest ≡ None) → said names o (word ∷ rest) ≡ None
    go o true d b is dashed double e later = absurd (true≢false (sym e))
    go None false true false is dashed double e later = said_cons names word rest
        ∙ (λ i. said_by names word rest (is i) (dashed i) (double i && has_name names (name_in word)) (has_value word))
    go (Some n) false true false is dashed double e later = taken_by names n word rest ∙ ap (λ d. cond d None (then_says (option n word) (said names None rest))) dashed
    go None false true true is dashed double e later = said_cons names word rest
        ∙ ap (λ t. said_by names word rest t (is_dashed word) (is_double_dashed word && has_name names (name_in word)) (has_value word)) is ∙ open_none _ _ _ (later e)
    go (Some n) false true true is dashed double e later = taken_by names n word rest ∙ waiting_none n _ (later e)
    go None false false b is dashed double e later = said_cons names word rest
        ∙ ap (λ t. said_by names word rest t (is_dashed word) (is_double_dashed word && has_name names (name_in word)) (has_value word)) is ∙ open_none _ _ _ (later e)
    go (Some n) false false b is dashed double e later = taken_by names n word rest ∙ waiting_none n _ (later e)
