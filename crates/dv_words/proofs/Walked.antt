-- clap's walk over the words, and what the words say.
use Rattle.std.proofs.Common.{◌≡◌, ◌∙◌, ◌&&◌, ◌||◌, Bool, cond, true, false, not, refl, sym, ap, ap₂, List, [], ◌∷◌, ◌++◌, map, Option, Some, None, append_assoc, true≢false, subst}
use Rattle.std.specs.Str.{bytes_eq}
use Rattle.std.proofs.lemmas.List.{append-nil}
use Rattle.clap.specs.Walk.{Row, Waiting, Walk, idle, option as waits_for, positional, settled_rows, used, walked}
use Rattle.clap.specs.Kinds.{Kinds, or_else}
use Rattle.clap.specs.Faults.{turn_fault, use_fault}
use Rattle.clap.specs.declared.error.kind.ErrorKind.TheVariants.{ArgumentConflict}
use Rattle.clap.specs.Lexer.{long_of}
use Rattle.dv_words.specs.Uses.{Text, Use, option, other, said, then_says, gives_once, is_new, has_name, has_short, is_single_dashed, is_dashed, is_double_dashed, name_in, has_value, value_in}
use Rattle.dv_words.specs.Commands.{RowsSay, others_id}
use Rattle.dv_words.proofs.Building.{option_built, rules_with, shape_with, same_text}
use Rattle.dv_words.proofs.Says.{answer, answer_new, answer_old, says_option, says_other, row_is}
use Rattle.dv_words.proofs.Steps.{Fails, Pending, dash_turn, dash_walk, dashes, end_rows, fails_as, fails_first, fails_then, is_option, left, left_option, left_others, long_is, name_turn, name_walked, plain_apart, plain_turn, plain_walk, rows_option, rows_others, stands, taken_turn, taken_walk, total, total-cons, total-nil, trailing_turn, trailing_walk, unknown_turn, use_is, use_missing, value_turn, value_walked}

-- the kinds are those of an answer, and the rows are what it says
abbrev pub Agrees : Kinds → List Row → Option (List Use) → Type 0
Agrees fault rows None = Fails fault
Agrees fault rows (Some us) = (fault ≡ []) × RowsSay rows us

pub agrees_as : (a b : Kinds) (rs ts : List Row) (o p : Option (List Use)) → a ≡ b → rs ≡ ts → o ≡ p → Agrees b ts p → Agrees a rs o
agrees_as a b rs ts o p ab rt op h = subst (λ x. Agrees x rs o) (sym ab) (subst (λ x. Agrees b x o) (sym rt) (subst (λ x. Agrees b ts x) (sym op) h))

module _ (name : Text) (names : List Text) where
  abbrev Reads : Walk → List Text → Option (List Use) → Type 0
  Reads w words o = Agrees (total name names w words) (end_rows names w words) o

  -- a step that passes
  passes : (w next : Walk) (word : Text) (rest : List Text) (o : Option (List Use)) → turn_fault (shape_with name names) [] w word ≡ []
      → walked (rules_with names) [] w word ≡ next → Reads next rest o → Reads w (word ∷ rest) o
  passes w next word rest o turn walk h = agrees_as _ (total name names next rest) _ (end_rows names next rest) o o
      (total-cons name names w word rest ∙ ap (λ x. or_else x (total name names (walked (rules_with names) [] w word) rest)) turn ∙ ap (λ x. total name names x rest) walk)
      (ap (λ x. end_rows names x rest) walk) refl h

  fails_now : (w : Walk) (word : Text) (rest : List Text) → Fails (turn_fault (shape_with name names) [] w word) → Fails (total name names w (word ∷ rest))
  fails_now w word rest h = fails_as _ _ (total-cons name names w word rest) (fails_first _ _ h)

  fails_later : (w next : Walk) (word : Text) (rest : List Text) → walked (rules_with names) [] w word ≡ next → Fails (total name names next rest) → Fails (total name names w (word ∷ rest))
  fails_later w next word rest walk h = fails_as _ _ (total-cons name names w word rest ∙ ap (λ x. or_else (turn_fault (shape_with name names) [] w word) (total name names x rest)) walk) (fails_then _ _ h)

  -- ---- what is pending does not pass
  lost_ended : (rows : List Row) (p : Pending) (waiting : Waiting) (words : List Text) → Fails (left names rows p) → Fails (total name names (stands rows p waiting true) words)
  lost_ended rows p waiting [] h = fails_as _ _ (total-nil name names (stands rows p waiting true)) h
  lost_ended rows p waiting (word ∷ rest) h = fails_now _ word rest (fails_as _ _ (trailing_turn name names rows p waiting word) h)

  abbrev value_if : Text → Option Text
  value_if word = cond (has_value word) (Some (value_in word)) None

  -- a word that begins with `--`, where what is pending does not pass
  lost_long : (rows : List Row) (p : Pending) (waiting : Waiting) (word : Text) → Fails (left names rows p) → bytes_eq word dashes ≡ false → is_double_dashed word ≡ true
      → Fails (turn_fault (shape_with name names) [] (stands rows p waiting false) word)
  lost_long rows p waiting word h apart double = go (has_name names (name_in word)) (has_value word) refl (long_is word double apart)
    where
      go : (k v : Bool) → has_name names (name_in word) ≡ k → long_of word ≡ Some (name_in word, cond v (Some (value_in word)) None)
          → Fails (turn_fault (shape_with name names) [] (stands rows p waiting false) word)
      go false v known is = unknown_turn name names rows p waiting word (name_in word) apart (cond v (Some (value_in word)) None) is known
      go true true known is = fails_as _ _ (value_turn name names rows p waiting word (name_in word) apart (value_in word) is known) (fails_first _ _ h)
      go true false known is = fails_as _ _ (name_turn name names rows p waiting word (name_in word) apart is known) h

  not_single : (word : Text) → is_single_dashed word ≡ false → is_dashed word ≡ true → is_double_dashed word ≡ true
  not_single word h dashed = go (is_dashed word) (is_double_dashed word) h dashed
    where
      go : (a b : Bool) → (a && not b) ≡ false → a ≡ true → b ≡ true
      go false b h e = absurd (true≢false (sym e))
      go true false h e = absurd (true≢false h)
      go true true h e = refl

  abbrev no_short : Text → List Text → Bool
  no_short word rest = cond (bytes_eq word dashes) false (is_single_dashed word || has_short rest)

  short_here : (word : Text) (b : Bool) → cond (bytes_eq word dashes) false (is_single_dashed word || b) ≡ false → bytes_eq word dashes ≡ false → (is_single_dashed word ≡ false) × (b ≡ false)
  short_here word b h apart = go (is_single_dashed word) b (ap (λ t. cond t false (is_single_dashed word || b)) (sym apart) ∙ h)
    where
      go : (a b : Bool) → (a || b) ≡ false → (a ≡ false) × (b ≡ false)
      go true b h = absurd (true≢false h)
      go false b h = (refl, h)

  short_cons : (word : Text) (rest : List Text) → has_short (word ∷ rest) ≡ false → cond (bytes_eq word dashes) false (is_single_dashed word || has_short rest) ≡ false
  unfolding has_short
  short_cons word rest h = h

  lost : (rows : List Row) (p : Pending) (waiting : Waiting) (words : List Text) → is_option waiting ≡ false → has_short words ≡ false → Fails (left names rows p)
      → Fails (total name names (stands rows p waiting false) words)
  lost rows p waiting [] free short h = fails_as _ _ (total-nil name names (stands rows p waiting false)) h
  lost rows p waiting (word ∷ rest) free short h = go (bytes_eq word dashes) (is_dashed word) refl refl
    where
      go : (t d : Bool) → bytes_eq word dashes ≡ t → is_dashed word ≡ d → Fails (total name names (stands rows p waiting false) (word ∷ rest))
      go true d is dashed = fails_later _ (stands rows p waiting true) word rest (dash_walk names rows p waiting word is) (lost_ended rows p waiting rest h)
      go false false is plain = fails_now _ word rest (fails_as _ _ (plain_turn name names rows p waiting word free plain) h)
      go false true is dashed = fails_now _ word rest (lost_long rows p waiting word h is
          (not_single word (short_here word (has_short rest) (short_cons word rest short) is).0 dashed))

  -- ---- after `--`
  module _ (fresh : has_name names others_id ≡ false) where
    ended : (words : List Text) (past : List Use) (rows : List Row) (p : Pending) (waiting : Waiting) → left names rows p ≡ [] → RowsSay (settled_rows (rules_with names) p rows) past
        → Reads (stands rows p waiting true) words (Some (past ++ map other words))
    ended [] past rows p waiting passed says = (total-nil name names (stands rows p waiting true) ∙ passed, subst (λ us. RowsSay (settled_rows (rules_with names) p rows) us) (sym (append-nil past)) says)
    ended (word ∷ rest) past rows p waiting passed says =
        let now : List Row = settled_rows (rules_with names) p rows in
        let more = ended rest (past ++ other word ∷ []) now (Some (others_id, word ∷ [])) positional (left_others names now word fresh)
        (subst (λ rs. RowsSay rs (past ++ other word ∷ [])) (sym (rows_others names now word fresh)) (says_other now past word says)) in
        passes _ (stands now (Some (others_id, word ∷ [])) positional true) word rest (Some (past ++ map other (word ∷ rest))) (trailing_turn name names rows p waiting word ∙ passed) (trailing_walk names rows p waiting word)
        (subst (λ us. Reads (stands now (Some (others_id, word ∷ [])) positional true) rest (Some us)) (append_assoc past (other word ∷ []) (map other rest)) more)

    others_once : (past : List Use) (words : List Text) → gives_once past (map other words) ≡ true
    unfolding gives_once
    others_once past [] = refl
    others_once past (word ∷ rest) = others_once (past ++ other word ∷ []) rest

    answer_others : (past : List Use) (words : List Text) → answer past (Some (map other words)) ≡ Some (past ++ map other words)
    answer_others past words = ap (λ t. cond t (Some (past ++ map other words)) None) (others_once past words)

    -- an option is none of the words' own id
    apart_from : (n : Text) → has_name names n ≡ true → bytes_eq others_id n ≡ false
    apart_from n known = go (bytes_eq others_id n) refl
      where
        go : (t : Bool) → bytes_eq others_id n ≡ t → t ≡ false
        go false is = refl
        go true is = absurd (true≢false (sym known ∙ ap (has_name names) (sym (same_text others_id n is)) ∙ fresh))

    apart_to : (n : Text) → has_name names n ≡ true → bytes_eq n others_id ≡ false
    apart_to n known = go (bytes_eq n others_id) refl
      where
        go : (t : Bool) → bytes_eq n others_id ≡ t → t ≡ false
        go false is = refl
        go true is = absurd (true≢false (sym known ∙ ap (has_name names) (same_text n others_id is) ∙ fresh))

    -- ---- the walk

    abbrev Free : List Text → Type 0
    Free words = (past : List Use) (rows : List Row) (p : Pending) (waiting : Waiting) → is_option waiting ≡ false → left names rows p ≡ []
        → RowsSay (settled_rows (rules_with names) p rows) past → Reads (stands rows p waiting false) words (answer past (said names None words))

    abbrev Waits : List Text → Type 0
    Waits words = (past : List Use) (rows : List Row) (n : Text) → has_name names n ≡ true → RowsSay rows past
        → Reads (stands rows (Some (n, [])) (waits_for n) false) words (answer past (said names (Some n) words))

    use_passes_if : (n v : Text) (rows : List Row) (past : List Use) → has_name names n ≡ true → RowsSay rows past → is_new past (option n v) ≡ true → use_fault false (option_built n) (v ∷ []) rows ≡ []
    use_passes_if n v rows past known says new = use_is n v rows ∙ ap (λ t. cond t (ArgumentConflict ∷ []) []) (row_is n v rows past says (apart_from n known) ∙ ap not new)

    use_fails_if : (n v : Text) (rows : List Row) (past : List Use) → has_name names n ≡ true → RowsSay rows past → is_new past (option n v) ≡ false → Fails (use_fault false (option_built n) (v ∷ []) rows)
    use_fails_if n v rows past known says old = fails_as _ _ (use_is n v rows ∙ ap (λ t. cond t (ArgumentConflict ∷ []) []) (row_is n v rows past says (apart_from n known) ∙ ap not old)) (λ e. cc)

    reads_as : (w : Walk) (words : List Text) (o p : Option (List Use)) → o ≡ p → Reads w words p → Reads w words o
    reads_as w words o p e h = subst (λ x. Reads w words x) (sym e) h

    abbrev said_by : Text → List Text → Bool → Bool → Bool → Bool → Option (List Use)
    said_by word rest t d k v = cond t (Some (map other rest)) (cond (not d) (then_says (other word) (said names None rest))
        (cond (not k) None (cond v (then_says (option (name_in word) (value_in word)) (said names None rest)) (said names (Some (name_in word)) rest))))

    said_cons : (word : Text) (rest : List Text) → said names None (word ∷ rest)
        ≡ said_by word rest (bytes_eq word dashes) (is_dashed word) (is_double_dashed word && has_name names (name_in word)) (has_value word)
    unfolding said
    said_cons word rest = refl

    taken_by : (n word : Text) (rest : List Text) → said names (Some n) (word ∷ rest) ≡ cond (is_dashed word) None (then_says (option n word) (said names None rest))
    unfolding said
    taken_by n word rest = refl

    free_nil : Free []
    unfolding said gives_once
    free_nil past rows p waiting free passed says =
        (total-nil name names (stands rows p waiting false) ∙ passed, subst (λ us. RowsSay (settled_rows (rules_with names) p rows) us) (sym (append-nil past)) says)

    waits_nil : Waits []
    unfolding said
    waits_nil past rows n known says =
        fails_as _ _ (total-nil name names (stands rows (Some (n, [])) (waits_for n) false) ∙ left_option names rows n [] known) (use_missing n rows)

    -- `--name=value`
    free_value : (word : Text) (rest : List Text) → Free rest → (past : List Use) (rows : List Row) (p : Pending) (waiting : Waiting) → bytes_eq word dashes ≡ false
        → long_of word ≡ Some (name_in word, Some (value_in word)) → has_name names (name_in word) ≡ true → left names rows p ≡ [] → RowsSay (settled_rows (rules_with names) p rows) past
        → Reads (stands rows p waiting false) (word ∷ rest) (answer past (then_says (option (name_in word) (value_in word)) (said names None rest)))
    free_value word rest later past rows p waiting apart is known passed says = go (is_new past (option (name_in word) (value_in word))) refl
      where
        go : (b : Bool) → is_new past (option (name_in word) (value_in word)) ≡ b
            → Reads (stands rows p waiting false) (word ∷ rest) (answer past (then_says (option (name_in word) (value_in word)) (said names None rest)))
        go false old = reads_as (stands rows p waiting false) (word ∷ rest) _ None (answer_old past (option (name_in word) (value_in word)) (said names None rest) old)
            (fails_now _ word rest (fails_as _ _ (value_turn name names rows p waiting word (name_in word) apart (value_in word) is known)
            (fails_then (left names rows p) _ (use_fails_if (name_in word) (value_in word) (settled_rows (rules_with names) p rows) past known says old))))
        go true new = reads_as (stands rows p waiting false) (word ∷ rest) _ (answer (past ++ option (name_in word) (value_in word) ∷ []) (said names None rest))
            (sym (answer_new past (option (name_in word) (value_in word)) (said names None rest) new))
            (passes _ (stands (used (option_built (name_in word)) (value_in word ∷ []) (settled_rows (rules_with names) p rows)) None idle false) word rest (answer (past ++ option (name_in word) (value_in word) ∷ []) (said names None rest))
            (value_turn name names rows p waiting word (name_in word) apart (value_in word) is known
            ∙ ap₂ or_else passed (use_passes_if (name_in word) (value_in word) (settled_rows (rules_with names) p rows) past known says new))
            (value_walked name names rows p waiting word (name_in word) apart (value_in word) is known)
            (later (past ++ option (name_in word) (value_in word) ∷ []) (used (option_built (name_in word)) (value_in word ∷ []) (settled_rows (rules_with names) p rows)) None idle refl refl
            (says_option (settled_rows (rules_with names) p rows) past (name_in word) (value_in word) says (apart_from (name_in word) known) (apart_to (name_in word) known) new)))

    free_cons : (word : Text) (rest : List Text) → has_short (word ∷ rest) ≡ false → (has_short rest ≡ false → Free rest × Waits rest) → Free (word ∷ rest)
    free_cons word rest short later past rows p waiting free passed says =
        reads_as (stands rows p waiting false) (word ∷ rest) _ _ (ap (answer past) (said_cons word rest))
        (go (bytes_eq word dashes) (is_dashed word) (has_name names (name_in word)) (has_value word) refl refl refl (long_is word))
      where
        short_rest : bytes_eq word dashes ≡ false → has_short rest ≡ false
        short_rest apart = (short_here word (has_short rest) (short_cons word rest short) apart).1

        double : bytes_eq word dashes ≡ false → is_dashed word ≡ true → is_double_dashed word ≡ true
        double apart dashed = not_single word (short_here word (has_short rest) (short_cons word rest short) apart).0 dashed

        go : (t d k v : Bool) → bytes_eq word dashes ≡ t → is_dashed word ≡ d → has_name names (name_in word) ≡ k
            → (is_double_dashed word ≡ true → bytes_eq word dashes ≡ false → long_of word ≡ Some (name_in word, cond v (Some (value_in word)) None))
            → Reads (stands rows p waiting false) (word ∷ rest) (answer past (said_by word rest t d (is_double_dashed word && k) v))
        go true d k v is dashed known long = passes _ (stands rows p waiting true) word rest _ (dash_turn name names rows p waiting word is) (dash_walk names rows p waiting word is)
            (reads_as (stands rows p waiting true) rest _ (Some (past ++ map other rest)) (answer_others past rest) (ended rest past rows p waiting passed says))
        go false false k v apart plain known long =
            let now : List Row = settled_rows (rules_with names) p rows in
            reads_as (stands rows p waiting false) (word ∷ rest) _ (answer (past ++ other word ∷ []) (said names None rest)) (sym (answer_new past (other word) (said names None rest) refl))
            (passes _ (stands now (Some (others_id, word ∷ [])) positional false) word rest _ (plain_turn name names rows p waiting word free plain ∙ passed) (plain_walk names rows p waiting word free plain)
            ((later (short_rest apart)).0 (past ++ other word ∷ []) now (Some (others_id, word ∷ [])) positional refl (left_others names now word fresh)
            (subst (λ rs. RowsSay rs (past ++ other word ∷ [])) (sym (rows_others names now word fresh)) (says_other now past word says))))
        go false true false v apart dashed known long = reads_as (stands rows p waiting false) (word ∷ rest) _ None
            (ap (λ b. answer past (said_by word rest false true (b && false) v)) (double apart dashed))
            (fails_now _ word rest (unknown_turn name names rows p waiting word (name_in word) apart (cond v (Some (value_in word)) None) (long (double apart dashed) apart) known))
        go false true true true apart dashed known long = reads_as (stands rows p waiting false) (word ∷ rest) _ _
            (ap (λ b. answer past (said_by word rest false true (b && true) true)) (double apart dashed))
            (free_value word rest (later (short_rest apart)).0 past rows p waiting apart (long (double apart dashed) apart) known passed says)
        go false true true false apart dashed known long = reads_as (stands rows p waiting false) (word ∷ rest) _ _
            (ap (λ b. answer past (said_by word rest false true (b && true) false)) (double apart dashed))
            (passes _ (stands (settled_rows (rules_with names) p rows) (Some (name_in word, [])) (waits_for (name_in word)) false) word rest _
            (name_turn name names rows p waiting word (name_in word) apart (long (double apart dashed) apart) known ∙ passed)
            (name_walked name names rows p waiting word (name_in word) apart (long (double apart dashed) apart) known)
            ((later (short_rest apart)).1 past (settled_rows (rules_with names) p rows) (name_in word) known says))

    waits_cons : (word : Text) (rest : List Text) → has_short (word ∷ rest) ≡ false → (has_short rest ≡ false → Free rest × Waits rest) → Waits (word ∷ rest)
    waits_cons word rest short later past rows n known says =
        reads_as (stands rows (Some (n, [])) (waits_for n) false) (word ∷ rest) _ _ (ap (answer past) (taken_by n word rest))
        (go (is_dashed word) (bytes_eq word dashes) (is_new past (option n word)) refl refl refl)
      where
        none : Fails (left names rows (Some (n, [])))
        none = fails_as _ _ (left_option names rows n [] known) (use_missing n rows)

        go : (d t b : Bool) → is_dashed word ≡ d → bytes_eq word dashes ≡ t → is_new past (option n word) ≡ b
            → Reads (stands rows (Some (n, [])) (waits_for n) false) (word ∷ rest) (answer past (cond d None (then_says (option n word) (said names None rest))))
        go true true b dashed is new = fails_later _ (stands rows (Some (n, [])) (waits_for n) true) word rest (dash_walk names rows (Some (n, [])) (waits_for n) word is)
            (lost_ended rows (Some (n, [])) (waits_for n) rest none)
        go true false b dashed apart new = fails_now _ word rest (lost_long rows (Some (n, [])) (waits_for n) word none apart
            (not_single word (short_here word (has_short rest) (short_cons word rest short) apart).0 dashed))
        go false t false plain is old = reads_as (stands rows (Some (n, [])) (waits_for n) false) (word ∷ rest) _ None (answer_old past (option n word) (said names None rest) old)
            (fails_later _ (stands rows (Some (n, word ∷ [])) idle false) word rest (taken_walk names n rows word known plain)
            (lost rows (Some (n, word ∷ [])) idle rest refl (short_here word (has_short rest) (short_cons word rest short) (plain_apart word plain)).1
            (fails_as _ _ (left_option names rows n (word ∷ []) known) (use_fails_if n word rows past known says old))))
        go false t true plain is new = reads_as (stands rows (Some (n, [])) (waits_for n) false) (word ∷ rest) _ (answer (past ++ option n word ∷ []) (said names None rest))
            (sym (answer_new past (option n word) (said names None rest) new))
            (passes _ (stands rows (Some (n, word ∷ [])) idle false) word rest _ (taken_turn name names n rows word known plain) (taken_walk names n rows word known plain)
            ((later (short_here word (has_short rest) (short_cons word rest short) (plain_apart word plain)).1).0 (past ++ option n word ∷ []) rows (Some (n, word ∷ [])) idle refl
            (left_option names rows n (word ∷ []) known ∙ use_passes_if n word rows past known says new)
            (subst (λ rs. RowsSay rs (past ++ option n word ∷ [])) (sym (rows_option names rows n (word ∷ []) known)) (says_option rows past n word says (apart_from n known) (apart_to n known) new))))

    pub both_walks : (words : List Text) → has_short words ≡ false → Free words × Waits words
    both_walks [] short = (free_nil, waits_nil)
    both_walks (word ∷ rest) short = (free_cons word rest short (both_walks rest), waits_cons word rest short (both_walks rest))
