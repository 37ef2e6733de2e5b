-- One word of clap's walk.
use Rattle.std.proofs.Common.{◌≡◌, ◌∙◌, ◌&&◌, ◌||◌, Bool, cond, codes, true, false, refl, sym, ap, ap₂, List, [], ◌∷◌, fold, Option, Some, None, true≢false, ◌==◌, eqb-true}
use Rattle.std.specs.Prelude.{option_and_then, nat_lt}
use Rattle.clap.proofs.WalkLemmas.{both}
use Rattle.clap.specs.declared.error.kind.ErrorKind.TheVariants.{ArgumentConflict}
use Rattle.std.specs.Str.{bytes_eq}
use Rattle.std.specs.Option.{option_map_or}
use Rattle.std.proofs.lemmas.Slice.Eq.{bytes_eq-Decides}
use Rattle.clap.specs.Lexer.{long_of, short_of, long_of_rest, short_of_rest, strip_byte}
use Rattle.clap.specs.Walk.{Held, has_row, short_or_plain, Row, Rule, Step, Waiting, Walk, after_flag, after_step, arg_by_long, idle, is_pending, long_met, long_or_other, next, option as waits_for, option_word, plain_word, positional, pushed, settled, settled_rows, subcommand_met, subcommand_or_other, to_positional, trailing, used, used_by_id, value, walked}
use Rattle.clap.specs.Kinds.{Kinds, or_else}
use Rattle.clap.specs.Faults.{bundle_fault, flag_word_fault, long_fault, other_fault, positional_fault, settle_fault, step_fault, stray_fault, turn_fault, use_fault, walk_fault}
use Rattle.dv_words.specs.Uses.{Text, has_name, is_dashed, is_double_dashed, name_in, has_value, value_in}
use Rattle.dv_words.specs.Commands.{others_id}
use Rattle.dv_words.proofs.Building.{by_id, by_index, by_long, help_built, option_built, others_built, others_by_id, rules_with, shape_with, same_text}

-- ---- lists of kinds

pub or_else_assoc : (a b c : Kinds) → or_else (or_else a b) c ≡ or_else a (or_else b c)
or_else_assoc [] b c = refl
or_else_assoc (k ∷ ks) b c = refl

pub or_else_nil : (a : Kinds) → or_else a [] ≡ a
or_else_nil [] = refl
or_else_nil (k ∷ ks) = refl

abbrev pub Fails : Kinds → Type 0
Fails a = a ≡ [] → ⊥

pub fails_first : (a b : Kinds) → Fails a → Fails (or_else a b)
fails_first [] b h e = h refl
fails_first (k ∷ ks) b h e = h e

pub fails_then : (a b : Kinds) → Fails b → Fails (or_else a b)
fails_then [] b h e = h e
fails_then (k ∷ ks) b h e = cc

pub fails_as : (a b : Kinds) → a ≡ b → Fails b → Fails a
fails_as a b e h is = h (sym e ∙ is)

-- ---- where the walk stands

abbrev pub Pending : Type 0
Pending = Option (Text × List Text)

abbrev pub held_at : List Row → Pending → Held
held_at rows p = record { rows = rows; pending = p; skip = 0 }

abbrev pub stands : List Row → Pending → Waiting → Bool → Walk
stands rows p waiting ended = record {
  held = held_at rows p;
  waiting = waiting;
  position = 1;
  is_trailing = ended;
  stopped = None;
}

abbrev pub left : List Text → List Row → Pending → Kinds
left names rows p = settle_fault (rules_with names) false (held_at rows p)

abbrev pub total : Text → List Text → Walk → List Text → Kinds
total name names w words = or_else (walk_fault (shape_with name names) [] w words)
    (settle_fault (rules_with names) false (fold (walked (rules_with names) []) w words).held)

abbrev pub end_rows : List Text → Walk → List Text → List Row
end_rows names w words = (settled (rules_with names) (fold (walked (rules_with names) []) w words).held).rows

pub total-nil : (name : Text) (names : List Text) (w : Walk) → total name names w [] ≡ settle_fault (rules_with names) false w.held
unfolding walk_fault
total-nil name names w = refl

pub total-cons : (name : Text) (names : List Text) (w : Walk) (word : Text) (rest : List Text)
    → total name names w (word ∷ rest) ≡ or_else (turn_fault (shape_with name names) [] w word) (total name names (walked (rules_with names) [] w word) rest)
unfolding walk_fault
total-cons name names w word rest = or_else_assoc (turn_fault (shape_with name names) [] w word) (walk_fault (shape_with name names) [] (walked (rules_with names) [] w word) rest) _

-- ---- a word that stands for itself

and_false : (b : Bool) → (b && false) ≡ false
and_false true = refl
and_false false = refl

pub value_fault : (name : Text) (names : List Text) (rows : List Row) (p : Pending)
    → step_fault (shape_with name names) 1 (held_at rows p) value ≡ left names rows p
value_fault name names rows p =
    ap (λ o. option_map_or (λ a. positional_fault (rules_with names) false a (held_at rows p)) o (stray_fault (shape_with name names))) (by_index names)
    ∙ ap (λ b. cond b [] (left names rows p)) (and_false (is_pending others_built p))

pub value_walk : (names : List Text) (rows : List Row) (p : Pending) (waiting : Waiting) (ended : Bool) (word : Text)
    → after_step (rules_with names) word (stands rows p waiting ended) (held_at rows p) value
    ≡ stands (settled_rows (rules_with names) p rows) (Some (others_id, word ∷ [])) positional (ended || false)
value_walk names rows p waiting ended word =
    ap (λ o. to_positional (rules_with names) o word (stands rows p waiting ended) (held_at rows p)) (by_index names)
    ∙ ap (λ b. record {
      held = pushed others_id word (cond b (held_at rows p) (settled (rules_with names) (held_at rows p)));
      waiting = positional;
      position = 1;
      is_trailing = ended || false;
      stopped = None;
    }) (and_false (is_pending others_built p))

pub trailing_turn : (name : Text) (names : List Text) (rows : List Row) (p : Pending) (waiting : Waiting) (word : Text)
    → turn_fault (shape_with name names) [] (stands rows p waiting true) word ≡ left names rows p
trailing_turn name names rows p waiting word = value_fault name names rows p

pub trailing_walk : (names : List Text) (rows : List Row) (p : Pending) (waiting : Waiting) (word : Text)
    → walked (rules_with names) [] (stands rows p waiting true) word
    ≡ stands (settled_rows (rules_with names) p rows) (Some (others_id, word ∷ [])) positional true
unfolding walked
trailing_walk names rows p waiting word = value_walk names rows p waiting true word

-- ---- a word before `--`

abbrev pub dashes : Text
dashes = codes "--"

none_met : (waiting : Waiting) (word : Text) → subcommand_met [] waiting word ≡ None
none_met idle word = refl
none_met (waits_for id) word = refl
none_met positional word = refl

abbrev met_at : List Text → Waiting → Text → Held → Held × Step
met_at names waiting word h = cond (bytes_eq word dashes) (h, trailing 1) (long_or_other (rules_with names) waiting word (long_of word) h)

abbrev fault_at : List Text → Text → Held → Kinds
fault_at names word h = cond (bytes_eq word dashes) [] (flag_word_fault (rules_with names) false (long_of word) word h)

pub turn_is : (name : Text) (names : List Text) (rows : List Row) (p : Pending) (waiting : Waiting) (word : Text)
    → turn_fault (shape_with name names) [] (stands rows p waiting false) word
    ≡ or_else (fault_at names word (held_at rows p)) (step_fault (shape_with name names) 1 (met_at names waiting word (held_at rows p)).0 (met_at names waiting word (held_at rows p)).1)
turn_is name names rows p waiting word =
    ap (λ o. or_else (other_fault (shape_with name names) o word (held_at rows p))
    (step_fault (shape_with name names) 1 (subcommand_or_other (rules_with names) o waiting 1 word (held_at rows p)).0 (subcommand_or_other (rules_with names) o waiting 1 word (held_at rows p)).1))
    (none_met waiting word)

pub walk_is : (names : List Text) (rows : List Row) (p : Pending) (waiting : Waiting) (word : Text)
    → walked (rules_with names) [] (stands rows p waiting false) word
    ≡ after_step (rules_with names) word (stands rows p waiting false) (met_at names waiting word (held_at rows p)).0 (met_at names waiting word (held_at rows p)).1
unfolding walked
walk_is names rows p waiting word =
    ap (λ o. after_step (rules_with names) word (stands rows p waiting false) (subcommand_or_other (rules_with names) o waiting 1 word (held_at rows p)).0 (subcommand_or_other (rules_with names) o waiting 1 word (held_at rows p)).1)
    (none_met waiting word)

-- what a word looks like
pub long_is : (word : Text) → is_double_dashed word ≡ true → bytes_eq word dashes ≡ false
    → long_of word ≡ Some (name_in word, cond (has_value word) (Some (value_in word)) None)
long_is [] double apart = absurd (true≢false (sym double))
long_is (x ∷ []) double apart = absurd (true≢false (sym (both _ _ double).1))
long_is (x ∷ y ∷ []) double apart =
    let parts = both (x == 45) (y == 45) double in
    let same : (x ∷ y ∷ []) ≡ dashes = ap₂ (λ a b. a ∷ b ∷ []) (eqb-true x 45 parts.0) (eqb-true y 45 parts.1) in
    absurd (true≢false (sym ((bytes_eq-Decides (x ∷ y ∷ []) dashes).1 same) ∙ apart))
long_is (x ∷ y ∷ z ∷ zs) double apart =
    let parts = both (x == 45) (y == 45) double in
    ap (λ t. option_and_then long_of_rest (option_and_then (strip_byte 45) (cond t (Some (y ∷ z ∷ zs)) None))) parts.0
    ∙ ap (λ t. option_and_then long_of_rest (cond t (Some (z ∷ zs)) None)) parts.1

pub plain_long : (word : Text) → is_dashed word ≡ false → long_of word ≡ None
plain_long [] h = refl
plain_long (x ∷ xs) h = ap (λ t. option_and_then long_of_rest (option_and_then (strip_byte 45) (cond t (Some xs) None))) h

pub plain_short : (word : Text) → is_dashed word ≡ false → short_of word ≡ None
plain_short [] h = refl
plain_short (x ∷ xs) h = ap (λ t. option_and_then short_of_rest (cond t (Some xs) None)) h

pub dashes_dashed : (word : Text) → bytes_eq word dashes ≡ true → is_dashed word ≡ true
dashes_dashed word h = ap is_dashed (same_text word dashes h)

-- `--`
pub dash_turn : (name : Text) (names : List Text) (rows : List Row) (p : Pending) (waiting : Waiting) (word : Text) → bytes_eq word dashes ≡ true
    → turn_fault (shape_with name names) [] (stands rows p waiting false) word ≡ []
dash_turn name names rows p waiting word h =
    let at : Held = held_at rows p in
    turn_is name names rows p waiting word
    ∙ ap (λ t. or_else (cond t [] (flag_word_fault (rules_with names) false (long_of word) word at))
    (step_fault (shape_with name names) 1 (cond t (at, trailing 1) (long_or_other (rules_with names) waiting word (long_of word) at)).0
    (cond t (at, trailing 1) (long_or_other (rules_with names) waiting word (long_of word) at)).1)) h

pub dash_walk : (names : List Text) (rows : List Row) (p : Pending) (waiting : Waiting) (word : Text) → bytes_eq word dashes ≡ true
    → walked (rules_with names) [] (stands rows p waiting false) word ≡ stands rows p waiting true
dash_walk names rows p waiting word h =
    let at : Held = held_at rows p in
    walk_is names rows p waiting word
    ∙ ap (λ t. after_step (rules_with names) word (stands rows p waiting false) (cond t (at, trailing 1) (long_or_other (rules_with names) waiting word (long_of word) at)).0
    (cond t (at, trailing 1) (long_or_other (rules_with names) waiting word (long_of word) at)).1) h

-- any other word, which looks like `long`
abbrev turn_by : Text → List Text → Waiting → Text → Held → Option (Text × Option Text) → Kinds
turn_by name names waiting word h long = or_else (flag_word_fault (rules_with names) false long word h)
    (step_fault (shape_with name names) 1 (long_or_other (rules_with names) waiting word long h).0 (long_or_other (rules_with names) waiting word long h).1)

abbrev walk_by : List Text → List Row → Pending → Waiting → Text → Option (Text × Option Text) → Walk
walk_by names rows p waiting word long = after_step (rules_with names) word (stands rows p waiting false)
    (long_or_other (rules_with names) waiting word long (held_at rows p)).0 (long_or_other (rules_with names) waiting word long (held_at rows p)).1

turn_long : (name : Text) (names : List Text) (rows : List Row) (p : Pending) (waiting : Waiting) (word : Text) (long : Option (Text × Option Text))
    → bytes_eq word dashes ≡ false → long_of word ≡ long
    → turn_fault (shape_with name names) [] (stands rows p waiting false) word ≡ turn_by name names waiting word (held_at rows p) long
turn_long name names rows p waiting word long apart is =
    let at : Held = held_at rows p in
    turn_is name names rows p waiting word
    ∙ ap (λ t. or_else (cond t [] (flag_word_fault (rules_with names) false (long_of word) word at))
    (step_fault (shape_with name names) 1 (cond t (at, trailing 1) (long_or_other (rules_with names) waiting word (long_of word) at)).0
    (cond t (at, trailing 1) (long_or_other (rules_with names) waiting word (long_of word) at)).1)) apart
    ∙ ap (turn_by name names waiting word at) is

walk_long : (names : List Text) (rows : List Row) (p : Pending) (waiting : Waiting) (word : Text) (long : Option (Text × Option Text))
    → bytes_eq word dashes ≡ false → long_of word ≡ long
    → walked (rules_with names) [] (stands rows p waiting false) word ≡ walk_by names rows p waiting word long
walk_long names rows p waiting word long apart is =
    let at : Held = held_at rows p in
    walk_is names rows p waiting word
    ∙ ap (λ t. after_step (rules_with names) word (stands rows p waiting false) (cond t (at, trailing 1) (long_or_other (rules_with names) waiting word (long_of word) at)).0
    (cond t (at, trailing 1) (long_or_other (rules_with names) waiting word (long_of word) at)).1) apart
    ∙ ap (walk_by names rows p waiting word) is

-- a word that does not begin with `-`
abbrev pub is_option : Waiting → Bool
is_option idle = false
is_option (waits_for id) = true
is_option positional = false

plain_value : (names : List Text) (waiting : Waiting) (word : Text) (h : Held) → is_option waiting ≡ false → plain_word (rules_with names) waiting word h ≡ (h, value)
plain_value names idle word h free = refl
plain_value names (waits_for id) word h free = absurd (true≢false free)
plain_value names positional word h free = refl

apart_if_plain : (word : Text) (t : Bool) → bytes_eq word dashes ≡ t → is_dashed word ≡ false → t ≡ false
apart_if_plain word false is plain = refl
apart_if_plain word true is plain = absurd (true≢false (sym (dashes_dashed word is) ∙ plain))

pub plain_apart : (word : Text) → is_dashed word ≡ false → bytes_eq word dashes ≡ false
plain_apart word plain = apart_if_plain word (bytes_eq word dashes) refl plain

plain_turn_is : (name : Text) (names : List Text) (rows : List Row) (p : Pending) (waiting : Waiting) (word : Text) → is_dashed word ≡ false
    → turn_fault (shape_with name names) [] (stands rows p waiting false) word
    ≡ step_fault (shape_with name names) 1 (plain_word (rules_with names) waiting word (held_at rows p)).0 (plain_word (rules_with names) waiting word (held_at rows p)).1
plain_turn_is name names rows p waiting word plain =
    turn_long name names rows p waiting word None (plain_apart word plain) (plain_long word plain)
    ∙ ap (λ o. or_else (option_map_or (λ flags. bundle_fault (rules_with names) false flags (held_at rows p)) o [])
    (step_fault (shape_with name names) 1 (short_or_plain (rules_with names) waiting word o (held_at rows p)).0 (short_or_plain (rules_with names) waiting word o (held_at rows p)).1))
    (plain_short word plain)

plain_walk_is : (names : List Text) (rows : List Row) (p : Pending) (waiting : Waiting) (word : Text) → is_dashed word ≡ false
    → walked (rules_with names) [] (stands rows p waiting false) word
    ≡ after_step (rules_with names) word (stands rows p waiting false) (plain_word (rules_with names) waiting word (held_at rows p)).0 (plain_word (rules_with names) waiting word (held_at rows p)).1
plain_walk_is names rows p waiting word plain =
    walk_long names rows p waiting word None (plain_apart word plain) (plain_long word plain)
    ∙ ap (λ o. after_step (rules_with names) word (stands rows p waiting false) (short_or_plain (rules_with names) waiting word o (held_at rows p)).0 (short_or_plain (rules_with names) waiting word o (held_at rows p)).1)
    (plain_short word plain)

pub plain_turn : (name : Text) (names : List Text) (rows : List Row) (p : Pending) (waiting : Waiting) (word : Text) → is_option waiting ≡ false → is_dashed word ≡ false
    → turn_fault (shape_with name names) [] (stands rows p waiting false) word ≡ left names rows p
plain_turn name names rows p waiting word free plain =
    plain_turn_is name names rows p waiting word plain
    ∙ ap (λ (m : Held × Step). step_fault (shape_with name names) 1 m.0 m.1) (plain_value names waiting word (held_at rows p) free)
    ∙ value_fault name names rows p

pub plain_walk : (names : List Text) (rows : List Row) (p : Pending) (waiting : Waiting) (word : Text) → is_option waiting ≡ false → is_dashed word ≡ false
    → walked (rules_with names) [] (stands rows p waiting false) word ≡ stands (settled_rows (rules_with names) p rows) (Some (others_id, word ∷ [])) positional false
plain_walk names rows p waiting word free plain =
    plain_walk_is names rows p waiting word plain
    ∙ ap (λ (m : Held × Step). after_step (rules_with names) word (stands rows p waiting false) m.0 m.1) (plain_value names waiting word (held_at rows p) free)
    ∙ value_walk names rows p waiting false word

-- the same, for an option that waits
same_self : (n : Text) → bytes_eq n n ≡ true
same_self n = (bytes_eq-Decides n n).1 refl

taken_is : (names : List Text) (n : Text) (rows : List Row) (word : Text) → has_name names n ≡ true
    → plain_word (rules_with names) (waits_for n) word (held_at rows (Some (n, []))) ≡ (held_at rows (Some (n, word ∷ [])), next idle)
taken_is names n rows word known =
    ap (λ o. ((option_word o n word (held_at rows (Some (n, [])))).0, next (option_word o n word (held_at rows (Some (n, [])))).1)) (by_id names n known)
    ∙ ap (λ t. (held_at rows (Some (n, word ∷ [])), next (cond (nat_lt (cond t 1 0) 1) (waits_for n) idle))) (same_self n)

pub taken_turn : (name : Text) (names : List Text) (n : Text) (rows : List Row) (word : Text) → has_name names n ≡ true → is_dashed word ≡ false
    → turn_fault (shape_with name names) [] (stands rows (Some (n, [])) (waits_for n) false) word ≡ []
taken_turn name names n rows word known plain =
    plain_turn_is name names rows (Some (n, [])) (waits_for n) word plain
    ∙ ap (λ (m : Held × Step). step_fault (shape_with name names) 1 m.0 m.1) (taken_is names n rows word known)

pub taken_walk : (names : List Text) (n : Text) (rows : List Row) (word : Text) → has_name names n ≡ true → is_dashed word ≡ false
    → walked (rules_with names) [] (stands rows (Some (n, [])) (waits_for n) false) word ≡ stands rows (Some (n, word ∷ [])) idle false
taken_walk names n rows word known plain =
    plain_walk_is names rows (Some (n, [])) (waits_for n) word plain
    ∙ ap (λ (m : Held × Step). after_step (rules_with names) word (stands rows (Some (n, [])) (waits_for n) false) m.0 m.1) (taken_is names n rows word known)

-- `--name` and `--name=value`, of an option of the command
known_by : (names : List Text) (n : Text) → has_name names n ≡ true → arg_by_long (rules_with names) n ≡ Some (option_built n)
known_by names n known = by_long names n ∙ ap (λ t. cond t (Some (option_built n)) (cond (bytes_eq (codes "help") n || false) (Some help_built) None)) known

abbrev turn_of : Text → List Text → Waiting → Text → Held → Option Rule → Option Text → Kinds
turn_of name names waiting word h o v = or_else (long_fault (rules_with names) false o v h)
    (step_fault (shape_with name names) 1 (after_flag (rules_with names) waiting word (long_met (rules_with names) o v h).0 (long_met (rules_with names) o v h).1).0
    (after_flag (rules_with names) waiting word (long_met (rules_with names) o v h).0 (long_met (rules_with names) o v h).1).1)

abbrev walk_of : List Text → List Row → Pending → Waiting → Text → Option Rule → Option Text → Walk
walk_of names rows p waiting word o v = after_step (rules_with names) word (stands rows p waiting false)
    (after_flag (rules_with names) waiting word (long_met (rules_with names) o v (held_at rows p)).0 (long_met (rules_with names) o v (held_at rows p)).1).0
    (after_flag (rules_with names) waiting word (long_met (rules_with names) o v (held_at rows p)).0 (long_met (rules_with names) o v (held_at rows p)).1).1

module _ (name : Text) (names : List Text) (rows : List Row) (p : Pending) (waiting : Waiting) (word n : Text) (apart : bytes_eq word dashes ≡ false) where
  pub value_turn : (v : Text) → long_of word ≡ Some (n, Some v) → has_name names n ≡ true
      → turn_fault (shape_with name names) [] (stands rows p waiting false) word
      ≡ or_else (left names rows p) (use_fault false (option_built n) (v ∷ []) (settled_rows (rules_with names) p rows))
  value_turn v is known =
      turn_long name names rows p waiting word _ apart is
      ∙ ap (λ o. turn_of name names waiting word (held_at rows p) o (Some v)) (known_by names n known)
      ∙ or_else_nil _

  pub value_walked : (v : Text) → long_of word ≡ Some (n, Some v) → has_name names n ≡ true
      → walked (rules_with names) [] (stands rows p waiting false) word ≡ stands (used (option_built n) (v ∷ []) (settled_rows (rules_with names) p rows)) None idle false
  value_walked v is known =
      walk_long names rows p waiting word _ apart is
      ∙ ap (λ o. walk_of names rows p waiting word o (Some v)) (known_by names n known)

  pub name_turn : long_of word ≡ Some (n, None) → has_name names n ≡ true
      → turn_fault (shape_with name names) [] (stands rows p waiting false) word ≡ left names rows p
  name_turn is known =
      turn_long name names rows p waiting word _ apart is
      ∙ ap (λ o. turn_of name names waiting word (held_at rows p) o None) (known_by names n known)
      ∙ or_else_nil _

  pub name_walked : long_of word ≡ Some (n, None) → has_name names n ≡ true
      → walked (rules_with names) [] (stands rows p waiting false) word ≡ stands (settled_rows (rules_with names) p rows) (Some (n, [])) (waits_for n) false
  name_walked is known =
      walk_long names rows p waiting word _ apart is
      ∙ ap (λ o. walk_of names rows p waiting word o None) (known_by names n known)

  unknown_fails : (t : Bool) (v : Option Text) → Fails (long_fault (rules_with names) false (cond t (Some help_built) None) v (held_at rows p))
  unknown_fails true (Some v) e = cc
  unknown_fails true None e = fails_then (left names rows p) (use_fault false help_built [] (settled_rows (rules_with names) p rows)) (λ none. cc) e
  unknown_fails false v e = cc

  pub unknown_turn : (v : Option Text) → long_of word ≡ Some (n, v) → has_name names n ≡ false → Fails (turn_fault (shape_with name names) [] (stands rows p waiting false) word)
  unknown_turn v is unknown = fails_as _ _
      (turn_long name names rows p waiting word _ apart is
      ∙ ap (λ o. turn_of name names waiting word (held_at rows p) o v) (by_long names n ∙ ap (λ t. cond t (Some (option_built n)) (cond (bytes_eq (codes "help") n || false) (Some help_built) None)) unknown))
      (fails_first _ _ (unknown_fails (bytes_eq (codes "help") n || false) v))

-- ---- what is pending

pub left_others : (names : List Text) (rows : List Row) (w : Text) → has_name names others_id ≡ false → left names rows (Some (others_id, w ∷ [])) ≡ []
left_others names rows w fresh = ap (λ o. option_map_or (λ a. use_fault false a (w ∷ []) rows) o []) (others_by_id names fresh)

pub rows_others : (names : List Text) (rows : List Row) (w : Text) → has_name names others_id ≡ false → settled_rows (rules_with names) (Some (others_id, w ∷ [])) rows ≡ used others_built (w ∷ []) rows
rows_others names rows w fresh = ap (λ o. used_by_id o (w ∷ []) rows) (others_by_id names fresh)

pub left_option : (names : List Text) (rows : List Row) (n : Text) (vs : List Text) → has_name names n ≡ true → left names rows (Some (n, vs)) ≡ use_fault false (option_built n) vs rows
left_option names rows n vs known = ap (λ o. option_map_or (λ a. use_fault false a vs rows) o []) (by_id names n known)

pub rows_option : (names : List Text) (rows : List Row) (n : Text) (vs : List Text) → has_name names n ≡ true → settled_rows (rules_with names) (Some (n, vs)) rows ≡ used (option_built n) vs rows
rows_option names rows n vs known = ap (λ o. used_by_id o vs rows) (by_id names n known)

pub use_is : (n v : Text) (rows : List Row) → use_fault false (option_built n) (v ∷ []) rows ≡ cond (has_row n rows) (ArgumentConflict ∷ []) []
use_is n v rows = go (has_row n rows)
  where
    go : (t : Bool) → or_else (cond (t && true) (ArgumentConflict ∷ []) []) [] ≡ cond t (ArgumentConflict ∷ []) []
    go true = refl
    go false = refl

pub use_missing : (n : Text) (rows : List Row) → Fails (use_fault false (option_built n) [] rows)
use_missing n rows e = cc
