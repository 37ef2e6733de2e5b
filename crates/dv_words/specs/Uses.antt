-- What the words of a command line say, for a command with the options `names`, each of which takes
-- one value.
use Rattle.std.specs.Prelude.{ℕ, ◌==◌, ◌&&◌, ◌||◌, Bool, true, false, not, List, [], ◌∷◌, ◌++◌, map, drop}
use Rattle.std.specs.Prelude.{Option, Some, None, if◌then◌else◌, option_map, codes}
use Rattle.std.specs.List.{list_any, before_first, after_first}
use Rattle.std.specs.Str.{bytes_eq}

abbrev pub Text : Type 0
Text = List ℕ

-- one thing that is said: the value of an option, or a word that stands for itself
pub data Use : Type 0 where
  option : Text → Text → Use
  other : Text → Use

-- the word begins with `-` (45)
abbrev pub is_dashed : Text → Bool
is_dashed [] = false
is_dashed (x ∷ rest) = x == 45

-- the word begins with `--`
abbrev pub is_double_dashed : Text → Bool
is_double_dashed [] = false
is_double_dashed (x ∷ rest) = x == 45 && is_dashed rest

-- of a word `--name` or `--name=value`: the name, whether there is a value, and the value
abbrev pub name_in : Text → Text
name_in word = before_first (λ x. x == 61) (drop 2 word)

abbrev pub has_value : Text → Bool
has_value word = list_any (λ x. x == 61) (drop 2 word)

abbrev pub value_in : Text → Text
value_in word = after_first (λ x. x == 61) (drop 2 word)

abbrev pub has_name : List Text → Text → Bool
has_name names n = list_any (λ m. bytes_eq m n) names

abbrev pub then_says : Use → Option (List Use) → Option (List Use)
then_says u = option_map (λ us. u ∷ us)

-- What the words say, in their order; `waiting` is an option that waits for its value. After `--`
-- each word stands for itself. Before it, a word that begins with `-` names an option, and an
-- option's value stands behind `=` or is the next word, which may not begin with `-`.
unfoldable pub said : List Text → Option Text → List Text → Option (List Use)
said names None [] = Some []
said names (Some n) [] = None
said names (Some n) (word ∷ rest) =
    if is_dashed word then None else then_says (option n word) (said names None rest)
said names None (word ∷ rest) =
    if bytes_eq word (codes "--") then Some (map other rest)
    else if not (is_dashed word) then then_says (other word) (said names None rest)
    else if not (is_double_dashed word && has_name names (name_in word)) then None
    else if has_value word then then_says (option (name_in word) (value_in word)) (said names None rest)
    else said names (Some (name_in word)) rest

-- the values that are given to an option, and the words that stand for themselves
abbrev pub given_to : Text → Use → List Text
given_to name (option n v) = if bytes_eq n name then v ∷ [] else []
given_to name (other w) = []

abbrev pub as_other : Use → List Text
as_other (option n v) = []
as_other (other w) = w ∷ []

unfoldable pub values_of : Text → List Use → List Text
values_of name [] = []
values_of name (u ∷ us) = given_to name u ++ values_of name us

unfoldable pub others_of : List Use → List Text
others_of [] = []
others_of (u ∷ us) = as_other u ++ others_of us

abbrev pub is_empty : List Text → Bool
is_empty [] = true
is_empty (x ∷ xs) = false

-- no option is given twice, nor one that `past` gave
abbrev pub is_new : List Use → Use → Bool
is_new past (option n v) = is_empty (values_of n past)
is_new past (other w) = true

unfoldable pub gives_once : List Use → List Use → Bool
gives_once past [] = true
gives_once past (u ∷ us) = is_new past u && gives_once (past ++ u ∷ []) us

abbrev pub if_once : Option (List Use) → Option (List Use)
if_once None = None
if_once (Some us) = if gives_once [] us then Some us else None

-- What the words after a command word say, where they say something.
abbrev pub uses_of : List Text → List Text → Option (List Use)
uses_of names words = if_once (said names None words)

-- `name` is given this value, or none
abbrev pub first_text : List Text → Option Text
first_text [] = None
first_text (x ∷ xs) = Some x

abbrev pub value_of : Text → List Use → Option Text
value_of name us = first_text (values_of name us)

-- before `--`, no word begins with one `-` alone
abbrev pub is_single_dashed : Text → Bool
is_single_dashed word = is_dashed word && not (is_double_dashed word)

unfoldable pub has_short : List Text → Bool
has_short [] = false
has_short (word ∷ rest) = if bytes_eq word (codes "--") then false else is_single_dashed word || has_short rest
