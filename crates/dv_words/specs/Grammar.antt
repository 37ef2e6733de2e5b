-- The grammar of a command's words, rule by rule.
use Rattle.std.specs.Prelude.{◌≡◌, true, false, List, [], ◌∷◌, ◌++◌, map, codes, length, Bool, ◌&&◌, not, ◌==◌, nat_lt}
use Rattle.std.specs.List.{list_all, list_any}
use Rattle.dv_words.specs.Uses.{Text, Use, option, other, is_dashed, has_name, gives_once}

-- With the options `names`, the words say these uses, in this order.
pub data Says (names : List Text) : List Text → List Use → Type 0 where
  nothing : Says names [] []
  -- after `--` each word stands for itself
  ended : (words : List Text) → Says names (codes "--" ∷ words) (map other words)
  -- so does a word that does not begin with `-`
  plain : (word : Text) (words : List Text) (us : List Use) → is_dashed word ≡ false → Says names words us
      → Says names (word ∷ words) (other word ∷ us)
  -- `--name VALUE`, where the value does not begin with `-`
  spaced : (n v : Text) (words : List Text) (us : List Use) → has_name names n ≡ true → is_dashed v ≡ false → Says names words us
      → Says names ((codes "--" ++ n) ∷ v ∷ words) (option n v ∷ us)
  -- `--name=VALUE`, where the value may be anything
  joined : (n v : Text) (words : List Text) (us : List Use) → has_name names n ≡ true → Says names words us
      → Says names ((codes "--" ++ n ++ 61 ∷ v) ∷ words) (option n v ∷ us)

-- The words are a command's with these uses: they say them, and no option is given twice.
pub record IsCommand (names words : List Text) (us : List Use) : Type 0 where
  pub says : Says names words us
  pub once : gives_once [] us ≡ true

-- an option's name is not empty and has no `=`
abbrev pub is_name : Text → Bool
is_name n = nat_lt 0 (length n) && not (list_any (λ x. x == 61) n)

abbrev pub are_names : List Text → Bool
are_names = list_all is_name
