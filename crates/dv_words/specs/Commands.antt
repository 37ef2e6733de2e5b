-- A command as clap sees it, and what a parse answers.
use Rattle.std.specs.Prelude.{◌≡◌, ◌≢◌, List, [], ◌∷◌, Some, None, Option, codes, fold, map, false, Result, Ok, Err, IsSomeAnd}
use Rattle.clap.specs.Words.{App, Row, Rule, all_of, new_app, new_rule, with_rule, found_of, rows_of}
use Rattle.clap.specs.declared.builder.action.ArgAction.TheVariants.{Set, Append}
use Rattle.std.specs.Str.{bytes_eq}
use Rattle.dv_words.specs.declared.fault.WordsFault.{WordsFault}
use Rattle.dv_words.specs.declared.fault.WordsFault.TheVariants.{Memory}
use Rattle.dv_words.specs.declared.form.OptionForm.{OptionForm}
use Rattle.dv_words.specs.declared.parsed.Parsed.{Parsed}
use Rattle.dv_words.specs.Uses.{Text, Use, values_of, others_of}

-- the names of a command's options
abbrev pub names_of : List OptionForm → List Text
names_of options = map (λ o. o.name.now) options

-- the argument that takes the words which stand for themselves
abbrev pub others_id : Text
others_id = codes "words"

-- an option takes one value, which the usage names
abbrev pub option_rule : Text → Rule
option_rule n = record (new_rule n) { long = Some n; action = Some Set; value_names = 1 }

abbrev pub others_rule : Rule
others_rule = record (new_rule others_id) { action = Some Append }

abbrev pub with_option : App → Text → App
with_option a n = with_rule a (option_rule n)

-- the command of this name with these options
abbrev pub app_with : Text → List Text → App
app_with name names = with_rule (fold with_option (new_app name) names) others_rule

-- a list, where it has a member
abbrev pub nonempty : List Text → Option (List Text)
nonempty [] = None
nonempty (x ∷ xs) = Some (x ∷ xs)

-- the rows of the matches have what was said
pub record RowsSay (rows : List Row) (said : List Use) : Type 0 where
  pub options : (n : Text) → bytes_eq others_id n ≡ false
      → all_of n rows ≡ nonempty (values_of n said)
  pub others : all_of others_id rows ≡ nonempty (others_of said)

-- the words that were taken apart say this
abbrev pub IsParsed : List Use → Parsed → Type 0
IsParsed said parsed = RowsSay (rows_of (found_of parsed.matches)) said

-- A parse that ended: with what the words say, or with a fault where they say nothing. Want of memory may come always.
abbrev pub IsReading : Option (List Use) → Result Parsed WordsFault → Type 0
IsReading said (Ok parsed) = IsSomeAnd said (λ us. IsParsed us parsed)
IsReading said (Err fault) = fault ≢ Memory → said ≡ None
