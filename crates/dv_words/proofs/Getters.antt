-- What the getters of clap's matches give.
use Rattle.std.proofs.Common.{◌≡◌, ◌∙◌, refl, List, [], ◌∷◌, Option, Some, None}
use Rattle.std.specs.Prelude.{find, option_and_then, option_map, slice_get}
use Rattle.std.specs.Str.{bytes_eq}
use Rattle.clap.specs.Words.{found_of, matched_of, raw_values}
use Rattle.clap.proofs.WalkLemmas.{raw_values-rows}
use Rattle.clap.specs.Walk.{Row, all_of, first_of}
use Rattle.dv_words.specs.declared.parsed.Parsed.{Parsed}
use Rattle.dv_words.specs.Uses.{Text, Use, others_of, first_text}
use Rattle.dv_words.specs.Commands.{nonempty, others_id, IsParsed}

pub first_of-all_of : (id : Text) (rows : List Row) → first_of id rows ≡ option_and_then (λ vs. slice_get vs 0) (all_of id rows)
first_of-all_of id rows = go (find (λ r. bytes_eq r.id id) rows)
  where
    go : (o : Option Row) → option_and_then (λ (r : Row). slice_get r.values 0) o ≡ option_and_then (λ vs. slice_get vs 0) (option_map (λ (r : Row). r.values) o)
    go None = refl
    go (Some r) = refl

pub first_nonempty : (vs : List Text) → option_and_then (λ (ws : List Text). slice_get ws 0) (nonempty vs) ≡ first_text vs
first_nonempty [] = refl
first_nonempty (v ∷ vs) = refl

-- the getter gives the words that stand for themselves
pub raw_words : (o : Option (List Text)) (parsed : Parsed) (said : List Use) → IsParsed said parsed → o ≡ option_map raw_values (matched_of (found_of parsed.matches) others_id) → o ≡ nonempty (others_of said)
raw_words o parsed said says is = is ∙ raw_values-rows (found_of parsed.matches) others_id ∙ says.others
