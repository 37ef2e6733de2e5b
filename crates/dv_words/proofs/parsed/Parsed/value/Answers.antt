use Rattle.std.proofs.Common.{◌∙◌, ap}
use Rattle.std.specs.Prelude.{option_and_then, slice_get}
use Rattle.clap.specs.Words.{found_of, rows_of}
use Rattle.clap.proofs.WalkLemmas.{first_value-rows}
use Rattle.dv_words.specs.Uses.{values_of}
use Rattle.dv_words.proofs.Getters.{first_nonempty, first_of-all_of}
use Rattle.dv_words.proofs.parsed.Parsed.value.Goals as goal

pub returns : goal.returns
returns c = λ said says apart. c.get_str.ensures ∙ first_value-rows (found_of c.args.self.now.matches) c.args.option.now ∙ first_of-all_of c.args.option.now (rows_of (found_of c.args.self.now.matches))
    ∙ ap (option_and_then (λ vs. slice_get vs 0)) (says.options c.args.option.now apart) ∙ first_nonempty (values_of c.args.option.now said)
