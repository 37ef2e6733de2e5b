use Rattle.std.proofs.Common.{◌≡◌, map, take, fold}
use Rattle.clap.specs.Words.{app_of, new_app}
use Rattle.dv_words.specs.Commands.{with_option}
use Rattle.dv_words.proofs.words.command_of.Given as goal

abbrev pub invariant-loop-option : goal.invariant-loop-option
invariant-loop-option l = app_of l.command ≡ fold with_option (new_app l.command_word) (map (λ o. o.name.now) (take l.option-index l.options))
