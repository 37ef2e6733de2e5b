use Rattle.std.proofs.Common.{rules, ◌≡◌, ◌∙◌, ap₂, sym, arith, get_or, []}
use Rattle.std.specs.Borrow.{Bor}
use Rattle.clap.specs.Words.{new_app, rule_of, with_rule}
use Rattle.dv_words.specs.declared.form.OptionForm.{OptionForm}
use Rattle.dv_words.specs.Uses.{Text}
use Rattle.dv_words.specs.Commands.{option_rule}
use Rattle.dv_words.proofs.Building.{options_more}
use Rattle.dv_words.proofs.words.command_of.Goals as goal

abbrev no_text : Bor Text
no_text = record { ref_ptr = (0, 0); now = [] }

abbrev no_option : OptionForm
no_option = record { name = no_text; value = no_text }

pub loop-option-preserved : goal.loop-option-preserved
loop-option-preserved c =
    let shape = c.in_ok-command.ensures.shape (search rules) in
    let rule_is : rule_of c.value_name-arg.result ≡ option_rule (get_or c.args.options.now c.loop-option.option-index no_option).name.now = search rules in
    shape ∙ ap₂ with_rule c.loop-option.invariant rule_is ∙ sym (options_more (λ o. o.name.now) c.args.options.now c.loop-option.option-index no_option (new_app c.args.command_word.now) (omega arith))
