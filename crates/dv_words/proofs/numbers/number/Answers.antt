use Rattle.std.proofs.Common.{◌∙◌, sym, ap, length}
use Rattle.std.specs.List.{list_all}
use Rattle.dv_words.specs.Number.{is_digit}
use Rattle.dv_words.proofs.NumberLemmas.{above_zero, number_is}
use Rattle.dv_words.proofs.numbers.number.Goals as goal

pub returns : goal.returns
returns c = c.ok.ensures.value ∙ number_is c.args.text.now c.parse.result (above_zero (length c.args.text.now) c.if-is_empty.ensures) c.if-text-gt-MOST_DIGITS.false
    (ap (list_all is_digit) (sym c.as_bytes.ensures.value) ∙ sym c.if-not-are_digits.ensures) c.parse.ensures.value.0
