use Rattle.std.proofs.Common.{◌∙◌, sym, arith}
use Rattle.std.specs.String.{string_bytes}
use Rattle.dv_words.proofs.Ends.{at_dashes, at_end, at_other, at_single}
use Rattle.dv_words.proofs.words.one_dash_word.Goals as goal

pub returns-then-eq : goal.returns-then-eq
returns-then-eq c = sym (c.loop-word.invariant ∙ at_dashes (λ w. string_bytes w) c.args.words.now c.loop-word.word-index c.word-item.result c.as_str-word.result.now
    (omega arith) c.word-item.is c.as_str-word.ensures.value c.if-eq.ensures)

pub returns-then-begins_with_one_dash : goal.returns-then-begins_with_one_dash
returns-then-begins_with_one_dash c = sym (c.loop-word.invariant ∙ at_single (λ w. string_bytes w) c.args.words.now c.loop-word.word-index c.word-item.result c.as_str-word.result.now
    (omega arith) c.word-item.is c.as_str-word.ensures.value c.if-eq.ensures c.if-begins_with_one_dash.ensures)

pub loop-word-preserved : goal.loop-word-preserved
loop-word-preserved c = c.loop-word.invariant ∙ at_other (λ w. string_bytes w) c.args.words.now c.loop-word.word-index c.word-item.result c.as_str-word.result.now
    (omega arith) c.word-item.is c.as_str-word.ensures.value c.if-eq.ensures c.if-begins_with_one_dash.ensures

pub returns : goal.returns
returns c = sym (c.loop-word.invariant ∙ at_end (λ w. string_bytes w) c.args.words.now c.loop-word.word-index (omega arith))
