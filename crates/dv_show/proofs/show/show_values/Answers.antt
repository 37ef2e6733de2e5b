use Rattle.std.proofs.Common.{arith, true≢false, sym}
use Rattle.std.specs.String.{string_bytes}
use Rattle.dv_show.proofs.LengthLemmas.{text_is_short}
use Rattle.dv_show.proofs.ShowLemmas.{not_shown, showing_more, shown_all}
use Rattle.dv_show.proofs.show.show_values.Goals as goal

pub returns-in-Err-clause-refused : goal.returns-in-Err-clause-refused
returns-in-Err-clause-refused c = λ _.
    not_shown c.args.octets.now c.values.rest (string_bytes c.values.text) c.values.invariant
    (λ s octets after q e. true≢false (sym (c.in-Err.ensures.only s octets after q e).0))

pub returns-then-at_end-clause-shown : goal.returns-then-at_end-clause-shown
returns-then-at_end-clause-shown c =
    shown_all c.args.octets.now c.values.rest (string_bytes c.values.text) c.values.invariant c.in-Ok.value c.next_value.new.c (string_bytes c.push_line.new.text)
    (record {
      found = c.in-Ok.ensures.found;
      only = λ s octets rest q e. (c.in-Ok.ensures.only s octets rest q e).1;
      levels = c.in-Ok.ensures.levels;
      shorter = c.in-Ok.ensures.shorter;
    })
    c.in-Ok-push_line.ensures c.if-at_end.ensures

pub returns-then-at_end-clause-short : goal.returns-then-at_end-clause-short
returns-then-at_end-clause-short c =
    text_is_short c.args.octets.now (string_bytes c.push_line.new.text) (λ i. omega (arith, c.type_inv.octets i)) (returns-then-at_end-clause-shown c)

pub values-preserved : goal.values-preserved
values-preserved c =
    showing_more c.args.octets.now c.values.rest (string_bytes c.values.text) c.values.invariant c.in-Ok.value c.next_value.new.c (string_bytes c.push_line.new.text)
    (record {
      found = c.in-Ok.ensures.found;
      only = λ s octets rest q e. (c.in-Ok.ensures.only s octets rest q e).1;
      levels = c.in-Ok.ensures.levels;
      shorter = c.in-Ok.ensures.shorter;
    })
    c.in-Ok-push_line.ensures c.if-at_end.ensures
