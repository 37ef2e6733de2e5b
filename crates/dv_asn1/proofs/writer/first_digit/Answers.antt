use Rattle.std.proofs.Common.{◌∙◌, sym, arith}
use Rattle.dv_asn1.proofs.Digits.{first-digits_step, first-digits_small}
use Rattle.dv_asn1.proofs.writer.first_digit.Goals as goal

pub loop-rest-preserved : goal.loop-rest-preserved
loop-rest-preserved c = (omega arith, first-digits_step c.loop-rest.rest c.loop-rest-test.true ∙ c.loop-rest.invariant.1)

pub returns : goal.returns
returns c = sym (first-digits_small c.loop-rest.rest c.loop-rest.invariant.0 c.loop-rest-test.false) ∙ c.loop-rest.invariant.1
