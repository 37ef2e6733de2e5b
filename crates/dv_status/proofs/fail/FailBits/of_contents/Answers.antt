use Rattle.std.proofs.Common.{◌≡◌, ◌∙◌, true, sym, ap, arith}
use Rattle.dv_schema.specs.Octets.{IsBytes}
use Rattle.dv_status.specs.Fail.{is_fail, fail_octets}
use Rattle.dv_status.proofs.FailLemmas.{octets_back}
use Rattle.dv_status.proofs.fail.FailBits.of_contents.Goals as goal

pub returns : goal.returns
returns c =
    let bytes : IsBytes c.args.contents.now = λ i. omega (arith, c.type_inv.contents i) in
    let ok : is_fail c.args.contents.now ≡ true = sym c.is_fail_contents.ensures ∙ c.if-not-is_fail_contents.false in
    (ok, ap fail_octets c.bits_of.ensures ∙ octets_back c.args.contents.now bytes ok)
