use Rattle.std.proofs.Common.{rules, arith, refl, ◌∙◌}
use Rattle.std.proofs.lemmas.Slice.{overwrites}
use Rattle.dv_lmots.proofs.Joined.{joined_none}
use Rattle.dv_lmots.proofs.Values.{value_written, values_written}
use Rattle.dv_lmots.proofs.plain.sign_ots.Goals as goal

pub loop-i-init : goal.loop-i-init
loop-i-init c = (search rules, rw joined_none refl)

pub loop-i-preserved : goal.loop-i-preserved
loop-i-preserved c = (
  search (rules, overwrites),
  value_written _ c.loop-i.octets _ _ c.loop-i.i _ c.loop-i.invariant.1 c.loop-i.invariant.0 (omega arith)
      (c.copy_from_slice.ensures.after ∙ c.value.ensures ∙ rw (c.walk.ensures, c.at_private_value-chain.ensures) refl) (search rules),
)

pub returns : goal.returns
returns c =
    values_written _ c.loop-i.octets _ c.loop-i.i c.loop-i.invariant.1 c.loop-i.invariant.0 (omega arith)
    ∙ rw (c.start-octets.ensures, c.digits-digits.ensures, c.randomizer-c.ensures) refl
