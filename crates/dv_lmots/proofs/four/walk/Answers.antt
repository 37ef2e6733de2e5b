use Rattle.std.proofs.Common.{◌≡◌, ◌+◌, ◌*◌, ◌^◌, slice_index, ap, ◌∙◌, arith, refl}
use Rattle.dv_lmots.specs.Lmots.{chain_prefix, chain_step, chain_steps}
use Rattle.dv_lmots.proofs.ChainSteps.{chain_steps_more}
use Rattle.dv_lmots.proofs.four.walk.Goals as goal

pub loop-n-init : goal.loop-n-init
unfolding chain_steps
loop-n-init c k i j lt hi room at = refl

pub loop-n-preserved : goal.loop-n-preserved
loop-n-preserved c k i j lt hi room at =
    let n = c.loop-n.n in
    let prefix = chain_prefix c.args.id.now c.args.q i in
    let sum = c.add.ensures k lt in
    let given = c.same.ensures k lt in
    let here : slice_index c.add.result k ≡ i * 2 ^ 16 + (j + n) * 2 ^ 8 = omega arith in
    c.step-next.ensures k i (j + n) lt hi (omega arith) here
    ∙ ap (chain_step prefix (j + n)) (c.loop-n.invariant k i j lt hi room at)
    ∙ chain_steps_more prefix _ j n

pub returns : goal.returns
returns c k i j lt hi room at =
    let done : c.loop-n.n ≡ c.args.count = omega arith in
    rw done at (c.loop-n.invariant k i j lt hi room at)
