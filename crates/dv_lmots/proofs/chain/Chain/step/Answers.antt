use Rattle.std.proofs.Common.{rules, ◌≡◌, length, ◌∙◌}
use Rattle.dv_lmots.specs.Lmots.{chain_step}
use Rattle.dv_lmots.proofs.Messages.{hashed_message, next_message}
use Rattle.dv_lmots.proofs.chain.Chain.step.Goals as goal

pub returns : goal.returns
unfolding chain_step
returns c =
    let m = c.self.inside.message in
    let next : length c.copy_from_slice.new.self ≡ 32 = search rules in
    let e = next_message m c.copy_from_slice.new.self c.args.j c.self.told next in
    let hash = c.copy_from_slice.ensures.after ∙ c.digest-next.ensures ∙ hashed_message m c.args.j c.self.told in
    rw (← c.self.view_is) (λ i. record { prefix = e.0 i; value = (e.1 ∙ hash) i })
