use Rattle.std.proofs.Common.{◌∷◌, [], List, ℕ, refl, subst}
use Rattle.dv_session.specs.Headers.{Tells}
use Rattle.dv_session.proofs.FrontLemmas.{five_joined, tells_by_five}
use Rattle.dv_session.proofs.front.joined_header.Goals as goal

pub returns : goal.returns
returns c =
    let tells = rw (c.copy_from_slice.ensures.after, c.copy_from_slice-2.ensures.after) at c.header.ensures in
    let five = five_joined c.args.first.now c.args.second.now (0 ∷ 0 ∷ 0 ∷ 0 ∷ 0 ∷ []) _ _ _ c.min-held.ensures c.min-more.ensures refl in
    tells_by_five _ c.header.result (subst (λ (octets : List ℕ). Tells octets c.header.result) five tells)
