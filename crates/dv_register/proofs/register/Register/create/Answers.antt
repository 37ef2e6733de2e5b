use Rattle.std.proofs.Common.{◌≡◌, ◌∙◌, ap, refl, sym, subst, ℕ, List, length, rules}
use Rattle.dv_lms.specs.Height.{leaf_count}
use Rattle.dv_lms.specs.Identity.{Identity}
use Rattle.dv_lms.specs.Signed.{public_of}
use Rattle.dv_register.specs.Layout.{head_of}
use Rattle.dv_register.specs.Steps.{IsEmptyRegister}
use Rattle.dv_register.specs.State.{entries_of}
use Rattle.dv_register.specs.declared.place.Place.{Place}
use Rattle.dv_register.proofs.StepLemmas.{ok_part}
use Rattle.dv_register.proofs.FreshLemmas.{held_created}
use Rattle.dv_register.proofs.register.Register.create.Goals as goal

pub invariant_of-result : goal.invariant_of-result
invariant_of-result g c =
    let sixty : length c.public.result ≡ 60 = search rules in
    held_created g.V.Station.tells g.V.Station.content g.V.Station.counts g.P.Releases.allows _ _ c.new.result.items c.new-2.result.items
    (ap (λ (l : List Place). entries_of l c.new-2.result.items) c.new.ensures.items) refl refl c.of-opening.ensures c.new.ensures.items
    (ap (λ (i : Identity). length (public_of i)) c.of.ensures ∙ sym (ap length c.public.ensures) ∙ sixty) (c.leaves.ensures ∙ ap leaf_count c.height.ensures ∙ sym (ap (λ (i : Identity). leaf_count i.height) c.of.ensures)) c.requires.first
    (λ told. subst (λ (l : List ℕ). IsEmptyRegister (head_of l c.args.first) (g.V.Station.content c.write_head.new.station)) (c.public.ensures ∙ sym (ap public_of c.of.ensures))
    (ok_part _ c.write_head.result (sym c.is_err.ensures.value ∙ c.if-is_err.false) (c.write_head.ensures.written (sym c.write_head.ensures.tells ∙ told))))

pub returns-clause-kept : goal.returns-clause-kept
returns-clause-kept g c = (invariant_of-result g c).kept
