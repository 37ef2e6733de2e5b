use Rattle.std.proofs.Common.{◌≢◌, [], ◌∙◌, arith, refl, slice_index}
use Rattle.std.specs.Prelude.{slice_index_or}
use Rattle.std.proofs.lemmas.List.{get_or-set_other, length-set}
use Rattle.dv_lmots.specs.Lmots.{chain}
use Rattle.dv_lmots.proofs.Going.{written_more}
use Rattle.dv_lmots.proofs.chains.walk_rest.Goals as goal

pub loop-i-preserved : goal.loop-i-preserved
loop-i-preserved c =
    let i = c.loop-i.i in (
      length-set c.loop-i.values i c.value.result ∙ c.loop-i.invariant.0,
      written_more (λ k. chain c.args.id.now c.args.q k (slice_index_or c.args.values.now k []) (slice_index c.args.at.now k) (slice_index c.args.to.now k))
          c.loop-i.values i c.value.result (omega arith) c.loop-i.invariant.1
          (c.value.ensures ∙ rw (c.walk.ensures, c.new-chain.ensures, c.loop-i.invariant.2 i (omega arith)) refl),
      λ k le.
          let other : k ≢ i = omega arith in
          get_or-set_other c.loop-i.values i k c.value.result [] other ∙ c.loop-i.invariant.2 k (omega arith),
    )
