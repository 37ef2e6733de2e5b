use Rattle.std.proofs.Common.{◌≡◌, ℕ, [], ◌∷◌, ◌+◌, ◌<◌, ◌∙◌, List, slice_index, arith, ap, refl, sym}
use Rattle.std.specs.Prelude.{slice_index_or}
use Rattle.std.proofs.lemmas.List.{length-set}
use Rattle.dv_lmots.specs.Lmots.{chain, chain_prefix, chain_steps}
use Rattle.dv_lanes.proofs.LaneLemmas.{below_four}
use Rattle.dv_lmots.proofs.Going.{AreWithin_stored, GoOn_none, GoOn_stored, chain_from_steps}
use Rattle.dv_lmots.proofs.chains.walk_four.Goals as goal

pub loop-l-init : goal.loop-l-init
loop-l-init c = (c.told-values, c.told-at, GoOn_none c.args.id.now c.args.q c.args.values.now c.args.at.now, λ to within room. within)

-- the values at four places are those in the lanes
lanes_hold : (values : List (List ℕ)) (places : List ℕ) (l : ℕ) → l < 4
    → slice_index_or (slice_index_or values (slice_index places 0) [] ∷ slice_index_or values (slice_index places 1) []
    ∷ slice_index_or values (slice_index places 2) [] ∷ slice_index_or values (slice_index places 3) [] ∷ []) l []
    ≡ slice_index_or values (slice_index places l) []
lanes_hold values places = below_four _ refl refl refl refl

pub loop-l-preserved : goal.loop-l-preserved
loop-l-preserved c =
    let l = c.loop-l.l in
    let four : l < 4 = c.loop-l-test.true in
    let id = c.args.id.now in
    let q = c.args.q in
    let values = c.args.values.now in
    let at = c.args.at.now in
    let p = slice_index c.args.places.now l in
    let a = slice_index at p in
    let place : p < 34 = c.requires.places l four in
    let next : slice_index c.steps_after-next.result l ≡ a + c.args.count = c.steps_after-next.ensures l four in
    let start = c.gather-start.ensures l four ∙ lanes_hold values c.args.places.now l four in
    let walked = c.walk-end.ensures l p a four (omega arith) (c.requires.room l four) (c.first_steps.ensures l four) in
    let end : c.value_in.result ≡ chain id q p (slice_index_or values p []) a (a + c.args.count) =
    c.value_in.ensures ∙ walked ∙ ap (λ (x : List ℕ). chain_steps (chain_prefix id q p) x a c.args.count) start
    ∙ chain_from_steps id q p (slice_index_or values p []) a c.args.count in
    let here : c.value_in.result ≡ chain id q p (slice_index_or values p []) a (slice_index c.steps_after-next.result l) =
    end ∙ ap (chain id q p (slice_index_or values p []) a) (sym next) in (
      length-set c.loop-l.values p c.value_in.result ∙ c.loop-l.invariant.0,
      length-set c.loop-l.at p (slice_index c.steps_after-next.result l) ∙ c.loop-l.invariant.1,
      GoOn_stored id q values at c.loop-l.values c.loop-l.at p (slice_index c.steps_after-next.result l) c.value_in.result c.loop-l.invariant.2
          (omega arith) (omega arith) (omega arith) here,
      λ to within room.
          let most = room l four in
          AreWithin_stored c.loop-l.at to p (slice_index c.steps_after-next.result l) (c.loop-l.invariant.3 to within room) (omega arith) (omega arith),
    )
