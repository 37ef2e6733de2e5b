use Rattle.std.proofs.Common.{rules, ◌≡◌, ◌<◌, ◌∙◌, [], ℕ, List, replicate, slice_index, arith, refl}
use Rattle.std.specs.Prelude.{slice_index_or}
use Rattle.std.proofs.lemmas.List.{get_or-replicate}
use Rattle.std.proofs.lemmas.Slice.{overwrites}
use Rattle.dv_lmots.specs.Lmots.{chain, signed_value}
use Rattle.dv_lmots.proofs.Joined.{joined_none, joined_same}
use Rattle.dv_lmots.proofs.Values.{value_written, values_written}
use Rattle.dv_lmots.proofs.lanes.sign_ots.Goals as goal

pub walk_all-ends-requires : goal.walk_all-ends-requires
walk_all-ends-requires c i lt =
    let from : slice_index (replicate 34 0) i ≡ 0 = get_or-replicate 34 i 0 0 lt in
    omega arith

pub loop-i-init : goal.loop-i-init
loop-i-init c = (search rules, rw joined_none refl)

pub loop-i-preserved : goal.loop-i-preserved
loop-i-preserved c = (
  search (rules, overwrites),
  value_written _ c.loop-i.octets _ (λ k. slice_index_or c.walk_all-ends.result k []) c.loop-i.i _ c.loop-i.invariant.1 c.loop-i.invariant.0 (omega arith)
      c.copy_from_slice.ensures.after (search rules),
)

pub returns : goal.returns
returns c =
    let id = c.args.id.now in
    let q = c.args.q in
    let ds = c.digits-digits.result in
    let ends : ℕ → List ℕ = λ k. slice_index_or c.walk_all-ends.result k [] in
    let each : (k : ℕ) → k < 34 → ends k ≡ signed_value id c.args.seed.now q ds k =
    λ k lt.
    let from : slice_index (replicate 34 0) k ≡ 0 = get_or-replicate 34 k 0 0 lt in
    c.walk_all-ends.ensures k lt ∙ (λ j. chain id q k (c.private_values-start.ensures k lt j) (from j) (slice_index ds k)) in
    values_written _ c.loop-i.octets ends c.loop-i.i c.loop-i.invariant.1 c.loop-i.invariant.0 (omega arith)
    ∙ rw (joined_same ends (signed_value id c.args.seed.now q ds) 34 each, c.start-octets.ensures, c.digits-digits.ensures, c.randomizer-c.ensures) refl
