use Rattle.std.proofs.Common.{◌≡◌, [], ℕ, List, ◌<◌, ◌∙◌, replicate, slice_index, arith}
use Rattle.std.specs.Prelude.{slice_index_or}
use Rattle.std.proofs.lemmas.List.{get_or-replicate}
use Rattle.dv_lmots.specs.Lmots.{chain, chain_end}
use Rattle.dv_lmots.proofs.Completed.{key_from_same}
use Rattle.dv_lmots.proofs.lanes.public_of.Goals as goal

pub walk_all-ends-requires : goal.walk_all-ends-requires
walk_all-ends-requires c i lt =
    let from : slice_index (replicate 34 0) i ≡ 0 = get_or-replicate 34 i 0 0 lt in
    let to : slice_index (replicate 34 255) i ≡ 255 = get_or-replicate 34 i 255 0 lt in
    omega arith

pub returns : goal.returns
returns c =
    let id = c.args.id.now in
    let q = c.args.q in
    let ends : ℕ → List ℕ = λ k. slice_index_or c.walk_all-ends.result k [] in
    let each : (k : ℕ) → k < 34 → ends k ≡ chain_end id c.args.seed.now q k =
    λ k lt.
    let from : slice_index (replicate 34 0) k ≡ 0 = get_or-replicate 34 k 0 0 lt in
    let to : slice_index (replicate 34 255) k ≡ 255 = get_or-replicate 34 k 255 0 lt in
    c.walk_all-ends.ensures k lt ∙ (λ j. chain id q k (c.private_values-start.ensures k lt j) (from j) (to j)) in
    c.key_from.ensures ∙ key_from_same id q ends (chain_end id c.args.seed.now q) each
