use Rattle.std.proofs.Common.{rules, ◌≡◌, ◌≤◌, [], ℕ, List, ◌<◌, ◌∙◌, replicate, slice_index, arith, refl}
use Rattle.std.specs.Prelude.{slice_index_or}
use Rattle.std.proofs.lemmas.List.{get_or-replicate}
use Rattle.dv_lmots.specs.Lmots.{chain, completed_value}
use Rattle.dv_lmots.proofs.Completed.{key_from_same}
use Rattle.dv_lmots.proofs.lanes.candidate_joined.Goals as goal

pub walk_all-ends-requires : goal.walk_all-ends-requires
walk_all-ends-requires c i lt =
    let to : slice_index (replicate 34 255) i ≡ 255 = get_or-replicate 34 i 255 0 lt in
    let small : slice_index c.digits-digits.result i ≤ 255 = search rules in
    omega arith

pub returns-clause-value : goal.returns-clause-value
returns-clause-value c =
    let id = c.args.id.now in
    let q = c.args.q in
    let ds = c.digits-digits.result in
    let sig = c.args.signature.now in
    let ends : ℕ → List ℕ = λ k. slice_index_or c.walk_all-ends.result k [] in
    let each : (k : ℕ) → k < 34 → ends k ≡ completed_value id q ds sig k =
    λ k lt.
    let to : slice_index (replicate 34 255) k ≡ 255 = get_or-replicate 34 k 255 0 lt in
    c.walk_all-ends.ensures k lt ∙ (λ j. chain id q k (c.signed_values.ensures k lt j) (slice_index ds k) (to j)) in
    c.key_from.ensures ∙ key_from_same id q ends (completed_value id q ds sig) each ∙ rw (c.digits-digits.ensures, c.hash_at-c.ensures) refl
