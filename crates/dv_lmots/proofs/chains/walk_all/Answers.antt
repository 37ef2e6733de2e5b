use Rattle.std.proofs.Common.{[], ◌∙◌, slice_index, ap, List, ℕ}
use Rattle.std.specs.Prelude.{slice_index_or}
use Rattle.dv_lmots.specs.Lmots.{chain}
use Rattle.dv_lmots.proofs.ChainSteps.{chain_completed}
use Rattle.dv_lmots.proofs.chains.walk_all.Goals as goal

pub returns : goal.returns
returns c i lt =
    let id = c.args.id.now in
    let q = c.args.q in
    let gone = c.walk_in_fours.ensures.chains i lt in
    let to = slice_index c.args.to.now i in
    c.walk_rest.ensures i lt
    ∙ ap (λ (x : List ℕ). chain id q i x (slice_index c.walk_in_fours.new.at i) to) gone.1
    ∙ chain_completed id q i (slice_index_or c.args.start.now i []) (slice_index c.args.from.now i) (slice_index c.walk_in_fours.new.at i) to
    gone.0 (c.walk_in_fours.ensures.within i lt)
