use Rattle.std.proofs.Common.{◌≡◌, ◌+◌, ◌*◌, ◌∙◌, arith}
use Rattle.dv_lms.proofs.Rows.{node_above}
use Rattle.dv_lms.proofs.key.Key.raise.Goals as goal

pub returns : goal.returns
returns c d below k lt =
    let first = c.args.first in
    let left = below (2 * k) (omega arith) in
    let right = below (2 * k + 1) (omega arith) in
    let l : 2 * first + 2 * k ≡ 2 * (first + k) = omega arith in
    let r : 2 * first + (2 * k + 1) ≡ 2 * (first + k) + 1 = omega arith in
    c.loop-k.invariant.2 k (omega arith) ∙ node_above c.args.self.now d (first + k) _ _ (rw l at left) (rw r at right)
