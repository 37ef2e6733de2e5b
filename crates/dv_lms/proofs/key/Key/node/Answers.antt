use Rattle.std.proofs.Common.{◌≡◌, ◌+◌, ◌-◌, ◌*◌, ◌^◌, arith}
use Rattle.dv_lms.proofs.Heights.{leaf_count-le, levels-le}
use Rattle.dv_lms.proofs.Rows.{row_above, row_below}
use Rattle.dv_lms.proofs.key.Key.node.Goals as goal

pub raise-requires-clause-count : goal.raise-requires-clause-count
raise-requires-clause-count c =
    let leaves = leaf_count-le c.args.self.now.height in
    let levels = levels-le c.args.self.now.height in
    let row = row_below c.args.r c.args.depth c.loop-above.above (omega arith) (omega arith) (omega arith) (omega arith) in
    rw row.width row.count

pub raise-requires-clause-last : goal.raise-requires-clause-last
raise-requires-clause-last c =
    let leaves = leaf_count-le c.args.self.now.height in
    let levels = levels-le c.args.self.now.height in
    let row = row_below c.args.r c.args.depth c.loop-above.above (omega arith) (omega arith) (omega arith) (omega arith) in
    rw (row.first, row.width) row.last

pub loop-above-preserved : goal.loop-above-preserved
loop-above-preserved c k lt =
    let leaves = leaf_count-le c.args.self.now.height in
    let levels = levels-le c.args.self.now.height in
    let above = c.loop-above.above in
    let first = c.args.r * 2 ^ (above - 1) in
    let row = row_below c.args.r c.args.depth above (omega arith) (omega arith) (omega arith) (omega arith) in
    let d = c.args.depth - above in
    let raised = rw (row.first, row.width) at (c.raise.ensures d) in
    let up : d + 1 ≡ c.args.depth - (above - 1) = omega arith in
    rw up at (raised (row_above c.args.self.now c.loop-above.row d c.args.r above row.double c.loop-above.invariant) k lt)
