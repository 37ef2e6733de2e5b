use Rattle.std.proofs.Common.{◌≡◌, length, ℕ, subst, arith}
use Rattle.dv_path.specs.Tables.{IsTable}
use Rattle.dv_path.proofs.table.issuing_table.Goals as goal

pub returns-clause-table : goal.returns-clause-table
returns-clause-table g c =
    let all : c.loop-position.position ≡ length c.args.bag.now = omega (arith, c.loop-position-test.false) in
    subst (λ (n : ℕ). IsTable c.args.bag.now c.args.trust.now c.args.when c.loop-position.table.graph c.loop-position.table.anchors n) all c.loop-position.invariant.entered
