use Rattle.std.proofs.Common.{◌≡◌, arith, refl}
use Rattle.dv_lms.specs.Height.{leaf_count, levels}
use Rattle.dv_lms.proofs.Heights.{leaf_count-le}
use Rattle.dv_lms.proofs.Paths.{ancestor_on_path}
use Rattle.dv_lms.proofs.key.Key.path_node.Goals as goal

pub sibling-requires : goal.sibling-requires
sibling-requires c =
    let height = c.args.self.now.height in
    let on = ancestor_on_path (levels height) c.args.q c.args.level c.requires.leaf c.requires.level in
    let small = leaf_count-le height in
    let leaves : c.leaves.result ≡ leaf_count height = rw (← c.self.view_is) c.leaves.ensures in
    rw leaves (record { low = on.some; high = omega arith })

pub node-requires : goal.node-requires
node-requires c =
    let height = c.args.self.now.height in
    let on = ancestor_on_path (levels height) c.args.q c.args.level c.requires.leaf c.requires.level in
    let leaves : c.leaves.result ≡ leaf_count height = rw (← c.self.view_is) c.leaves.ensures in
    rw (c.sibling.ensures, leaves) (record { depth = omega arith; low = on.first; high = on.last })

pub returns : goal.returns
returns c = rw (c.node.ensures, c.sibling.ensures, c.leaves.ensures, ← c.self.view_is) refl
