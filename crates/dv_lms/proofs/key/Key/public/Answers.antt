use Rattle.std.proofs.Common.{rules, ◌≡◌, length, replicate, refl, ◌∙◌}
use Rattle.dv_lms.proofs.Parts.{public_written}
use Rattle.dv_lms.proofs.key.Key.public.Goals as goal

pub returns : goal.returns
returns c =
    let root : length c.node.result ≡ 32 = search rules in
    let written = public_written c.public_start.result (replicate 48 0) c.self.inside.id c.node.result (search rules) refl c.self.told.0 root in
    rw (c.copy_from_slice.ensures.after, c.copy_from_slice-2.ensures.after, c.copy_from_slice-3.ensures.after)
    (written ∙ rw (c.public_start.ensures, c.node.ensures, c.levels.ensures, ← c.self.view_is) refl)
