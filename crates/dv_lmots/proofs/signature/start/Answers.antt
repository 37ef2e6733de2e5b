use Rattle.std.proofs.Common.{rules, refl, ◌∙◌}
use Rattle.std.proofs.lemmas.Slice.{take-put_mid}
use Rattle.dv_lmots.proofs.signature.start.Goals as goal

pub returns : goal.returns
returns c =
    take-put_mid 4 32 _ c.copy_from_slice-2.new.self 36 (search rules) (search rules) ∙ rw (c.copy_from_slice.ensures.after, c.copy_from_slice-2.ensures.after) refl
