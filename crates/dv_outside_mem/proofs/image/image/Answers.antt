-- The first calls lie within the tape too.
use Rattle.dv_outside_mem.proofs.JournalLemmas.{all_within-take}
use Rattle.dv_outside_mem.proofs.image.image.Goals as goal

pub after_crash-requires : goal.after_crash-requires
after_crash-requires c = all_within-take _ c.begun.result c.args.log.now c.requires.within
