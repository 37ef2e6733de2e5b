use Rattle.std.proofs.Common.{◌∙◌, sym}
use Rattle.dv_time.proofs.TimeLemmas.{utc_read, late_read}
use Rattle.dv_time.proofs.value.read_time.Goals as goal

pub returns-then-next_is : goal.returns-then-next_is
returns-then-next_is c = utc_read c.read_utc.result c.args.c.now c.read_utc.new.c (sym c.next_is.ensures ∙ c.if-next_is.true) c.read_utc.ensures.value c.read_utc.ensures.early

pub returns-else-next_is : goal.returns-else-next_is
returns-else-next_is c = late_read c.read_late.result c.args.c.now c.read_late.new.c (sym c.next_is.ensures ∙ c.if-next_is.false) c.read_late.ensures.value c.read_late.ensures.late
