-- An answer joins those before it.
use Rattle.dv_outside_mem.proofs.ClockLemmas.{first_answers-suc}
use Rattle.dv_outside_mem.proofs.clock.MemClockClock.now.Goals as goal

pub returns-clause-content : goal.returns-clause-content
returns-clause-content c =
    rw (first_answers-suc, ← c.self.view_is, c.answer-moment.ensures, c.deref.ensures.value)
