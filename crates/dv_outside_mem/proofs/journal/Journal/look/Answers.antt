-- A call that changes nothing.
use Rattle.std.proofs.Common.{[], refl, sym}
use Rattle.std.proofs.lemmas.List.{append-nil}
use Rattle.dv_outside_mem.specs.declared.made.Made.TheVariants.{Look}
use Rattle.dv_outside_mem.proofs.JournalLemmas.{stands_on, look_joins}
use Rattle.dv_outside_mem.proofs.journal.Journal.look.Goals as goal

pub invariant_of-self : goal.invariant_of-self
invariant_of-self c =
    let j = c.args.self.now in
    record {
      stands = stands_on j.base.items j.file.items j.file.items j.sent.items j.sent.items j.tape.items [] j.tape.items j.log.items c.keep.new.log.items Look
          j.stands (sym (append-nil j.tape.items)) c.keep.ensures.items j.stands.reads j.stands.out refl;
    }

pub returns-clause-looks : goal.returns-clause-looks
returns-clause-looks c =
    let j = c.args.self.now in
    look_joins j.base.items j.file.items j.file.items j.sent.items j.sent.items j.tape.items [] j.tape.items j.log.items c.keep.new.log.items Look
    j.stands (sym (append-nil j.tape.items)) c.keep.ensures.items refl refl
