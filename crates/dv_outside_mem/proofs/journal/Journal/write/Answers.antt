-- The front of the octets is written.
use Rattle.std.proofs.Common.{◌≡◌, ◌∙◌, ◌+◌, ◌-◌, length, take, ap, sym, arith, length-take, length-append}
use Rattle.std.proofs.lemmas.List.{take_all}
use Rattle.std.proofs.lemmas.Result.{on_ok_weaker}
use Rattle.dv_outside_mem.specs.declared.made.Made.TheVariants.{Write}
use Rattle.dv_outside_mem.proofs.JournalLemmas.{stands_on, write_reads, write_sent, write_joins, test_of_le}
use Rattle.dv_outside_mem.proofs.journal.Journal.write.Goals as goal

pub invariant_of-self : goal.invariant_of-self
invariant_of-self c =
    let j = c.args.self.now in
    let front = take c.args.done c.args.bytes.now in
    let rest = length c.args.bytes.now - c.args.done in
    let from : c.len.result ≡ length j.tape.items = omega (arith, c.len.ensures) in
    let done : c.args.done ≡ length front = omega (arith, c.requires.done, length-take c.args.done c.args.bytes.now) in
    let call = Write c.args.place c.len.result c.args.done rest in
    let is : call ≡ Write c.args.place (length j.tape.items) (length front) rest = ap (λ n. Write c.args.place n c.args.done rest) from ∙ ap (λ n. Write c.args.place (length j.tape.items) n rest) done in
    let reads = write_reads j.base.items j.file.items c.overwrite.new.file.items j.sent.items j.sent.items j.tape.items front c.add.new.octets.items j.log.items c.keep.new.log.items call
    j.stands c.add.ensures.items c.keep.ensures.items c.args.place rest is c.requires.place in
    let out = write_sent j.base.items j.file.items c.overwrite.new.file.items j.sent.items j.sent.items j.tape.items front c.add.new.octets.items j.log.items c.keep.new.log.items call
    j.stands c.add.ensures.items c.keep.ensures.items c.args.place rest is c.requires.place in
    record {
      stands = stands_on j.base.items j.file.items c.overwrite.new.file.items j.sent.items j.sent.items j.tape.items front c.add.new.octets.items j.log.items c.keep.new.log.items call
          j.stands c.add.ensures.items c.keep.ensures.items (c.overwrite.ensures.items ∙ sym reads) out
          (test_of_le (c.len.result + c.args.done) (length c.add.new.octets.items) (omega (arith, from, done, ap length c.add.ensures.items, length-append j.tape.items front)));
    }

pub returns-clause-writes : goal.returns-clause-writes
returns-clause-writes c = λ result whole.
    let j = c.args.self.now in
    let front = take c.args.done c.args.bytes.now in
    let rest = length c.args.bytes.now - c.args.done in
    let from : c.len.result ≡ length j.tape.items = omega (arith, c.len.ensures) in
    let done : c.args.done ≡ length front = omega (arith, c.requires.done, length-take c.args.done c.args.bytes.now) in
    let call = Write c.args.place c.len.result c.args.done rest in
    let is : call ≡ Write c.args.place (length j.tape.items) (length front) rest = ap (λ n. Write c.args.place n c.args.done rest) from ∙ ap (λ n. Write c.args.place (length j.tape.items) n rest) done in
    write_joins j.base.items j.file.items c.overwrite.new.file.items j.sent.items j.sent.items j.tape.items front c.add.new.octets.items j.log.items c.keep.new.log.items call
    j.stands c.add.ensures.items c.keep.ensures.items result c.args.place rest c.args.bytes.now is (omega (arith, done, c.requires.done)) c.requires.place c.overwrite.ensures.items
    (on_ok_weaker result (λ all. take_all c.args.done c.args.bytes.now (omega (arith, all))) whole)
