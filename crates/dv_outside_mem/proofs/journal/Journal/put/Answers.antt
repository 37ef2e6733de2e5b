-- The front of the octets is sent.
use Rattle.std.proofs.Common.{◌≡◌, ◌∙◌, ◌+◌, length, take, ap, refl, sym, arith, length-take, length-append}
use Rattle.std.proofs.lemmas.List.{take_all}
use Rattle.std.proofs.lemmas.Result.{on_ok_weaker}
use Rattle.dv_outside_mem.specs.declared.made.Made.TheVariants.{Put}
use Rattle.dv_outside_mem.proofs.JournalLemmas.{stands_on, put_reads, put_sent, put_joins, test_of_le}
use Rattle.dv_outside_mem.proofs.journal.Journal.put.Goals as goal

pub invariant_of-self : goal.invariant_of-self
invariant_of-self c =
    let j = c.args.self.now in
    let front = take c.args.done c.args.bytes.now in
    let from : c.len.result ≡ length j.tape.items = omega (arith, c.len.ensures) in
    let done : c.args.done ≡ length front = omega (arith, c.requires.done, length-take c.args.done c.args.bytes.now) in
    let call = Put c.len.result c.args.done in
    let is : call ≡ Put (length j.tape.items) (length front) = ap (λ n. Put n c.args.done) from ∙ ap (Put (length j.tape.items)) done in
    let reads = put_reads j.base.items j.file.items j.file.items j.sent.items c.add-2.new.octets.items j.tape.items front c.add.new.octets.items j.log.items c.keep.new.log.items call
    j.stands c.add.ensures.items c.keep.ensures.items is in
    let out = put_sent j.base.items j.file.items j.file.items j.sent.items c.add-2.new.octets.items j.tape.items front c.add.new.octets.items j.log.items c.keep.new.log.items call
    j.stands c.add.ensures.items c.keep.ensures.items is in
    record {
      stands = stands_on j.base.items j.file.items j.file.items j.sent.items c.add-2.new.octets.items j.tape.items front c.add.new.octets.items j.log.items c.keep.new.log.items call
          j.stands c.add.ensures.items c.keep.ensures.items reads (c.add-2.ensures.items ∙ sym out)
          (test_of_le (c.len.result + c.args.done) (length c.add.new.octets.items) (omega (arith, from, done, ap length c.add.ensures.items, length-append j.tape.items front)));
    }

pub returns-clause-puts : goal.returns-clause-puts
returns-clause-puts c = λ result whole.
    let j = c.args.self.now in
    let front = take c.args.done c.args.bytes.now in
    let from : c.len.result ≡ length j.tape.items = omega (arith, c.len.ensures) in
    let done : c.args.done ≡ length front = omega (arith, c.requires.done, length-take c.args.done c.args.bytes.now) in
    let call = Put c.len.result c.args.done in
    let is : call ≡ Put (length j.tape.items) (length front) = ap (λ n. Put n c.args.done) from ∙ ap (Put (length j.tape.items)) done in
    put_joins j.base.items j.file.items j.file.items j.sent.items c.add-2.new.octets.items j.tape.items front c.add.new.octets.items j.log.items c.keep.new.log.items call
    j.stands c.add.ensures.items c.keep.ensures.items result c.args.bytes.now is refl (omega (arith, done, c.requires.done)) (ap (λ n. take n c.args.bytes.now) done)
    (on_ok_weaker result (λ all. take_all c.args.done c.args.bytes.now (omega (arith, all))) whole)
