use Rattle.std.proofs.Common.{List, ℕ, add-one, arith, subst, sym, take}
use Rattle.dv_schema.specs.Schema.{spelling}
use Rattle.dv_asn1.specs.Writing.{Writes}
use Rattle.dv_asn1.proofs.Written.{written_more}
use Rattle.dv_request.specs.Types.{target_chain}
use Rattle.dv_svc_document.specs.declared.entry.Entry.{Entry}
use Rattle.dv_svc_document.specs.Kept.{octets_in, entry_in}
use Rattle.dv_parts.proofs.Flattened.{flat_more, flat_room}
use Rattle.dv_svc_document.proofs.entries.write_entries.Goals as goal

pub write-requires : goal.write-requires
write-requires c =
    let room = flat_room (λ (f : Entry). spelling target_chain (entry_in f)) c.args.entries.now c.loop-entry.entry-index c.entry-item.result c.loop-entry-test.true c.entry-item.is in
    omega (arith, room, c.loop-entry.invariant.room, c.requires)

pub loop-entry-preserved : goal.loop-entry-preserved
loop-entry-preserved c =
    let fs : List Entry = c.args.entries.now in
    let i : ℕ = c.loop-entry.entry-index in
    let f : Entry = c.entry-item.result in
    let more = flat_more (λ (x : Entry). spelling target_chain (entry_in x)) fs i f c.loop-entry-test.true c.entry-item.is in
    let w = written_more c.args.out.now c.loop-entry.out c.write.new.out (octets_in (take i fs)) (spelling target_chain (entry_in f)) c.loop-entry.invariant c.write.ensures in
    rw (add-one) (subst (Writes c.args.out.now c.write.new.out) (sym more) w)
