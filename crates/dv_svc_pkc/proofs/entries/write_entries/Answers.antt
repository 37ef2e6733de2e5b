use Rattle.std.proofs.Common.{List, ℕ, add-one, arith, subst, sym, take}
use Rattle.dv_schema.specs.Schema.{spelling}
use Rattle.dv_asn1.specs.Writing.{Writes}
use Rattle.dv_asn1.proofs.Written.{written_more}
use Rattle.dv_request.specs.Types.{target_chain}
use Rattle.dv_svc_pkc.specs.declared.entry.Finding.{Finding}
use Rattle.dv_svc_pkc.specs.Validated.{entries_in, entry_in}
use Rattle.dv_parts.proofs.Flattened.{flat_more, flat_room}
use Rattle.dv_svc_pkc.proofs.entries.write_entries.Goals as goal

pub write-requires : goal.write-requires
write-requires c =
    let room = flat_room (λ (f : Finding). spelling target_chain (entry_in f)) c.args.findings.now c.loop-finding.finding-index c.finding-item.result c.loop-finding-test.true c.finding-item.is in
    omega (arith, room, c.loop-finding.invariant.room, c.requires)

pub loop-finding-preserved : goal.loop-finding-preserved
loop-finding-preserved c =
    let fs : List Finding = c.args.findings.now in
    let i : ℕ = c.loop-finding.finding-index in
    let f : Finding = c.finding-item.result in
    let more = flat_more (λ (x : Finding). spelling target_chain (entry_in x)) fs i f c.loop-finding-test.true c.finding-item.is in
    let w = written_more c.args.out.now c.loop-finding.out c.write.new.out (entries_in (take i fs)) (spelling target_chain (entry_in f)) c.loop-finding.invariant c.write.ensures in
    rw (add-one) (subst (Writes c.args.out.now c.write.new.out) (sym more) w)
