use Rattle.std.proofs.Common.{◌++◌, ◌∙◌, List, ℕ, add-one, arith, ap, length, subst, sym, take}
use Rattle.std.specs.List.{concat}
use Rattle.dv_asn1.specs.Lists.{lists_of}
use Rattle.dv_asn1.specs.Writing.{Writes}
use Rattle.dv_asn1.proofs.Written.{written_more}
use Rattle.dv_draft.proofs.ListLemmas.{lists_more, next_room}
use Rattle.dv_draft.proofs.record.write_all.Goals as goal

pub bytes-requires : goal.bytes-requires
bytes-requires c =
    let room = next_room c.args.certificates.now c.loop-certificate.certificate-index c.certificate-item.result c.loop-certificate-test.true c.certificate-item.is in
    let same = ap length c.deref.ensures.value in
    omega (arith, room, same, c.loop-certificate.invariant.room, c.requires)

pub loop-certificate-preserved : goal.loop-certificate-preserved
loop-certificate-preserved c =
    let vs = c.args.certificates.now in
    let i = c.loop-certificate.certificate-index in
    let v = c.certificate-item.result in
    let more = lists_more vs i v c.loop-certificate-test.true c.certificate-item.is in
    let w = written_more c.args.out.now c.loop-certificate.out c.bytes.new.self (concat (lists_of (take i vs))) c.deref.result.now c.loop-certificate.invariant c.bytes.ensures in
    let same = ap (λ (l : List ℕ). concat (lists_of (take i vs)) ++ l) c.deref.ensures.value in
    rw (add-one) (subst (Writes c.args.out.now c.bytes.new.self) (same ∙ sym more) w)
