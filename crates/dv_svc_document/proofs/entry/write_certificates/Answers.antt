use Rattle.std.proofs.Common.{List, [], ℕ, Bor, add-one, arith, get_or, subst, sym, take}
use Rattle.std.proofs.lemmas.List.{get_or_default}
use Rattle.std.specs.List.{flat_map}
use Rattle.dv_asn1.specs.Writing.{Writes}
use Rattle.dv_asn1.proofs.Written.{written_more}
use Rattle.dv_request.specs.Made.{retagged}
use Rattle.dv_parts.proofs.Flattened.{flat_more, flat_room}
use Rattle.dv_svc_document.proofs.entry.write_certificates.Goals as goal

pub write_certificate-requires : goal.write_certificate-requires
write_certificate-requires c =
    let slices : List (Bor (List ℕ)) = c.args.certificates.now in
    let i : ℕ = c.loop-octets.octets-index in
    let none : Bor (List ℕ) = record { ref_ptr = (0, 0); now = [] } in
    let s : Bor (List ℕ) = get_or slices i none in
    let room = flat_room (λ (x : Bor (List ℕ)). retagged 160 x.now) slices i s c.loop-octets-test.true (get_or_default slices i none s c.loop-octets-test.true) in
    omega (arith, room, c.loop-octets.invariant.room, c.requires)

pub loop-octets-preserved : goal.loop-octets-preserved
loop-octets-preserved c =
    let slices : List (Bor (List ℕ)) = c.args.certificates.now in
    let i : ℕ = c.loop-octets.octets-index in
    let none : Bor (List ℕ) = record { ref_ptr = (0, 0); now = [] } in
    let s : Bor (List ℕ) = get_or slices i none in
    let more = flat_more (λ (x : Bor (List ℕ)). retagged 160 x.now) slices i s c.loop-octets-test.true (get_or_default slices i none s c.loop-octets-test.true) in
    let w = written_more c.args.out.now c.loop-octets.out c.write_certificate.new.out (flat_map (λ (x : Bor (List ℕ)). retagged 160 x.now) (take i slices)) (retagged 160 s.now) c.loop-octets.invariant c.write_certificate.ensures in
    rw (add-one) (subst (Writes c.args.out.now c.write_certificate.new.out) (sym more) w)
