use Rattle.std.proofs.Common.{ℕ, List, length, ap, arith, subst, sym, ◌∙◌, Vec}
use Rattle.std.proofs.lemmas.List.{length-map}
use Rattle.std.specs.Prelude.{All}
use Rattle.std.specs.declared.alloc.Global.{Global}
use Rattle.dv_asn1.specs.Lists.{lists_of}
use Rattle.dv_lms.specs.Signed.{signature_of}
use Rattle.dv_register.specs.SigningKey.{LeafState}
use Rattle.dv_draft.specs.CertInfo.{cert_info_of}
use Rattle.dv_draft.specs.Records.{IsCertificate}
use Rattle.dv_draft.specs.Views.{view_draft}
use Rattle.dv_cert.specs.Rooms.{IsRoomOf}
use Rattle.dv_cert.specs.Sealed.{own_of, sealed, signed_by}
use Rattle.dv_commands.proofs.CertificateLemmas.{service_made}
use Rattle.dv_commands.proofs.certificate.service_again.Goals as goal

pub new-requires-clause-some : goal.new-requires-clause-some
new-requires-clause-some c =
    let certificates = c.in_ok-draft.certificates.items in
    let w = c.records_are_those_written.ensures c.args.contents.now (lists_of certificates) (view_draft c.in_ok-draft.draft) (λ i. omega (arith, c.type_inv.contents i)) c.in_ok-draft.ensures.found in
    omega (arith, w.1, length-map certificates (λ (v : Vec ℕ Global). v.items), ap length c.as_slice.ensures.value)

pub new-requires-clause-few : goal.new-requires-clause-few
new-requires-clause-few c =
    let certificates = c.in_ok-draft.certificates.items in
    let w = c.records_are_those_written.ensures c.args.contents.now (lists_of certificates) (view_draft c.in_ok-draft.draft) (λ i. omega (arith, c.type_inv.contents i)) c.in_ok-draft.ensures.found in
    omega (arith, w.2, length-map certificates (λ (v : Vec ℕ Global). v.items), ap length c.as_slice.ensures.value)

pub new-requires-clause-decoded : goal.new-requires-clause-decoded
new-requires-clause-decoded c =
    let certificates = c.in_ok-draft.certificates.items in
    let w = c.records_are_those_written.ensures c.args.contents.now (lists_of certificates) (view_draft c.in_ok-draft.draft) (λ i. omega (arith, c.type_inv.contents i)) c.in_ok-draft.ensures.found in
    subst (λ (vs : List (Vec ℕ Global)). All IsCertificate (lists_of vs)) (sym c.as_slice.ensures.value) w.3

pub returns-clause-made : goal.returns-clause-made
returns-clause-made c =
    let key = c.args.key.now in
    let d = view_draft c.in_ok-draft.draft in
    let cs = lists_of c.in_ok-draft.certificates.items in
    let room = subst (λ (vs : List (Vec ℕ Global)). IsRoomOf c.in_ok-room.room d (lists_of vs)) c.as_slice.ensures.value c.in_ok-room.ensures in
    service_made key c.args.slot.leaf.number c.args.slot.serial c.args.contents.now cs d c.to_sign-octets.result c.as_slice-2.result.now c.finish.result.items
    c.in_ok-draft.ensures.found
    (c.to_sign-octets.ensures.octets d cs room ∙ ap (λ (n : ℕ). signed_by (own_of cs) (cert_info_of n d)) c.serial.ensures)
    (c.as_slice-2.ensures ∙ c.sign-signature.ensures.octets ∙ ap (λ (l : LeafState). signature_of key l.number c.to_sign-octets.result) c.into_leaf.ensures)
    (c.finish.ensures d cs c.serial.result (c.to_sign-octets.ensures.room d cs room) c.to_sign-octets.ensures.serial
    ∙ ap (λ (n : ℕ). sealed cs (cert_info_of n d) c.as_slice-2.result.now) c.serial.ensures)
