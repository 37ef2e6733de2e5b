use Rattle.std.proofs.Common.{◌≡◌, ◌∙◌, ◌-◌, ℕ, List, Err, Ok, length, refl, sym, ap, subst, arith}
use Rattle.std.proofs.lemmas.List.{length-take}
use Rattle.dv_schema.specs.Octets.{IsBytes}
use Rattle.dv_schema.specs.Reading.{Spot, Item, item_at, is_tag_of}
use Rattle.dv_schema.proofs.Tools.{IsBytes-take}
use Rattle.dv_x509.specs.declared.fault.X509.{X509}
use Rattle.dv_draft.specs.Records.{kept_at}
use Rattle.dv_draft.proofs.CertificateLists.{certificate_fault, certificate_place}
use Rattle.dv_draft.proofs.certificates.read_certificate.Goals as goal

pub refusal_at-requires : goal.refusal_at-requires
refusal_at-requires c = λ d is.
    (let p : Spot = c.args.c.now in
    let octets : List ℕ = c.up_to-octets.result.now in
    let bytes : IsBytes octets = subst IsBytes (sym c.up_to-octets.ensures) (IsBytes-take (length p.rest - length c.enter.new.self.rest) p.rest c.fork-next.ensures.octets) in
    let refused = c.in-Err.ensures.exact ∙ ap (λ (x : X509). Err x) is in
    let within = certificate_place octets d bytes refused in
    let few = ap length c.up_to-octets.ensures in
    omega (arith, within, few, length-take (length p.rest - length c.enter.new.self.rest) p.rest, c.fork-next.ensures.room, c.place.ensures))

pub returns-in-Err : goal.returns-in-Err
returns-in-Err c =
    let i : Item = record { tag = 48; inside = c.in_ok-enter.field-0; after = c.enter.new.self } in
    let item : item_at (is_tag_of 48) c.args.c.now ≡ Ok i = subst (λ (p : Spot). item_at (is_tag_of 48) p ≡ Ok i) c.fork-next.ensures.same c.in_ok-enter.ensures.item in (
      certificate_fault c.args.c.now i c.up_to-octets.result.now c.in-Err.cause c.refusal_at.result item c.up_to-octets.ensures c.in-Err.ensures.exact
          (λ o. subst (λ (place : ℕ). kept_at place o (Err c.in-Err.cause) ≡ Err c.refusal_at.result) c.place.ensures (c.refusal_at.ensures o)),
      refl,
    )
