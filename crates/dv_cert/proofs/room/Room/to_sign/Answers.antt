use Rattle.std.proofs.Common.{◌≡◌, ◌∙◌, ap}
use Rattle.dv_cert.specs.Rooms.{Held}
use Rattle.dv_cert.proofs.RoomLemmas.{signed_is}
use Rattle.dv_cert.proofs.room.Room.to_sign.Goals as goal

pub returns-clause-octets : goal.returns-clause-octets
returns-clause-octets c =
    let r : Held = c.args.self.now in
    let before : c.as_slice.result.now ≡ r.before = c.as_slice.ensures.value ∙ ap (λ (h : Held). h.before) c.self.view_is in
    let after : c.as_slice-2.result.now ≡ r.after = c.as_slice-2.ensures.value ∙ ap (λ (h : Held). h.after) c.self.view_is in
    let own : c.self.inside.own_digest ≡ r.own_digest = ap (λ (h : Held). h.own_digest) c.self.view_is in
    λ d cs is.
    signed_is r d cs c.args.serial c.set_of.result c.attributes-self-inside.result c.digest-content.result c.as_slice.result.now c.as_slice-2.result.now c.self.inside.own_digest
    c.set_of.ensures c.attributes-self-inside.ensures c.digest-content.ensures before after own is
