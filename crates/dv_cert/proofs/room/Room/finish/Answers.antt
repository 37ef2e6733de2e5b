use Rattle.std.proofs.Common.{◌≡◌, ◌∙◌, ℕ, List, Option, Some, length, ap, sym, arith}
use Rattle.sha2.specs.Sha256.{sha256}
use Rattle.dv_x509.proofs.OwnLemmas.{whole_front}
use Rattle.dv_cert.specs.Rooms.{Held}
use Rattle.dv_cert.specs.Sealed.{attributes_with, info_of}
use Rattle.dv_cert.proofs.RoomLemmas.{sent_is}
use Rattle.dv_cert.proofs.room.Room.finish.Goals as goal

pub returns : goal.returns
returns c =
    let r : Held = c.args.self in
    let into : List ℕ = c.fill.new.into in
    let same = ap length c.fill.ensures in
    let n : c.truncate.new.self.len ≡ length into = omega (arith, same, c.encoded_len.ensures.octets, c.encoded_len.ensures.few, c.truncate.ensures.len, c.self.invariant.long_enough, ap length c.as_slice.ensures.value, ap length c.as_slice-2.ensures.value, ap length c.as_slice-3.ensures.value, ap length c.as_slice-certificates.ensures.value) in
    let certificates : c.as_slice-certificates.result.now ≡ r.certificates = c.as_slice-certificates.ensures.value ∙ ap (λ (h : Held). h.certificates) c.self.view_is in
    let before : c.as_slice.result.now ≡ r.before = c.as_slice.ensures.value ∙ ap (λ (h : Held). h.before) c.self.view_is in
    let after : c.as_slice-2.result.now ≡ r.after = c.as_slice-2.ensures.value ∙ ap (λ (h : Held). h.after) c.self.view_is in
    let signer : c.as_slice-3.result.now ≡ r.signer = c.as_slice-3.ensures.value ∙ ap (λ (h : Held). h.signer) c.self.view_is in
    λ d cs serial is has.
    let held : c.self.inside.serial ≡ Some serial = ap (λ (h : Held). h.serial) c.self.view_is ∙ has in
    let some : ◌≡◌ {A = Option ℕ} (Some c.in-Some.serial) (Some serial) = sym c.in-Some.is ∙ held in
    let given : c.in-Some.serial ≡ serial = cc in
    let attributes = c.self.invariant.attributed serial held ∙ ap (λ (h : Held). attributes_with (sha256 (info_of h.before serial h.after)) h.own_digest) c.self.view_is in
    whole_front c.truncate.new.self.len into _ n
    ∙ c.fill.ensures
    ∙ sent_is r d cs serial c.in-Some.serial c.as_slice-certificates.result.now c.as_slice.result.now c.as_slice-2.result.now c.as_slice-3.result.now c.self.inside.attributes c.args.signature.now certificates before after signer given attributes is
