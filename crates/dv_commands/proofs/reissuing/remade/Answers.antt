use Rattle.std.proofs.Common.{◌+◌, ◌∙◌, ℕ, List, ap, sym}
use Rattle.dv_outside.specs.Releases.{Entry}
use Rattle.dv_register.specs.SigningKey.{SlotState}
use Rattle.dv_cert.specs.Certificates.{issued}
use Rattle.dv_commands.proofs.CertificateLemmas.{certificate_is}
use Rattle.dv_commands.proofs.reissuing.remade.Goals as goal

pub returns-clause-certificate : goal.returns-clause-certificate
returns-clause-certificate g c =
    let key = c.args.key.now in
    let first = c.args.register.now.first in
    let index = c.args.index in
    let kind = c.in_ok-kind.kind in
    let entry : Entry = record { kind = kind; contents = c.in_ok-kind.contents.items } in
    let read : Entry = record { kind = kind; contents = c.deref.result.now } in (
      entry,
      c.in_ok-kind.ensures.record,
      certificate_is key first index entry
          ∙ ap (λ (o : List ℕ). issued key index (first + index) (record { kind = kind; contents = o })) (sym c.deref.ensures.value)
          ∙ ap (λ (n : ℕ). issued key index (n + index) read) (sym c.contents.ensures.same.first)
          ∙ ap (λ (s : SlotState). issued key s.leaf.number s.serial read) (sym c.slot-slot.ensures)
          ∙ c.in_ok-certificate.ensures.made,
    )
