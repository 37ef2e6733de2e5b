use Rattle.std.proofs.Common.{◌≡◌, ◌∙◌, ℕ, List, length, sym, arith}
use Rattle.dv_x509.proofs.OwnLemmas.{whole_front}
use Rattle.dv_draft.specs.Views.{view_draft}
use Rattle.dv_draft.proofs.CertInfoLemmas.{cert_info_is}
use Rattle.dv_draft.proofs.numbered.assemble.Goals as goal

pub returns : goal.returns
returns c =
    let into : List ℕ = c.fill.new.into in
    let n : c.in_ok-octets.octets.len ≡ length into = omega (arith, c.fill.auto.into, c.deref_mut.ensures.len, c.in_ok-octets.ensures.len) in
    whole_front c.in_ok-octets.octets.len into _ n ∙ (c.fill.ensures ∙ sym (cert_info_is c.args.serial (view_draft c.args.draft.now)))
