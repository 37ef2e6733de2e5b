use Rattle.std.proofs.Common.{◌≡◌, ◌≢◌, ◌∙◌, List, [], Option, Some, ap, map, subst, sym}
use Rattle.dv_parts.specs.Drafts.{AreTargets}
use Rattle.dv_signed.specs.Certificates.{certificates_of}
use Rattle.dv_signed.specs.SignedView.{view_signed}
use Rattle.dv_svc_document.specs.declared.entry.Entry.{Entry}
use Rattle.dv_svc_document.specs.Kept.{entry_in, octets_in}
use Rattle.dv_svc_document.proofs.FoundLemmas.{entries_are, entries_targets, not_empty}
use Rattle.dv_svc_document.proofs.vsd.listed.Goals as goal

pub returns-clause-entries : goal.returns-clause-entries
returns-clause-entries c =
    let cs = certificates_of (view_signed c.args.document.now.signed) in
    let some : c.args.results.now ≢ [] = not_empty c.args.results.now (sym c.is_empty.ensures ∙ c.if-is_empty.false) in
    ap Some (c.in_ok-certs.ensures ∙ ap octets_in c.deref.ensures.value) ∙ entries_are cs c.args.results.now c.in_ok-entries.entries.items some c.in_ok-entries.ensures

pub returns-clause-targets : goal.returns-clause-targets
returns-clause-targets c =
    let d = c.args.document.now in
    let cs = certificates_of (view_signed d.signed) in
    let some : c.args.results.now ≢ [] = not_empty c.args.results.now (sym c.is_empty.ensures ∙ c.if-is_empty.false) in
    subst AreTargets (sym (c.in_ok-certs.ensures ∙ ap octets_in c.deref.ensures.value))
    (entries_targets cs c.args.results.now c.in_ok-entries.entries.items some c.requires.few d.readable.certificates.decoded d.fit c.requires.fit c.in_ok-entries.ensures)
