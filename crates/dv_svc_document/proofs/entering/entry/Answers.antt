use Rattle.std.proofs.Common.{◌≡◌, ◌∙◌, ap, sym, List, ℕ, Option, subst, get_or, [], length}
use Rattle.std.specs.Option.{option_copied}
use Rattle.std.specs.Prelude.{option_map}
use Rattle.std.proofs.Math.Logic.{∥∥₁_map}
use Rattle.dv_schema.specs.Fits.{Fits}
use Rattle.dv_path.specs.declared.path.Path.{Path}
use Rattle.dv_path.specs.Rows.{octets_of}
use Rattle.dv_request.specs.Types.{target_chain}
use Rattle.dv_signed.specs.Certificates.{certificates_of}
use Rattle.dv_signed.specs.SignedView.{view_signed}
use Rattle.dv_svc_document.specs.Entries.{AreShort, above, entry_with, positions_of}
use Rattle.dv_svc_document.proofs.EntryFits.{entry_fits, parts_short}
use Rattle.dv_svc_document.proofs.entering.entry.Goals as goal

pub invariant_of-result : goal.invariant_of-result
invariant_of-result c =
    let d = c.args.document.now in
    let cs : List (List ℕ) = certificates_of (view_signed d.signed) in
    let r = c.args.found.now in
    let read = d.readable.certificates.decoded in
    let own = sym c.named-certificate.ensures in
    let others = sym (c.in_ok-above.ensures ∙ ap (λ (o : Option Path). above cs (positions_of o)) c.as_ref.ensures.value) in
    record {
      known = c.requires.bit;
      short = subst (λ o. AreShort o (octets_of c.in_ok-above.above.items)) own (subst (AreShort (option_map (λ p. get_or cs p []) r.certificate)) others (parts_short cs r read c.requires));
      spelled = subst (λ o. ∥ Fits target_chain 30 (entry_with o (octets_of c.in_ok-above.above.items) r.bit) ∥₁) own
          (subst (λ l. ∥ Fits target_chain 30 (entry_with (option_map (λ p. get_or cs p []) r.certificate) l r.bit) ∥₁) others (∥∥₁_map d.fit (λ fit. entry_fits cs r read fit c.requires)));
    }
