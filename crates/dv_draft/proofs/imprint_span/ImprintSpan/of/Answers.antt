use Rattle.std.proofs.Common.{◌≡◌, true, length, Option, eq-eqb, sym, subst, ◌∙◌}
use Rattle.dv_names.specs.declared.digest.DigestKind.{DigestKind}
use Rattle.dv_names.specs.Digest.{length_of}
use Rattle.dv_draft.specs.Types.{has_length}
use Rattle.dv_draft.proofs.Imprints.{imprint_is}
use Rattle.dv_draft.proofs.imprint_span.ImprintSpan.of.Goals as goal

pub returns-else-info-digest_len : goal.returns-else-info-digest_len
returns-else-info-digest_len c =
    let sized : length c.args.info.now.digest.now ≡ length_of c.in-Some.kind = c.if-info-digest_len.false ∙ c.digest_len.ensures in (
      subst (λ (o : Option DigestKind). has_length o c.args.info.now.digest.now ≡ true) c.in-Some.ensures (eq-eqb _ _ sized),
      imprint_is c.args.info.now.alg.oid.octets.now c.args.info.now.alg.params c.args.info.now.digest.now c.in-Some.kind c.is_some.result (sym c.in-Some.ensures) c.is_some.ensures,
    )
