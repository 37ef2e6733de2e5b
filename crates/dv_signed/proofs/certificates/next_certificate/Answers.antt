use Rattle.std.proofs.Common.{sym, ◌∙◌, arith}
use Rattle.dv_schema.proofs.Moves.{moves}
use Rattle.dv_cms.specs.Types.{certificate_choice}
use Rattle.dv_signed.proofs.CertificateLemmas.{certificate_first, none_left, other_first}
use Rattle.dv_signed.proofs.certificates.next_certificate.Goals as goal

pub returns-then-is_certificate-clause-certificate : goal.returns-then-is_certificate-clause-certificate
returns-then-is_certificate-clause-certificate c = λ cs left.
    certificate_first cs c.loop-octets.c c.skip_one_of.new.self c.in-Ok.octets.now c.in-Ok.ensures (sym c.is_certificate.ensures ∙ c.if-is_certificate.true) (c.loop-octets.invariant.left cs left)

pub returns-then-is_certificate-clause-less : goal.returns-then-is_certificate-clause-less
returns-then-is_certificate-clause-less c =
    let m = moves certificate_choice c.loop-octets.c (c.in-Ok.octets.now, c.skip_one_of.new.self) c.in-Ok.ensures in
    omega (arith, m.less, c.loop-octets.invariant.less)

pub loop-octets-smaller : goal.loop-octets-smaller
loop-octets-smaller c = (moves certificate_choice c.loop-octets.c (c.in-Ok.octets.now, c.skip_one_of.new.self) c.in-Ok.ensures).less

pub loop-octets-preserved : goal.loop-octets-preserved
loop-octets-preserved c =
    let m = moves certificate_choice c.loop-octets.c (c.in-Ok.octets.now, c.skip_one_of.new.self) c.in-Ok.ensures in
    record {
      left = λ cs left.
          other_first cs c.loop-octets.c c.skip_one_of.new.self c.in-Ok.octets.now c.in-Ok.ensures (sym c.is_certificate.ensures ∙ c.if-is_certificate.false) (c.loop-octets.invariant.left cs left);
      less = omega (arith, m.less, c.loop-octets.invariant.less);
    }

pub returns-clause-certificate : goal.returns-clause-certificate
returns-clause-certificate c = λ cs left. none_left cs c.loop-octets.c c.in_default.field-0 c.in_default.ensures.0 (c.loop-octets.invariant.left cs left)
