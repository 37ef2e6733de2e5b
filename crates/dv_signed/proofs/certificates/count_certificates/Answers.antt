use Rattle.std.proofs.Common.{◌∙◌, Some, length, ap, sym, subst, arith}
use Rattle.dv_signed.specs.Certificates.{AreLeft, certificates_in}
use Rattle.dv_signed.proofs.CertificateLemmas.{all_left, left_few, less_left, none_found, one_found}
use Rattle.dv_signed.proofs.certificates.count_certificates.Goals as goal

pub loop-next-init : goal.loop-next-init
loop-next-init c =
    let all = certificates_in (Some c.args.set.now) in
    (all, subst (AreLeft all) (sym c.new-next.ensures) (all_left c.args.set.now c.requires.spelled), omega arith)

pub overflow_add-count : goal.overflow_add-count
overflow_add-count c =
    let left = c.loop-next.invariant in
    let one = one_found c.next_certificate.result left.0 c.next_certificate.new.c (sym c.is_some.ensures ∙ c.loop-next-test.true) (c.next_certificate.ensures.certificate left.0 left.1) in
    let few = left_few (certificates_in (Some c.args.set.now)) _ (all_left c.args.set.now c.requires.spelled) in
    omega (arith, left.2, one.1, few, c.requires.short)

pub loop-next-smaller : goal.loop-next-smaller
loop-next-smaller c = less_left c.next_certificate.result _ _ (sym c.is_some.ensures ∙ c.loop-next-test.true) c.next_certificate.ensures.less

pub loop-next-preserved : goal.loop-next-preserved
loop-next-preserved c =
    let left = c.loop-next.invariant in
    let one = one_found c.next_certificate.result left.0 c.next_certificate.new.c (sym c.is_some.ensures ∙ c.loop-next-test.true) (c.next_certificate.ensures.certificate left.0 left.1) in
    (one.0, one.2, omega (arith, left.2, one.1))

pub returns : goal.returns
returns c =
    let left = c.loop-next.invariant in
    let none = none_found c.next_certificate.result left.0 c.next_certificate.new.c (sym c.is_some.ensures ∙ c.loop-next-test.false) (c.next_certificate.ensures.certificate left.0 left.1) in
    omega (arith, left.2, ap length none)
