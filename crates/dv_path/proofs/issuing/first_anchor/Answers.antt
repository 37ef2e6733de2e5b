use Rattle.std.proofs.Common.{◌≤◌, length, refl, arith}
use Rattle.std.specs.Option.{option_copied}
use Rattle.std.proofs.lemmas.Option.{slice_get_read}
use Rattle.dv_x509.specs.View.{view_certificate}
use Rattle.dv_path.proofs.Issued.{none_of_all, not_issued, one_more}
use Rattle.dv_path.proofs.issuing.first_anchor.Goals as goal

pub loop-place-preserved : goal.loop-place-preserved
loop-place-preserved g c =
    let anchor = c.index-anchors-place.result in
    let v = view_certificate c.args.certificate.now in
    let here = not_issued anchor c.subject.result.now (option_copied c.key.result) v c.args.when c.is_issued_by.result c.subject.ensures c.key.ensures c.if-is_issued_by.false c.is_issued_by.ensures.issued.1 in
    record {
      none = one_more c.args.anchors.now v c.args.when c.loop-place.place anchor (slice_get_read c.args.anchors.now (length c.args.anchors.now) c.loop-place.place anchor refl (omega arith) c.index-anchors-place.is) c.loop-place.invariant.none here;
      steps = omega (arith, c.loop-place.invariant.steps, c.is_issued_by.ensures.step);
    }

pub returns-clause-first : goal.returns-clause-first
returns-clause-first g c =
    let all : length c.args.anchors.now ≤ c.loop-place.place = omega arith in
    none_of_all c.args.anchors.now (view_certificate c.args.certificate.now) c.args.when c.loop-place.place all c.loop-place.invariant.none
