use Rattle.std.proofs.Common.{◌≡◌, ◌≢◌, ◌∙◌, ◌<◌, ◌≤◌, ◌++◌, ◌∷◌, [], ℕ, true, false, eqb, List, length, sym, ap, subst, arith}
use Rattle.std.proofs.lemmas.Bool.{eqb-true, eqb-false}
use Rattle.std.proofs.lemmas.List.{nil_from_length}
use Rattle.dv_x509.specs.View.{view_certificate}
use Rattle.dv_path.specs.Anchors.{Anchored}
use Rattle.dv_path.specs.TrustFiles.{IsTrustFile}
use Rattle.dv_path.proofs.Reading.{AreAnchors, one_more, same_count}
use Rattle.dv_path.proofs.trust.Trust.decode.Goals as goal

pub returns-in-Err-clause-refused : goal.returns-in-Err-clause-refused
returns-in-Err-clause-refused c =
    let read = c.loop-next.invariant in
    let room : length read.seen < 16 = omega (arith, same_count c.loop-next.anchors.items read.seen read.anchors_of, c.loop-next.anchors.ok.0, c.len.ensures, c.loop-next-test.true) in
    c.reading_stops.ensures.refused 16 c.args.bytes.now read.seen c.loop-next.next c.in-Err.field-0.place read.so_far room c.in-Err.ensures.refused c.in-Err.ensures.none

pub returns-clause-refused : goal.returns-clause-refused
returns-clause-refused c =
    let read = c.loop-next.invariant in
    let many : 16 ≤ length read.seen = omega (arith, same_count c.loop-next.anchors.items read.seen read.anchors_of, c.loop-next.anchors.ok.0, c.len.ensures, c.loop-next-test.false) in
    let full = c.reading_stops.ensures.full 16 c.args.bytes.now read.seen c.loop-next.next (omega arith) read.so_far many in
    record { none = full.none; cause = (c.loop-next.next.place, full.cause) }

pub returns-then-at_end-clause-found : goal.returns-then-at_end-clause-found
returns-then-at_end-clause-found c =
    let read = c.loop-next.invariant in
    let octets : List ℕ = c.in-Ok.field-0-0.now in
    let room : length read.seen < 16 = omega (arith, same_count c.loop-next.anchors.items read.seen read.anchors_of, c.loop-next.anchors.ok.0, c.len.ensures, c.loop-next-test.true) in
    let none : eqb (length c.next_certificate.new.c.rest) 0 ≡ true = sym c.at_end.ensures ∙ c.if-at_end.true in
    subst (IsTrustFile c.args.bytes.now) (sym c.in_ok-add.ensures)
    (record {
      certificates = read.seen ++ octets ∷ [];
      are = c.reading_goes_on.ensures.end 16 c.args.bytes.now read.seen c.loop-next.next c.next_certificate.new.c octets read.so_far room c.in-Ok.ensures.found (nil_from_length c.next_certificate.new.c.rest (eqb-true _ _ none));
      anchors_of = one_more c.loop-next.anchors.items read.seen octets (view_certificate c.in-Ok.certificate) read.anchors_of c.in-Ok.ensures.decoded;
    })

pub loop-next-preserved : goal.loop-next-preserved
loop-next-preserved c =
    let read = c.loop-next.invariant in
    let octets : List ℕ = c.in-Ok.field-0-0.now in
    let room : length read.seen < 16 = omega (arith, same_count c.loop-next.anchors.items read.seen read.anchors_of, c.loop-next.anchors.ok.0, c.len.ensures, c.loop-next-test.true) in
    let left : eqb (length c.next_certificate.new.c.rest) 0 ≡ false = sym c.at_end.ensures ∙ c.if-at_end.false in
    let more : c.next_certificate.new.c.rest ≢ [] = λ none. eqb-false _ _ left (ap length none) in
    subst (λ (anchors : List Anchored). AreAnchors c.args.bytes.now anchors c.next_certificate.new.c) (sym c.in_ok-add.ensures)
    (record {
      seen = read.seen ++ octets ∷ [];
      so_far = c.reading_goes_on.ensures.more 16 c.args.bytes.now read.seen c.loop-next.next c.next_certificate.new.c octets read.so_far room c.in-Ok.ensures.found more;
      anchors_of = one_more c.loop-next.anchors.items read.seen octets (view_certificate c.in-Ok.certificate) read.anchors_of c.in-Ok.ensures.decoded;
    })
