use Rattle.std.proofs.Common.{◌≤◌, add-one, arith, length, sym}
use Rattle.dv_signed.specs.Certificates.{certificates_of}
use Rattle.dv_signed.specs.SignedView.{view_signed}
use Rattle.dv_svc_document.proofs.BagLemmas.{bag_more, fit_all, fit_more, read_more}
use Rattle.dv_svc_document.proofs.bag.document_bag.Goals as goal

pub loop-index-preserved : goal.loop-index-preserved
loop-index-preserved c =
    let certificates = certificates_of (view_signed c.args.signed.now) in
    let i = c.loop-index.index in
    let octets = c.in-Some.certificate.now in
    let at = sym c.in-Some.ensures.certificate in
    let adds = c.in_ok-add-in-Some.ensures.added in
    record {
      bag = rw (add-one) (bag_more certificates i octets c.loop-index.bag c.add.new.bag c.loop-index.invariant.bag at adds);
      fit = rw (add-one) (fit_more certificates i octets c.loop-index.invariant.fit at c.in_ok-add-in-Some.ensures.fit);
      read = rw (add-one) (read_more certificates i octets c.loop-index.bag c.add.new.bag c.loop-index.invariant.read at adds);
    }

pub returns-clause-fit : goal.returns-clause-fit
returns-clause-fit c =
    let certificates = certificates_of (view_signed c.args.signed.now) in
    let past : length certificates ≤ c.loop-index.index = omega arith in
    fit_all certificates c.loop-index.index past c.loop-index.invariant.fit
