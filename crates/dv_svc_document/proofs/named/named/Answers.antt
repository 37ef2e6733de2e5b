use Rattle.std.proofs.Common.{◌≤◌, add-one, arith, length, sym}
use Rattle.dv_signed.specs.SignerView.{view_signer}
use Rattle.dv_x509.specs.View.{view_certificate}
use Rattle.dv_svc_document.specs.Named.{is_named_by}
use Rattle.dv_svc_document.proofs.Positions.{not_absent, position_first, position_later, position_none, position_there}
use Rattle.dv_svc_document.proofs.named.named.Goals as goal

pub loop-position-init : goal.loop-position-init
loop-position-init c = position_first (is_named_by (view_signer c.args.signer.now)) c.args.bag.now

pub unreachable-requires : goal.unreachable-requires
unreachable-requires c = not_absent view_certificate c.get.result c.args.bag.now c.loop-position.position c.get.ensures (omega arith) c.in_default.not-Some

pub returns-then-names : goal.returns-then-names
returns-then-names c =
    sym (position_there (is_named_by (view_signer c.args.signer.now)) c.args.bag.now c.loop-position.position (view_certificate c.in-Some.certificate) c.loop-position.invariant (sym c.in-Some.ensures)
    (sym c.if-names.ensures))

pub loop-position-preserved : goal.loop-position-preserved
loop-position-preserved c =
    rw (add-one) (position_later (is_named_by (view_signer c.args.signer.now)) c.args.bag.now c.loop-position.position (view_certificate c.in-Some.certificate) c.loop-position.invariant (sym c.in-Some.ensures)
    (sym c.if-names.ensures))

pub returns : goal.returns
returns c =
    let past : length c.args.bag.now ≤ c.loop-position.position = omega arith in
    sym (position_none (is_named_by (view_signer c.args.signer.now)) c.args.bag.now c.loop-position.position c.loop-position.invariant past)
