use Rattle.std.proofs.Common.{sym, subst}
use Rattle.std.proofs.lemmas.Result.{err_from_is_err_and}
use Rattle.dv_schema.specs.Answers.{Gives}
use Rattle.dv_schema.proofs.Orders.{set_like, set_fault}
use Rattle.dv_asn1.proofs.members.check_set.Goals as goal

pub returns-in_err-check_members : goal.returns-in_err-check_members
returns-in_err-check_members g c =
    let p = err_from_is_err_and c.from_residual.result c.from_residual.ensures.1 in
    rw (p.1, p.2) (set_fault g.T.Member.schema c.args.some c.args.place c.args.contents.now c.in_err-check_members.field-0.0 c.in_err-check_members.ensures)

pub check_order-requires : goal.check_order-requires
check_order-requires g c = (set_like g.T.Member.schema c.args.some c.args.place c.args.contents.now c.fork-octets.ensures.octets c.in_ok-check_members.ensures).0

pub returns : goal.returns
returns g c =
    let is = (set_like g.T.Member.schema c.args.some c.args.place c.args.contents.now c.fork-octets.ensures.octets c.in_ok-check_members.ensures).1 in
    subst (Gives (λ x. x) c.check_order.result) (sym is) c.check_order.ensures
