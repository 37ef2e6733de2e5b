use Rattle.std.proofs.Common.{List, [], ℕ, Bor, Err, ap, is_ok}
use Rattle.dv_svc_pkc.proofs.Searches.{good_at}
use Rattle.dv_svc_pkc.proofs.validation.bag_of.Goals as goal

pub unreachable-requires-in-Err-Bad : goal.unreachable-requires-in-Err-Bad
unreachable-requires-in-Err-Bad c =
    let none : Bor (List ℕ) = record { ref_ptr = (0, 0); now = [] } in
    let good = good_at c.args.certificates.now c.loop-octets.octets-index none c.requires.decoded c.loop-octets-test.true in
    let bad = (c.in-Err-Bad.ensures.bad c.in-Err-Bad.field-0-0).0 (ap Err c.in-Err-Bad.field-0-is) in
    let no = ap is_ok bad.1 in
    cc
