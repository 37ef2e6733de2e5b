use Rattle.std.proofs.Common.{sym}
use Rattle.dv_x509.specs.View.{view_certificate}
use Rattle.dv_path.proofs.Tabled.{bounded_by}
use Rattle.dv_path.proofs.table.Table.add_bound.Goals as goal

pub returns-in-Some-clause-added : goal.returns-in-Some-clause-added
returns-in-Some-clause-added c =
    bounded_by (view_certificate c.args.certificate.now) c.args.self.now.graph c.limit.new.self c.args.position c.in-Some.bound c.limit.ensures (sym c.in-Some.ensures)
