use Rattle.dv_x509.specs.View.{view_certificate}
use Rattle.dv_path.proofs.Tabled.{anchored_at}
use Rattle.dv_path.proofs.table.Table.add_anchor.Goals as goal

pub returns-in-Some-clause-added : goal.returns-in-Some-clause-added
returns-in-Some-clause-added g c =
    anchored_at c.args.anchors.now (view_certificate c.args.certificate.now) c.args.when c.args.self.now.graph c.end_at.new.self c.args.self.now.anchors c.args.position c.in-Some.place c.requires.room c.end_at.ensures c.in-Some.ensures.first
