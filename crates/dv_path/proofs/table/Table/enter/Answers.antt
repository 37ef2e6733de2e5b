use Rattle.std.proofs.Common.{◌+◌, List, ℕ, subst, sym}
use Rattle.dv_schema.specs.Schema.{FieldsOf}
use Rattle.dv_x509.specs.Types.{certificate_fields}
use Rattle.dv_x509.specs.View.{view_certificate}
use Rattle.dv_path.specs.Anchors.{Anchored}
use Rattle.dv_path.specs.Tables.{AddsAnchor, IsTable}
use Rattle.dv_path.proofs.Tabled.{one_entered}
use Rattle.dv_path.proofs.table.Table.enter.Goals as goal

pub returns-clause-table : goal.returns-clause-table
returns-clause-table g c =
    let bag : List (FieldsOf certificate_fields) = c.args.bag.now in
    let anchors : List Anchored = c.args.trust.now in
    let v : FieldsOf certificate_fields = view_certificate c.member-certificate.result in
    let t : ℕ = c.args.when in
    let n : ℕ = c.args.position in
    let firsts : List ℕ = c.args.self.now.anchors in
    let h = c.add_issuers.new.self.graph in
    let k = c.add_anchor.new.self.graph in
    let news : List ℕ = c.add_anchor.new.self.anchors in
    let added : AddsAnchor anchors v t h k firsts news n =
    subst (λ (some : List Anchored). AddsAnchor some v t h k firsts news n) c.anchors.ensures.value
    (subst (λ (fs : List ℕ). AddsAnchor c.anchors.result.now v t h k fs news n) c.add_issuers.ensures.anchors c.add_anchor.ensures.added) in
    subst (λ (fs : List ℕ). IsTable bag anchors t c.add_bound.new.self.graph fs (n + 1)) (sym c.add_bound.ensures.anchors)
    (one_entered bag anchors t v c.args.self.now.graph h k c.add_bound.new.self.graph firsts news n c.member-certificate.ensures c.requires.table c.add_issuers.ensures.added added c.add_bound.ensures.added)
