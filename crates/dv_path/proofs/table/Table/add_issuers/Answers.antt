use Rattle.std.proofs.Common.{◌≡◌, ◌∙◌, ◌≤◌, ◌+◌, ℕ, List, true, false, ap, sym, subst, arith}
use Rattle.std.specs.Prelude.{IsTrue}
use Rattle.dv_schema.specs.Schema.{FieldsOf}
use Rattle.dv_x509.specs.Types.{certificate_fields}
use Rattle.dv_x509.specs.View.{view_certificate}
use Rattle.dv_path.specs.declared.table.Table.{Table}
use Rattle.dv_path.specs.Issuing.{Issues}
use Rattle.dv_path.specs.Members.{member}
use Rattle.dv_path.specs.Tables.{AddsIssuers}
use Rattle.dv_path.proofs.Tabled.{member_is, next_added, next_left}
use Rattle.dv_path.proofs.table.Table.add_issuers.Goals as goal
use Rattle.dv_path.proofs.table.Table.add_issuers.Goals.{then-issues, else-issues}

pub loop-place-preserved : goal.loop-place-preserved
loop-place-preserved g c =
    let bag : List (FieldsOf certificate_fields) = c.args.bag.now in
    let v : FieldsOf certificate_fields = view_certificate c.args.certificate.now in
    let t : ℕ = c.args.when in
    let n : ℕ = c.loop-place.place in
    let is = member_is bag n (view_certificate c.member.result) c.member.ensures in
    let before = c.loop-place.invariant in
    let steps : c.issues.new.checks ≤ c.args.checks.now + (n + 1) = omega (arith, c.issues.ensures.step, before.steps) in
    elim c.if-issues.branch [
      | then-issues w ↦
          (let issued = subst (λ (j : FieldsOf certificate_fields). Issues j v t) (sym is) (c.issues.ensures.issues.0 w.if-issues.true) in
          record {
            added = subst (λ (x : Table). AddsIssuers bag v t c.args.self.now.graph x.graph c.args.position (n + 1)) (sym w.self-is)
                (next_added bag v t c.args.self.now.graph c.loop-place.self.graph w.lead.new.self c.args.position n before.added w.lead.ensures issued);
            anchors = ap (λ (x : Table). x.anchors) w.self-is ∙ before.anchors;
            steps = steps;
          })
      | else-issues w ↦
          (let not_issued : ¬ Issues (member bag n) v t = λ h.
          (let yes : IsTrue c.issues.result = c.issues.ensures.issues.1 (subst (λ (j : FieldsOf certificate_fields). Issues j v t) is h) in
          let contradiction : true ≡ false = sym yes ∙ w.if-issues.false in
          cc) in
          record {
            added = subst (λ (x : Table). AddsIssuers bag v t c.args.self.now.graph x.graph c.args.position (n + 1)) (sym w.self-is)
                (next_left bag v t c.args.self.now.graph c.loop-place.self.graph c.args.position n before.added not_issued);
            anchors = ap (λ (x : Table). x.anchors) w.self-is ∙ before.anchors;
            steps = steps;
          })
    ]
