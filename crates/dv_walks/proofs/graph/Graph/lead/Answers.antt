use Rattle.std.proofs.Common.{ap, arith, set, subst}
use Rattle.dv_walks.specs.Graph.{AddsLead, GraphState}
use Rattle.dv_walks.proofs.GraphLemmas.{adds_lead}
use Rattle.dv_walks.proofs.graph.Graph.lead.Goals as goal

pub returns : goal.returns
returns c =
    let old : GraphState = record { size = c.self.inside.size; leads = c.self.inside.leads; ends = c.self.inside.ends; limits = c.self.inside.limits } in
    let new : GraphState = record old { leads = set c.self.inside.leads c.args.from c.mark.new.row } in
    subst (λ (g : GraphState). AddsLead g new c.args.from c.args.to) c.self.view_is
    (adds_lead old c.mark.new.row c.args.from c.args.to c.mark.ensures.after (omega arith) (omega (arith, c.mark.ensures.length, ap (λ (g : GraphState). g.size) c.self.view_is)))
