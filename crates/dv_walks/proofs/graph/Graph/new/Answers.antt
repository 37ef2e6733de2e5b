use Rattle.std.proofs.Common.{None, false, refl}
use Rattle.dv_walks.proofs.GraphLemmas.{get_or-replicate, get_or-rows}
use Rattle.dv_walks.proofs.graph.Graph.new.Goals as goal

pub returns : goal.returns
returns c = record {
  size = refl;
  leads = get_or-rows 16 16;
  ends = λ node. get_or-replicate 16 node false;
  limits = λ node. get_or-replicate 16 node None;
}
