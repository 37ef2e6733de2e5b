use Rattle.std.proofs.Common.{◌∙◌}
use Rattle.dv_repeats.proofs.WindowLemmas.{searched_is}
use Rattle.dv_repeats.proofs.window.Window.has.Goals as goal

pub returns : goal.returns
returns c = c.is_ok.ensures.value ∙ searched_is c.args.self.now.keys.items c.as_slice.result.now c.args.key c.binary_search.result c.as_slice.ensures.value c.args.self.now.ascending c.binary_search.ensures.bound c.binary_search.ensures.position
