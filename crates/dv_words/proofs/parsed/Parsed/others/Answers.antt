use Rattle.dv_words.proofs.Getters.{raw_words}
use Rattle.dv_words.proofs.parsed.Parsed.others.Goals as goal

pub returns : goal.returns
returns c = λ said says. raw_words _ c.args.self.now said says c.get_raw.ensures
