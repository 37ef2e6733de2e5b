use Rattle.dv_words.proofs.GrammarLemmas.{IsCommand-uses, uses-IsCommand}
use Rattle.dv_words.proofs.laws.uses_are_the_grammars.Goals as goal

pub returns : goal.returns
returns c = λ names words said ok. (uses-IsCommand names words said, IsCommand-uses names words said ok)
