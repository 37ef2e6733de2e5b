use Rattle.dv_register.proofs.ExactLemmas.{one_place, not_both}
use Rattle.dv_register.proofs.RefusalLemmas.{never_refused, never_other}
use Rattle.dv_register.proofs.laws.one_refusal.Goals as goal

pub returns-clause-place : goal.returns-clause-place
returns-clause-place c = λ octets key limit p q sixty one two. one_place octets key limit p q sixty one two

pub returns-clause-key : goal.returns-clause-key
returns-clause-key c = λ octets key limit place sixty one. not_both octets key limit place sixty one

pub returns-clause-list : goal.returns-clause-list
returns-clause-list c = λ octets key limit first list sixty serial stands.
    ((λ place. never_refused octets key limit first list sixty serial stands place), never_other octets key limit first list sixty serial stands)
