use Rattle.dv_names.proofs.ArcLaws.{octets_again, arcs_again, oid_is, proper_of, text_arcs, named_shown, shown_named}
use Rattle.dv_names.proofs.laws.identifiers_and_texts_agree.Goals as goal

pub returns-clause-octets : goal.returns-clause-octets
returns-clause-octets c = octets_again

pub returns-clause-arcs : goal.returns-clause-arcs
returns-clause-arcs c = arcs_again

pub returns-clause-oid : goal.returns-clause-oid
returns-clause-oid c = oid_is

pub returns-clause-proper : goal.returns-clause-proper
returns-clause-proper c = proper_of

pub returns-clause-text : goal.returns-clause-text
returns-clause-text c = text_arcs

pub returns-clause-named : goal.returns-clause-named
returns-clause-named c = named_shown

pub returns-clause-shown : goal.returns-clause-shown
returns-clause-shown c = shown_named
