use Rattle.std.proofs.lemmas.List.Elements.{recursion_from_All}
use Rattle.dv_request.specs.Materials.{IsCertificate}
use Rattle.dv_request.proofs.FitLemmas.{certificates_fit, digest_fits, message_fits, request_fits}
use Rattle.dv_request.proofs.laws.made_requests_have_spellings.Goals as goal

pub returns-clause-request : goal.returns-clause-request
returns-clause-request c = request_fits

pub returns-clause-message : goal.returns-clause-message
returns-clause-message c = message_fits

pub returns-clause-digest : goal.returns-clause-digest
returns-clause-digest c = digest_fits

pub returns-clause-certificates : goal.returns-clause-certificates
returns-clause-certificates c = λ cs some all short. certificates_fit cs some (recursion_from_All IsCertificate cs all) short
