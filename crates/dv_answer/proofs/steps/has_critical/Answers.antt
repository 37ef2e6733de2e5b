use Rattle.std.proofs.Common.{◌∙◌, List, ℕ, ap, sym}
use Rattle.std.specs.Option.{option_copied}
use Rattle.dv_names.specs.Types.{extension}
use Rattle.dv_request.specs.InfoView.{view_info}
use Rattle.dv_members.specs.Members.{values_in}
use Rattle.dv_answer.specs.Steps.{has_critical}
use Rattle.dv_answer.proofs.StepLemmas.{extensions_read}
use Rattle.dv_answer.proofs.steps.has_critical.Goals as goal

pub returns-in-Some : goal.returns-in-Some
returns-in-Some c =
    let octets : List ℕ = c.in-Some.octets.now in
    let there = ap option_copied c.in-Some.is in
    c.any_critical.ensures (values_in extension octets) (extensions_read (view_info c.args.info.now) octets c.args.info.now.spelled there)
    ∙ ap has_critical (sym there)
