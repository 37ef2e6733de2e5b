use Rattle.std.proofs.Common.{◌∙◌, List, ℕ, ap, sym}
use Rattle.std.specs.Prelude.{not}
use Rattle.std.specs.Option.{option_copied}
use Rattle.dv_names.specs.Types.{general_name}
use Rattle.dv_request.specs.InfoView.{view_info}
use Rattle.dv_members.specs.Members.{values_in}
use Rattle.dv_answer.specs.Steps.{is_for_others}
use Rattle.dv_answer.proofs.StepLemmas.{servers_read}
use Rattle.dv_answer.proofs.steps.is_for_others.Goals as goal

pub returns-in-Some : goal.returns-in-Some
returns-in-Some c =
    let names : List ℕ = c.in-Some.names.now in
    let there = ap option_copied c.in-Some.is in
    ap not (c.lists_directory_name.ensures (values_in general_name names) (servers_read (view_info c.args.info.now) names c.args.info.now.spelled there))
    ∙ ap (is_for_others c.args.subject.now) (sym there)
