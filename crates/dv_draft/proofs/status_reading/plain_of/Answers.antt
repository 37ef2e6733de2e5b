use Rattle.std.proofs.Common.{sym, subst, ◌∙◌, ℕ, ◌≤◌}
use Rattle.std.proofs.lemmas.Option.{same_Some}
use Rattle.dv_status.specs.Views.{view_status as view_info}
use Rattle.dv_draft.specs.Types.{is_absent}
use Rattle.std.specs.Option.{option_copied}
use Rattle.dv_draft.proofs.Statuses.{several, status_small, with_one}
use Rattle.dv_draft.proofs.status_reading.plain_of.Goals as goal

pub invariant_of-result-clause-known : goal.invariant_of-result-clause-known
invariant_of-result-clause-known c = status_small (view_info c.args.info.now) c.args.info.now.spelled

pub invariant_of-result-in-Some-bit_of : goal.invariant_of-result-in-Some-bit_of
invariant_of-result-in-Some-bit_of c = record {
  known = status_small (view_info c.args.info.now) c.args.info.now.spelled;
  bit_known = λ x e. subst (λ (b : ℕ). b ≤ 26) (same_Some _ _ e) c.in-Some-bit_of.ensures.0;
}

pub returns-in-None-bit_of : goal.returns-in-None-bit_of
returns-in-None-bit_of c = several (is_absent (option_copied c.args.info.now.text)) c.args.info.now.fail c.in-Some.fail c.in-Some.is c.in-None-bit_of.ensures

pub returns-in-Some-bit_of : goal.returns-in-Some-bit_of
returns-in-Some-bit_of c =
    with_one c.args.info.now.status c.args.info.now.text c.args.info.now.fail c.in-Some.fail c.in-Some-bit_of.bit (sym c.is_some.ensures ∙ c.if-is_some.false) c.in-Some.is c.in-Some-bit_of.ensures.0 c.in-Some-bit_of.ensures.1
