use Rattle.std.proofs.Common.{List, ℕ, subst, ◌∙◌, true≢false, sym}
use Rattle.dv_show.specs.Values.{IsValueOf}
use Rattle.dv_show.proofs.ValueLemmas.{same_type}
use Rattle.dv_show.proofs.value.value_in.Goals as goal

pub returns-in-Err-clause-only : goal.returns-in-Err-clause-only
returns-in-Err-clause-only c = λ value is.
    true≢false (sym (c.in-Err.ensures.only value (subst (λ (type : List ℕ). IsValueOf value type c.args.message.now.content.now) (same_type _ _ c.if-eq.ensures ∙ c.as_slice.ensures) is)))
