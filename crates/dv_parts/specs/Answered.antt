-- What a request is answered.
use Rattle.std.specs.Prelude.{◌≡◌, ℕ, Option, Some, None}
use Rattle.dv_schema.specs.Schema.{ValueOf}
use Rattle.dv_draft.specs.declared.draft.Answer.{Answer}
use Rattle.dv_draft.specs.declared.draft.Answer.TheVariants.{Draft as Drafted, Notice}
use Rattle.dv_draft.specs.Types.{draft}
use Rattle.dv_draft.specs.Views.{view_draft}

-- the answer is a notice with the failure bit where there is one, and else a draft as expected
abbrev pub IsAnswer : Answer → Option ℕ → (ValueOf draft → Type 0) → Type 0
IsAnswer (Drafted d) None IsExpected = IsExpected (view_draft d)
IsAnswer (Drafted d) (Some bit) IsExpected = ⊥
IsAnswer (Notice bit) None IsExpected = ⊥
IsAnswer (Notice bit) (Some b) IsExpected = bit ≡ b
