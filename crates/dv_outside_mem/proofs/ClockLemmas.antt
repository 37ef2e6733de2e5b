-- The list of a clock's answers.
use Rattle.std.proofs.Common.{◌≡◌, ℕ, ◌+◌, List, [], ◌∷◌, ◌++◌, ap, add-one}
use Rattle.dv_outside_mem.specs.Clock.{answer_at, first_answers}

-- One answer more.
pub first_answers-suc : (answers : List ℕ) (n : ℕ) → first_answers answers (n + 1) ≡ first_answers answers n ++ answer_at answers n ∷ []
unfolding first_answers
first_answers-suc answers n = ap (first_answers answers) (add-one n)
