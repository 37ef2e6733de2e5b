-- What a clock in memory answers.
use Rattle.std.specs.Prelude.{ℕ, zero, suc, ◌+◌, ◌-◌, min, List, [], ◌∷◌, ◌++◌, length, slice_index, Result, Ok, Err}
use Rattle.dv_outside_mem.specs.Plan.{Plan, entered, faulted}

-- The moments to answer, how many answers were given, and which calls fail.
pub record ClockState : Type 0 where
  pub answers : List ℕ
  pub given : ℕ
  pub plan : Plan

-- The n-th answer, counted from 0: the last one is repeated.
abbrev pub answer_at : List ℕ → ℕ → ℕ
answer_at answers n = slice_index answers (min n (length answers - 1))

-- The first n answers.
unfoldable pub first_answers : List ℕ → ℕ → List ℕ
first_answers answers zero = []
first_answers answers (suc n) = first_answers answers n ++ answer_at answers n ∷ []

-- A clock after a call that answered so.
abbrev pub after_call : {T E : Type 0} → ClockState → Result T E → ClockState
after_call s (Ok moment) = record { answers = s.answers; given = s.given + 1; plan = entered s.plan }
after_call s (Err e) = record { answers = s.answers; given = s.given; plan = faulted (entered s.plan) }
