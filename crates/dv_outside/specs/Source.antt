-- What a read does to the octets that a source has left.
use Rattle.std.specs.Prelude.{◌≡◌, ◌↔◌, ℕ, Bool, false, ◌==◌, List, [], ◌++◌, take, Option, Result, Ok, Err, IfOk, IfSome, OnErr}
use Rattle.std.specs.Option.{option_map}

-- The answer says that nothing is left.
abbrev pub is_end : {E : Type 0} → Result ℕ E → Bool
is_end (Ok n) = n == 0
is_end (Err e) = false

-- At an Ok(n) the first n octets of the buffer are the front of what was left, and what stood behind them is left; n is 0
-- exactly where nothing was left. An error takes nothing.
pub record Takes {E : Type 0} (old new : Option (List ℕ)) (into : List ℕ) (result : Result ℕ E) : Type 0 where
  pub front : IfOk result (λ n. old ≡ option_map (λ left. take n into ++ left) new)
  pub at_end : IfOk result (λ n. IfSome old (λ left. (n ≡ 0) ↔ (left ≡ [])))
  pub failed : OnErr result (new ≡ old)
