-- Which calls of a fake fail, and what a call does to its counts.
use Rattle.std.specs.Prelude.{◌≡◌, ◌⊎◌, ◌+◌, ◌-◌, ◌^◌, ℕ, min, List, Contains}

-- The numbers of the calls that fail, counted from 0, the calls so far, and the faults so far.
pub record Plan : Type 0 where
  pub failing : List ℕ
  pub calls : ℕ
  pub faults : ℕ

-- The next call fails: its number is listed, or the count of calls stands at its end.
abbrev pub Fails : Plan → Type 0
Fails plan = Contains plan.failing plan.calls ⊎ (plan.calls ≡ 2 ^ 64 - 1)

-- A count after one more, which stops at its end.
abbrev pub counted : ℕ → ℕ
counted n = min (n + 1) (2 ^ 64 - 1)

-- One call more.
abbrev pub entered : Plan → Plan
entered plan = record plan { calls = counted plan.calls }

-- One fault more.
abbrev pub faulted : Plan → Plan
faulted plan = record plan { faults = counted plan.faults }
