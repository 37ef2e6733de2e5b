-- What a source in memory has left, and what a read of it does.
use Rattle.std.specs.Prelude.{ℕ, Bool, false, ◌==◌, List, [], ◌∷◌, drop, Result, Ok, Err}
use Rattle.dv_outside_mem.specs.Plan.{Plan, entered, faulted}

-- The octets left, the sizes of the next pieces, whether the latest read found nothing left, and which calls fail.
pub record SourceState : Type 0 where
  pub left : List ℕ
  pub sizes : List ℕ
  pub ended : Bool
  pub plan : Plan

-- The size of the next piece: the next listed one, or 65,536 where all were used.
abbrev pub next_size : List ℕ → ℕ
next_size [] = 65536
next_size (size ∷ sizes) = size

-- A source after a read that answered so: one that gave n octets has lost these and a size.
abbrev pub after_read : {E : Type 0} → SourceState → Result ℕ E → SourceState
after_read s (Ok n) = record { left = drop n s.left; sizes = drop 1 s.sizes; ended = n == 0; plan = entered s.plan }
after_read s (Err e) = record { left = s.left; sizes = s.sizes; ended = false; plan = faulted (entered s.plan) }
