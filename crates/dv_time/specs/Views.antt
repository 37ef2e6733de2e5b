-- Moments as values of their schemas.
use Rattle.std.specs.Prelude.{ℕ, drop, nat_lt, if◌then◌else◌}
use Rattle.std.proofs.Common.{inl, inr}
use Rattle.dv_schema.specs.Schema.{ValueOf}
use Rattle.dv_time.specs.Text.{first_late, text_of}
use Rattle.dv_time.specs.Types.{generalized_time, time}

-- a GeneralizedTime: the text of the second
abbrev pub view_moment : ℕ → ValueOf generalized_time
view_moment s = text_of s

-- a Time: up to 2049 the text without its first two digits
abbrev pub view_time : ℕ → ValueOf time
view_time s = if nat_lt s first_late then inl (drop 2 (text_of s)) else inr (text_of s)
