-- What the code says of the front of a value.
use Rattle.std.specs.Prelude.{◌≡◌, ◌<◌, ◌≤◌, ℕ, List}
use Rattle.dv_session.specs.declared.front.Front.{Front}
use Rattle.dv_session.specs.declared.front.Front.TheVariants.{Need, Whole, Bad}
use Rattle.dv_session.specs.Requests.{HasHeader, NeedsMore, HasNoHeader}

-- what is said of these octets holds of them
abbrev pub Tells : List ℕ → Front → Type 0
Tells front Need = NeedsMore front
Tells front (Whole total) = HasHeader front total
Tells front Bad = HasNoHeader front

-- A length in `count` octets, of one to three, may begin with this one: it isn't said in fewer octets, and the value isn't
-- longer than a request by this one alone.
pub record MayBegin (count first : ℕ) : Type 0 where
  pub some : 0 < first
  pub least : count ≡ 1 → 128 ≤ first
  pub most : count ≡ 3 → first ≤ 3
