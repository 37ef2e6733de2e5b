-- What an answer does to the list of a clock's answers.
use Rattle.std.specs.Prelude.{◌≡◌, ℕ, List, [], ◌∷◌, ◌++◌, Option, Result, Ok, Err}
use Rattle.std.specs.Option.{option_map}

-- An answer joins those before it, and a fault adds none.
abbrev pub Tells : {E : Type 0} → Option (List ℕ) → Option (List ℕ) → Result ℕ E → Type 0
Tells old new (Ok moment) = new ≡ option_map (λ told. told ++ moment ∷ []) old
Tells old new (Err e) = new ≡ old
