-- What is read of a file past a limit.
use Rattle.std.proofs.Common.{◌≡◌, ◌∙◌, ℕ, ◌<◌, List, [], ◌++◌, length, take, ap, subst, arith, length-take}
use Rattle.std.proofs.lemmas.List.{take_all}
use Rattle.std.specs.Prelude.{Option, Some, None, IfSome}
use Rattle.std.specs.Option.{option_map}

-- Where fewer octets came than were asked for, they are all.
short_is_whole : (known : Option (List ℕ)) (n : ℕ) (old new : List ℕ) → old ≡ [] → IfSome (option_map (take n) known) (λ xs. new ≡ old ++ xs) → length new < n
    → IfSome known (λ rest. new ≡ rest)
short_is_whole None n old new none is short = tt
short_is_whole (Some rest) n old new none is short =
    let all : new ≡ take n rest = is ∙ ap (λ (l : List ℕ). l ++ take n rest) none in
    all ∙ take_all n rest (omega (arith, ap length all, length-take n rest, short))

-- The same for a file that was moved into a reader.
pub read_is_whole : {F : Type 0} (remaining : F → Option (List ℕ)) (file inner : F) (n : ℕ) (old new : List ℕ) → inner ≡ file → old ≡ []
    → IfSome (option_map (take n) (remaining inner)) (λ xs. new ≡ old ++ xs) → length new < n → IfSome (remaining file) (λ rest. new ≡ rest)
read_is_whole {F = F} remaining file inner n old new same none is short =
    short_is_whole (remaining file) n old new none (subst (λ (f : F). IfSome (option_map (take n) (remaining f)) (λ xs. new ≡ old ++ xs)) same is) short
