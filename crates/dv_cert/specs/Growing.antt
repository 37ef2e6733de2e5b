-- What may leave while a list of records is held may leave when it has grown.
use Rattle.std.proofs.Common.{◌≡◌, inl, inr, ℕ, zero, suc, List, [], ◌∷◌, ◌++◌, Option, Some, None, subst}
use Rattle.std.specs.List.{slice_get}
use Rattle.dv_outside.specs.Releases.{Entry, Identity}
use Rattle.dv_cert.specs.Certificates.{MayLeave}

-- there is none
abbrev IsNothing : {A : Type 0} → Option A → Type 0
IsNothing None = Unit {0}
IsNothing (Some x) = ⊥

-- an entry stands at its index in a longer list too
still_there : {A : Type 0} → (list more : List A) (index : ℕ) (entry : A) → slice_get list index ≡ Some entry → slice_get (list ++ more) index ≡ Some entry
still_there [] more zero entry there = absurd (subst IsNothing there tt)
still_there [] more (suc index) entry there = absurd (subst IsNothing there tt)
still_there (x ∷ xs) more zero entry there = there
still_there (x ∷ xs) more (suc index) entry there = still_there xs more index entry there

pub grown : (key : Identity) (first : ℕ) (list more : List Entry) (octets : List ℕ) → MayLeave key first list octets → MayLeave key first (list ++ more) octets
unfolding MayLeave
grown key first list more octets (inl one) = inl (one.0, one.1, still_there list more one.0 one.1 one.2, one.3)
grown key first list more octets (inr notice) = inr notice
