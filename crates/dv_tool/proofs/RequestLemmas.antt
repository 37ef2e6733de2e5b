-- Why a request that a command makes isn't made.
use Rattle.std.proofs.Common.{◌≡◌, ◌<◌, ◌≤◌, ℕ, Bool, true, false, Result, Ok, Err, refl, sym, ◌∙◌, arith, true≢false}
use Rattle.std.specs.Prelude.{◌↔◌, IfErr, IsErrOf}
use Rattle.dv_request.specs.declared.make.Make.{Make}
use Rattle.dv_request.specs.declared.make.Make.TheVariants.{Nonce, TooLong, Memory}

-- a request that isn't too long, with a good nonce, wants memory
pub only_memory : {T : Type 0} (r : Result T Make) (good : Bool) (n : ℕ) → (IsErrOf r Nonce ↔ (good ≡ false)) → (IsErrOf r TooLong ↔ ((good ≡ true) × (262144 < n)))
    → good ≡ true → n ≤ 262144 → IfErr r (λ fault. fault ≡ Memory)
only_memory (Ok v) good n nonce long is short = tt
only_memory (Err Nonce) good n nonce long is short = absurd (true≢false (sym is ∙ nonce.0 refl))
only_memory (Err TooLong) good n nonce long is short = let h : 262144 < n = (long.0 refl).1 in absurd (omega arith)
only_memory (Err Memory) good n nonce long is short = refl
