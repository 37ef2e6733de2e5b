-- Chains step by step.
use Rattle.std.proofs.Common.{◌≡◌, ℕ, zero, suc, ◌+◌, ◌-◌, ◌≤◌, List, length, refl, arith, add-one, add-zero}
use Rattle.sha2.proofs.Facts256.{length-sha256}
use Rattle.dv_lmots.specs.Lmots.{chain, chain_prefix, chain_step, chain_steps}

-- no step yet
pub chain_steps_none : (prefix x : List ℕ) (a : ℕ) → x ≡ chain_steps prefix x a (a - a)
unfolding chain_steps
chain_steps_none prefix x a =
    let none : a - a ≡ 0 = omega arith in
    rw none refl

-- one step more after n
pub chain_steps_more : (prefix x : List ℕ) (a n : ℕ) → chain_step prefix (a + n) (chain_steps prefix x a n) ≡ chain_steps prefix x a (n + 1)
unfolding chain_steps
chain_steps_more prefix x a n = rw add-one refl

-- one step more, at j
pub chain_steps_next : (prefix x : List ℕ) (a j : ℕ) → a ≤ j → chain_step prefix j (chain_steps prefix x a (j - a)) ≡ chain_steps prefix x a (j + 1 - a)
unfolding chain_steps
chain_steps_next prefix x a j h =
    let count : j + 1 - a ≡ suc (j - a) = omega arith in
    let last : a + (j - a) ≡ j = omega arith in
    rw (count, last) refl

-- m steps after n others
pub chain_steps_split : (prefix x : List ℕ) (a n m : ℕ) → chain_steps prefix (chain_steps prefix x a n) (a + n) m ≡ chain_steps prefix x a (n + m)
unfolding chain_steps
chain_steps_split prefix x a n zero = rw add-zero refl
chain_steps_split prefix x a n (suc m) =
    let count : n + suc m ≡ suc (n + m) = omega arith in
    let last : a + n + m ≡ a + (n + m) = omega arith in
    rw (count, last, chain_steps_split prefix x a n m) refl

-- a chain that was left at b and is taken up again there
pub chain_completed : (id : List ℕ) (q i : ℕ) (x : List ℕ) (a b c : ℕ) → a ≤ b → b ≤ c → chain id q i (chain id q i x a b) b c ≡ chain id q i x a c
chain_completed id q i x a b c low high =
    let from : a + (b - a) ≡ b = omega arith in
    let count : b - a + (c - b) ≡ c - a = omega arith in
    rw (from, count) at (chain_steps_split (chain_prefix id q i) x a (b - a) (c - b))

-- each value of a chain is as long as a hash
pub length-chain_steps : (prefix x : List ℕ) (a n : ℕ) → length x ≡ 32 → length (chain_steps prefix x a n) ≡ 32
unfolding chain_steps chain_step
length-chain_steps prefix x a zero h = h
length-chain_steps prefix x a (suc n) h = length-sha256 _
