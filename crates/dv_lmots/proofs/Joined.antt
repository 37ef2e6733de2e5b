-- Lists that are joined one after another, here and in the crates above.
use Rattle.std.proofs.Common.{◌≡◌, ℕ, zero, suc, ◌+◌, ◌-◌, ◌*◌, ◌<◌, ◌≤◌, List, [], ◌++◌, length, drop, refl, arith, inl, inr, add-one, append-nil, length-append, length-drop}
use Rattle.std.proofs.lemmas.List.{append_assoc, drop-append-le, take-append-le, drop_at, take_at}
use Rattle.std.proofs.lemmas.Bool.{cases_lt}
use Rattle.std.specs.Prelude.{slice_range}
use Rattle.dv_lmots.specs.Lmots.{joined}

-- one more list
pub joined_more : (f : ℕ → List ℕ) (n : ℕ) → joined f (n + 1) ≡ joined f n ++ f n
unfolding joined
joined_more f n = rw add-one refl

-- none yet, after the list h
pub joined_none : (h : List ℕ) (f : ℕ → List ℕ) → h ++ joined f 0 ≡ h
unfolding joined
joined_none h f = append-nil h

-- one more list v after those that follow h
pub joined_next : (h : List ℕ) (f : ℕ → List ℕ) (i : ℕ) (v : List ℕ) → v ≡ f i → (h ++ joined f i) ++ v ≡ h ++ joined f (i + 1)
joined_next h f i v e = rw (joined_more f i, e) (append_assoc h (joined f i) (f i))

-- the same lists joined are the same
pub joined_same : (f g : ℕ → List ℕ) (n : ℕ) → ((i : ℕ) → i < n → f i ≡ g i) → joined f n ≡ joined g n
unfolding joined
joined_same f g zero h = refl
joined_same f g (suc n) h = rw (joined_same f g n (λ i lt. h i (omega arith)), h n (omega arith)) refl

-- hashes joined
pub length-joined : (f : ℕ → List ℕ) → ((i : ℕ) → length (f i) ≡ 32) → (n : ℕ) → length (joined f n) ≡ 32 * n
unfolding joined
length-joined f h zero = refl
length-joined f h (suc n) = omega (arith, length-append (joined f n) (f n), length-joined f h n, h n)

-- what stands between two lists
pub slice_range-middle : (pre mid post : List ℕ) (a b : ℕ) → length pre ≡ a → b ≡ a + length mid → slice_range (pre ++ mid ++ post) a b ≡ mid
slice_range-middle pre mid post a b la lb =
    let rest : drop a (pre ++ mid ++ post) ≡ mid ++ post = rw (append_assoc) (drop_at pre (mid ++ post) a la) in
    rw rest (take_at mid post (b - a) (omega arith))

-- hash i of those joined after the list h
pub slice_range-joined : (h : List ℕ) (f : ℕ → List ℕ) → ((i : ℕ) → length (f i) ≡ 32) → (n i : ℕ) → i < n
    → slice_range (h ++ joined f n) (length h + 32 * i) (length h + 32 * i + 32) ≡ f i
unfolding joined
slice_range-joined h f len zero i lt = absurd (omega arith)
slice_range-joined h f len (suc n) i lt =
    let all : length (h ++ joined f n) ≡ length h + 32 * n = omega (arith, length-append h (joined f n), length-joined f len n) in
    elim (cases_lt i n) [
      | inl below ↦
          let from : ℕ = length h + 32 * i in
          let width : from + 32 - from ≡ 32 = omega arith in
          let before : slice_range (h ++ joined f n) from (from + 32) ≡ f i = slice_range-joined h f len n i below in
          let long : 32 ≤ length (drop from (h ++ joined f n)) = omega (arith, length-drop from (h ++ joined f n)) in
          rw (← append_assoc h (joined f n) (f n), drop-append-le from (h ++ joined f n) (f n) (omega arith), width, take-append-le 32 (drop from (h ++ joined f n)) (f n) long)
          (rw width at before)
      | inr above ↦
          let e : i ≡ n = omega arith in
          let last = slice_range-middle (h ++ joined f n) (f n) [] (length h + 32 * n) (length h + 32 * n + 32) all (omega (arith, len n)) in
          rw (e, ← append_assoc h (joined f n) (f n)) (rw append-nil at last)
    ]
