-- Lanes of vectors and of lists of vectors.
use Rattle.std.proofs.Common.{◌≡◌, ℕ, zero, suc, ◌<◌, ◌-◌, ◌*◌, ◌/◌, ◌%◌, ◌^◌, List, [], ◌∷◌, length, slice_index, set, bit_or, arith, refl, ap}
use Rattle.std.specs.Simd.Lanes.{zip2}
use Rattle.std.proofs.lemmas.Simd.{Each1-get_or}
use lib.Lanes.{Each1}
use mir.Val.{Fits}
use Rattle.std.specs.Int.{w32, rotate_right}
use Rattle.dv_lanes.specs.Lanes.{lane_at, window_lane}

-- what holds of each of the four lanes
pub below_four : (P : ℕ → Type 0) → P 0 → P 1 → P 2 → P 3 → (j : ℕ) → j < 4 → P j
below_four P p0 p1 p2 p3 zero h = p0
below_four P p0 p1 p2 p3 (suc zero) h = p1
below_four P p0 p1 p2 p3 (suc (suc zero)) h = p2
below_four P p0 p1 p2 p3 (suc (suc (suc zero))) h = p3
below_four P p0 p1 p2 p3 (suc (suc (suc (suc n)))) h = absurd (omega arith)

-- what holds of each list of four elements
pub four_lanes : (P : List ℕ → Type 0) → ((a b c d : ℕ) → P (a ∷ b ∷ c ∷ d ∷ [])) → (xs : List ℕ) → length xs ≡ 4 → P xs
four_lanes P p (a ∷ b ∷ c ∷ d ∷ []) h = p a b c d
four_lanes P p [] h = absurd (omega arith)
four_lanes P p (a ∷ []) h = absurd (omega arith)
four_lanes P p (a ∷ b ∷ []) h = absurd (omega arith)
four_lanes P p (a ∷ b ∷ c ∷ []) h = absurd (omega arith)
four_lanes P p (a ∷ b ∷ c ∷ d ∷ e ∷ xs) h = absurd (omega arith)

-- two shifts of each lane and an or are a rotation
abbrev Rotates : ℕ → List ℕ → Type 0
Rotates k x = (j : ℕ) → j < 4
    → slice_index (zip2 bit_or
    (zip2 (λ x n. x / 2 ^ n) x (k ∷ k ∷ k ∷ k ∷ []))
    (zip2 (λ x n. x * 2 ^ n % 2 ^ 32) x ((32 - k) ∷ (32 - k) ∷ (32 - k) ∷ (32 - k) ∷ []))) j
    ≡ rotate_right w32 (slice_index x j) k

-- two shifts and an or rotate each of four words
pub shifts_rotate : (k : ℕ) → 0 < k → k < 32 → (x : List ℕ) → length x ≡ 4 → Rotates k x
shifts_rotate k low high =
    let right : k % 32 ≡ k = omega arith in
    let left : (32 - k) % 32 ≡ 32 - k = omega arith in
    four_lanes (Rotates k) (λ x0 x1 x2 x3.
    below_four _ (rw (right, left) refl) (rw (right, left) refl) (rw (right, left) refl) (rw (right, left) refl))

-- a word of the window of block j
pub slice_index-window_lane : (w : List (List ℕ)) (k j : ℕ) → k < length w → slice_index (window_lane j w) k ≡ lane_at w k j
slice_index-window_lane [] k j h = absurd (omega arith)
slice_index-window_lane (x ∷ w) zero j h = refl
slice_index-window_lane (x ∷ w) (suc k) j h = slice_index-window_lane w k j (omega arith)

-- a write of one vector writes each block's word
pub window_lane-set : (w : List (List ℕ)) (k j : ℕ) (x : List ℕ) → window_lane j (set w k x) ≡ set (window_lane j w) k (slice_index x j)
window_lane-set [] k j x = refl
window_lane-set (y ∷ w) zero j x = refl
window_lane-set (y ∷ w) (suc k) j x = ap (λ r. slice_index y j ∷ r) (window_lane-set w k j x)

-- a window keeps its length
pub length-window_lane : (w : List (List ℕ)) (j : ℕ) → length (window_lane j w) ≡ length w
length-window_lane [] j = refl
length-window_lane (x ∷ w) j = omega (arith, length-window_lane w j)

-- an operator on a vector and a splat
pub splat_at : (f : ℕ → ℕ → ℕ) (x : List ℕ) (k : ℕ) → length x ≡ 4 → (j : ℕ) → j < 4
    → slice_index (zip2 f x (k ∷ k ∷ k ∷ k ∷ [])) j ≡ f (slice_index x j) k
splat_at f x k l =
    four_lanes (λ x. (j : ℕ) → j < 4 → slice_index (zip2 f x (k ∷ k ∷ k ∷ k ∷ [])) j ≡ f (slice_index x j) k)
    (λ a b c d. below_four _ refl refl refl refl) x l

-- a lane is a word
pub lane_lt : (x : List ℕ) (j : ℕ) → length x ≡ 4 → Each1 (Fits w32) x → j < 4 → slice_index x j < 2 ^ 32
lane_lt x j l e lt = (Each1-get_or (Fits w32) x j 0 (omega arith) e).fits
