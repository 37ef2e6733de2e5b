-- Where the siblings stand on the way from a leaf to the root.
use Rattle.std.proofs.Common.{◌≡◌, ℕ, ◌+◌, ◌-◌, ◌*◌, ◌/◌, ◌^◌, ◌<◌, ◌≤◌, ◌∙◌, ap, arith, pow_pos, pow-add}
use Rattle.std.proofs.lemmas.Bool.Decides.{nat_tests}
use Rattle.std.proofs.Math.Nat.{div-lt_iff_lt-mul, le-div_iff_mul-le, mul-le-mul_left, mul-le-mul_right}
use Rattle.dv_lms.specs.Tree.{sibling}

-- a sibling has the same parent
sibling_near : (r : ℕ) → (2 * (r / 2) ≤ sibling r) × (sibling r ≤ 2 * (r / 2) + 1)
sibling_near r = (grind (arith, nat_tests), grind (arith, nat_tests))

-- node r and its sibling stand d levels above the leaves of a tree with n leaves
pub record IsOnPath (n d r : ℕ) : Type 0 where
  pub some : 1 ≤ r
  pub within : r < 2 * n
  pub first : n ≤ sibling r * 2 ^ d
  pub last : (sibling r + 1) * 2 ^ d ≤ 2 * n

-- the ancestor of a leaf, below the root
pub ancestor_on_path : (h q d : ℕ) → q < 2 ^ h → d < h → IsOnPath (2 ^ h) d ((2 ^ h + q) / 2 ^ d)
ancestor_on_path h q d small lt =
    let m : ℕ = 2 ^ (h - d - 1) in
    let r : ℕ = (2 ^ h + q) / 2 ^ d in
    let some : 0 < 2 ^ d = pow_pos d in
    let e : h ≡ 1 + (h - d - 1) + d = omega arith in
    let whole : 2 ^ h ≡ 2 * m * 2 ^ d =
    ap (λ (k : ℕ). 2 ^ k) e ∙ pow-add 2 (1 + (h - d - 1)) d ∙ ap (λ (k : ℕ). k * 2 ^ d) (pow-add 2 1 (h - d - 1)) in
    let low : 2 * m ≤ r = (le-div_iff_mul-le some).1 (omega arith) in
    let high : r < 4 * m = (div-lt_iff_lt-mul some).1 (omega arith) in
    let near = sibling_near r in
    let more : 0 < m = pow_pos (h - d - 1) in
    let from : 2 * m ≤ sibling r = omega arith in
    let to : sibling r + 1 ≤ 4 * m = omega arith in
    let up : 4 * m ≤ 2 * 2 ^ h = omega (arith, mul-le-mul_left (2 * m) some) in
    record {
      some = omega arith;
      within = omega arith;
      first = omega (arith, mul-le-mul_right (2 ^ d) from);
      last = omega (arith, mul-le-mul_right (2 ^ d) to);
    }

-- the way from a leaf ends at node 1
pub top_number : (n q : ℕ) → q < n → (n + q) / n ≡ 1
top_number n q small =
    let some : 0 < n = omega arith in
    let low : 1 ≤ (n + q) / n = (le-div_iff_mul-le some).1 (omega arith) in
    let high : (n + q) / n < 2 = (div-lt_iff_lt-mul some).1 (omega arith) in
    omega arith
