-- A row of nodes, written one after another and raised level by level.
use Rattle.std.proofs.Common.{◌≡◌, ℕ, ◌+◌, ◌-◌, ◌*◌, ◌%◌, ◌^◌, ◌<◌, ◌≤◌, ◌∙◌, List, [], length, get_or, set, refl, ap, arith, add-one, lit<, pow-add}
use Rattle.std.proofs.Math.Nat.{mul-le-mul_left, pow-le-pow_right}
use Rattle.std.proofs.lemmas.List.Edits.{fill_by_more}
use Rattle.dv_lms.specs.Identity.{Identity}
use Rattle.dv_lms.specs.Tree.{node, pair_hash}

-- one more node
pub written_more : (f : ℕ → List ℕ) (row : List (List ℕ)) (k : ℕ) (x : List ℕ) → k < length row → ((j : ℕ) → j < k → get_or row j [] ≡ f j)
    → x ≡ f k → (j : ℕ) → j < k + 1 → get_or (set row k x) j [] ≡ f j
written_more f row k x lt held e = rw e (fill_by_more f row k [] lt held)

-- a node over two that stand d levels above the leaves
pub node_above : (key : Identity) (d r : ℕ) (x y : List ℕ) → x ≡ node key d (2 * r) → y ≡ node key d (2 * r + 1) → pair_hash key.id r x y ≡ node key (d + 1) r
unfolding node
node_above key d r x y ex ey = rw (add-one, ex, ey) refl

-- the row of nodes that stand `above` levels below node r, and the row above it
pub record IsRow (r above : ℕ) : Type 0 where
  pub double : 2 ^ above ≡ 2 * 2 ^ (above - 1)
  pub count : 2 * 2 ^ (above - 1) ≤ 32
  pub last : r * 2 ^ (above - 1) + 2 ^ (above - 1) ≤ 64
  pub width : 1 * 2 ^ (above - 1) % 4294967296 ≡ 2 ^ (above - 1)
  pub first : r * 2 ^ (above - 1) % 4294967296 ≡ r * 2 ^ (above - 1)

-- below a node of a tree
pub row_below : (r depth above : ℕ) → 0 < above → above ≤ depth → depth ≤ 5 → (r + 1) * 2 ^ depth ≤ 64 → IsRow r above
row_below r depth above some le small high =
    let twice : 2 ^ above ≡ 2 * 2 ^ (above - 1) =
    let e : above ≡ 1 + (above - 1) = omega arith in
    ap (λ (k : ℕ). 2 ^ k) e ∙ pow-add 2 1 (above - 1) in
    let two : 0 < 2 = lit< tt in
    let below : 2 ^ (above - 1) ≤ 2 ^ depth = pow-le-pow_right two {i = above - 1} {j = depth} (omega arith) in
    let most : 2 ^ above ≤ 2 ^ 5 = pow-le-pow_right two {i = above} {j = 5} (omega arith) in
    let fits = mul-le-mul_left (r + 1) below in
    record { double = twice; count = omega arith; last = omega arith; width = omega arith; first = omega arith }

-- the same row of nodes, counted from 2r' where r' is the first above it
pub row_above : (key : Identity) (row : List (List ℕ)) (d r above : ℕ) → 2 ^ above ≡ 2 * 2 ^ (above - 1)
    → ((k : ℕ) → k < 2 ^ above → get_or row k [] ≡ node key d (r * 2 ^ above + k))
    → (k : ℕ) → k < 2 * 2 ^ (above - 1) → get_or row k [] ≡ node key d (2 * (r * 2 ^ (above - 1)) + k)
row_above key row d r above double held k lt =
    let first : r * 2 ^ above + k ≡ 2 * (r * 2 ^ (above - 1)) + k = rw double (omega arith) in
    held k (omega arith) ∙ ap (node key d) first
