-- How large the numbers of a few octets are, and the end of a comparison of two lists.
use Rattle.std.proofs.Common.{◌≡◌, ℕ, ◌+◌, ◌*◌, ◌<◌, ◌≤◌, ◌^◌, arith, zero, suc, List, [], ◌∷◌, length, get_or, ◌⊎◌, inl, inr, ◌≢◌, true, not, ◌&&◌, ltb, leb, ap, ◌∙◌, refl, ◌-◌, sym, drop}
use Rattle.std.proofs.lemmas.Bool.{ltb-false, ltb-true, leb-true, lt-ltb, le-ltb, cases_Bool}
use Rattle.std.proofs.lemmas.List.{length-drop}
use Rattle.dv_schema.specs.Octets.{is_less}
use Rattle.dv_schema.specs.Rules.{is_integer, is_number}
use Rattle.std.proofs.lemmas.Bool.{and_parts}
use Rattle.std.proofs.lemmas.Bool.{not-true}
use Rattle.std.specs.Int.Digits.{number_from_digits, number_from_digits_after}
use Rattle.std.proofs.Math.Nat.{pow-le-pow_right}
use Rattle.std.proofs.lemmas.Grind.{pow_more}

-- fewer than eight octets make a number that can be multiplied by 256 once more
pub small : (i n : ℕ) → i < 8 → n < 256 ^ i → n < 72057594037927936
small i n lt h =
    let le : i ≤ 7 = omega arith in
    let pos : 0 < 256 = omega arith in
    let p : 256 ^ i ≤ 256 ^ 7 = pow-le-pow_right {n = 256} pos {i = i} {j = 7} le in
    omega (arith, p)

-- one octet more makes a number below one power more
pub grows : (i n d : ℕ) → n < 256 ^ i → d < 256 → n * 256 + d < 256 ^ (i + 1)
grows i n d h k =
    let p : 256 ^ (i + 1) ≡ 256 ^ i * 256 = pow_more 256 i in
    omega (arith, p)

-- a number of digits is at least what stands before them, in its place
at_least : (n : ℕ) (ds : List ℕ) → n * 256 ^ length ds ≤ number_from_digits_after 256 n ds
at_least n [] = omega arith
at_least n (d ∷ ds) =
    let p : 256 ^ (length ds + 1) ≡ 256 ^ length ds * 256 = pow_more 256 (length ds) in
    let s : suc (length ds) ≡ length ds + 1 = omega arith in
    let q : 256 ^ suc (length ds) ≡ 256 ^ length ds * 256 = ap (λ (k : ℕ). 256 ^ k) s ∙ p in
    let ih = at_least (n * 256 + d) ds in
    let r : n * (256 ^ length ds * 256) ≤ (n * 256 + d) * 256 ^ length ds = omega arith in
    let t : n * 256 ^ suc (length ds) ≡ n * (256 ^ length ds * 256) = ap (λ (k : ℕ). n * k) q in
    omega (arith, t, r, ih)

-- nine octets or more, the first not 0, make 2^64 or more
long_big : (d : ℕ) (ds : List ℕ) → 0 < d → 8 ≤ length ds → 18446744073709551616 ≤ number_from_digits 256 (d ∷ ds)
long_big d ds pos le =
    let a = at_least (0 * 256 + d) ds in
    let one : 0 < 256 = omega arith in
    let b : 256 ^ 8 ≤ 256 ^ length ds = pow-le-pow_right {n = 256} one {i = 8} {j = length ds} le in
    let c : 256 ^ length ds ≤ d * 256 ^ length ds = grow d (256 ^ length ds) pos in
    omega (arith, a, b, c)
  where
    grow : (d k : ℕ) → 0 < d → k ≤ d * k
    grow zero k pos = absurd (omega arith)
    grow (suc d) k pos = omega arith

-- an INTEGER with more than eight octets, a zero octet in front not counted, is no number of 64 bits
pub too_long : (contents : List ℕ) (most : ℕ) → most < 18446744073709551616 → is_integer contents ≡ true
    → (((get_or contents 0 0 ≡ 0) × (8 < length contents - 1)) ⊎ ((get_or contents 0 0 ≢ 0) × (8 < length contents))) → is_number (λ n. leb n most) contents ≡ true → ⊥
too_long [] most small int (inl h) e = omega arith
too_long [] most small int (inr h) e = omega arith
too_long (zero ∷ []) most small int (inl h) e = omega arith
too_long (suc b ∷ cs) most small int (inl h) e = absurd (omega arith)
too_long (zero ∷ cs) most small int (inr h) e = absurd (h.0 refl)
too_long (zero ∷ d ∷ cs) most small int (inl h) e =
    let p = and_parts (not (ltb d 128)) _ int in
    let le : 128 ≤ d = ltb-false _ _ (not-true _ p.0) in
    let big = long_big d cs (omega arith) (omega arith) in
    let q = and_parts (is_integer (0 ∷ d ∷ cs) && ltb 0 128) (leb (number_from_digits 256 (0 ∷ d ∷ cs)) most) e in
    let upto : number_from_digits 256 (d ∷ cs) ≤ most = leb-true _ _ q.1 in
    omega (arith, big, upto)
too_long (suc b ∷ cs) most small int (inr h) e =
    let big = long_big (suc b) cs (omega arith) (omega arith) in
    let q = and_parts (is_integer (suc b ∷ cs) && ltb (suc b) 128) (leb (number_from_digits 256 (suc b ∷ cs)) most) e in
    let upto : number_from_digits 256 (suc b ∷ cs) ≤ most = leb-true _ _ q.1 in
    omega (arith, big, upto)

-- where one list has ended, the shorter one is less
less_ends : (l r : List ℕ) → (length l ≡ 0) ⊎ (length r ≡ 0) → is_less l r ≡ ltb (length l) (length r)
less_ends [] [] e = refl
less_ends [] (y ∷ ys) e = sym (lt-ltb _ _ (omega arith))
less_ends (x ∷ xs) [] e = sym (le-ltb _ _ (omega arith))
less_ends (x ∷ xs) (y ∷ ys) (inl e) = absurd (omega arith)
less_ends (x ∷ xs) (y ∷ ys) (inr e) = absurd (omega arith)

-- a comparison less the same on both sides
ltb_minus : (i a b : ℕ) → i ≤ a → i ≤ b → ltb (a - i) (b - i) ≡ ltb a b
ltb_minus i a b p q =
    elim (cases_Bool (ltb a b)) [
      | inl t ↦ let lt : a < b = ltb-true _ _ t in lt-ltb _ _ (omega arith) ∙ sym t
      | inr f ↦ let le : b ≤ a = ltb-false _ _ f in le-ltb _ _ (omega arith) ∙ sym f
    ]

-- where two lists were the same up to the end of one, the shorter one is less
pub less_end : (i : ℕ) (l r : List ℕ) → i ≤ length l → i ≤ length r → (length l ≡ i) ⊎ (length r ≡ i) → is_less (drop i l) (drop i r) ≡ ltb (length l) (length r)
less_end i l r p q e =
    let a = length-drop i l in
    let b = length-drop i r in
    let none : (length (drop i l) ≡ 0) ⊎ (length (drop i r) ≡ 0) = elim e [ inl k ↦ inl (omega arith) | inr k ↦ inr (omega arith) ] in
    less_ends (drop i l) (drop i r) none ∙ ap (λ (n : ℕ). ltb n (length (drop i r))) a ∙ ap (λ (n : ℕ). ltb (length l - i) n) b ∙ ltb_minus i (length l) (length r) p q
