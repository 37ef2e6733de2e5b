-- What the members of a list spell, one behind another.
use Rattle.std.proofs.Common.{◌≡◌, ◌≤◌, ◌<◌, ◌+◌, ◌++◌, ◌∷◌, ◌∙◌, append_assoc, ℕ, zero, suc, List, [], length, take, get_or, map, refl, sym, ap, arith}
use Rattle.std.specs.Prelude.{sum_by}
use Rattle.std.specs.List.{flat_map}
use Rattle.std.proofs.lemmas.List.{append-nil, length-append}
use Rattle.std.proofs.lemmas.List.Sums.{sum_by-cons, sum_by-take-le, sum_by_more}

-- how many octets that are
pub length-flat : {X : Type 0} (spell : X → List ℕ) (xs : List X) → length (flat_map spell xs) ≡ sum_by (λ x. length (spell x)) xs
length-flat spell [] = refl
length-flat spell (x ∷ xs) = omega (arith, length-append (spell x) (flat_map spell xs), length-flat spell xs, sum_by-cons (λ y. length (spell y)) x xs)

-- there is room for the next member
pub flat_room : {X : Type 0} (spell : X → List ℕ) (xs : List X) (i : ℕ) (x : X) → i < length xs → x ≡ get_or xs i x → length (flat_map spell (take i xs)) + length (spell x) ≤ length (flat_map spell xs)
flat_room {X} spell xs i x lt is =
    let size : X → ℕ = λ y. length (spell y) in
    let a = length-flat spell (take i xs) in
    let b = length-flat spell xs in
    let d = sum_by_more size xs i x lt in
    let e = sum_by-take-le size xs (i + 1) in
    let same : size (get_or xs i x) ≡ size x = ap size (sym is) in
    omega (arith, a, b, d, e, same)

-- one member more
pub flat_more : {X : Type 0} (spell : X → List ℕ) (xs : List X) (i : ℕ) (x : X) → i < length xs → x ≡ get_or xs i x → flat_map spell (take (suc i) xs) ≡ flat_map spell (take i xs) ++ spell x
flat_more spell [] i x lt is = absurd (omega arith)
flat_more spell (y ∷ ys) zero x lt is = append-nil (spell y) ∙ ap spell (sym is)
flat_more spell (y ∷ ys) (suc i) x lt is =
    ap (λ (l : List ℕ). spell y ++ l) (flat_more spell ys i x (omega arith) is) ∙ sym (append_assoc (spell y) (flat_map spell (take i ys)) (spell x))

-- members that are made of others
pub flat-map : {X Y : Type 0} (spell : Y → List ℕ) (make : X → Y) (xs : List X) → flat_map spell (map make xs) ≡ flat_map (λ x. spell (make x)) xs
flat-map spell make [] = refl
flat-map spell make (x ∷ xs) = ap (λ (l : List ℕ). spell (make x) ++ l) (flat-map spell make xs)

-- those of two lists
pub flat-append : {X : Type 0} (spell : X → List ℕ) (xs ys : List X) → flat_map spell (xs ++ ys) ≡ flat_map spell xs ++ flat_map spell ys
flat-append spell [] ys = refl
flat-append spell (x ∷ xs) ys = ap (λ (l : List ℕ). spell x ++ l) (flat-append spell xs ys) ∙ sym (append_assoc (spell x) (flat_map spell xs) (flat_map spell ys))
