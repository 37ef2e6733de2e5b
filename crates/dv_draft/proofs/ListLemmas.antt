-- Vectors of octets, one behind another.
use Rattle.std.proofs.Common.{◌≡◌, ◌<◌, ◌≤◌, ◌+◌, ◌++◌, ◌∷◌, ◌∙◌, append_assoc, ℕ, zero, suc, List, [], length, take, get_or, refl, sym, ap, arith}
use Rattle.std.specs.Prelude.{sum_by}
use Rattle.std.specs.List.{concat}
use Rattle.std.specs.declared.alloc.Global.{Global}
use Rattle.std.specs.declared.vec.Vec.{Vec}
use Rattle.std.proofs.lemmas.List.{append-nil, length-append}
use Rattle.std.proofs.lemmas.List.Sums.{sum_by-cons, sum_by-take-le, sum_by_more}
use Rattle.dv_schema.specs.Tlv.{tlv}
use Rattle.dv_schema.specs.Schema.{ValueOf, spelling}
use Rattle.dv_asn1.specs.Lists.{lists_of}
use Rattle.dv_draft.specs.Records.{record_of}
use Rattle.dv_draft.specs.Types.{draft}

-- how many octets a vector has
abbrev pub size : Vec ℕ Global → ℕ
size v = length v.items

-- they have as many octets as all together
pub length-lists : (vs : List (Vec ℕ Global)) → length (concat (lists_of vs)) ≡ sum_by size vs
length-lists [] = refl
length-lists (v ∷ vs) = omega (arith, length-append v.items (concat (lists_of vs)), length-lists vs, sum_by-cons size v vs)

-- there is room for the next one
pub next_room : (vs : List (Vec ℕ Global)) (i : ℕ) (v : Vec ℕ Global) → i < length vs → v ≡ get_or vs i v → length (concat (lists_of (take i vs))) + length v.items ≤ length (concat (lists_of vs))
next_room vs i v lt is =
    let a = length-lists (take i vs) in
    let b = length-lists vs in
    let d = sum_by_more size vs i v lt in
    let e = sum_by-take-le size vs (i + 1) in
    let same : size (get_or vs i v) ≡ size v = ap size (sym is) in
    omega (arith, a, b, d, e, same)

-- one more of them
pub lists_more : (vs : List (Vec ℕ Global)) (i : ℕ) (v : Vec ℕ Global) → i < length vs → v ≡ get_or vs i v → concat (lists_of (take (suc i) vs)) ≡ concat (lists_of (take i vs)) ++ v.items
lists_more [] i v lt is = absurd (omega arith)
lists_more (x ∷ xs) zero v lt is = append-nil x.items ∙ ap (λ (w : Vec ℕ Global). w.items) (sym is)
lists_more (x ∷ xs) (suc i) v lt is =
    ap (λ (l : List ℕ). x.items ++ l) (lists_more xs i v (omega arith) is) ∙ sym (append_assoc x.items (concat (lists_of (take i xs))) v.items)

-- the contents of a record
pub record_is : (certificates : List (List ℕ)) (d : ValueOf draft) → record_of certificates d ≡ tlv 48 (concat certificates) ++ spelling draft d
unfolding record_of
record_is certificates d = refl
