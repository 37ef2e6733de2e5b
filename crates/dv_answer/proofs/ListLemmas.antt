-- Lists of octets that the code keeps.
use Rattle.std.proofs.Common.{◌≡◌, ℕ, suc, zero, ◌<◌, List, [], ◌∷◌, length, drop, get_or, Vec, sym, ap, arith}
use Rattle.std.specs.declared.alloc.Global.{Global}
use Rattle.dv_asn1.specs.Lists.{lists_of}

-- what stands from an index on begins with the item there
pub drop_item : (xs : List (Vec ℕ Global)) (i : ℕ) (x : Vec ℕ Global) → i < length xs → x ≡ get_or xs i x → drop i (lists_of xs) ≡ x.items ∷ drop (suc i) (lists_of xs)
drop_item [] i x lt is = absurd (omega arith)
drop_item (y ∷ xs) zero x lt is = ap (λ (v : Vec ℕ Global). v.items ∷ lists_of xs) (sym is)
drop_item (y ∷ xs) (suc i) x lt is = drop_item xs i x (omega arith) is
