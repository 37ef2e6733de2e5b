-- Certificates as the links of a chain.
use Rattle.std.proofs.Common.{◌≡◌, ◌<◌, ◌≤◌, ◌+◌, ◌++◌, ◌∷◌, ℕ, false, eqb, List, [], length, take, get_or, refl, sym, ap, arith}
use Rattle.std.specs.Prelude.{sum_by}
use Rattle.std.specs.List.{flat_map}
use Rattle.std.specs.declared.alloc.Global.{Global}
use Rattle.std.specs.declared.vec.Vec.{Vec}
use Rattle.std.proofs.lemmas.List.{length-append}
use Rattle.std.proofs.lemmas.List.Sums.{sum_by-cons, sum_by-take-le, sum_by_more}
use Rattle.dv_schema.specs.Tlv.{length_octets}
use Rattle.dv_asn1.specs.Lists.{lists_of}
use Rattle.dv_request.specs.Made.{retagged, spelled_chain}

-- how many octets a vector has
abbrev pub size : Vec ℕ Global → ℕ
size v = length v.items

-- the links of certificates, one after another
abbrev pub links : List (Vec ℕ Global) → List ℕ
links vs = flat_map (retagged 160) (lists_of vs)

-- another tag leaves the length
pub length-retagged : (tag : ℕ) (octets : List ℕ) → length (retagged tag octets) ≡ length octets
length-retagged tag [] = refl
length-retagged tag (t ∷ more) = refl

-- so links have as many octets as their certificates
pub length-links : (vs : List (Vec ℕ Global)) → length (links vs) ≡ sum_by size vs
length-links [] = refl
length-links (v ∷ vs) =
    omega (arith, length-append (retagged 160 v.items) (links vs), length-retagged 160 v.items, length-links vs, sum_by-cons size v vs)

-- there is room for the next link
pub links_room : (vs : List (Vec ℕ Global)) (i : ℕ) (v : Vec ℕ Global) → i < length vs → v ≡ get_or vs i v → length (links (take i vs)) + length (retagged 160 v.items) ≤ length (links vs)
links_room vs i v lt is =
    let a = length-links (take i vs) in
    let b = length-links vs in
    let c = length-retagged 160 v.items in
    let d = sum_by_more size vs i v lt in
    let e = sum_by-take-le size vs (i + 1) in
    let same : size (get_or vs i v) ≡ size v = ap size (sym is) in
    omega (arith, a, b, c, d, e, same)

-- a chain of some certificates is its header and its links
pub chain_is : (vs : List (Vec ℕ Global)) → eqb (length vs) 0 ≡ false → spelled_chain (lists_of vs) ≡ (48 ∷ length_octets (sum_by size vs)) ++ links vs
chain_is [] some = absurd cc
chain_is (v ∷ vs) some = ap (λ (n : ℕ). (48 ∷ length_octets n) ++ links (v ∷ vs)) (length-links (v ∷ vs))

pub length-chain : (vs : List (Vec ℕ Global)) → eqb (length vs) 0 ≡ false → length (spelled_chain (lists_of vs)) ≡ 1 + length (length_octets (sum_by size vs)) + sum_by size vs
length-chain vs some =
    let is = ap length (chain_is vs some) in
    omega (arith, is, length-append (48 ∷ length_octets (sum_by size vs)) (links vs), length-links vs)
