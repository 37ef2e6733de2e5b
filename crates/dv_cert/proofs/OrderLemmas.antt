-- Inserting into a list in order, and joining lists.
use Rattle.std.proofs.Common.{◌≡◌, ◌∙◌, ◌<◌, ◌+◌, ℕ, suc, Bool, true, false, Bor, List, [], ◌∷◌, ◌++◌, length, get_or, take, drop, ap, sym, refl, add-one, append_assoc, arith}
use Rattle.std.proofs.Math.Seq.{drop-cons}
use Rattle.std.proofs.lemmas.List.{append-nil, drop-map, get_or-map, length-map, map-append, take-map, take_more}
use Rattle.std.proofs.lemmas.List.Folds.{concat-append}
use Rattle.std.specs.List.{concat, insert}
use Rattle.std.specs.declared.alloc.Global.{Global}
use Rattle.std.specs.declared.vec.Vec.{Vec}
use Rattle.dv_schema.specs.Octets.{is_less}
use Rattle.dv_asn1.specs.Lists.{lists_of}
use Rattle.dv_cert.specs.Sealed.{ascending, inserted, inserted_all}
use Rattle.dv_cert.specs.Slices.{octets_of}

-- the insertion goes on behind octets that are less
goes_on : (x y : List ℕ) (ys : List (List ℕ)) → is_less y x ≡ true → inserted x (y ∷ ys) ≡ y ∷ inserted x ys
goes_on x y ys e = rw e refl

-- and stops at others
stops : (x y : List ℕ) (ys : List (List ℕ)) → is_less y x ≡ false → inserted x (y ∷ ys) ≡ x ∷ y ∷ ys
stops x y ys e = rw e refl

-- one step of the search for the place
pub passed : (x : List ℕ) (zs : List (List ℕ)) (i : ℕ) → i < length zs → is_less (get_or zs i []) x ≡ true
    → inserted x zs ≡ take i zs ++ inserted x (drop i zs) → inserted x zs ≡ take (i + 1) zs ++ inserted x (drop (i + 1) zs)
passed x zs i lt less is =
    let y : List ℕ = get_or zs i [] in
    let rest : List (List ℕ) = drop (suc i) zs in
    let d : drop i zs ≡ y ∷ rest = drop-cons zs i [] lt in
    let t : take (i + 1) zs ≡ take i zs ++ y ∷ [] = take_more zs i [] lt in
    is
    ∙ ap (λ (l : List (List ℕ)). take i zs ++ inserted x l) d
    ∙ ap (λ (l : List (List ℕ)). take i zs ++ l) (goes_on x y rest less)
    ∙ sym (append_assoc (take i zs) (y ∷ []) (inserted x rest))
    ∙ ap (λ (l : List (List ℕ)). l ++ inserted x rest) (sym t)
    ∙ ap (λ (k : ℕ). take (i + 1) zs ++ inserted x (drop k zs)) (sym (add-one i))

-- the place is found
pub found : (x : List ℕ) (zs : List (List ℕ)) (i : ℕ) → i < length zs → is_less (get_or zs i []) x ≡ false
    → inserted x zs ≡ take i zs ++ inserted x (drop i zs) → insert zs i x ≡ inserted x zs
found x zs i lt less is =
    let y : List ℕ = get_or zs i [] in
    let rest : List (List ℕ) = drop (suc i) zs in
    let d : drop i zs ≡ y ∷ rest = drop-cons zs i [] lt in
    sym (is
    ∙ ap (λ (l : List (List ℕ)). take i zs ++ inserted x l) d
    ∙ ap (λ (l : List (List ℕ)). take i zs ++ l) (stops x y rest less)
    ∙ ap (λ (l : List (List ℕ)). take i zs ++ x ∷ l) (sym d))

-- the octets of slices, one inserted
pub octets_of-insert : (xs : List (Bor (List ℕ))) (i : ℕ) (b : Bor (List ℕ)) → octets_of (insert xs i b) ≡ insert (octets_of xs) i b.now
octets_of-insert xs i b =
    map-append (λ (s : Bor (List ℕ)). s.now) (take i xs) (b ∷ drop i xs)
    ∙ ap (λ (l : List (List ℕ)). l ++ b.now ∷ octets_of (drop i xs)) (sym (take-map (λ (s : Bor (List ℕ)). s.now) i xs))
    ∙ ap (λ (l : List (List ℕ)). take i (octets_of xs) ++ b.now ∷ l) (sym (drop-map (λ (s : Bor (List ℕ)). s.now) i xs))

-- one more certificate stands in order
pub one_more : (s new zs : List (List ℕ)) (i : ℕ) (z : List ℕ) → i < length zs → get_or zs i [] ≡ z → new ≡ inserted z s
    → inserted_all s (drop i zs) ≡ ascending zs → inserted_all new (drop (i + 1) zs) ≡ ascending zs
one_more s new zs i z lt e is all =
    let d : drop i zs ≡ z ∷ drop (suc i) zs = drop-cons zs i [] lt ∙ ap (λ (y : List ℕ). y ∷ drop (suc i) zs) e in
    ap (λ (k : ℕ). inserted_all new (drop k zs)) (add-one i)
    ∙ ap (λ (n : List (List ℕ)). inserted_all n (drop (suc i) zs)) is
    ∙ sym (ap (inserted_all s) d)
    ∙ all

-- one more part is joined
pub joined_more : (zs : List (List ℕ)) (i : ℕ) (z octets : List ℕ) → i < length zs → get_or zs i [] ≡ z → octets ≡ concat (take i zs)
    → octets ++ z ≡ concat (take (i + 1) zs)
joined_more zs i z octets lt e is =
    let t : take (i + 1) zs ≡ take i zs ++ z ∷ [] = take_more zs i [] lt ∙ ap (λ (y : List ℕ). take i zs ++ y ∷ []) e in
    ap (λ (o : List ℕ). o ++ z) is
    ∙ ap (λ (o : List ℕ). concat (take i zs) ++ o) (sym (append-nil z))
    ∙ sym (concat-append (take i zs) (z ∷ []))
    ∙ sym (ap concat t)

-- ---- the same at slices and vectors

-- an item's octets
at_slice : (s : List (Bor (List ℕ))) (i : ℕ) (d : Bor (List ℕ)) → i < length s → get_or (octets_of s) i [] ≡ (get_or s i d).now
at_slice s i d lt = get_or-map (λ (b : Bor (List ℕ)). b.now) s i d [] lt

slices_long : (s : List (Bor (List ℕ))) (i : ℕ) → i < length s → i < length (octets_of s)
slices_long s i lt = omega (arith, length-map s (λ (b : Bor (List ℕ)). b.now))

pub passed_at : (x : List ℕ) (s : List (Bor (List ℕ))) (i : ℕ) (d : Bor (List ℕ)) (b : Bool) → i < length s → b ≡ is_less (get_or s i d).now x → b ≡ true
    → inserted x (octets_of s) ≡ take i (octets_of s) ++ inserted x (drop i (octets_of s)) → inserted x (octets_of s) ≡ take (i + 1) (octets_of s) ++ inserted x (drop (i + 1) (octets_of s))
passed_at x s i d b lt is less = passed x (octets_of s) i (slices_long s i lt) (ap (λ (y : List ℕ). is_less y x) (at_slice s i d lt) ∙ sym is ∙ less)

pub found_at : (x : List ℕ) (s : List (Bor (List ℕ))) (i : ℕ) (d : Bor (List ℕ)) (b : Bool) → i < length s → b ≡ is_less (get_or s i d).now x → b ≡ false
    → inserted x (octets_of s) ≡ take i (octets_of s) ++ inserted x (drop i (octets_of s)) → insert (octets_of s) i x ≡ inserted x (octets_of s)
found_at x s i d b lt is less = found x (octets_of s) i (slices_long s i lt) (ap (λ (y : List ℕ). is_less y x) (at_slice s i d lt) ∙ sym is ∙ less)

pub joined_at : (s : List (Bor (List ℕ))) (i : ℕ) (d : Bor (List ℕ)) (old new : List ℕ) → i < length s → new ≡ old ++ (get_or s i d).now
    → old ≡ concat (take i (octets_of s)) → new ≡ concat (take (i + 1) (octets_of s))
joined_at s i d old new lt is old_is = is ∙ joined_more (octets_of s) i (get_or s i d).now old (slices_long s i lt) (at_slice s i d lt) old_is

-- one more certificate, which stands in a vector
pub one_more_at : (s new : List (Bor (List ℕ))) (vs : List (Vec ℕ Global)) (i place : ℕ) (v : Vec ℕ Global) (b : Bor (List ℕ)) → i < length vs → v ≡ get_or vs i v → b.now ≡ v.items
    → new ≡ insert s place b → insert (octets_of s) place b.now ≡ inserted b.now (octets_of s)
    → inserted_all (octets_of s) (drop i (lists_of vs)) ≡ ascending (lists_of vs) → inserted_all (octets_of new) (drop (i + 1) (lists_of vs)) ≡ ascending (lists_of vs)
one_more_at s new vs i place v b lt item octets is order =
    let items : Vec ℕ Global → List ℕ = λ w. w.items in
    let e : get_or (lists_of vs) i [] ≡ b.now = get_or-map items vs i v [] lt ∙ ap items (sym item) ∙ sym octets in
    one_more (octets_of s) (octets_of new) (lists_of vs) i b.now (omega (arith, length-map vs items)) e (ap octets_of is ∙ octets_of-insert s place b ∙ order)

-- the octets of a certificate in a vector
pub certificate_is : (vs : List (Vec ℕ Global)) (i : ℕ) (v : Vec ℕ Global) (octets : List ℕ) → i < length vs → v ≡ get_or vs i v → octets ≡ v.items
    → get_or (lists_of vs) i [] ≡ octets
certificate_is vs i v octets lt item is =
    let items : Vec ℕ Global → List ℕ = λ w. w.items in
    get_or-map items vs i v [] lt ∙ ap items (sym item) ∙ sym is

-- there are as many lists as vectors
pub lists_long : (vs : List (Vec ℕ Global)) (i : ℕ) → i < length vs → i < length (lists_of vs)
lists_long vs i lt = omega (arith, length-map vs (λ (w : Vec ℕ Global). w.items))
