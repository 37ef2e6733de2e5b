-- The rows of the policies that are demanded.
use Rattle.std.proofs.Common.{◌≡◌, ◌∙◌, ◌<◌, ◌+◌, ◌++◌, ◌&&◌, ◌||◌, ℕ, suc, Bool, true, false, cond, List, [], ◌∷◌, drop, take, length, get_or, refl, sym, ap, add-one, arith}
use Rattle.std.specs.Prelude.{replicate, All, Err, IfOk, Ok, Result, None, Option, Some, map, slice_get, vec_len}
use Rattle.std.specs.Borrow.{Bor}
use Rattle.std.specs.declared.alloc.AllocError.{AllocError}
use Rattle.std.specs.declared.alloc.Global.{Global}
use Rattle.std.specs.declared.vec.Vec.{Vec}
use Rattle.std.proofs.Math.Seq.{drop-cons, take-suc}
use Rattle.std.proofs.lemmas.List.{get_or-map, length-map, length-replicate, map-append}
use Rattle.std.proofs.lemmas.List.FromFn.{length-map-range_with_len}
use Rattle.std.proofs.lemmas.Option.{get_or_from_slice_get, slice_get_within}
use Rattle.dv_names.specs.declared.identifiers.TheConstants.{ANY_POLICY}
use Rattle.dv_schema.specs.Octets.{is_one_of, same_octets}
use Rattle.dv_schema.specs.Schema.{FieldsOf}
use Rattle.dv_x509.specs.Types.{certificate_fields}
use Rattle.dv_path.specs.Demands.{Demand, is_explicit}
use Rattle.dv_path.specs.Rows.{columns_in, is_marked, octets_of, positions_of, row_of_all, rows_in, rows_of}

-- ---- one by one

-- one more element of what was gone over
pub take_more : {A : Type 0} (xs : List A) (n : ℕ) (x : A) → slice_get xs n ≡ Some x → take (n + 1) xs ≡ take n xs ++ x ∷ []
take_more {A} xs n x got =
    ap (λ (k : ℕ). take k xs) (add-one n) ∙ take-suc xs n x (slice_get_within xs n x got) ∙ ap (λ (y : A). take n xs ++ y ∷ []) (get_or_from_slice_get xs n x x got)

-- mapped
pub map_more : {A B : Type 0} (f : A → B) (xs : List A) (n : ℕ) (x : A) → slice_get xs n ≡ Some x → map f (take (n + 1) xs) ≡ map f (take n xs) ++ f x ∷ []
map_more f xs n x got = ap (map f) (take_more xs n x got) ∙ map-append f (take n xs) (x ∷ [])

-- whether anyPolicy is named from a place on
pub named_from : (policies : List (Bor (List ℕ))) (n : ℕ) (policy : Bor (List ℕ)) → slice_get policies n ≡ Some policy
    → is_one_of (octets_of (drop n policies)) ANY_POLICY ≡ (same_octets ANY_POLICY policy.now || is_one_of (octets_of (drop (n + 1) policies)) ANY_POLICY)
named_from policies n policy got =
    let D : List (Bor (List ℕ)) → Bool = λ ps. is_one_of (octets_of ps) ANY_POLICY in
    ap D (drop-cons policies n policy (slice_get_within policies n policy got))
    ∙ ap (λ (p : Bor (List ℕ)). same_octets ANY_POLICY p.now || D (drop (suc n) policies)) (get_or_from_slice_get policies n policy policy got)
    ∙ ap (λ (k : ℕ). same_octets ANY_POLICY policy.now || D (drop k policies)) (sym (add-one n))

-- ---- columns and rows

-- where nothing is marked, nothing is asserted
none_marked : (policies : List (List ℕ)) (test : List ℕ → Bool) → replicate (length policies) false ≡ map (λ policy. false && test policy) policies
none_marked [] test = refl
none_marked (p ∷ ps) test = ap (λ (bs : List Bool). false ∷ bs) (none_marked ps test)

pub unmarked : (r : Result (Vec Bool Global) AllocError) (mark : Bool) (policies : List (List ℕ)) (test : List ℕ → Bool) (n : ℕ) → mark ≡ false → n ≡ length policies → IfOk r (λ v. v.items ≡ replicate n false)
    → IfOk r (λ v. v.items ≡ map (λ policy. mark && test policy) policies)
unmarked (Ok v) mark policies test n no_mark same e =
    e ∙ ap (λ (k : ℕ). replicate k false) same ∙ none_marked policies test ∙ ap (λ (m : Bool). map (λ policy. m && test policy) policies) (sym no_mark)
unmarked (Err e) mark policies test n no_mark same h = tt

-- the columns of a test of policies and positions, and its rows
abbrev columns_by : (List ℕ → ℕ → Bool) → List (List ℕ) → List ℕ → List (List Bool)
columns_by test policies positions = map (λ position. map (λ policy. test policy position) policies) positions

-- the members of columns at one place
entries : (test : List ℕ → ℕ → Bool) (policies : List (List ℕ)) (positions : List ℕ) (place : ℕ) → place < length policies
    → map (λ column. get_or column place false) (columns_by test policies positions) ≡ map (test (get_or policies place [])) positions
entries test policies [] place lt = refl
entries test policies (x ∷ xs) place lt =
    let first : get_or (map (λ policy. test policy x) policies) place false ≡ test (get_or policies place []) x = get_or-map (λ policy. test policy x) policies place [] false lt in
    let rest = entries test policies xs place lt in
    ap (λ (b : Bool). b ∷ map (λ column. get_or column place false) (columns_by test policies xs)) first ∙ ap (λ (bs : List Bool). test (get_or policies place []) x ∷ bs) rest

-- of vectors
items_at : (columns : List (Vec Bool Global)) (place : ℕ) → map (λ column. get_or column.items place false) columns ≡ map (λ column. get_or column place false) (map (λ column. column.items) columns)
items_at [] place = refl
items_at (c ∷ cs) place = ap (λ (bs : List Bool). get_or c.items place false ∷ bs) (items_at cs place)

-- the row of a policy
pub row_is : (marks : List Bool) (inhibit_any : Bool) (policies : List (List ℕ)) (bag : List (FieldsOf certificate_fields)) (columns : List (Vec Bool Global)) (place : ℕ) → map (λ column. column.items) columns ≡ columns_in marks inhibit_any policies bag → place < length policies
    → map (λ column. get_or column.items place false) columns ≡ map (is_marked marks inhibit_any bag (get_or policies place [])) (positions_of bag)
row_is marks inhibit_any policies bag columns place e lt =
    items_at columns place ∙ ap (map (λ column. get_or column place false)) e ∙ entries (is_marked marks inhibit_any bag) policies (positions_of bag) place lt

-- each column has as many members as there are policies
column_length : (test : List ℕ → ℕ → Bool) (policies : List (List ℕ)) (positions : List ℕ) (k : ℕ) (d : List Bool) → k < length (columns_by test policies positions) → length (get_or (columns_by test policies positions) k d) ≡ length policies
column_length test policies positions k d lt =
    let f : ℕ → List Bool = λ position. map (λ policy. test policy position) policies in
    let within : k < length positions = omega (arith, lt, length-map positions f) in
    ap length (get_or-map f positions k 0 d within) ∙ length-map policies (λ policy. test policy (get_or positions k 0))

-- of vectors
pub column_lengths : (marks : List Bool) (inhibit_any : Bool) (policies : List (List ℕ)) (bag : List (FieldsOf certificate_fields)) (columns : List (Vec Bool Global)) (place : ℕ) → map (λ column. column.items) columns ≡ columns_in marks inhibit_any policies bag → place < length policies
    → All (λ column. place < vec_len column) columns
column_lengths marks inhibit_any policies bag columns place e lt k d within =
    let lists : List (List Bool) = map (λ column. column.items) columns in
    let same : get_or lists k d.items ≡ (get_or columns k d).items = get_or-map (λ column. column.items) columns k d d.items within in
    let inside : k < length (columns_in marks inhibit_any policies bag) = omega (arith, within, length-map columns (λ column. column.items), ap length e) in
    let long : length (get_or lists k d.items) ≡ length policies = ap (λ (cs : List (List Bool)). length (get_or cs k d.items)) e ∙ column_length (is_marked marks inhibit_any bag) policies (positions_of bag) k d.items inside in
    omega (arith, (get_or columns k d).ok.0, ap length same, long, lt)

-- each row has as many members as there are certificates
row_length : (marks : List Bool) (inhibit_any : Bool) (policies : List (List ℕ)) (bag : List (FieldsOf certificate_fields)) (k : ℕ) (d : List Bool) → k < length (rows_in marks inhibit_any policies bag)
    → length (get_or (rows_in marks inhibit_any policies bag) k d) ≡ length bag
row_length marks inhibit_any policies bag k d lt =
    let f : List ℕ → List Bool = λ policy. map (is_marked marks inhibit_any bag policy) (positions_of bag) in
    let within : k < length policies = omega (arith, lt, length-map policies f) in
    ap length (get_or-map f policies k [] d within) ∙ length-map-range_with_len (is_marked marks inhibit_any bag (get_or policies k [])) 0 (length bag)

all_length : (bag : List (FieldsOf certificate_fields)) (k : ℕ) (d : List Bool) → k < length (row_of_all bag) → length (get_or (row_of_all bag) k d) ≡ length bag
all_length bag k d lt =
    let first : k ≡ 0 = omega arith in
    ap (λ (i : ℕ). length (get_or (row_of_all bag) i d)) first ∙ length-replicate (length bag) true

chosen_length : (marks : List Bool) (t : Bool) (d : Demand) (bag : List (FieldsOf certificate_fields)) (k : ℕ) (e : List Bool) → k < length (cond t (rows_in marks d.inhibit_any d.policies bag) (row_of_all bag))
    → length (get_or (cond t (rows_in marks d.inhibit_any d.policies bag) (row_of_all bag)) k e) ≡ length bag
chosen_length marks true d bag k e lt = row_length marks d.inhibit_any d.policies bag k e lt
chosen_length marks false d bag k e lt = all_length bag k e lt

rows_length : (marks : List Bool) (d : Option Demand) (bag : List (FieldsOf certificate_fields)) (k : ℕ) (e : List Bool) → k < length (rows_of marks d bag) → length (get_or (rows_of marks d bag) k e) ≡ length bag
rows_length marks None bag k e lt = all_length bag k e lt
rows_length marks (Some d) bag k e lt = chosen_length marks (is_explicit d) d bag k e lt

-- of vectors
lengths_of : (lists : List (List Bool)) (rows : List (Vec Bool Global)) (size : ℕ) → map (λ row. row.items) rows ≡ lists → ((k : ℕ) (e : List Bool) → k < length lists → length (get_or lists k e) ≡ size) → All (λ row. vec_len row ≡ size) rows
lengths_of lists rows size e long k x within =
    let same : get_or (map (λ (row : Vec Bool Global). row.items) rows) k x.items ≡ (get_or rows k x).items = get_or-map (λ row. row.items) rows k x x.items within in
    let inside : k < length lists = omega (arith, within, length-map rows (λ row. row.items), ap length e) in
    let n : length (get_or (map (λ (row : Vec Bool Global). row.items) rows) k x.items) ≡ size = ap (λ (rs : List (List Bool)). length (get_or rs k x.items)) e ∙ long k x.items inside in
    omega (arith, (get_or rows k x).ok.0, ap length same, n)

pub row_lengths : (marks : List Bool) (d : Option Demand) (bag : List (FieldsOf certificate_fields)) (rows : List (Vec Bool Global)) (size : ℕ) → map (λ row. row.items) rows ≡ rows_of marks d bag → size ≡ length bag → All (λ row. vec_len row ≡ size) rows
row_lengths marks d bag rows size e n = lengths_of (rows_of marks d bag) rows size e (λ k x lt. rows_length marks d bag k x lt ∙ sym n)

-- the row of all, of so many
pub one_row_length : (size : ℕ) (rows : List (Vec Bool Global)) → map (λ row. row.items) rows ≡ replicate size true ∷ [] → All (λ row. vec_len row ≡ size) rows
one_row_length size rows e =
    lengths_of (replicate size true ∷ []) rows size e (λ k x lt. (let first : k ≡ 0 = omega arith in ap (λ (i : ℕ). length (get_or (replicate size true ∷ []) i x)) first ∙ length-replicate size true))
