use Rattle.std.proofs.Common.{◌≡◌, ◌<◌, ◌≤◌, ◌∙◌, ◌+◌, ◌++◌, ◌∷◌, [], ℕ, Bool, List, false, length, get_or, sym, ap, subst, take, arith}
use Rattle.std.specs.Prelude.{All, map, vec_len}
use Rattle.std.specs.Borrow.{Bor}
use Rattle.std.specs.declared.alloc.Global.{Global}
use Rattle.std.specs.declared.vec.Vec.{Vec}
use Rattle.std.proofs.lemmas.List.{length-map, map-append, take_all}
use Rattle.std.proofs.lemmas.Option.{slice_get-get_or}
use Rattle.dv_path.specs.Rows.{is_marked, octets_of, positions_of, rows_in}
use Rattle.dv_path.proofs.Demanded.{column_lengths, map_more, row_is}
use Rattle.dv_path.proofs.demand.asserted_rows.Goals as goal

-- as many policies as slices
same_count : (slices : List (Bor (List ℕ))) → length (octets_of slices) ≡ length slices
same_count slices = length-map slices (λ s. s.now)

pub row_at-requires : goal.row_at-requires
row_at-requires c =
    let policies : List (List ℕ) = octets_of c.args.policies.now in
    let n : ℕ = c.loop-place.place in
    let lt : n < length policies = omega (arith, same_count c.args.policies.now, c.loop-place-test.true) in
    subst (All (λ (column : Vec Bool Global). n < vec_len column)) (sym c.deref.ensures.value)
    (column_lengths c.args.marks.now c.args.inhibit_any policies c.args.bag.now c.in_ok-columns.columns.items n c.in_ok-columns.ensures lt)

pub loop-place-preserved : goal.loop-place-preserved
loop-place-preserved c =
    let policies : List (List ℕ) = octets_of c.args.policies.now in
    let n : ℕ = c.loop-place.place in
    let items : Vec Bool Global → List Bool = λ row. row.items in
    let lt : n < length policies = omega (arith, same_count c.args.policies.now, c.loop-place-test.true) in
    let policy : List ℕ = get_or policies n [] in
    let f : List ℕ → List Bool = λ p. map (is_marked c.args.marks.now c.args.inhibit_any c.args.bag.now p) (positions_of c.args.bag.now) in
    let more : map f (take (n + 1) policies) ≡ map f (take n policies) ++ f policy ∷ [] = map_more f policies n policy (slice_get-get_or policies n [] lt) in
    let row : c.in_ok-row.row.items ≡ f policy = c.in_ok-row.ensures ∙ ap (map (λ (column : Vec Bool Global). get_or column.items n false)) c.deref.ensures.value
    ∙ row_is c.args.marks.now c.args.inhibit_any policies c.args.bag.now c.in_ok-columns.columns.items n c.in_ok-columns.ensures lt in
    ap (map items) c.in_ok-push.ensures.items ∙ map-append items c.loop-place.rows.items (c.in_ok-row.row ∷ [])
    ∙ ap (λ (rs : List (List Bool)). rs ++ c.in_ok-row.row.items ∷ []) c.loop-place.invariant
    ∙ ap (λ (x : List Bool). rows_in c.args.marks.now c.args.inhibit_any (take n policies) c.args.bag.now ++ x ∷ []) row
    ∙ sym more

pub returns : goal.returns
returns c =
    let policies : List (List ℕ) = octets_of c.args.policies.now in
    let all : length policies ≤ c.loop-place.place = omega (arith, same_count c.args.policies.now, c.loop-place-test.false) in
    c.loop-place.invariant ∙ ap (λ (ps : List (List ℕ)). rows_in c.args.marks.now c.args.inhibit_any ps c.args.bag.now) (take_all c.loop-place.place policies all)
