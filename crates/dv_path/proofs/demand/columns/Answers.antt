use Rattle.std.proofs.Common.{◌≡◌, ◌∙◌, ◌++◌, ◌∷◌, [], Bool, ℕ, List, length, sym, ap, arith}
use Rattle.std.specs.List.{range_with_len}
use Rattle.std.specs.Prelude.{map}
use Rattle.std.specs.declared.alloc.Global.{Global}
use Rattle.std.specs.declared.vec.Vec.{Vec}
use Rattle.std.proofs.lemmas.List.{map-append}
use Rattle.std.proofs.lemmas.List.FromFn.{map-range_with_len_more}
use Rattle.dv_path.specs.Rows.{is_marked, octets_of}
use Rattle.dv_path.proofs.demand.columns.Goals as goal

pub loop-position-preserved : goal.loop-position-preserved
loop-position-preserved c =
    let n : ℕ = c.loop-position.position in
    let items : Vec Bool Global → List Bool = λ column. column.items in
    let f : ℕ → List Bool = λ position. map (λ policy. is_marked c.args.marks.now c.args.inhibit_any c.args.bag.now policy position) (octets_of c.args.policies.now) in
    ap (map items) c.in_ok-push.ensures.items ∙ map-append items c.loop-position.columns.items (c.in_ok-column.column ∷ [])
    ∙ ap (λ (cs : List (List Bool)). cs ++ c.in_ok-column.column.items ∷ []) c.loop-position.invariant
    ∙ ap (λ (x : List Bool). map f (range_with_len 0 n) ++ x ∷ []) c.in_ok-column.ensures
    ∙ sym (map-range_with_len_more f 0 n n (omega arith))

pub returns : goal.returns
returns c =
    let all : c.loop-position.position ≡ length c.args.bag.now = omega (arith, c.loop-position-test.false, c.len-position-end.ensures.value) in
    let items : Vec Bool Global → List Bool = λ column. column.items in
    let f : ℕ → List Bool = λ position. map (λ policy. is_marked c.args.marks.now c.args.inhibit_any c.args.bag.now policy position) (octets_of c.args.policies.now) in
    c.loop-position.invariant ∙ ap (λ (n : ℕ). map f (range_with_len 0 n)) all
