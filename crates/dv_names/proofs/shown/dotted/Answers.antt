use Rattle.std.proofs.Common.{◌≡◌, ◌∙◌, ℕ, ◌+◌, ◌<◌, List, [], ◌∷◌, ◌++◌, length, take, get_or, sym, ap, arith, append_assoc}
use Rattle.std.specs.String.{string_bytes}
use Rattle.std.specs.Fmt.{decimal}
use Rattle.dv_names.specs.Arcs.{arc_text, dotted}
use Rattle.dv_names.proofs.NumberLemmas.{arc_decimal, dotted_next, dotted_first}
use Rattle.dv_names.proofs.shown.dotted.Goals as goal
use Rattle.dv_names.proofs.shown.dotted.Goals.{then-at-gt0+in_ok-push, else-at-gt0}

pub loop-at-preserved : goal.loop-at-preserved
loop-at-preserved c =
    let arcs : List ℕ = c.args.arcs.now in
    let i : ℕ = c.loop-at.at in
    let n : ℕ = get_or arcs i 0 in
    let before : List ℕ = string_bytes c.loop-at.text in
    let shown : decimal n ≡ arc_text n = arc_decimal n (omega (arith, c.type_inv.arcs i)) in
    elim c.if-at-gt0.branch [
      | then-at-gt0+in_ok-push w ↦
          let dot = w.in_ok-push.ensures.ascii (omega arith) in
          let with_dot : string_bytes c.if-at-gt0.text ≡ before ++ 46 ∷ [] = ap string_bytes w.text-is ∙ w.in_ok-push.ensures.bytes ∙ ap (λ (l : List ℕ). before ++ l) dot in
          c.in_ok-write.ensures.bytes ∙ ap (λ (l : List ℕ). l ++ decimal n) with_dot ∙ append_assoc before (46 ∷ []) (decimal n)
          ∙ ap (λ (l : List ℕ). before ++ 46 ∷ l) shown ∙ ap (λ (l : List ℕ). l ++ 46 ∷ arc_text n) c.loop-at.invariant
          ∙ sym (dotted_next arcs i c.loop-at-test.true w.if-at-gt0.true)
      | else-at-gt0 w ↦
          let zero_is : i ≡ 0 = omega (arith, w.if-at-gt0.false) in
          let none : before ≡ [] = c.loop-at.invariant ∙ ap (λ (k : ℕ). dotted (take k arcs)) zero_is in
          let lt : 0 < length arcs = omega (arith, c.loop-at-test.true) in
          c.in_ok-write.ensures.bytes ∙ ap (λ s. string_bytes s ++ decimal n) w.text-is ∙ ap (λ (l : List ℕ). l ++ decimal n) none
          ∙ shown ∙ ap (λ (k : ℕ). arc_text (get_or arcs k 0)) zero_is ∙ sym (dotted_first arcs lt) ∙ ap (λ (k : ℕ). dotted (take (k + 1) arcs)) (sym zero_is)
    ]
