use Rattle.std.proofs.Common.{◌≡◌, ℕ, ◌+◌, ◌-◌, ◌*◌, List, [], ◌∷◌, ◌++◌, drop, get_or, arith, ap, ◌∙◌}
use Rattle.dv_names.specs.Arcs.{are_good, dotted}
use Rattle.dv_names.proofs.ArcTexts.{said, digit_in, said_within, said_digit, said_dot, said_all}
use Rattle.dv_names.proofs.dotted.arcs_in.Goals as goal
use Rattle.dv_names.proofs.dotted.arcs_in.Goals.{then-octet-eq46+in_ok-push, else-octet-eq46}

pub overflow_mul-number : goal.overflow_mul-number
overflow_mul-number c =
    let t : List ℕ = c.args.text.now in
    let i : ℕ = c.loop-octet.octet-index in
    let n : ℕ = c.loop-octet.number in
    let b : ℕ = get_or t i 0 in
    let next = said_digit t c.loop-octet.arcs.items n i c.loop-octet-test.true c.if-octet-eq46.false c.loop-octet.invariant in
    let w = said_within t c.loop-octet.arcs.items (n * 10 + (b - 48)) (i + 1) c.requires next in
    omega (arith, w)

pub overflow_sub-number : goal.overflow_sub-number
overflow_sub-number c = (digit_in c.args.text.now c.loop-octet.octet-index c.requires c.loop-octet-test.true c.if-octet-eq46.false).0

pub overflow_add-number : goal.overflow_add-number
overflow_add-number c =
    let t : List ℕ = c.args.text.now in
    let i : ℕ = c.loop-octet.octet-index in
    let n : ℕ = c.loop-octet.number in
    let b : ℕ = get_or t i 0 in
    let next = said_digit t c.loop-octet.arcs.items n i c.loop-octet-test.true c.if-octet-eq46.false c.loop-octet.invariant in
    let w = said_within t c.loop-octet.arcs.items (n * 10 + (b - 48)) (i + 1) c.requires next in
    omega (arith, w)

pub loop-octet-preserved : goal.loop-octet-preserved
loop-octet-preserved c =
    let t : List ℕ = c.args.text.now in
    let i : ℕ = c.loop-octet.octet-index in
    let n : ℕ = c.loop-octet.number in
    let before : List ℕ = c.loop-octet.arcs.items in
    elim c.if-octet-eq46.branch [
      | then-octet-eq46+in_ok-push w ↦
          let arcs : c.if-octet-eq46.arcs.items ≡ before ++ n ∷ [] = ap (λ v. v.items) w.arcs-is ∙ w.in_ok-push.ensures.items in
          let next = said_dot t before n i c.loop-octet-test.true w.if-octet-eq46.true c.loop-octet.invariant in
          ap (λ (l : List ℕ). l ++ said c.if-octet-eq46.number (drop (i + 1) t)) arcs ∙ ap (λ (k : ℕ). (before ++ n ∷ []) ++ said k (drop (i + 1) t)) w.number-is ∙ next
      | else-octet-eq46 w ↦
          let arcs : c.if-octet-eq46.arcs.items ≡ before = ap (λ v. v.items) w.arcs-is in
          let next = said_digit t before n i c.loop-octet-test.true w.if-octet-eq46.false c.loop-octet.invariant in
          ap (λ (l : List ℕ). l ++ said c.if-octet-eq46.number (drop (i + 1) t)) arcs ∙ ap (λ (k : ℕ). before ++ said k (drop (i + 1) t)) w.number-is ∙ next
    ]

pub returns-clause-good : goal.returns-clause-good
returns-clause-good c =
    let all = said_all c.args.text.now c.loop-octet.arcs.items c.loop-octet.number c.loop-octet.octet-index c.requires c.loop-octet-test.false c.loop-octet.invariant in
    ap are_good c.in_ok-push-2.ensures.items ∙ all.0

pub returns-clause-text : goal.returns-clause-text
returns-clause-text c =
    let all = said_all c.args.text.now c.loop-octet.arcs.items c.loop-octet.number c.loop-octet.octet-index c.requires c.loop-octet-test.false c.loop-octet.invariant in
    ap dotted c.in_ok-push-2.ensures.items ∙ all.1
