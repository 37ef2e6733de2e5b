use Rattle.std.proofs.Common.{◌≡◌, ◌||◌, ◌++◌, ◌+◌, [], ◌∷◌, List, ℕ, Bool, Ok, Err, true, false, eqb, length, sym, refl, ap, subst, ◌∙◌, arith}
use Rattle.std.proofs.lemmas.Result.{err_from_is_err_and}
use Rattle.dv_schema.specs.Octets.{is_one_of, same_octets}
use Rattle.dv_schema.specs.Schema.{Body}
use Rattle.dv_schema.specs.declared.refusal.Why.TheVariants.{Value}
use Rattle.dv_schema.specs.Reading.{Spot, read, refuse, first_contents}
use Rattle.dv_schema.proofs.Moves.{moves}
use Rattle.dv_schema.specs.Answers.{Keys}
use Rattle.dv_schema.proofs.Distinct.{keys_more, one_of_more, members_at, own_fields, distinct_new, distinct_old, distinct_late, distinct_fault, distinct_last, distinct_some, distinct_none}
use Rattle.std.proofs.lemmas.List.{length-append}
use Rattle.dv_repeats.proofs.ApartLemmas.{apart_end}
use Rattle.dv_names.specs.Types.{extension_fields}
use Rattle.dv_names.proofs.ExtensionTurns.{checked, keys_turn, member, repeats_here, told}
use Rattle.dv_names.proofs.extensions.check_extensions.Goals as goal

pub returns-then-at_end : goal.returns-then-at_end
returns-then-at_end g c =
    let none : eqb (length c.args.contents.now.rest) 0 ≡ true = ap (λ (p : Spot). eqb (length p.rest) 0) (sym c.fork-next.ensures.same) ∙ sym c.at_end.ensures ∙ c.if-at_end.true in
    rw c.new.ensures (distinct_none first_contents 48 extension_fields g.K.Known.known c.args.place c.args.contents.now none)

pub loop-next-init : goal.loop-next-init
loop-next-init g c = ([], [], sym c.fork-next.ensures.same, λ x. refl, ap (members_at first_contents 48 extension_fields g.K.Known.known []) c.fork-next.ensures.same, refl, refl, (let all = ap (λ (p : Spot). length p.rest) c.fork-next.ensures.same in omega (arith, all)))

pub returns-in_err-fields : goal.returns-in_err-fields
returns-in_err-fields g c =
    let e = err_from_is_err_and c.from_residual.result c.from_residual.ensures.1 in
    let w = c.loop-next.invariant in
    let all : eqb (length c.args.contents.now.rest) 0 ≡ false = ap (λ (p : Spot). eqb (length p.rest) 0) (sym c.fork-next.ensures.same) ∙ sym c.at_end.ensures ∙ c.if-at_end.false in
    let some : eqb (length c.loop-next.next.rest) 0 ≡ false = sym c.at_end-in-loop-next.ensures ∙ c.loop-next-test.true in
    rw (e.1, e.2) (distinct_some first_contents 48 extension_fields g.K.Known.known c.args.place c.args.contents.now all ∙ sym w.4
    ∙ distinct_fault first_contents 48 extension_fields g.K.Known.known w.0 c.loop-next.next c.in_err-fields.field-0.0 some c.in_err-fields.ensures.key.0)

pub returns-then-eq : goal.returns-then-eq
returns-then-eq g c =
    let w = c.loop-next.invariant in
    let all : eqb (length c.args.contents.now.rest) 0 ≡ false = ap (λ (p : Spot). eqb (length p.rest) 0) (sym c.fork-next.ensures.same) ∙ sym c.at_end.ensures ∙ c.if-at_end.false in
    let some : eqb (length c.loop-next.next.rest) 0 ≡ false = sym c.at_end-in-loop-next.ensures ∙ c.loop-next-test.true in
    let t = told (read member c.loop-next.next) c.in_ok-fields.ensures.key in
    let more = keys_more first_contents 48 extension_fields w.1 c.args.contents.now c.loop-next.next t.0.1 t.0.0 (first_contents t.0.0) w.2 t.1 refl in
    let here = repeats_here w.1 (first_contents t.0.0) c.first_repeated-repeated.result c.loop-next.number w.5 w.6 (c.first_repeated-repeated.ensures.first w.1 c.loop-next.next (keys_turn w.1 c.args.contents.now c.loop-next.next w.2)) (c.first_repeated-repeated.ensures.first (w.1 ++ first_contents t.0.0 ∷ []) t.0.1 (keys_turn (w.1 ++ first_contents t.0.0 ∷ []) c.args.contents.now t.0.1 more)) in
    let old : is_one_of w.0 (first_contents t.0.0) ≡ true = w.3 (first_contents t.0.0) ∙ here ∙ sym c.eq.ensures ∙ c.if-eq.true in
    let place : c.loop-next.next.place ≡ c.fork-start.result.place = ap (λ (q : Spot). q.place) (sym c.fork-start.ensures.same) in
    rw c.refusal.ensures (distinct_some first_contents 48 extension_fields g.K.Known.known c.args.place c.args.contents.now all ∙ sym w.4
    ∙ distinct_old first_contents 48 extension_fields g.K.Known.known w.0 c.loop-next.next t.0.0 t.0.1 some (own_fields 48 extension_fields c.loop-next.next t.0.0 t.0.1 t.1) old
    ∙ ap (λ (k : ℕ). refuse k Value) place)

pub returns-in_err-check : goal.returns-in_err-check
returns-in_err-check g c =
    let e = err_from_is_err_and c.from_residual-in_err-check.result c.from_residual-in_err-check.ensures.1 in
    let w = c.loop-next.invariant in
    let known : Body = g.K.Known.known in
    let all : eqb (length c.args.contents.now.rest) 0 ≡ false = ap (λ (p : Spot). eqb (length p.rest) 0) (sym c.fork-next.ensures.same) ∙ sym c.at_end.ensures ∙ c.if-at_end.false in
    let some : eqb (length c.loop-next.next.rest) 0 ≡ false = sym c.at_end-in-loop-next.ensures ∙ c.loop-next-test.true in
    let t = told (read member c.loop-next.next) c.in_ok-fields.ensures.key in
    let more = keys_more first_contents 48 extension_fields w.1 c.args.contents.now c.loop-next.next t.0.1 t.0.0 (first_contents t.0.0) w.2 t.1 refl in
    let here = repeats_here w.1 (first_contents t.0.0) c.first_repeated-repeated.result c.loop-next.number w.5 w.6 (c.first_repeated-repeated.ensures.first w.1 c.loop-next.next (keys_turn w.1 c.args.contents.now c.loop-next.next w.2)) (c.first_repeated-repeated.ensures.first (w.1 ++ first_contents t.0.0 ∷ []) t.0.1 (keys_turn (w.1 ++ first_contents t.0.0 ∷ []) c.args.contents.now t.0.1 more)) in
    let new : is_one_of w.0 (first_contents t.0.0) ≡ false = w.3 (first_contents t.0.0) ∙ here ∙ sym c.eq.ensures ∙ c.if-eq.false in
    let own = own_fields 48 extension_fields c.loop-next.next t.0.0 t.0.1 t.1 in
    let bad = checked known c.loop-next.next c.fork-start.result c.in_ok-fields.fields c.pass_extension.new.c own.item c.place.result (Err c.in_err-check.field-0.0) own.item_is c.in_ok-fields.ensures.fields c.fork-start.ensures.same c.place.ensures c.in_err-check.ensures in
    rw (e.1, e.2) (distinct_some first_contents 48 extension_fields known c.args.place c.args.contents.now all ∙ sym w.4
    ∙ distinct_late first_contents 48 extension_fields known w.0 c.loop-next.next t.0.0 t.0.1 c.in_err-check.field-0.0 some own new bad)

pub loop-next-smaller : goal.loop-next-smaller
loop-next-smaller g c =
    let t = told (read member c.loop-next.next) c.in_ok-fields.ensures.key in
    let m = moves member c.loop-next.next t.0 t.1 in
    omega (arith, m.less, ap (λ (p : Spot). length p.rest) t.2.0)

pub loop-next-preserved : goal.loop-next-preserved
loop-next-preserved g c =
    let w = c.loop-next.invariant in
    let some : eqb (length c.loop-next.next.rest) 0 ≡ false = sym c.at_end-in-loop-next.ensures ∙ c.loop-next-test.true in
    let t = told (read member c.loop-next.next) c.in_ok-fields.ensures.key in
    let k : List ℕ = first_contents t.0.0 in
    let more = keys_more first_contents 48 extension_fields w.1 c.args.contents.now c.loop-next.next t.0.1 t.0.0 (first_contents t.0.0) w.2 t.1 refl in
    let here = repeats_here w.1 (first_contents t.0.0) c.first_repeated-repeated.result c.loop-next.number w.5 w.6 (c.first_repeated-repeated.ensures.first w.1 c.loop-next.next (keys_turn w.1 c.args.contents.now c.loop-next.next w.2)) (c.first_repeated-repeated.ensures.first (w.1 ++ first_contents t.0.0 ∷ []) t.0.1 (keys_turn (w.1 ++ first_contents t.0.0 ∷ []) c.args.contents.now t.0.1 more)) in
    let new : is_one_of w.0 k ≡ false = w.3 k ∙ here ∙ sym c.eq.ensures ∙ c.if-eq.false in
    let own = own_fields 48 extension_fields c.loop-next.next t.0.0 t.0.1 t.1 in
    let known : Body = g.K.Known.known in
    let good = checked known c.loop-next.next c.fork-start.result c.in_ok-fields.fields c.pass_extension.new.c own.item c.place.result (Ok tt) own.item_is c.in_ok-fields.ensures.fields c.fork-start.ensures.same c.place.ensures c.in_ok-check.ensures in
    let one = distinct_new first_contents 48 extension_fields known w.0 c.loop-next.next t.0.0 t.0.1 some own new good in (
      k ∷ w.0,
      w.1 ++ k ∷ [],
      subst (Keys first_contents 48 extension_fields (w.1 ++ k ∷ []) c.args.contents.now) t.2.0 (keys_more first_contents 48 extension_fields w.1 c.args.contents.now c.loop-next.next t.0.1 t.0.0 k w.2 t.1 refl),
      λ x. ap (λ (b : Bool). same_octets x k || b) (w.3 x) ∙ sym (one_of_more w.1 k x),
      ap (members_at first_contents 48 extension_fields g.K.Known.known (k ∷ w.0)) (sym t.2.0) ∙ sym one ∙ w.4,
      (let long = length-append w.1 (k ∷ []) in omega (arith, long, w.5)),
      apart_end [] w.1 k ∙ rw (w.6, sym (w.3 k) ∙ new) refl,
      (let m = moves member c.loop-next.next t.0 t.1 in omega (arith, m.less, w.7, ap (λ (p : Spot). length p.rest) t.2.0)),
    )

pub returns : goal.returns
returns g c =
    let w = c.loop-next.invariant in
    let all : eqb (length c.args.contents.now.rest) 0 ≡ false = ap (λ (p : Spot). eqb (length p.rest) 0) (sym c.fork-next.ensures.same) ∙ sym c.at_end.ensures ∙ c.if-at_end.false in
    let none : eqb (length c.loop-next.next.rest) 0 ≡ true = sym c.at_end-in-loop-next.ensures ∙ c.loop-next-test.false in
    distinct_some first_contents 48 extension_fields g.K.Known.known c.args.place c.args.contents.now all ∙ sym w.4 ∙ distinct_last first_contents 48 extension_fields g.K.Known.known w.0 c.loop-next.next none
