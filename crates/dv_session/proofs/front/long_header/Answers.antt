use Rattle.std.proofs.Common.{ℕ, ◌≡◌, ◌<◌, ◌+◌, length, arith, sym, ap}
use Rattle.std.proofs.Common.{List, false, eqb}
use borrow.Author.Tests.{eqb-true, eqb-false}
use Rattle.dv_session.proofs.HeaderLemmas.{need_empty, need_digits, whole_long, bad_digit, bad_total}
use Rattle.dv_session.proofs.front.long_header.Goals as goal

some_digits : (ds : List ℕ) → eqb (length ds) 0 ≡ false → 0 < length ds
some_digits ds e = let not_zero = eqb-false _ _ e in omega arith

pub returns-then-is_empty : goal.returns-then-is_empty
returns-then-is_empty c = need_empty c.args.count c.args.digits.now c.requires.some c.requires.few (eqb-true _ _ (sym (c.if-is_empty.ensures)))

pub returns-then-not-may_begin : goal.returns-then-not-may_begin
returns-then-not-may_begin c = bad_digit c.args.count c.args.digits.now c.requires.some (some_digits c.args.digits.now (sym (c.if-is_empty.ensures))) (λ begins. let holds = c.may_begin.ensures.1 begins in cc)

pub returns-then-digits-count : goal.returns-then-digits-count
returns-then-digits-count c = need_digits c.args.count c.args.digits.now c.requires.some c.requires.few (λ i. omega (arith, c.type_inv.digits i)) c.if-digits-count.true (some_digits c.args.digits.now (sym (c.if-is_empty.ensures))) (c.may_begin.ensures.0 c.if-not-may_begin.false)

pub returns-then-total-le-REQUEST_LIMIT : goal.returns-then-total-le-REQUEST_LIMIT
returns-then-total-le-REQUEST_LIMIT c = whole_long c.args.count _ c.args.digits.now c.requires.some c.requires.few (λ i. omega (arith, c.type_inv.digits i)) c.if-digits-count.false (c.may_begin.ensures.0 c.if-not-may_begin.false)
    (ap (λ (n : ℕ). 2 + c.args.count + n) c.number.ensures.value) c.if-total-le-REQUEST_LIMIT.true

pub returns-else-total-le-REQUEST_LIMIT : goal.returns-else-total-le-REQUEST_LIMIT
returns-else-total-le-REQUEST_LIMIT c = bad_total c.args.count _ c.args.digits.now c.requires.some c.if-digits-count.false
    (ap (λ (n : ℕ). 2 + c.args.count + n) c.number.ensures.value) c.if-total-le-REQUEST_LIMIT.false
