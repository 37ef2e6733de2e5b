use Rattle.std.proofs.Common.{◌≡◌, ◌<◌, List, ℕ, ◌+◌, ◌*◌, ◌%◌, min, drop, get_or, false, ltb, eqb, refl, sym, ap, ◌∙◌, arith}
use Rattle.std.proofs.lemmas.Bool.{le-ltb, ne_eqb}
use Rattle.dv_schema.specs.Rules.{are_arcs}
use Rattle.dv_names.proofs.NumberLemmas.{cap, capped, ended, continued, rule_on, oid_rule}
use Rattle.dv_names.proofs.shown.number_at.Goals as goal

pub loop-at-init : goal.loop-at-init
loop-at-init c = record { digits = (0, refl, refl); rule = oid_rule c.args.octets.now c.requires }

pub returns-then-octet-lt128-clause-number : goal.returns-then-octet-lt128-clause-number
returns-then-octet-lt128-clause-number c =
    let t : List ℕ = c.args.octets.now in
    let i : ℕ = c.loop-at.at in
    let d = c.loop-at.invariant.digits in
    let b : ℕ = get_or t i 0 in
    (d.0 * 128 + b % 128, c.min-number.ensures ∙ ap (λ (k : ℕ). min (k * 128 + b % 128) cap) d.1 ∙ capped d.0 (b % 128), d.2 ∙ ended t i d.0 c.loop-at-test.true c.if-octet-lt128.true)

pub loop-at-preserved : goal.loop-at-preserved
loop-at-preserved c =
    let t : List ℕ = c.args.octets.now in
    let i : ℕ = c.loop-at.at in
    let d = c.loop-at.invariant.digits in
    let b : ℕ = get_or t i 0 in
    let byte : b < 256 = omega (arith, c.type_inv.octets i) in
    let more : eqb (i + 1) 0 ≡ false = ne_eqb (i + 1) 0 (λ (z : i + 1 ≡ 0). omega (arith, z)) in
    let high : ltb b 128 ≡ false = le-ltb b 128 c.if-octet-lt128.false in
    record {
      digits = (d.0 * 128 + b % 128, c.min-number.ensures ∙ ap (λ (k : ℕ). min (k * 128 + b % 128) cap) d.1 ∙ capped d.0 (b % 128), d.2 ∙ continued t i d.0 c.loop-at-test.true c.if-octet-lt128.false byte);
      rule = ap (λ f. are_arcs f (drop (i + 1) t)) (more ∙ sym high) ∙ rule_on (eqb i 0) t i c.loop-at-test.true c.loop-at.invariant.rule;
    }
