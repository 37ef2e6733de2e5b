use Rattle.std.proofs.Common.{◌≡◌, ◌≢◌, ℕ, true, false, Ok, eqb, List, [], ◌∷◌, sym, ap, ◌∙◌, refl, arith}
use Rattle.std.proofs.lemmas.Bool.{ne_eqb}
use Rattle.dv_schema.specs.Tlv.{tlv, integer_octets}
use Rattle.dv_schema.specs.Schema.{spelling}
use Rattle.dv_schema.specs.Types.{number_to}
use Rattle.dv_schema.specs.Reading.{Spot, read, starts_list, is_tag_of}
use Rattle.dv_schema.proofs.Takes.{takes}
use Rattle.dv_schema.proofs.Spellings.{one_spelling}
use Rattle.dv_schema.proofs.Defaults.{but_value, but_fault}
use Rattle.dv_request.proofs.info.read_version.Goals as goal

-- the default, spelled out
one : List ℕ
one = 2 ∷ 1 ∷ 1 ∷ []

pub returns-then-number-eq1 : goal.returns-then-number-eq1
unfolding one
returns-then-number-eq1 c =
    let p : Spot = c.args.c.now in
    let x : ℕ × Spot = (c.in_ok-number.number, c.read_number.new.self) in
    let e : read (number_to 2 255) p ≡ Ok x = ap (read (number_to 2 255)) (sym c.fork-next.ensures.same) ∙ c.in_ok-number.ensures in
    let there : starts_list (is_tag_of 2) p.rest ≡ true = sym c.next_is.ensures ∙ c.if-not-next_is.false in
    let is : spelling (number_to 2 255) c.in_ok-number.number ≡ one = ap (λ (k : ℕ). tlv 2 (integer_octets k)) c.if-number-eq1.true in
    let f = but_fault one (number_to 2 255) p x c.fork-next.ensures.octets e is in
    rw (there, f, c.refusal.ensures) (refl, refl)

pub returns : goal.returns
unfolding one
returns c =
    let p : Spot = c.args.c.now in
    let x : ℕ × Spot = (c.in_ok-number.number, c.read_number.new.self) in
    let e : read (number_to 2 255) p ≡ Ok x = ap (read (number_to 2 255)) (sym c.fork-next.ensures.same) ∙ c.in_ok-number.ensures in
    let there : starts_list (is_tag_of 2) p.rest ≡ true = sym c.next_is.ensures ∙ c.if-not-next_is.false in
    let t = takes (number_to 2 255) p x c.fork-next.ensures.octets e in
    let ne : spelling (number_to 2 255) c.in_ok-number.number ≢ one =
    λ q. c.if-number-eq1.false (one_spelling (number_to 2 255) p.levels p.levels c.in_ok-number.number 1 refl t.1 (t.1.0, omega arith, refl) q) in
    let f = but_value one (number_to 2 255) p x c.fork-next.ensures.octets e ne in
    let other : eqb c.in_ok-number.number 1 ≡ false = ne_eqb c.in_ok-number.number 1 c.if-number-eq1.false in
    rw (there, f, other) refl
