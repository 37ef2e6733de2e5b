use Rattle.std.proofs.Common.{◌≡◌, ◌∷◌, [], ◌/◌, ◌%◌, ℕ, List, eqb, true, false, refl, sym, ap, subst, ◌∙◌, eq-eqb}
use Rattle.std.proofs.lemmas.Bool.{ne_eqb}
use Rattle.dv_schema.specs.Tlv.{tlv}
use Rattle.dv_asn1.specs.Writing.{Writes}
use Rattle.dv_status.specs.Fail.{fail_octets, trailing}
use Rattle.dv_status.proofs.fail.FailBits.write.Goals as goal

pub returns-then-self-eq0-2 : goal.returns-then-self-eq0-2
returns-then-self-eq0-2 c =
    let m : ℕ = c.self.inside.bits in
    let more : eqb (m % 16777216) 0 ≡ false = ne_eqb _ 0 c.if-self-eq0.false in
    let last : eqb (m % 65536) 0 ≡ true = eq-eqb _ _ c.if-self-eq0-2.true in
    let here : fail_octets m ≡ trailing (m / 65536 % 256) ∷ m / 16777216 ∷ m / 65536 % 256 ∷ [] = rw (more, last) refl in
    let written = ap (λ (k : ℕ). k ∷ m / 16777216 ∷ m / 65536 % 256 ∷ []) c.trailing-then-self-eq0-2.ensures ∙ sym here ∙ ap fail_octets c.self.view_is in
    subst (λ (o : List ℕ). Writes c.args.out.now c.tlv-then-self-eq0-2.new.self (tlv 3 o)) written c.tlv-then-self-eq0-2.ensures
