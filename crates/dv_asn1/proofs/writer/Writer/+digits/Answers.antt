use Rattle.std.proofs.Common.{arith, ◌∙◌, ap, sym, append_assoc, List, ℕ, ◌++◌, [], ◌∷◌, ◌%◌, ◌/◌}
use Rattle.std.specs.Int.Digits.{digits_of}
use Rattle.dv_asn1.specs.Writing.{text_of}
use Rattle.dv_asn1.proofs.Digits.{digits_step, length-digits_step}
use Rattle.dv_asn1.proofs.writer.Writer.+digits.Goals as goal

pub digits-requires : goal.digits-requires
digits-requires t c =
    let a = length-digits_step c.args.number c.if-number-gt0.true in
    (omega (arith, c.decreases), omega (arith, a, c.requires))

pub bytes-requires : goal.bytes-requires
bytes-requires t c =
    let a = length-digits_step c.args.number c.if-number-gt0.true in
    omega (arith, a, c.requires, c.digits.ensures.room)

pub returns-then-number-gt0 : goal.returns-then-number-gt0
returns-then-number-gt0 t c =
    let a = length-digits_step c.args.number c.if-number-gt0.true in
    record {
      same_reference = c.bytes.ensures.same_reference ∙ c.digits.ensures.same_reference;
      text = c.bytes.ensures.text ∙ ap (λ (x : List ℕ). x ++ c.args.number % 256 ∷ []) c.digits.ensures.text
          ∙ append_assoc (text_of c.args.self.now) (digits_of 256 (c.args.number / 256)) (c.args.number % 256 ∷ [])
          ∙ ap (λ (x : List ℕ). text_of c.args.self.now ++ x) (sym (digits_step c.args.number c.if-number-gt0.true));
      room = omega (arith, a, c.digits.ensures.room, c.bytes.ensures.room);
    }
