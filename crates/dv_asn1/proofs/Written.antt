-- What was written by one call after another.
use Rattle.std.proofs.Common.{ℕ, List, ◌++◌, ap, ◌∙◌, append_assoc, arith}
use Rattle.std.proofs.lemmas.List.{length-append}
use Rattle.dv_asn1.specs.declared.writer.Writer.{Writer}
use Rattle.dv_asn1.specs.Writing.{text_of, Writes}

pub written_more : (a b d : Writer) (x y : List ℕ) → Writes a b x → Writes b d y → Writes a d (x ++ y)
written_more a b d x y first second =
    record {
      same_reference = second.same_reference ∙ first.same_reference;
      text = second.text ∙ ap (λ (t : List ℕ). t ++ y) first.text ∙ append_assoc (text_of a) x y;
      room = omega (arith, length-append x y, first.room, second.room);
    }
