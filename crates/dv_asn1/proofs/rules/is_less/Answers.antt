use Rattle.std.proofs.Common.{◌≡◌, ◌⊎◌, ◌∙◌, inl, inr, sym, arith, length}
use Rattle.dv_asn1.proofs.Bounds.{less_end}
use Rattle.std.proofs.lemmas.Bool.{cases_lt}
use Rattle.dv_asn1.proofs.rules.is_less.Goals as goal

pub returns : goal.returns
returns c =
    let end : (length c.args.left.now ≡ c.loop-i.i) ⊎ (length c.args.right.now ≡ c.loop-i.i) =
    elim (cases_lt (length c.args.left.now) (length c.args.right.now)) [ inl h ↦ inl (omega arith) | inr h ↦ inr (omega arith) ] in
    sym (less_end c.loop-i.i c.args.left.now c.args.right.now (omega arith) (omega arith) end) ∙ c.loop-i.invariant
