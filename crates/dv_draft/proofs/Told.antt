-- Errors that a `?` made of others.
use Rattle.std.proofs.Common.{◌≡◌, Result, Ok, Err, sym, subst, ◌∙◌}
use Rattle.std.specs.Prelude.{IsErr, IsErrAnd}
use Rattle.dv_schema.specs.declared.refusal.Der.{Der}
use Rattle.dv_draft.specs.declared.reading.ReadRecord.{ReadRecord}
use Rattle.dv_draft.specs.declared.reading.ReadRecord.TheVariants.{Der as Refused}
use Rattle.dv_draft.specs.Read.{Tells, TellsRefusal}

-- a refusal is told as it is
pub told_refusal : {X Y : Type 0} (view : X → Y) (r : Result X ReadRecord) (d : Der) (y : Result Y Der) → IsErr r × IsErrAnd r (λ e. e ≡ Refused d) → y ≡ Err d → Tells view r y
told_refusal view (Ok x) d y h t = absurd h.1
told_refusal view (Err e) d y h t = subst (λ (z : ReadRecord). TellsRefusal z y) (sym h.1) t

-- an error stays the same
pub same_error : {X : Type 0} (r : Result X ReadRecord) (e x : ReadRecord) → IsErr r × IsErrAnd r (λ y. y ≡ e) → r ≡ Err x → e ≡ x
same_error (Ok v) e x h q = absurd h.1
same_error (Err y) e x h q = let one : y ≡ x = cc in sym h.1 ∙ one
