-- What calls that read records answer, said by what the definitions give.
use Rattle.std.specs.Prelude.{◌≡◌, Result, Ok, Err}
use Rattle.dv_schema.specs.declared.refusal.Der.{Der}
use Rattle.dv_draft.specs.declared.reading.ReadRecord.{ReadRecord}
use Rattle.dv_draft.specs.declared.reading.ReadRecord.TheVariants.{Der as Refused, Memory}

-- a refusal is this one; a want of memory tells nothing
abbrev pub TellsRefusal : {Y : Type 0} → ReadRecord → Result Y Der → Type 0
TellsRefusal (Refused d) r = r ≡ Err d
TellsRefusal Memory r = Unit {0}

-- what a call answered, seen by view, is this, but for a want of memory
abbrev pub Tells : {X Y : Type 0} → (X → Y) → Result X ReadRecord → Result Y Der → Type 0
Tells view (Ok x) r = r ≡ Ok (view x)
Tells view (Err e) r = TellsRefusal e r
