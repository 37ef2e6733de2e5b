-- The words for refusals.
use Rattle.std.specs.Prelude.{ℕ, List, codes}
use Rattle.dv_schema.specs.declared.refusal.Why.{Why}
use Rattle.dv_schema.specs.declared.refusal.Why.TheVariants.{End, Tag, Length, Value, Order, Trailing, Depth}

-- the word that diagnostics print for a reason
abbrev pub name_of : Why → List ℕ
name_of End = codes "end"
name_of Tag = codes "tag"
name_of Length = codes "length"
name_of Value = codes "value"
name_of Order = codes "order"
name_of Trailing = codes "trailing"
name_of Depth = codes "depth"
