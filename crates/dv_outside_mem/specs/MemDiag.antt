-- What contracts see of lines in memory.
use Rattle.std.specs.Prelude.{ℕ, List, map, string_bytes}
use Rattle.dv_outside_mem.specs.declared.diag.MemDiag.{MemDiag}

-- The lines, each as its octets.
abbrev pub lines : MemDiag → List (List ℕ)
lines diag = map string_bytes diag.lines.items
