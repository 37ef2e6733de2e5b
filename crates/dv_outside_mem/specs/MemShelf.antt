-- What contracts see of a shelf in memory.
use Rattle.std.specs.Prelude.{ℕ, List, Option, String, Vec}
use Rattle.std.specs.Option.{option_map}
use Rattle.std.specs.BTreeMap.{BTreeMap, get_by_text}
use Rattle.std.specs.declared.alloc.Global.{Global}
use Rattle.dv_outside_mem.specs.Plan.{Plan}
use Rattle.dv_outside_mem.specs.declared.shelf.MemShelf.{MemShelf}

-- The octets of the file of a name.
abbrev pub file_in : BTreeMap (String Global) (Vec ℕ Global) → List ℕ → Option (List ℕ)
file_in files name = option_map (λ octets. octets.items) (get_by_text files name)

-- The files of a shelf by their names.
abbrev pub files_of : MemShelf → List ℕ → Option (List ℕ)
files_of shelf = file_in shelf.files

-- Which calls of a shelf fail.
abbrev pub plan_of : MemShelf → Plan
plan_of shelf = shelf.plan
