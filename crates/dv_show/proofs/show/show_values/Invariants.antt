use Rattle.std.specs.String.{string_bytes}
use Rattle.dv_show.proofs.ShowLemmas.{Showing}
use Rattle.dv_show.proofs.show.show_values.Given as goal
use Rattle.std.proofs.Common.{length}

abbrev pub invariant-values : goal.invariant-values
invariant-values l = Showing l.octets l.rest (string_bytes l.text)

abbrev pub decreases-values : goal.decreases-values
decreases-values l = length l.rest.rest
