-- One list more is dropped.
use Rattle.std.proofs.Common.{sym}
use Rattle.std.proofs.lemmas.List.{drop-drop}
use Rattle.dv_outside_mem.proofs.source.piece_after.Goals as goal

pub returns-then-piece-cuts-clause-used : goal.returns-then-piece-cuts-clause-used
returns-then-piece-cuts-clause-used c = sym (drop-drop 1 c.args.piece c.args.cuts.now)
