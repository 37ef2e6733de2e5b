use Rattle.dv_draft.proofs.RecordLemmas.{written}
use Rattle.dv_draft.proofs.reading_laws.records_are_those_written.Goals as goal

pub returns : goal.returns
returns c = λ contents cs d bytes e. (let w = written contents (cs, d) bytes e in (w.whole, w.some, w.few, w.decoded, w.fits))
