use Rattle.std.proofs.Common.{refl, subst}
use Rattle.dv_schema.specs.Decodes.{DecodesAll}
use Rattle.dv_schema.proofs.Decoding.{decodes_all}
use Rattle.dv_draft.specs.OwnRecords.{own_record, view_own}
use Rattle.dv_draft.proofs.own_reading.read_own_record.Goals as goal

pub returns-clause-decoded : goal.returns-clause-decoded
returns-clause-decoded c =
    subst (DecodesAll own_record view_own c.read_whole.result) c.new-c.ensures
    (decodes_all own_record view_own c.read_whole.result c.new-c.result refl c.fork-octets.ensures.octets c.read_whole.ensures.exact)
