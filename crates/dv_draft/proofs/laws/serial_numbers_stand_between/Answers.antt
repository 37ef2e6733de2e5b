use Rattle.dv_draft.proofs.CertInfoLemmas.{cert_info_is}
use Rattle.dv_draft.proofs.laws.serial_numbers_stand_between.Goals as goal

pub returns : goal.returns
returns c = cert_info_is
