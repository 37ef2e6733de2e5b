-- What a refusal of another crate is for a command.
use Rattle.dv_register.specs.declared.refusals.Contents.{Contents}
use Rattle.dv_register.specs.declared.refusals.Contents.TheVariants.{Fault, Memory}
use Rattle.dv_draft.specs.declared.reading.ReadRecord.{ReadRecord}
use Rattle.dv_draft.specs.declared.reading.ReadRecord.TheVariants.{Der as Refused, Memory as NoMemory}
use Rattle.dv_commands.specs.declared.refusals.Reissue.{Reissue}
use Rattle.dv_commands.specs.declared.refusals.Reissue.TheVariants.{Record, Fault as ReissueFault, Memory as ReissueMemory}

-- the contents of a record aren't given
abbrev pub of_contents : Contents → Reissue
of_contents Fault = ReissueFault
of_contents Memory = ReissueMemory

-- no certificate is made of a record
abbrev pub of_record : ReadRecord → Reissue
of_record (Refused d) = Record d
of_record NoMemory = ReissueMemory
