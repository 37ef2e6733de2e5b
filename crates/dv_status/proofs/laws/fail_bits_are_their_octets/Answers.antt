use Rattle.dv_status.proofs.FailLemmas.{octets_back, bits_back, octets_allowed}
use Rattle.dv_status.proofs.laws.fail_bits_are_their_octets.Goals as goal

pub returns-clause-octets : goal.returns-clause-octets
returns-clause-octets c = octets_back

pub returns-clause-bits : goal.returns-clause-bits
returns-clause-bits c = bits_back

pub returns-clause-allowed : goal.returns-clause-allowed
returns-clause-allowed c = octets_allowed
