use Rattle.std.proofs.Common.{length, sym}
use Rattle.std.proofs.lemmas.List.{length-map}
use Rattle.dv_path.specs.Demands.{is_asserted}
use Rattle.dv_path.specs.Members.{member}
use Rattle.dv_path.specs.Rows.{octets_of}
use Rattle.dv_path.proofs.Demanded.{unmarked}
use Rattle.dv_path.proofs.demand.marked_column.Goals as goal

pub returns-else-mark : goal.returns-else-mark
returns-else-mark c =
    unmarked c.entries.result c.args.mark (octets_of c.args.policies.now) (λ policy. is_asserted c.args.inhibit_any policy (member c.args.bag.now c.args.position)) (length c.args.policies.now) c.if-mark.false
    (sym (length-map c.args.policies.now (λ s. s.now))) c.entries.ensures
