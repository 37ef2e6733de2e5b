use Rattle.std.proofs.Common.{arith}
use Rattle.dv_draft.proofs.DraftLemmas.{own_size}
use Rattle.dv_draft.proofs.own.contents_len.Goals as goal

pub returns-clause-octets : goal.returns-clause-octets
returns-clause-octets c =
    let p = c.args.parts.now in
    omega (arith, own_size p.name.now p.from p.until, c.value_len.ensures.octets)
