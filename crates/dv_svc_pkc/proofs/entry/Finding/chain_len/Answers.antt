use Rattle.std.proofs.Common.{arith}
use Rattle.dv_request.specs.TargetView.{view_target}
use Rattle.dv_svc_pkc.specs.Slices.{octets_if}
use Rattle.dv_svc_pkc.proofs.Entered.{chain_short, length-chain}
use Rattle.dv_svc_pkc.proofs.entry.Finding.chain_len.Goals as goal

pub octets_len-requires : goal.octets_len-requires
octets_len-requires c =
    let f = c.args.self.now in
    let size = length-chain f.above c.in-Some.above c.deref.result.now c.in-Some.is c.deref.ensures.value in
    omega (arith, size, chain_short (view_target f.target) (octets_if f.above), f.short)

pub overflow_add-result : goal.overflow_add-result
overflow_add-result c =
    let f = c.args.self.now in
    let size = length-chain f.above c.in-Some.above c.deref.result.now c.in-Some.is c.deref.ensures.value in
    omega (arith, size, chain_short (view_target f.target) (octets_if f.above), f.short, c.octets_len.ensures, c.status_len-in-Some.ensures)

pub returns-in-Some : goal.returns-in-Some
returns-in-Some c =
    let f = c.args.self.now in
    let size = length-chain f.above c.in-Some.above c.deref.result.now c.in-Some.is c.deref.ensures.value in
    omega (arith, size, c.octets_len.ensures, c.status_len-in-Some.ensures)
