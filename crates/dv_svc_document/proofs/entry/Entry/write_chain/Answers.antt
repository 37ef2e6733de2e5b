use Rattle.std.proofs.Common.{arith}
use Rattle.dv_svc_document.proofs.EntryLemmas.{chain_written, length-chain_octets}
use Rattle.dv_svc_document.proofs.entry.Entry.write_chain.Goals as goal

pub write_certificates-requires : goal.write_certificates-requires
write_certificates-requires c =
    let e = c.args.self.now in
    let size = length-chain_octets c.chain_len.result e.above.items c.deref.result.now e.bit c.chain_len.ensures.octets c.deref.ensures.value in
    omega (arith, size, c.header.ensures.room, c.requires)

pub write_status-requires-clause-room : goal.write_status-requires-clause-room
write_status-requires-clause-room c =
    let e = c.args.self.now in
    let size = length-chain_octets c.chain_len.result e.above.items c.deref.result.now e.bit c.chain_len.ensures.octets c.deref.ensures.value in
    omega (arith, size, c.header.ensures.room, c.write_certificates.ensures.room, c.requires)

pub returns : goal.returns
returns c =
    let e = c.args.self.now in
    chain_written c.chain_len.result e.above.items c.deref.result.now e.bit c.chain_len.ensures.octets c.deref.ensures.value c.args.out.now c.header.new.self c.write_certificates.new.out c.write_status.new.out c.header.ensures
    c.write_certificates.ensures c.write_status.ensures
