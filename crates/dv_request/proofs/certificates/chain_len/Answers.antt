use Rattle.std.proofs.Common.{◌≡◌, ℕ, arith, ap, length, sym, ◌∙◌}
use Rattle.std.specs.Prelude.{sum_by}
use Rattle.dv_schema.specs.Tlv.{length_octets}
use Rattle.dv_request.proofs.ChainLemmas.{length-chain, size}
use Rattle.dv_request.proofs.certificates.chain_len.Goals as goal

pub returns-clause-octets : goal.returns-clause-octets
returns-clause-octets c =
    let some = sym c.is_empty.ensures ∙ c.if-is_empty.false in
    let is = length-chain c.args.chain.now some in
    let n : ℕ = c.octets_len-links.result in
    let e : n ≡ sum_by size c.args.chain.now = c.octets_len-links.ensures in
    let head : length (length_octets n) ≡ length (length_octets (sum_by size c.args.chain.now)) = ap (λ (k : ℕ). length (length_octets k)) e in
    omega (arith, is, e, head, c.header_len.ensures.count)
