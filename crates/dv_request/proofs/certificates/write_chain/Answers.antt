use Rattle.std.proofs.Common.{◌≡◌, ◌∷◌, ◌++◌, ℕ, arith, ap, length, sym, subst, ◌∙◌}
use Rattle.std.specs.Prelude.{sum_by}
use Rattle.dv_schema.specs.Tlv.{length_octets}
use Rattle.dv_asn1.specs.Writing.{Writes}
use Rattle.dv_asn1.proofs.Written.{written_more}
use Rattle.dv_request.proofs.ChainLemmas.{chain_is, length-chain, length-links, links, size}
use Rattle.dv_request.proofs.certificates.write_chain.Goals as goal

pub header-requires : goal.header-requires
header-requires c =
    let some = sym c.is_empty.ensures ∙ c.if-is_empty.false in
    let is = length-chain c.args.chain.now some in
    let n : ℕ = c.octets_len.result in
    let e : n ≡ sum_by size c.args.chain.now = c.octets_len.ensures in
    let head : length (length_octets n) ≡ length (length_octets (sum_by size c.args.chain.now)) = ap (λ (k : ℕ). length (length_octets k)) e in
    omega (arith, is, e, head, c.requires.room)

pub write_links-requires : goal.write_links-requires
write_links-requires c =
    let some = sym c.is_empty.ensures ∙ c.if-is_empty.false in
    let is = length-chain c.args.chain.now some in
    let own = length-links c.args.chain.now in
    let n : ℕ = c.octets_len.result in
    let e : n ≡ sum_by size c.args.chain.now = c.octets_len.ensures in
    let head : length (length_octets n) ≡ length (length_octets (sum_by size c.args.chain.now)) = ap (λ (k : ℕ). length (length_octets k)) e in
    omega (arith, is, own, e, head, c.requires.room, c.header.ensures.room)

pub returns : goal.returns
returns c =
    let some = sym c.is_empty.ensures ∙ c.if-is_empty.false in
    let w = written_more c.args.out.now c.header.new.self c.write_links.new.out (48 ∷ length_octets c.octets_len.result) (links c.args.chain.now) c.header.ensures c.write_links.ensures in
    let is = ap (λ (n : ℕ). (48 ∷ length_octets n) ++ links c.args.chain.now) c.octets_len.ensures ∙ sym (chain_is c.args.chain.now some) in
    subst (Writes c.args.out.now c.write_links.new.out) is w
