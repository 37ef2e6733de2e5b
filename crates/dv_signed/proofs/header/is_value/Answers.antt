use Rattle.std.proofs.Common.{◌≡◌, ◌∙◌, ◌∷◌, true, false, List, ℕ, take, length, refl, sym, ap}
use Rattle.dv_schema.specs.Octets.{same_octets}
use Rattle.dv_schema.specs.Tlv.{length_octets}
use Rattle.dv_signed.proofs.Sameness.{header_told, value_parts, value_short}
use Rattle.dv_signed.proofs.header.is_value.Goals as goal

pub returns-then-value-len : goal.returns-then-value-len
returns-then-value-len c =
    value_short c.args.tag c.header_len-len.result c.args.value.now c.args.contents.now c.header_len-len.ensures.count c.if-value-len.true

pub returns-then-same : goal.returns-then-same
returns-then-same c =
    let value : List ℕ = c.args.value.now in
    let contents : List ℕ = c.args.contents.now in
    let n : ℕ = length contents in
    let len : ℕ = c.header_len-len.result in
    let parts = value_parts c.args.tag len value contents c.header_len-len.ensures.count c.if-value-len.false in
    let head : same_octets (take len value) (c.args.tag ∷ length_octets n) ≡ true =
    header_told c.args.tag n len _ value c.write_header.new.into _ c.same.result c.same.ensures c.split_at.ensures.front c.write_header.ensures c.header_len-len.ensures.count ∙ c.if-same.true in
    c.same-then-same.ensures ∙ ap (λ (x : List ℕ). same_octets x contents) c.split_at.ensures.back ∙ sym (parts ∙ (rw head refl))

pub returns-else-same : goal.returns-else-same
returns-else-same c =
    let value : List ℕ = c.args.value.now in
    let contents : List ℕ = c.args.contents.now in
    let n : ℕ = length contents in
    let len : ℕ = c.header_len-len.result in
    let parts = value_parts c.args.tag len value contents c.header_len-len.ensures.count c.if-value-len.false in
    let head : same_octets (take len value) (c.args.tag ∷ length_octets n) ≡ false =
    header_told c.args.tag n len _ value c.write_header.new.into _ c.same.result c.same.ensures c.split_at.ensures.front c.write_header.ensures c.header_len-len.ensures.count ∙ c.if-same.false in
    c.if-same.false ∙ sym (parts ∙ (rw head refl))
