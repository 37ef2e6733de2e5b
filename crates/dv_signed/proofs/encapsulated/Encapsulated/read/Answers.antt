use Rattle.std.proofs.Common.{rules, arith, ◌≡◌, ◌+◌, ℕ, Ok, length, ap, sym, ◌∙◌}
use Rattle.std.proofs.lemmas.Grind.{common_steps}
use Rattle.std.specs.Option.{option_copied}
use Rattle.dv_schema.specs.Tlv.{tlv}
use Rattle.dv_schema.specs.Schema.{ValueOf, field, optional, done}
use Rattle.dv_schema.specs.Types.{explicit, octet_string, oid}
use Rattle.dv_schema.specs.Reading.{Spot, is_tag_of, item_at, read}
use Rattle.dv_schema.proofs.Takes.{takes}
use Rattle.dv_cms.specs.Types.{encapsulated}
use Rattle.dv_signed.specs.Fields.{encapsulated_with}
use Rattle.dv_signed.specs.Places.{octets_place_at}
use Rattle.dv_signed.proofs.PlaceLemmas.{IsInside, inside_is}
use Rattle.dv_signed.proofs.encapsulated.Encapsulated.read.Goals as goal

-- the value that is read
value : goal.In_ok-finish → ValueOf encapsulated
value c = encapsulated_with c.in_ok-content_type.content_type.now (option_copied c.in_ok-content.content)

-- its contents
inside : (c : goal.In_ok-finish) → IsInside (field oid (optional (explicit 160 octet_string) done)) c.args.c.now (record { tag = 48; inside = c.in_ok-inside.inside; after = c.enter.new.self }) (value c)
unfolding read value
inside c =
    let p = c.args.c.now in
    let x : ValueOf encapsulated × Spot = (value c, c.enter.new.self) in
    let whole : read encapsulated p ≡ Ok x = first_of (search rules, grind (arith, common_steps)) in
    let item = ap (item_at (is_tag_of 48)) (sym c.fork-next.ensures.same) ∙ c.in_ok-inside.ensures.item in
    inside_is 48 (field oid (optional (explicit 160 octet_string) done)) p (record { tag = 48; inside = c.in_ok-inside.inside; after = c.enter.new.self }) x c.fork-next.ensures.octets item whole

pub returns-clause-type_place : goal.returns-clause-type_place
unfolding value
returns-clause-type_place c = c.place-type_place.ensures ∙ (inside c).place

pub returns-clause-content_place : goal.returns-clause-content_place
returns-clause-content_place c =
    let t = takes oid c.in_ok-inside.inside (c.in_ok-content_type.content_type.now, c.read_oid.new.self) (inside c).fits c.in_ok-content_type.ensures in
    let here : c.read_oid.new.self.place ≡ c.place-type_place.result + length (tlv 6 c.in_ok-content_type.content_type.now) = omega (arith, t.0.place, c.place-type_place.ensures) in
    c.in_ok-content.ensures.place ∙ ap (λ (n : ℕ). octets_place_at n (option_copied c.in_ok-content.content)) here
