use Rattle.std.proofs.Common.{◌-◌, ℕ, Some, List, ap, sym, ◌∙◌}
use Rattle.dv_schema.specs.Reading.{Spot, is_tag_of, item_at}
use Rattle.dv_signed.specs.Places.{octets_place_at}
use Rattle.dv_signed.proofs.PlaceLemmas.{content_place}
use Rattle.dv_signed.proofs.encapsulated.read_content.Goals as goal

pub returns-clause-place : goal.returns-clause-place
returns-clause-place c =
    let p = c.args.c.now in
    let item = ap (item_at (is_tag_of 160)) (sym c.fork-next.ensures.same) ∙ c.in_ok-explicit.ensures.item in
    let octets : Spot = record { levels = c.in_ok-explicit.explicit.levels - 1; place = c.in_ok-octets.octets.place; rest = c.in_ok-octets.octets.rest } in
    let found = content_place p c.in_ok-explicit.explicit c.enter.new.self octets c.enter_string.new.self c.fork-next.ensures.octets item c.in_ok-octets.ensures.0 c.in_ok-finish.ensures in
    ap (λ (n : ℕ). Some n) (c.place.ensures ∙ found) ∙ ap (λ (l : List ℕ). octets_place_at p.place (Some l)) (sym c.rest.ensures)
