use Rattle.std.proofs.Common.{rules, arith, ◌≡◌, ℕ, Ok, length, ap, subst}
use Rattle.std.proofs.lemmas.Grind.{common_steps}
use Rattle.std.proofs.lemmas.List.{length-append}
use Rattle.std.specs.Option.{option_copied}
use Rattle.dv_schema.specs.Schema.{ValueOf, spelling}
use Rattle.dv_schema.specs.Fits.{Fits}
use Rattle.dv_schema.specs.Reading.{Spot, Item, is_tag_of, read}
use Rattle.dv_schema.proofs.Moves.{item_opens, moves}
use Rattle.dv_schema.proofs.Takes.{takes}
use Rattle.dv_request.specs.DataView.{view_data}
use Rattle.dv_request.specs.InfoView.{view_info}
use Rattle.dv_request.specs.Types.{dvcs_request, request_information}
use Rattle.dv_request.proofs.request.Request.read.Goals as goal

pub read-requires-2 : goal.read-requires-2
read-requires-2 c =
    let i : Item = record { tag = 48; inside = c.in_ok-inside.inside; after = c.enter.new.self } in
    let o = item_opens (is_tag_of 48) c.fork-next.result i c.in_ok-inside.ensures.item in
    let x : ValueOf request_information × Spot = (view_info c.in-Ok.info, c.read.new.c) in
    let m = moves request_information c.in_ok-inside.inside x c.in-Ok.ensures in
    omega (arith, o.less, m.less, c.requires.short, ap (λ (p : Spot). length p.rest) c.fork-next.ensures.same)

pub invariant_of-result : goal.invariant_of-result
unfolding read
invariant_of-result c =
    let v : ValueOf dvcs_request = (view_info c.in-Ok.info, (view_data c.in_ok-matter.matter, (option_copied c.in_ok-transaction.transaction, tt))) in
    let x : ValueOf dvcs_request × Spot = (v, c.enter.new.self) in
    let whole : read dvcs_request c.args.c.now ≡ Ok x = first_of (search rules, grind (arith, common_steps)) in
    let t = takes dvcs_request c.args.c.now x c.fork-next.ensures.octets whole in
    record {
      spelled = ∣ subst (λ (n : ℕ). Fits dvcs_request n v) c.requires.levels t.1 ∣₁;
      short = omega (arith, c.requires.short, ap length t.0.octets, length-append (spelling dvcs_request v) c.enter.new.self.rest);
      counted = c.in_ok-matter.ensures.counted;
    }
