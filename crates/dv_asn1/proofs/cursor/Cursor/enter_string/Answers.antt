use Rattle.std.proofs.Common.{◌≡◌, ◌-◌, ℕ, Ok, Result, ap, sym, ◌∙◌, refl, arith}
use Rattle.dv_schema.specs.declared.refusal.Der.{Der}
use Rattle.dv_schema.specs.Reading.{Spot, Item, is_tag_of}
use Rattle.dv_schema.proofs.Moves.{item_opens}
use Rattle.dv_asn1.proofs.cursor.Cursor.enter_string.Goals as goal

pub returns : goal.returns
returns c =
    let i : Item = record { tag = c.args.tag; inside = c.in_ok-inside.inside; after = c.in_ok-inside.after } in
    let o = item_opens (is_tag_of c.args.tag) c.args.self.now i c.in_ok-inside.ensures in
    let less : c.in_ok-inside.inside.levels ≡ c.args.self.now.levels - 1 = omega (arith, o.levels) in
    let made : Spot → ℕ → Result Item Der = λ p k. Ok (record { tag = c.args.tag; inside = record { levels = k; place = p.place; rest = p.rest }; after = c.in_ok-inside.after }) in
    (c.in_ok-inside.ensures ∙ ap (made c.in_ok-inside.inside) less ∙ ap (λ (p : Spot). made p (c.args.self.now.levels - 1)) (sym c.inside.view_is), refl)
