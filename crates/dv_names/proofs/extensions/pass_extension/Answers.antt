use Rattle.std.proofs.Common.{◌≡◌, Ok, Result, ap, sym, subst, ◌∙◌}
use Rattle.dv_schema.specs.declared.refusal.Der.{Der}
use Rattle.std.specs.Prelude.{IsOkAnd}
use Rattle.dv_schema.specs.Rules.{flag_octets}
use Rattle.dv_schema.specs.Reading.{Spot, Item, item_at, is_tag_of, read, first_contents}
use Rattle.dv_names.proofs.ExtensionTurns.{member, extension_passes}
use Rattle.dv_names.proofs.extensions.pass_extension.Goals as goal

pub returns-clause-key : goal.returns-clause-key
returns-clause-key c =
    subst (λ (p : Spot). IsOkAnd (read member p) (λ y. (y.1 ≡ c.enter.new.self) × (first_contents y.0 ≡ c.in_ok-oid.oid.now))) c.fork-next.ensures.same
    (extension_passes c.fork-next.result c.in_ok-inside.inside c.enter.new.self c.in_ok-oid.oid.now c.read_oid.new.self (flag_octets c.in_ok-read_flag.field-0) c.read_flag.new.self c.in_ok-read_octets.field-0.now c.read_octets.new.self
    c.fork-fields.ensures.octets c.in_ok-inside.ensures.item c.in_ok-oid.ensures c.in_ok-read_flag.ensures c.in_ok-read_octets.ensures c.in_ok-finish.ensures)

pub returns-clause-fields : goal.returns-clause-fields
returns-clause-fields c =
    let made : Spot → Result Item Der = λ q. Ok (record { tag = 48; inside = q; after = c.enter.new.self }) in
    ap (item_at (is_tag_of 48)) (sym c.fork-next.ensures.same) ∙ c.in_ok-inside.ensures.item ∙ ap made (sym c.fork-fields.ensures.same)
