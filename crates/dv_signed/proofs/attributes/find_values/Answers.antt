use Rattle.std.proofs.Common.{◌≡◌, ◌∙◌, ◌∷◌, true, false, eqb, length, refl, sym, ap}
use Rattle.std.specs.Prelude.{option_map}
use Rattle.dv_schema.specs.Octets.{same_octets}
use Rattle.dv_schema.specs.Schema.{ValueOf}
use Rattle.dv_schema.specs.Reading.{Spot, all_at, read}
use Rattle.dv_schema.proofs.Counts.{member_none}
use Rattle.dv_cms.specs.Types.{attribute}
use Rattle.dv_x509.specs.Uses.{first_named}
use Rattle.dv_signed.specs.AttributeView.{view_attribute}
use Rattle.dv_signed.specs.Attributes.{type_of}
use Rattle.dv_signed.proofs.AttributeLists.{next_turn, types_behind, types_here}
use Rattle.dv_signed.proofs.attributes.find_values.Goals as goal

pub loop-next-init : goal.loop-next-init
loop-next-init c = λ vs e. (vs, ap (λ (p : Spot). all_at (read attribute) (length p.rest) p) c.fork-next.ensures.same ∙ e, refl)

pub returns-in-Err : goal.returns-in-Err
returns-in-Err c = λ vs e.
    (let some : eqb (length c.loop-next.next.rest) 0 ≡ false = sym c.at_end.ensures ∙ c.loop-next-test.true in
    let w = c.loop-next.invariant vs e in
    let t = next_turn attribute c.loop-next.next w.0 some w.1 in
    absurd (c.in-Err.ensures.same t.first t.is_read).0)

pub returns-then-same : goal.returns-then-same
returns-then-same c = λ vs e.
    (let some : eqb (length c.loop-next.next.rest) 0 ≡ false = sym c.at_end.ensures ∙ c.loop-next-test.true in
    let w = c.loop-next.invariant vs e in
    let t = next_turn attribute c.loop-next.next w.0 some w.1 in
    let v : ValueOf attribute = view_attribute c.in-Ok.attribute in
    let first : v ≡ t.first.0 = (c.in-Ok.ensures.same t.first t.is_read).0 in
    let here : v ∷ t.more ≡ w.0 = ap (λ (a : ValueOf attribute). a ∷ t.more) first ∙ t.all in
    let is : same_octets c.args.oid.now (type_of v) ≡ true = sym c.same.ensures ∙ c.if-same.true in
    ap (option_map (λ a. a.1.0)) (types_here c.args.oid.now v t.more is ∙ ap (first_named type_of c.args.oid.now) here ∙ w.2))

pub loop-next-preserved : goal.loop-next-preserved
loop-next-preserved c = λ vs e.
    (let some : eqb (length c.loop-next.next.rest) 0 ≡ false = sym c.at_end.ensures ∙ c.loop-next-test.true in
    let w = c.loop-next.invariant vs e in
    let t = next_turn attribute c.loop-next.next w.0 some w.1 in
    let v : ValueOf attribute = view_attribute c.in-Ok.attribute in
    let told = c.in-Ok.ensures.same t.first t.is_read in
    let here : v ∷ t.more ≡ w.0 = ap (λ (a : ValueOf attribute). a ∷ t.more) told.0 ∙ t.all in
    let other : same_octets c.args.oid.now (type_of v) ≡ false = sym c.same.ensures ∙ c.if-same.false in
    (t.more, ap (λ (p : Spot). all_at (read attribute) (length p.rest) p) told.1 ∙ t.left, types_behind c.args.oid.now v t.more other ∙ ap (first_named type_of c.args.oid.now) here ∙ w.2))

pub returns : goal.returns
returns c = λ vs e.
    (let none : eqb (length c.loop-next.next.rest) 0 ≡ true = sym c.at_end.ensures ∙ c.loop-next-test.false in
    let w = c.loop-next.invariant vs e in
    ap (option_map (λ a. a.1.0)) (ap (first_named type_of c.args.oid.now) (member_none attribute c.loop-next.next w.0 none w.1) ∙ w.2))
