use Rattle.std.proofs.Common.{◌≡◌, ℕ, true, false, Some, List, ◌∷◌, length, eqb, refl, sym, ap, ◌∙◌}
use Rattle.dv_schema.specs.Octets.{same_octets}
use Rattle.dv_schema.specs.Schema.{ValueOf}
use Rattle.dv_schema.specs.Reading.{Spot, all_at, read}
use Rattle.dv_schema.proofs.Moves.{moves}
use Rattle.dv_schema.proofs.Counts.{member_turn, member_fault, member_none}
use Rattle.dv_x509.specs.Uses.{first_named}
use Rattle.dv_x509.proofs.find.find.Goals as goal

-- the first value has the name
here : {A : Type 0} (name : A → List ℕ) (id : List ℕ) (v : A) (vs : List A) → same_octets id (name v) ≡ true → Some v ≡ first_named name id (v ∷ vs)
here name id v vs e = rw e refl

-- or has another
behind : {A : Type 0} (name : A → List ℕ) (id : List ℕ) (v : A) (vs : List A) → same_octets id (name v) ≡ false → first_named name id vs ≡ first_named name id (v ∷ vs)
behind name id v vs e = rw e refl

pub loop-next-init : goal.loop-next-init
loop-next-init g c = λ vs e. (vs, ap (λ (p : Spot). all_at (read g.T.Named.schema) (length p.rest) p) c.new-next.ensures ∙ e, refl)

pub returns-in-Err : goal.returns-in-Err
returns-in-Err g c = λ vs e.
    (let some : eqb (length c.loop-next.next.rest) 0 ≡ false = sym c.at_end.ensures ∙ c.loop-next-test.true in
    let w = c.loop-next.invariant vs e in
    absurd (member_fault g.T.Named.schema c.loop-next.next c.in-Err.field-0 w.0 some c.in-Err.ensures.0 w.1))

pub returns-then-same : goal.returns-then-same
returns-then-same g c = λ vs e.
    (let some : eqb (length c.loop-next.next.rest) 0 ≡ false = sym c.at_end.ensures ∙ c.loop-next-test.true in
    let w = c.loop-next.invariant vs e in
    let v : ValueOf g.T.Named.schema = g.T.Named.view c.in-Ok.member in
    let t = member_turn g.T.Named.schema c.loop-next.next (v, c.take.new.c) w.0 some c.in-Ok.ensures w.1 in
    let is : same_octets c.args.id.now (g.T.Named.name v) ≡ true = ap (same_octets c.args.id.now) (sym c.name.ensures) ∙ sym c.same.ensures ∙ c.if-same.true in
    here g.T.Named.name c.args.id.now v t.0 is ∙ ap (first_named g.T.Named.name c.args.id.now) t.2 ∙ w.2)

pub loop-next-smaller : goal.loop-next-smaller
loop-next-smaller g c =
    let x : ValueOf g.T.Named.schema × Spot = (g.T.Named.view c.in-Ok.member, c.take.new.c) in
    (moves g.T.Named.schema c.loop-next.next x c.in-Ok.ensures).less

pub loop-next-preserved : goal.loop-next-preserved
loop-next-preserved g c = λ vs e.
    (let some : eqb (length c.loop-next.next.rest) 0 ≡ false = sym c.at_end.ensures ∙ c.loop-next-test.true in
    let w = c.loop-next.invariant vs e in
    let v : ValueOf g.T.Named.schema = g.T.Named.view c.in-Ok.member in
    let t = member_turn g.T.Named.schema c.loop-next.next (v, c.take.new.c) w.0 some c.in-Ok.ensures w.1 in
    let other : same_octets c.args.id.now (g.T.Named.name v) ≡ false = ap (same_octets c.args.id.now) (sym c.name.ensures) ∙ sym c.same.ensures ∙ c.if-same.false in
    (t.0, t.1, behind g.T.Named.name c.args.id.now v t.0 other ∙ ap (first_named g.T.Named.name c.args.id.now) t.2 ∙ w.2))

pub returns : goal.returns
returns g c = λ vs e.
    (let none : eqb (length c.loop-next.next.rest) 0 ≡ true = sym c.at_end.ensures ∙ c.loop-next-test.false in
    let w = c.loop-next.invariant vs e in
    ap (first_named g.T.Named.name c.args.id.now) (member_none g.T.Named.schema c.loop-next.next w.0 none w.1) ∙ w.2)
