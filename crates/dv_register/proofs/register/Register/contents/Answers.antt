use Rattle.std.proofs.Common.{◌≡◌, ◌∙◌, ◌+◌, ◌≤◌, ℕ, List, refl, sym, ap, subst, arith, length, take, drop}
use Rattle.std.proofs.lemmas.List.Elements.{All-from_recursion, All-get_or}
use Rattle.std.proofs.lemmas.Option.{slice_get_read}
use Rattle.std.specs.Prelude.{slice_get, Some, IfOk, Result, Ok, Err}
use Rattle.dv_outside.specs.Releases.{Entry}
use Rattle.dv_register.specs.declared.place.Place.{Place}
use Rattle.dv_register.proofs.MemoryLemmas.{length-entries_of, entries_of-get}
use Rattle.dv_register.proofs.register.Register.contents.Goals as goal
use Rattle.dv_register.proofs.register.Register.contents.Goals.{in-Ok, in-Err}

pub index-place-requires : goal.index-place-requires
index-place-requires g c =
    omega (arith, c.requires, length-entries_of c.self.inside.places.items c.self.inside.octets.items, ap (λ s. length s.list) c.self.view_is)

pub part_of-requires : goal.part_of-requires
part_of-requires g c =
    let inside : c.index-place.result.now.from + c.index-place.result.now.len ≤ length c.self.inside.octets.items =
    subst (λ (p : Place). p.from + p.len ≤ length c.self.inside.octets.items) (sym c.index-place.ensures)
    (All-get_or (λ (p : Place). p.from + p.len ≤ length c.self.inside.octets.items) c.self.inside.places.items c.args.index c.index-place.result.now
    (omega (arith, c.requires, length-entries_of c.self.inside.places.items c.self.inside.octets.items, ap (λ s. length s.list) c.self.view_is))
    (All-from_recursion _ c.self.inside.places.items c.self.invariant.memory.within)) in
    omega (arith, inside, ap length c.deref.ensures.value)

-- what a result is, given how it came
given_ok : {T E : Type 0} (r : Result T E) (x : T) (P : T → Type 0) → r ≡ Ok x → P x → IfOk r P
given_ok (Ok y) x P is here = let same : y ≡ x = cc in subst P (sym same) here
given_ok (Err e) x P is here = absurd (cc)

given_err : {T E : Type 0} (r : Result T E) (e : E) (P : T → Type 0) → r ≡ Err e → IfOk r P
given_err (Ok y) e P is = absurd (cc)
given_err (Err e) e' P is = tt

pub returns-clause-record : goal.returns-clause-record
returns-clause-record g c =
    let places = c.self.inside.places.items in
    let octets = c.self.inside.octets.items in
    let place = c.index-place.result.now in
    let at_index : slice_get places c.args.index ≡ Some place =
    slice_get_read places (length places) c.args.index place refl
    (omega (arith, c.requires, length-entries_of places octets, ap (λ s. length s.list) c.self.view_is)) c.index-place.ensures in
    let found : slice_get c.args.self.now.list c.args.index ≡ Some (let e : Entry = record { kind = place.kind; contents = take place.len (drop place.from octets) } in e) =
    sym (ap (λ s. slice_get s.list c.args.index) c.self.view_is) ∙ entries_of-get places octets c.args.index place at_index in
    elim c.match-part_of.branch [
      | in-Ok w ↦
          given_ok c.match-part_of.result (place.kind, w.in-Ok.contents) _ w.result-is
          (found ∙ ap (λ (l : List ℕ). Some (let e : Entry = record { kind = place.kind; contents = l } in e))
          (ap (λ (l : List ℕ). take place.len (drop place.from l)) (sym c.deref.ensures.value) ∙ sym w.in-Ok.ensures))
      | in-Err w ↦ given_err c.match-part_of.result _ _ w.result-is
    ]
