use Rattle.std.proofs.Common.{◌≡◌, ◌∙◌, inl, inr, false, List, ℕ, refl, sym, ap}
use Rattle.std.proofs.lemmas.Bool.{cases_Bool}
use Rattle.std.proofs.lemmas.Str.{IsUtf8-from_is_utf8, is_utf8-from_IsUtf8}
use Rattle.std.specs.Str.{is_utf8}
use Rattle.std.specs.Prelude.{Ok, Err}
use Rattle.dv_schema.specs.declared.refusal.Der.{Der}
use Rattle.dv_schema.specs.Rules.{any_octets}
use Rattle.dv_schema.specs.Reading.{Spot}
use Rattle.dv_schema.specs.Types.{primitive}
use Rattle.dv_draft.proofs.Primitives.{tested_value, tested_fault}
use Rattle.dv_draft.proofs.Suches.{read_there}
use Rattle.dv_draft.proofs.own_reading.read_name.Goals as goal

pub returns-in-Err-clause-exact : goal.returns-in-Err-clause-exact
returns-in-Err-clause-exact c =
    let x : List ℕ × Spot = (c.in_ok-name.name.now, c.read_tlv.new.self) in
    let bad : is_utf8 c.in_ok-name.name.now ≡ false =
    elim (cases_Bool (is_utf8 c.in_ok-name.name.now)) [
      | inl t ↦ absurd (c.in-Err.ensures.cases.0 (IsUtf8-from_is_utf8 _ t))
      | inr f ↦ f
    ] in
    let e = read_there (primitive 12 any_octets) c.fork-next.result c.args.c.now (Ok x) c.fork-next.ensures.same c.in_ok-name.ensures in
    (tested_fault 12 is_utf8 c.args.c.now x e bad ∙ ap (λ (d : Der). Err d) (sym c.refusal.ensures), refl)

pub returns-in-Ok-clause-exact : goal.returns-in-Ok-clause-exact
returns-in-Ok-clause-exact c =
    let x : List ℕ × Spot = (c.in_ok-name.name.now, c.read_tlv.new.self) in
    let e = read_there (primitive 12 any_octets) c.fork-next.result c.args.c.now (Ok x) c.fork-next.ensures.same c.in_ok-name.ensures in
    tested_value 12 is_utf8 c.args.c.now x e (is_utf8-from_IsUtf8 _ c.in-Ok.ensures.cases.1)
