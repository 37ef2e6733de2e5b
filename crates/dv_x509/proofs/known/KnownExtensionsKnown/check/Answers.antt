use Rattle.std.proofs.Common.{◌-◌, ◌∙◌, ℕ, List, Option, Ok, Err, sym, ap, subst}
use Rattle.std.proofs.lemmas.Result.{err_from_is_err_and}
use Rattle.dv_schema.specs.declared.refusal.Der.{Der}
use Rattle.dv_schema.specs.Rules.{flag_octets}
use Rattle.dv_schema.specs.Types.{oid}
use Rattle.dv_schema.specs.Reading.{Spot, Item, read, within}
use Rattle.dv_schema.specs.Answers.{Gives}
use Rattle.dv_x509.proofs.KnownContents.{IsRead, known_fault, known_here, known_value}
use Rattle.dv_x509.proofs.known.KnownExtensionsKnown.check.Goals as goal

pub returns-in_err-check_contents : goal.returns-in_err-check_contents
returns-in_err-check_contents c =
    let e = err_from_is_err_and c.from_residual-in_err-check_contents.result c.from_residual-in_err-check_contents.ensures.1 in
    let d : Der = c.in_err-check_contents.field-0.0 in
    let id : List ℕ = c.in_ok-oid.oid.now in
    let q : Spot = c.read_oid.new.self in
    let critical : Option (List ℕ) = flag_octets c.in_ok-read_flag.field-0 in
    let r : Spot = c.read_flag.new.self in
    let j : Item = record { tag = 4; inside = record { levels = r.levels - 1; place = c.in_ok-contents.contents.place; rest = c.in_ok-contents.contents.rest }; after = c.enter_string.new.self } in
    let steps : IsRead c.args.fields.now id q critical r j = record { identifier = ap (read oid) (sym c.fork-next.ensures.same) ∙ c.in_ok-oid.ensures; flagged = c.in_ok-read_flag.ensures; value = c.in_ok-contents.ensures.0 } in
    let k = known_here id c.known_place.result c.place-place.result r.place c.in_ok-contents.contents (within j) (Err d) c.known_place.ensures c.place-place.ensures c.in_ok-contents.ensures.1 c.in_err-check_contents.ensures in
    rw (e.1, e.2) (known_fault c.args._place c.args.fields.now id q critical r j d steps k)

pub returns : goal.returns
returns c =
    let id : List ℕ = c.in_ok-oid.oid.now in
    let q : Spot = c.read_oid.new.self in
    let critical : Option (List ℕ) = flag_octets c.in_ok-read_flag.field-0 in
    let r : Spot = c.read_flag.new.self in
    let j : Item = record { tag = 4; inside = record { levels = r.levels - 1; place = c.in_ok-contents.contents.place; rest = c.in_ok-contents.contents.rest }; after = c.enter_string.new.self } in
    let steps : IsRead c.args.fields.now id q critical r j = record { identifier = ap (read oid) (sym c.fork-next.ensures.same) ∙ c.in_ok-oid.ensures; flagged = c.in_ok-read_flag.ensures; value = c.in_ok-contents.ensures.0 } in
    let k = known_here id c.known_place.result c.place-place.result r.place c.in_ok-contents.contents (within j) (Ok tt) c.known_place.ensures c.place-place.ensures c.in_ok-contents.ensures.1 c.in_ok-check_contents.ensures in
    subst (Gives (λ x. x) c.finish.result) (sym (known_value c.args._place c.args.fields.now id q critical r j steps k)) c.finish.ensures
