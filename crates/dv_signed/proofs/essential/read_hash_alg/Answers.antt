use Rattle.std.proofs.Common.{◌≡◌, ◌∙◌, true, false, Ok, Err, length, refl, sym, ap, arith}
use Rattle.std.proofs.lemmas.Result.{err_from_is_err_and}
use Rattle.dv_schema.specs.Octets.{same_octets}
use Rattle.dv_schema.specs.Schema.{ValueOf}
use Rattle.dv_schema.specs.Reading.{Spot, is_tag_of, read, starts_list, taken}
use Rattle.dv_schema.proofs.Moves.{moves}
use Rattle.dv_names.specs.Types.{algorithm_identifier}
use Rattle.dv_names.specs.Views.{view_algorithm}
use Rattle.dv_signed.specs.Essential.{sha256_octets}
use Rattle.dv_signed.proofs.CertificateIds.{other_value, refused_there, spelled_out}
use Rattle.dv_signed.proofs.essential.read_hash_alg.Goals as goal

pub returns-in_err-algorithm : goal.returns-in_err-algorithm
returns-in_err-algorithm c =
    let r = err_from_is_err_and c.from_residual.result c.from_residual.ensures.1 in
    let p : Spot = c.args.c.now in
    let there : starts_list (is_tag_of 48) p.rest ≡ true = sym c.next_is.ensures ∙ c.if-not-next_is.false in
    let e : read algorithm_identifier p ≡ Err c.in_err-algorithm.field-0.0 = ap (read algorithm_identifier) (sym c.fork-next.ensures.same) ∙ c.in_err-algorithm.ensures.0 in
    rw (r.1, r.2) (refused_there sha256_octets algorithm_identifier 48 p c.in_err-algorithm.field-0.0 there e, refl)

pub spells-requires : goal.spells-requires
spells-requires c =
    let x : ValueOf algorithm_identifier × Spot = (view_algorithm c.in_ok-algorithm.algorithm, c.read.new.c) in
    let m = moves algorithm_identifier c.fork-next.result x c.in_ok-algorithm.ensures in
    omega (arith, m.less, ap (λ (p : Spot). length p.rest) c.fork-next.ensures.same)

pub returns-then-spells : goal.returns-then-spells
returns-then-spells c =
    let p : Spot = c.args.c.now in
    let x : ValueOf algorithm_identifier × Spot = (view_algorithm c.in_ok-algorithm.algorithm, c.read.new.c) in
    let there : starts_list (is_tag_of 48) p.rest ≡ true = sym c.next_is.ensures ∙ c.if-not-next_is.false in
    let e : read algorithm_identifier p ≡ Ok x = ap (read algorithm_identifier) (sym c.fork-next.ensures.same) ∙ c.in_ok-algorithm.ensures in
    let is : same_octets (taken p c.read.new.c) sha256_octets ≡ true = sym c.spells.ensures ∙ c.if-spells.true in
    rw c.refusal.ensures (spelled_out sha256_octets algorithm_identifier 48 p x there e is, refl)

pub returns : goal.returns
returns c =
    let p : Spot = c.args.c.now in
    let x : ValueOf algorithm_identifier × Spot = (view_algorithm c.in_ok-algorithm.algorithm, c.read.new.c) in
    let there : starts_list (is_tag_of 48) p.rest ≡ true = sym c.next_is.ensures ∙ c.if-not-next_is.false in
    let e : read algorithm_identifier p ≡ Ok x = ap (read algorithm_identifier) (sym c.fork-next.ensures.same) ∙ c.in_ok-algorithm.ensures in
    let other : same_octets (taken p c.read.new.c) sha256_octets ≡ false = sym c.spells.ensures ∙ c.if-spells.false in
    other_value sha256_octets algorithm_identifier 48 p x there e other
