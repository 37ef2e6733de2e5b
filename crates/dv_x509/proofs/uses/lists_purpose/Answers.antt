use Rattle.std.proofs.Common.{◌≡◌, ◌∙◌, List, ℕ, Ok, Err, [], ap, refl, sym, subst}
use Rattle.dv_schema.specs.Octets.{IsBytes}
use Rattle.dv_schema.specs.Reading.{Spot, read}
use Rattle.dv_schema.specs.Types.{oid}
use Rattle.dv_names.specs.Views.{view_oid}
use Rattle.dv_x509.specs.Members.{front_of, values_in}
use Rattle.dv_x509.specs.Types.{purposes}
use Rattle.dv_x509.specs.Uses.{is_named, read_or}
use Rattle.dv_x509.proofs.UseLemmas.{found_named, list_again, none_in}
use Rattle.dv_x509.proofs.uses.lists_purpose.Goals as goal

pub returns-in-Err : goal.returns-in-Err
returns-in-Err c =
    let e : read purposes (front_of c.args.value.now) ≡ Err c.in-Err.field-0 = ap (read purposes) (sym c.new-next.ensures) ∙ c.in-Err.ensures.0 in
    sym (ap (λ r. is_named (λ v. v) c.args.purpose.now (values_in oid (read_or [] r))) e ∙ ap (is_named (λ v. v) c.args.purpose.now) (none_in oid))

pub returns-in-Ok : goal.returns-in-Ok
returns-in-Ok c =
    let octets : List ℕ = c.in-Ok.purposes.now in
    let e : read purposes (front_of c.args.value.now) ≡ Ok (octets, c.read_list.new.c) = ap (read purposes) (sym c.new-next.ensures) ∙ c.in-Ok.ensures in
    let bytes : IsBytes c.args.value.now = subst (λ (p : Spot). IsBytes p.rest) c.new-next.ensures c.fork-octets.ensures.octets in
    let found = c.find.ensures (values_in oid octets) (list_again oid c.args.value.now octets c.read_list.new.c refl bytes e) in
    c.is_some.ensures ∙ found_named view_oid (λ v. v) c.args.purpose.now c.find.result (values_in oid octets) found ∙ sym (ap (λ r. is_named (λ v. v) c.args.purpose.now (values_in oid (read_or [] r))) e)
