use Rattle.std.proofs.Common.{◌≡◌, ◌∙◌, true, Bor, List, ℕ, Option, Some, None, ap, sym}
use Rattle.std.specs.Option.{option_copied}
use Rattle.dv_names.specs.Types.{extension}
use Rattle.dv_x509.specs.Extensions.{are_read}
use Rattle.dv_x509.specs.Members.{values_in}
use Rattle.dv_x509.proofs.ExtensionLists.{kept_extensions, value_found}
use Rattle.dv_x509.proofs.certificate.Certificate.value.Goals as goal

pub returns-in-None-find : goal.returns-in-None-find
returns-in-None-find c =
    let octets : Bor (List ℕ) = c.in-Some.octets in
    let kept : are_read (Some octets.now) ≡ true = ap (λ (e : Option (Bor (List ℕ))). are_read (option_copied e)) (sym c.in-Some.is) ∙ c.args.self.now.listed in
    value_found c.args.self.now.extensions octets c.args.id.now None c.in-Some.is (c.in-None-find.ensures (values_in extension octets.now) (kept_extensions octets.now kept))

pub returns-in-Some-find : goal.returns-in-Some-find
returns-in-Some-find c =
    let octets : Bor (List ℕ) = c.in-Some.octets in
    let kept : are_read (Some octets.now) ≡ true = ap (λ (e : Option (Bor (List ℕ))). are_read (option_copied e)) (sym c.in-Some.is) ∙ c.args.self.now.listed in
    value_found c.args.self.now.extensions octets c.args.id.now (Some c.in-Some-find.extension) c.in-Some.is (c.in-Some-find.ensures (values_in extension octets.now) (kept_extensions octets.now kept))
