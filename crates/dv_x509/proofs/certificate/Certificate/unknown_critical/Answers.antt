use Rattle.std.proofs.Common.{◌≡◌, ◌∙◌, true, Bor, List, ℕ, Option, Some, ap, sym}
use Rattle.std.specs.List.{list_any}
use Rattle.std.specs.Option.{option_copied}
use Rattle.dv_names.specs.Types.{extension}
use Rattle.dv_x509.specs.Extensions.{are_read}
use Rattle.dv_x509.specs.Fields.{view_extensions}
use Rattle.dv_x509.specs.Members.{values_in}
use Rattle.dv_x509.specs.Uses.{extensions_in, is_unknown_critical}
use Rattle.dv_x509.proofs.ExtensionLists.{kept_extensions}
use Rattle.dv_x509.proofs.certificate.Certificate.unknown_critical.Goals as goal

pub returns-in-Some : goal.returns-in-Some
returns-in-Some c =
    let octets : Bor (List ℕ) = c.in-Some.octets in
    let kept : are_read (Some octets.now) ≡ true = ap (λ (e : Option (Bor (List ℕ))). are_read (option_copied e)) (sym c.in-Some.is) ∙ c.args.self.now.listed in
    c.any_unknown_critical.ensures (values_in extension octets.now) (kept_extensions octets.now kept)
    ∙ ap (λ (e : Option (Bor (List ℕ))). list_any is_unknown_critical (extensions_in (view_extensions e))) (sym c.in-Some.is)
