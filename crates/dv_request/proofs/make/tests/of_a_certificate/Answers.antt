use Rattle.std.proofs.Common.{◌≡◌, ◌≢◌, ◌/◌, ◌%◌, ℕ, List, [], ◌∷◌, inl, inr, refl, sym, subst, arith}
use Rattle.std.specs.Prelude.{All}
use Rattle.std.proofs.lemmas.List.Elements.{All-cons, All-nil}
use Rattle.dv_request.specs.Materials.{IsCertificate}
use Rattle.dv_request.proofs.make.tests.of_a_certificate.Goals as goal

-- a SEQUENCE of one NULL
octets : List ℕ
octets = 48 ∷ 2 ∷ 5 ∷ 0 ∷ []

certificate : IsCertificate octets
unfolding octets
certificate =
    let sequence : 48 % 32 ≢ 31 = λ e. omega arith in
    let null : 5 % 32 ≢ 31 = λ e. omega arith in
    let primitive : 5 / 32 % 2 ≢ 1 = λ e. omega arith in
    ((48, 5 ∷ 0 ∷ [], refl, sequence, refl, omega arith, inr (refl, (5 ∷ 0 ∷ []) ∷ [], refl, ((5, [], refl, null, refl, omega arith, inl (primitive, refl)), tt))), refl)

pub make_request-requires-clause-certificates : goal.make_request-requires-clause-certificates
unfolding octets
make_request-requires-clause-certificates g c =
    let one : All IsCertificate (octets ∷ []) = All-cons IsCertificate octets [] certificate (All-nil IsCertificate) in
    (omega arith, omega arith, subst (λ (o : List ℕ). All IsCertificate (o ∷ [])) (sym c.in_ok-from_array.ensures.items) one)
