use Rattle.std.proofs.Common.{◌≡◌, ◌≢◌, ◌-◌, ◌∙◌, ◌∷◌, ℕ, zero, suc, Some, List, length, ap, sym, subst, refl, arith}
use Rattle.std.specs.Prelude.{slice_get}
use Rattle.dv_signed.specs.Certificates.{AreLeft, certificates_in}
use Rattle.dv_signed.proofs.CertificateLemmas.{all_left}
use Rattle.dv_signed.proofs.certificates.certificate_at.Goals as goal

-- the item at index 0
first : {A : Type 0} (n : ℕ) (x : A) (xs : List A) → n ≡ 0 → slice_get (x ∷ xs) n ≡ Some x
first zero x xs e = refl
first (suc n) x xs e = absurd (omega arith)

-- the item at a later index
later : {A : Type 0} (n : ℕ) (x : A) (xs : List A) → n ≢ 0 → slice_get xs (n - 1) ≡ slice_get (x ∷ xs) n
later zero x xs ne = absurd (ne refl)
later (suc n) x xs ne = let e : suc n - 1 ≡ n = omega arith in ap (slice_get xs) e

pub loop-certificate-init : goal.loop-certificate-init
loop-certificate-init c =
    let all = certificates_in (Some c.args.set.now) in
    (all, subst (AreLeft all) (sym c.new-next.ensures) (all_left c.args.set.now c.requires), refl, refl)

pub returns-then-left-eq0 : goal.returns-then-left-eq0
returns-then-left-eq0 c =
    let left = c.loop-certificate.invariant in
    let one = c.in-Some.ensures.certificate left.0 left.1 in
    sym left.2 ∙ ap (λ (l : List (List ℕ)). slice_get l c.loop-certificate.left) one.1 ∙ first c.loop-certificate.left c.in-Some.certificate.now one.0 c.if-left-eq0.true

pub loop-certificate-preserved : goal.loop-certificate-preserved
loop-certificate-preserved c =
    let left = c.loop-certificate.invariant in
    let one = c.in-Some.ensures.certificate left.0 left.1 in
    (one.0, one.2, later c.loop-certificate.left c.in-Some.certificate.now one.0 c.if-left-eq0.false ∙ ap (λ (l : List (List ℕ)). slice_get l c.loop-certificate.left) (sym one.1) ∙ left.2, omega (arith, ap length one.1, left.3, c.if-left-eq0.false))

pub returns : goal.returns
returns c =
    let left = c.loop-certificate.invariant in
    let none = c.in_default.ensures.certificate left.0 left.1 in
    omega (arith, ap length none, left.3)
