use Rattle.std.proofs.Common.{◌≡◌, ◌∙◌, ℕ, Some, List, sym, ap, subst}
use Rattle.std.specs.Option.{option_copied}
use Rattle.dv_schema.specs.Schema.{ValueOf}
use Rattle.dv_schema.specs.Reading.{Spot}
use Rattle.dv_cms.specs.Types.{signer_info}
use Rattle.dv_signed.specs.Attributes.{AreAttributes, attributes_in}
use Rattle.dv_signed.specs.Check.{Signed}
use Rattle.dv_signed.specs.Fields.{signed_attributes_of}
use Rattle.dv_signed.specs.SignerView.{view_signer}
use Rattle.dv_signed.proofs.SignerAttributes.{attributes_are, no_fault, not_digest, not_right}
use Rattle.dv_signed.proofs.check.fault_with.Goals as goal

pub returns-then-not-are_right : goal.returns-then-not-are_right
returns-then-not-are_right c = λ key.
    (let s : ValueOf signer_info = view_signer c.args.signer.now in
    let octets : List ℕ = c.in-Some.octets.now in
    let x : Signed = record { type = c.args.content_type.now; content = c.args.content.now; certificate = c.args.certificate.now; key = key } in
    let is : signed_attributes_of s ≡ Some octets = ap option_copied c.in-Some.is in
    let all = subst (λ (p : Spot). AreAttributes p (attributes_in octets)) (sym c.new-attributes.ensures) (attributes_are s octets c.args.signer.now.spelled is) in
    not_right c.args.kind s x octets is (sym (c.are_right.ensures (attributes_in octets) all) ∙ c.if-not-are_right.true))

pub returns-then-not-has_digest : goal.returns-then-not-has_digest
returns-then-not-has_digest c = λ key.
    (let s : ValueOf signer_info = view_signer c.args.signer.now in
    let octets : List ℕ = c.in-Some.octets.now in
    let x : Signed = record { type = c.args.content_type.now; content = c.args.content.now; certificate = c.args.certificate.now; key = key } in
    let is : signed_attributes_of s ≡ Some octets = ap option_copied c.in-Some.is in
    let all = subst (λ (p : Spot). AreAttributes p (attributes_in octets)) (sym c.new-attributes.ensures) (attributes_are s octets c.args.signer.now.spelled is) in
    not_digest c.args.kind s x octets is (sym (c.are_right.ensures (attributes_in octets) all) ∙ c.if-not-are_right.false) (sym (c.has_digest.ensures (attributes_in octets) all) ∙ c.if-not-has_digest.true))

pub returns-else-not-has_digest : goal.returns-else-not-has_digest
returns-else-not-has_digest c = λ key.
    (let s : ValueOf signer_info = view_signer c.args.signer.now in
    let octets : List ℕ = c.in-Some.octets.now in
    let x : Signed = record { type = c.args.content_type.now; content = c.args.content.now; certificate = c.args.certificate.now; key = key } in
    let is : signed_attributes_of s ≡ Some octets = ap option_copied c.in-Some.is in
    let all = subst (λ (p : Spot). AreAttributes p (attributes_in octets)) (sym c.new-attributes.ensures) (attributes_are s octets c.args.signer.now.spelled is) in
    no_fault c.args.kind s x octets is (sym (c.are_right.ensures (attributes_in octets) all) ∙ c.if-not-are_right.false) (sym (c.has_digest.ensures (attributes_in octets) all) ∙ c.if-not-has_digest.false))
