-- The results of signers fit their documents, and so do the entries from them.
use Rattle.std.proofs.Common.{◌≡◌, ◌≤◌, ◌<◌, ◌+◌, ◌*◌, ◌++◌, ◌∷◌, ◌∙◌, ℕ, zero, suc, Bool, true, false, cond, Option, Some, None, List, [], drop, get_or, length, map, refl, sym, ap, subst, arith}
use Rattle.std.specs.Prelude.{All, sum_by}
use Rattle.std.specs.List.{AllByRecursion}
use Rattle.std.specs.Option.{ForSome}
use Rattle.std.proofs.lemmas.List.{length-map}
use Rattle.std.proofs.lemmas.List.Quantifiers.{position-Some}
use Rattle.dv_schema.specs.Schema.{FieldsOf, ValueOf}
use Rattle.dv_names.specs.declared.digest.DigestKind.{DigestKind}
use Rattle.dv_cms.specs.Types.{signed_data, signer_info}
use Rattle.dv_x509.specs.Types.{certificate_fields}
use Rattle.dv_x509.specs.Uses.{usage_of}
use Rattle.dv_path.specs.declared.path.Path.{Path}
use Rattle.dv_path.specs.Anchors.{Anchored}
use Rattle.dv_path.specs.Members.{member, member_of, no_certificate}
use Rattle.dv_signed.specs.declared.fault.SignerFault.{SignerFault}
use Rattle.dv_signed.specs.Certificates.{certificates_of}
use Rattle.dv_signed.specs.Check.{known_kind}
use Rattle.dv_svc_document.specs.declared.result.SignerResult.{SignerResult}
use Rattle.dv_svc_document.specs.Bags.{bag_of}
use Rattle.dv_svc_document.specs.Entries.{positions_of}
use Rattle.dv_svc_document.specs.Kept.{IsFit}
use Rattle.dv_svc_document.specs.Named.{is_named_by, named_by}
use Rattle.dv_svc_document.specs.Results.{IsPathOf, IsResult, IsResultAt, IsResultWith, failed, may_sign, search_from, trust_failure}

-- a result without a path
failed_fits : (n bit : ℕ) (o : Option ℕ) → bit ≤ 26 → ForSome o (λ position. position < n) → IsFit n (failed bit o)
failed_fits n bit o le within = record {
  bit = λ b e. (let same : bit ≡ b = cc in subst (λ k. k ≤ 26) same le);
  certificate = within;
  members = λ k d lt. absurd (omega arith);
  short = omega arith;
}

-- the position of the certificate that is named
named_within : (document : ValueOf signed_data) (s : ValueOf signer_info) (o : Option ℕ) → named_by s (bag_of document) ≡ o → ForSome o (λ position. position < length (certificates_of document))
named_within document s o named position e =
    let there = position-Some (is_named_by s) (bag_of document) position no_certificate (named ∙ e) in
    omega (arith, there.0, length-map (certificates_of document) (member_of 48))

-- the failure bit of a signer whose signature holds
trust_fits : (o : Option Path) (usage : Option ℕ) → ForSome (trust_failure o usage) (λ b. b ≤ 26)
trust_fits None usage b e = let same : 20 ≡ b = cc in omega (arith, same)
trust_fits (Some path) usage b e = go (may_sign usage) e
  where
    go : (may : Bool) → cond may None (Some 20) ≡ Some b → b ≤ 26
    go true is = absurd cc
    go false is = let same : 20 ≡ b = cc in omega (arith, same)

-- the positions of its path
path_members : (document : ValueOf signed_data) (position : ℕ) (anchors : List Anchored) (when : ℕ) (o : Option Path) → IsPathOf (search_from document position anchors when) o
    → All (λ p. p < length (certificates_of document)) (positions_of o) × (length (positions_of o) ≤ 6)
path_members document position anchors when None is = (λ k d lt. absurd (omega arith), omega arith)
path_members document position anchors when (Some path) is =
    let size = length-map (certificates_of document) (member_of 48) in
    (λ k d lt. omega (arith, is.is.members k d lt, size), is.is.short)

with_fits : (fault : Option SignerFault) (document : ValueOf signed_data) (position : ℕ) (anchors : List Anchored) (when : ℕ) (r : SignerResult) → position < length (certificates_of document)
    → IsResultWith fault document position anchors when r → IsFit (length (certificates_of document)) r
with_fits (Some fault) document position anchors when r within is =
    subst (IsFit (length (certificates_of document))) (sym is)
    (failed_fits (length (certificates_of document)) 1 (Some position) (omega arith) (λ p e. (let same : position ≡ p = cc in subst (λ k. k < length (certificates_of document)) same within)))
with_fits None document position anchors when r within is =
    let n : ℕ = length (certificates_of document) in
    let path = path_members document position anchors when r.path is.0 in
    subst (IsFit n) (sym is.1) (record {
      bit = trust_fits r.path (usage_of (member (bag_of document) position));
      certificate = λ p e. (let same : position ≡ p = cc in subst (λ k. k < n) same within);
      members = path.0;
      short = path.1;
    })

at_fits : (kind : Option DigestKind) (o : Option ℕ) (document : ValueOf signed_data) (s : ValueOf signer_info) (anchors : List Anchored) (when : ℕ) (r : SignerResult) → ForSome o (λ position. position < length (certificates_of document))
    → IsResultAt kind o s document anchors when r → IsFit (length (certificates_of document)) r
at_fits None o document s anchors when r within is = subst (IsFit (length (certificates_of document))) (sym is) (failed_fits (length (certificates_of document)) 0 o (omega arith) within)
at_fits (Some kind) None document s anchors when r within is = subst (IsFit (length (certificates_of document))) (sym is) (failed_fits (length (certificates_of document)) 20 None (omega arith) within)
at_fits (Some kind) (Some position) document s anchors when r within is = with_fits is.0 document position anchors when r (within position refl) is.2

-- so a result fits
pub result_fits : (document : ValueOf signed_data) (anchors : List Anchored) (when : ℕ) (s : ValueOf signer_info) (r : SignerResult) → IsResult document anchors when s r → IsFit (length (certificates_of document)) r
result_fits document anchors when s r is =
    at_fits (known_kind s) (named_by s (bag_of document)) document s anchors when r (named_within document s (named_by s (bag_of document)) refl) is
