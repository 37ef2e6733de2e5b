-- The results of signers.
use Rattle.std.proofs.Common.{◌≡◌, ◌∙◌, ℕ, Bool, true, false, cond, Option, Some, None, List, refl, sym, ap, subst}
use Rattle.std.specs.Borrow.{Bor}
use Rattle.std.specs.Option.{option_copied}
use Rattle.std.specs.Prelude.{IfNone, IfSome, IsSome, slice_get}
use Rattle.std.proofs.lemmas.Option.{get_or_from_slice_get}
use Rattle.dv_schema.specs.Schema.{FieldsOf, ValueOf}
use Rattle.dv_names.specs.declared.digest.DigestKind.{DigestKind}
use Rattle.dv_cms.specs.Types.{signed_data, signer_info}
use Rattle.dv_x509.specs.Types.{certificate_fields}
use Rattle.dv_x509.specs.Uses.{usage_of}
use Rattle.dv_path.specs.declared.path.Path.{Path}
use Rattle.dv_path.specs.Anchors.{Anchored}
use Rattle.dv_path.specs.Members.{member, no_certificate}
use Rattle.dv_path.specs.Paths.{IsChosen, IsPath, Search, search_for}
use Rattle.dv_signed.specs.declared.fault.SignerFault.{SignerFault}
use Rattle.dv_signed.specs.declared.fault.SignerFault.TheVariants.{Algorithm, Attribute, Digest, Signature}
use Rattle.dv_signed.specs.Certificates.{signers_of}
use Rattle.dv_signed.specs.Check.{IsFault, Signed, early_fault, known_kind}
use Rattle.dv_svc_document.specs.declared.result.SignerResult.{SignerResult}
use Rattle.dv_svc_document.specs.Bags.{bag_of}
use Rattle.dv_svc_document.specs.Bits.{fault_bit, unnamed_bit}
use Rattle.dv_svc_document.specs.Named.{named_by}
use Rattle.dv_svc_document.specs.Results.{IsPathOf, IsResult, IsResultAt, IsResultWith, checked_with, failed, trust_failure}

-- ---- the algorithms of a signer, by its fault

-- another fault than of the algorithms
not_algorithm : (a b : Bool) → ◌≡◌ {A = Option SignerFault} (cond a (Some Attribute) (cond b (Some Digest) None)) (Some Algorithm) → ⊥
not_algorithm true b e = cc
not_algorithm false true e = cc
not_algorithm false false e = cc

-- one isn't known
unknown : (s : ValueOf signer_info) (x : Signed) → early_fault s x ≡ Some Algorithm → known_kind s ≡ None
unknown s x e = go (known_kind s) refl
  where
    go : (o : Option DigestKind) → known_kind s ≡ o → known_kind s ≡ None
    go None is = is
    go (Some kind) is = let h = rw is at e in absurd (not_algorithm _ _ h)

-- or both are
known : (s : ValueOf signer_info) (x : Signed) → (early_fault s x ≡ Some Algorithm → ⊥) → (kind : DigestKind) × (known_kind s ≡ Some kind)
known s x other = go (known_kind s) refl
  where
    go : (o : Option DigestKind) → known_kind s ≡ o → (kind : DigestKind) × (known_kind s ≡ Some kind)
    go None is = absurd (other (rw is refl))
    go (Some kind) is = (kind, is)

-- they are where the fault is another one
known_with : (s : ValueOf signer_info) (x : Signed) (fault : Option SignerFault) → early_fault s x ≡ fault → (fault ≡ Some Algorithm → ⊥) → (kind : DigestKind) × (known_kind s ≡ Some kind)
known_with s x fault e other = known s x (λ h. other (sym e ∙ h))

-- ---- the results

-- that of a signer that names no certificate
pub unnamed_result : (s : ValueOf signer_info) (document : ValueOf signed_data) (anchors : List Anchored) (when : ℕ) (x : Signed) (fault : Option SignerFault) (r : SignerResult) → IsFault s x fault → r ≡ failed (unnamed_bit fault) None
    → IsResultAt (known_kind s) None s document anchors when r
unnamed_result s document anchors when x None r f is = let k = known_with s x None f.0 (λ e. cc) in rw k.1 is
unnamed_result s document anchors when x (Some Algorithm) r f is = rw (unknown s x f) is
unnamed_result s document anchors when x (Some Attribute) r f is = let k = known_with s x (Some Attribute) f (λ e. cc) in rw k.1 is
unnamed_result s document anchors when x (Some Digest) r f is = let k = known_with s x (Some Digest) f (λ e. cc) in rw k.1 is
unnamed_result s document anchors when x (Some Signature) r f is = let k = known_with s x None f.0 (λ e. cc) in rw k.1 is

-- that of one with a fault
pub faulty_result : (s : ValueOf signer_info) (document : ValueOf signed_data) (anchors : List Anchored) (when position : ℕ) (fault : SignerFault) (r : SignerResult) → IsFault s (checked_with document position) (Some fault)
    → r ≡ failed (fault_bit fault) (Some position) → IsResultAt (known_kind s) (Some position) s document anchors when r
faulty_result s document anchors when position Algorithm r f is = rw (unknown s (checked_with document position) f) is
faulty_result s document anchors when position Attribute r f is = let k = known_with s (checked_with document position) (Some Attribute) f (λ e. cc) in rw k.1 (Some Attribute, f, is)
faulty_result s document anchors when position Digest r f is = let k = known_with s (checked_with document position) (Some Digest) f (λ e. cc) in rw k.1 (Some Digest, f, is)
faulty_result s document anchors when position Signature r f is = let k = known_with s (checked_with document position) None f.0 (λ e. cc) in rw k.1 (Some Signature, f, is)

-- that of one whose signature holds
pub good_result : (s : ValueOf signer_info) (document : ValueOf signed_data) (anchors : List Anchored) (when position : ℕ) (r : SignerResult) → IsFault s (checked_with document position) None → IsResultWith None document position anchors when r
    → IsResultAt (known_kind s) (Some position) s document anchors when r
good_result s document anchors when position r f is = let k = known_with s (checked_with document position) None f.0 (λ e. cc) in rw k.1 (None, f, is)

-- what is there
pub content_there : (o : Option (Bor (List ℕ))) → IsSome o → (octets : List ℕ) × (option_copied o ≡ Some octets)
content_there None some = absurd cc
content_there (Some octets) some = (octets.now, refl)

-- ---- the path

-- the path that was found, or none
path_found : (s : Search) (o : Option Path) → IfNone o ((path : List ℕ) → ¬ IsPath s path) → IfSome o (λ path. IsChosen s path.positions path.anchor) → IsPathOf s o
path_found s None none chosen = none
path_found s (Some path) none chosen = chosen

-- the result for a signer whose signature holds, from the path that was found
pub path_result : (document : ValueOf signed_data) (bag : List (FieldsOf certificate_fields)) (anchors : List Anchored) (when position : ℕ) (v : FieldsOf certificate_fields) (bit : Option ℕ) (o : Option Path) → bag ≡ bag_of document
    → slice_get bag position ≡ Some v → IfNone o ((path : List ℕ) → ¬ IsPath (search_for bag position anchors when None) path)
    → IfSome o (λ path. IsChosen (search_for bag position anchors when None) path.positions path.anchor) → bit ≡ trust_failure o (usage_of v)
    → IsResultWith None document position anchors when (record { bit = bit; certificate = Some position; path = o })
path_result document bag anchors when position v bit o same at none chosen is =
    let found = path_found (search_for bag position anchors when None) o none chosen in
    let there : member bag position ≡ v = get_or_from_slice_get bag position v no_certificate at in
    let usage : usage_of v ≡ usage_of (member (bag_of document) position) = ap usage_of (sym there ∙ ap (λ (b : List (FieldsOf certificate_fields)). member b position) same) in (
      subst (λ (b : List (FieldsOf certificate_fields)). IsPathOf (search_for b position anchors when None) o) same found,
      ap (λ (b : Option ℕ). record { bit = b; certificate = Some position; path = o }) (is ∙ ap (trust_failure o) usage),
    )

-- ---- the signer at an index

-- the result for it, from that for the signer that was read
pub signer_result : (document : ValueOf signed_data) (anchors : List Anchored) (when i : ℕ) (bag : List (FieldsOf certificate_fields)) (signer : ValueOf signer_info) (named : Option ℕ) (r : SignerResult) → bag ≡ bag_of document
    → slice_get (signers_of document) i ≡ Some signer → named ≡ named_by signer bag → IsResultAt (known_kind signer) named signer document anchors when r → (s : ValueOf signer_info) → slice_get (signers_of document) i ≡ Some s
    → IsResult document anchors when s r
signer_result document anchors when i bag signer named r same at is found s there =
    let one : signer ≡ s = cc (at, there) in
    let position : named ≡ named_by signer (bag_of document) = is ∙ ap (named_by signer) same in
    subst (λ (x : ValueOf signer_info). IsResult document anchors when x r) one (subst (λ (o : Option ℕ). IsResultAt (known_kind signer) o signer document anchors when r) position found)
