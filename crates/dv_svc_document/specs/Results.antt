-- What is found of a signer of a document (RFC 3029 2.3) at a moment, where the certificates of the document are the bag.
use Rattle.std.specs.Prelude.{◌≡◌, ℕ, Bool, true, ◌||◌, ◌==◌, ◌/◌, ◌%◌, ◌^◌, List, [], length, slice_index_or, unwrap_or, Option, Some, None, All, if◌then◌else◌}
use Rattle.std.specs.List.{zip}
use Rattle.dv_schema.specs.Schema.{ValueOf}
use Rattle.dv_names.specs.declared.digest.DigestKind.{DigestKind}
use Rattle.dv_cms.specs.Types.{signed_data, signer_info}
use Rattle.dv_x509.specs.Uses.{key_of, usage_of}
use Rattle.dv_path.specs.declared.path.Path.{Path}
use Rattle.dv_path.specs.Anchors.{Anchored}
use Rattle.dv_path.specs.Members.{member}
use Rattle.dv_path.specs.Paths.{IsChosen, IsPath, Search, search_for}
use Rattle.dv_signed.specs.declared.fault.SignerFault.{SignerFault}
use Rattle.dv_signed.specs.Certificates.{certificates_of}
use Rattle.dv_signed.specs.Check.{IsFault, Signed, known_kind}
use Rattle.dv_signed.specs.Fields.{content_of, content_type_of}
use Rattle.dv_svc_document.specs.declared.result.SignerResult.{SignerResult}
use Rattle.dv_svc_document.specs.Bags.{bag_of}
use Rattle.dv_svc_document.specs.Named.{named_by}

-- the whole octets of the certificate at a position, under tag 30
abbrev pub certificate_at : ValueOf signed_data → ℕ → List ℕ
certificate_at document position = slice_index_or (certificates_of document) position []

-- what a signer of the document is checked against, as the holder of that certificate
abbrev pub checked_with : ValueOf signed_data → ℕ → Signed
checked_with document position = record {
  type = content_type_of document;
  content = unwrap_or (content_of document) [];
  certificate = certificate_at document position;
  key = key_of (member (bag_of document) position);
}

-- ---- trust

-- the search for a path from that certificate to an anchor at a moment, with no demand on its policies
abbrev pub search_from : ValueOf signed_data → ℕ → List Anchored → ℕ → Search
search_from document position anchors when = search_for (bag_of document) position anchors when None

-- it is the chosen path; there is none exactly where no list is a path
abbrev pub IsPathOf : Search → Option Path → Type 0
IsPathOf s None = (path : List ℕ) → ¬ IsPath s path
IsPathOf s (Some path) = IsChosen s path.positions path.anchor

-- this bit of keyUsage (RFC 5280 4.2.1.3) is set, of which bit i has the worth 2^i
abbrev pub has_bit : ℕ → ℕ → Bool
has_bit i usage = usage / 2 ^ i % 2 == 1

-- the key may sign documents: keyUsage is absent, or has digitalSignature, bit 0, or nonRepudiation, bit 1
abbrev pub may_sign : Option ℕ → Bool
may_sign None = true
may_sign (Some usage) = has_bit 0 usage || has_bit 1 usage

-- the failure bit (RFC 4210 5.2.3) of a signer whose signature holds: signerNotTrusted, 20, where there is no path or the key may not sign
-- documents
abbrev pub trust_failure : Option Path → Option ℕ → Option ℕ
trust_failure None usage = Some 20
trust_failure (Some path) usage = if may_sign usage then None else Some 20

-- ---- the result

-- a result with a failure bit, and without a path
abbrev pub failed : ℕ → Option ℕ → SignerResult
failed bit certificate = record { bit = Some bit; certificate = certificate; path = None }

-- The result for a signer that names the certificate at this position, by its fault: badMessageCheck, 1, where it has one, and else what its
-- path and the usage of its key say.
abbrev pub IsResultWith : Option SignerFault → ValueOf signed_data → ℕ → List Anchored → ℕ → SignerResult → Type 0
IsResultWith (Some fault) document position anchors when r = r ≡ failed 1 (Some position)
IsResultWith None document position anchors when r = IsPathOf (search_from document position anchors when) r.path
    × (r ≡ record { bit = trust_failure r.path (usage_of (member (bag_of document) position)); certificate = Some position; path = r.path })

-- The same by whether its algorithms are known, and by the certificate that it names: badAlg, 0, where they aren't, and else
-- signerNotTrusted, 20, where it names none.
abbrev pub IsResultAt : Option DigestKind → Option ℕ → ValueOf signer_info → ValueOf signed_data → List Anchored → ℕ → SignerResult → Type 0
IsResultAt None named s document anchors when r = r ≡ failed 0 named
IsResultAt (Some kind) None s document anchors when r = r ≡ failed 20 None
IsResultAt (Some kind) (Some position) s document anchors when r =
    (fault : Option SignerFault) × IsFault s (checked_with document position) fault × IsResultWith fault document position anchors when r

-- it is the result for this signer of the document
abbrev pub IsResult : ValueOf signed_data → List Anchored → ℕ → ValueOf signer_info → SignerResult → Type 0
IsResult document anchors when s r = IsResultAt (known_kind s) (named_by s (bag_of document)) s document anchors when r

-- each of these signers of the document has its result, in order
pub record HaveResults (document : ValueOf signed_data) (anchors : List Anchored) (when : ℕ) (signers : List (ValueOf signer_info)) (results : List SignerResult) : Type 0 where
  pub one_each : length results ≡ length signers
  pub right : All (λ x. IsResult document anchors when x.0 x.1) (zip signers results)
