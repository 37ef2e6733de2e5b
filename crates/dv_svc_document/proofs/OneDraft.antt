-- A signer has one result at most, and a request one draft.
use Rattle.std.proofs.Common.{◌≡◌, ◌∙◌, ℕ, zero, suc, Option, Some, None, List, [], ◌∷◌, length, refl, sym, ap, ap₂, subst, arith}
use Rattle.std.specs.Prelude.{All}
use Rattle.std.specs.List.{zip}
use Rattle.dv_schema.specs.Schema.{ValueOf}
use Rattle.dv_names.specs.declared.digest.DigestKind.{DigestKind}
use Rattle.dv_cms.specs.Types.{signed_data, signer_info}
use Rattle.dv_request.specs.Types.{dvcs_request}
use Rattle.dv_x509.specs.Uses.{usage_of}
use Rattle.dv_draft.specs.Types.{draft}
use Rattle.dv_path.specs.declared.path.Path.{Path}
use Rattle.dv_path.specs.Anchors.{Anchored}
use Rattle.dv_path.specs.Members.{member}
use Rattle.dv_path.specs.Paths.{Search}
use Rattle.dv_path.proofs.OnePath.{one_path}
use Rattle.dv_parts.specs.Drafts.{draft_with, imprint_by_server}
use Rattle.dv_parts.specs.Moments.{time_of}
use Rattle.dv_parts.proofs.MomentLemmas.{one_when}
use Rattle.dv_signed.specs.declared.fault.SignerFault.{SignerFault}
use Rattle.dv_signed.specs.Certificates.{signers_of}
use Rattle.dv_signed.specs.Check.{known_kind}
use Rattle.dv_signed.proofs.OneFault.{one_fault}
use Rattle.dv_svc_document.specs.declared.result.SignerResult.{SignerResult}
use Rattle.dv_svc_document.specs.Bags.{bag_of}
use Rattle.dv_svc_document.specs.Documents.{IsReadAs}
use Rattle.dv_svc_document.specs.Drafts.{AreResults, IsVsd, entries_in, status_in}
use Rattle.dv_svc_document.specs.Named.{named_by}
use Rattle.dv_svc_document.specs.Results.{HaveResults, IsPathOf, IsResult, IsResultAt, IsResultWith, checked_with, search_from, trust_failure}
use Rattle.dv_svc_document.proofs.FoundLemmas.{same_read}

-- ---- a signer

-- the path is one
same_path : (s : Search) (a b : Option Path) → IsPathOf s a → IsPathOf s b → a ≡ b
same_path s None None p q = refl
same_path s None (Some b) p q = absurd (p b.positions q.is)
same_path s (Some a) None p q = absurd (q a.positions p.is)
same_path s (Some a) (Some b) p q =
    let same = one_path s a.positions b.positions a.anchor b.anchor p q in
    ap₂ (λ (positions : List ℕ) (anchor : ℕ). Some (record { positions = positions; anchor = anchor })) same.0 same.1

-- so is the result by its fault
one_with : (fault : Option SignerFault) (document : ValueOf signed_data) (position : ℕ) (anchors : List Anchored) (when : ℕ) (a b : SignerResult) → IsResultWith fault document position anchors when a → IsResultWith fault document position anchors when b → a ≡ b
one_with (Some fault) document position anchors when a b p q = p ∙ sym q
one_with None document position anchors when a b p q =
    let usage : Option ℕ = usage_of (member (bag_of document) position) in
    let make : Option Path → SignerResult = λ o. record { bit = trust_failure o usage; certificate = Some position; path = o } in
    p.1 ∙ (ap make (same_path (search_from document position anchors when) a.path b.path p.0 q.0) ∙ sym q.1)

one_at : (kind : Option DigestKind) (named : Option ℕ) (s : ValueOf signer_info) (document : ValueOf signed_data) (anchors : List Anchored) (when : ℕ) (a b : SignerResult) → IsResultAt kind named s document anchors when a
    → IsResultAt kind named s document anchors when b → a ≡ b
one_at None named s document anchors when a b p q = p ∙ sym q
one_at (Some kind) None s document anchors when a b p q = p ∙ sym q
one_at (Some kind) (Some position) s document anchors when a b p q =
    let same = one_fault s (checked_with document position) q.0 p.0 q.1 p.1 in
    one_with p.0 document position anchors when a b p.2 (subst (λ (f : Option SignerFault). IsResultWith f document position anchors when b) same q.2)

pub one_result : (document : ValueOf signed_data) (anchors : List Anchored) (when : ℕ) (s : ValueOf signer_info) (a b : SignerResult) → IsResult document anchors when s a → IsResult document anchors when s b → a ≡ b
one_result document anchors when s a b p q = one_at (known_kind s) (named_by s (bag_of document)) s document anchors when a b p q

-- ---- all signers

each_one : (document : ValueOf signed_data) (anchors : List Anchored) (when : ℕ) (ss : List (ValueOf signer_info)) (xs ys : List SignerResult) → length xs ≡ length ss → length ys ≡ length ss
    → All (λ x. IsResult document anchors when x.0 x.1) (zip ss xs) → All (λ x. IsResult document anchors when x.0 x.1) (zip ss ys) → xs ≡ ys
each_one document anchors when [] [] [] m n p q = refl
each_one document anchors when [] [] (y ∷ ys) m n p q = absurd (omega arith)
each_one document anchors when [] (x ∷ xs) ys m n p q = absurd (omega arith)
each_one document anchors when (s ∷ ss) [] ys m n p q = absurd (omega arith)
each_one document anchors when (s ∷ ss) (x ∷ xs) [] m n p q = absurd (omega arith)
each_one document anchors when (s ∷ ss) (x ∷ xs) (y ∷ ys) m n p q =
    ap₂ (λ (r : SignerResult) (rs : List SignerResult). r ∷ rs) (one_result document anchors when s x y (p zero (s, x) (omega arith)) (q zero (s, y) (omega arith)))
    (each_one document anchors when ss xs ys (omega arith) (omega arith) (λ k d lt. p (suc k) d (omega arith)) (λ k d lt. q (suc k) d (omega arith)))

pub one_results : (document : Option (ValueOf signed_data)) (anchors : List Anchored) (when : ℕ) (xs ys : List SignerResult) → AreResults document anchors when xs → AreResults document anchors when ys → xs ≡ ys
one_results None anchors when xs ys p q = p ∙ sym q
one_results (Some document) anchors when xs ys p q = each_one document anchors when (signers_of document) xs ys p.one_each q.one_each p.right q.right

-- ---- a request

-- the document of a message is one
pub one_read : (message : List ℕ) (a b : Option (ValueOf signed_data)) → IsReadAs message a → IsReadAs message b → a ≡ b
one_read message None None p q = refl
one_read message None (Some b) p q = absurd (p b q)
one_read message (Some a) b p q = same_read message a b p q

pub one_vsd : (request : ValueOf dvcs_request) (message : List ℕ) (anchors : List Anchored) (moment : ℕ) (policy signers : Option (List ℕ)) (d e : ValueOf draft) → IsVsd request message anchors moment policy signers d
    → IsVsd request message anchors moment policy signers e → d ≡ e
one_vsd request message anchors moment policy signers d e p q =
    let when : p.when ≡ q.when = one_when (time_of request) moment p.when q.when p.is_when q.is_when in
    let document : p.document ≡ q.document = one_read message p.document q.document p.read q.read in
    let there = subst (λ (o : Option (ValueOf signed_data)). AreResults o anchors p.when p.results) document p.right in
    let right = subst (λ (n : ℕ). AreResults q.document anchors n p.results) when there in
    let results : p.results ≡ q.results = one_results q.document anchors q.when p.results q.results right q.right in
    let make : Option (ValueOf signed_data) → List SignerResult → ValueOf draft = λ o rs. draft_with request (imprint_by_server message) moment (Some (status_in o rs)) policy signers (entries_in o rs) in
    p.is ∙ (ap₂ make document results ∙ sym q.is)
