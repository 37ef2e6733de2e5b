-- What is found of a message.
use Rattle.std.proofs.Common.{◌≡◌, ◌≢◌, ◌≤◌, ◌<◌, ◌+◌, ◌*◌, ◌++◌, ◌∷◌, ◌∙◌, ℕ, zero, suc, true, false, eqb, Option, Some, None, List, [], length, map, refl, sym, ap, subst, arith}
use Rattle.std.specs.Prelude.{All}
use Rattle.std.specs.List.{AllByRecursion, flat_map, zip}
use Rattle.std.proofs.lemmas.List.{length-append}
use Rattle.std.proofs.Math.Logic.{∥∥₁_map}
use Rattle.dv_schema.specs.Schema.{ValueOf, contents, sequence_of, spelling}
use Rattle.dv_schema.specs.Fits.{Fits}
use Rattle.dv_cms.specs.Types.{signed_data, signer_info}
use Rattle.dv_request.specs.Materials.{IsCertificate as FitsMessage}
use Rattle.dv_request.specs.Types.{target_chain, target_chains}
use Rattle.dv_draft.specs.Records.{IsCertificate}
use Rattle.dv_path.specs.Anchors.{Anchored}
use Rattle.dv_parts.specs.Drafts.{AreTargets}
use Rattle.dv_parts.proofs.Flattened.{flat-map}
use Rattle.dv_signed.specs.Certificates.{certificates_of}
use Rattle.dv_svc_document.specs.declared.entry.Entry.{Entry}
use Rattle.dv_svc_document.specs.declared.result.SignerResult.{SignerResult}
use Rattle.dv_svc_document.specs.Documents.{IsReadAs, checks_of}
use Rattle.dv_svc_document.specs.Drafts.{entries_from}
use Rattle.dv_svc_document.specs.Entries.{above, entry_of, positions_of}
use Rattle.dv_svc_document.specs.Kept.{IsFit, entry_in, octets_in}
use Rattle.dv_svc_document.specs.Results.{HaveResults, IsResult}
use Rattle.dv_svc_document.proofs.DocumentLemmas.{one_document}
use Rattle.dv_svc_document.proofs.EntryFits.{entry_few, entry_fits, parts_short}
use Rattle.dv_svc_document.proofs.FitResults.{result_fits}

-- ---- the results fit

-- what holds of the first and of all others holds of all
all_cons : {X : Type 0} (P : X → Type 0) (x : X) (xs : List X) → P x → All P xs → All P (x ∷ xs)
all_cons P x xs h all zero d lt = h
all_cons P x xs h all (suc k) d lt = all k d (omega arith)

each_fits : (document : ValueOf signed_data) (anchors : List Anchored) (when : ℕ) (ss : List (ValueOf signer_info)) (rs : List SignerResult) → length rs ≡ length ss → All (λ x. IsResult document anchors when x.0 x.1) (zip ss rs)
    → All (IsFit (length (certificates_of document))) rs
each_fits document anchors when [] [] same right = λ k d lt. absurd (omega arith)
each_fits document anchors when [] (r ∷ rs) same right = absurd (omega arith)
each_fits document anchors when (s ∷ ss) [] same right = absurd (omega arith)
each_fits document anchors when (s ∷ ss) (r ∷ rs) same right =
    all_cons (IsFit (length (certificates_of document))) r rs (result_fits document anchors when s r (right zero (s, r) (omega arith)))
    (each_fits document anchors when ss rs (omega arith) (λ k d lt. right (suc k) d (omega arith)))

pub results_fit : (document : ValueOf signed_data) (anchors : List Anchored) (when : ℕ) (ss : List (ValueOf signer_info)) (rs : List SignerResult) → HaveResults document anchors when ss rs → All (IsFit (length (certificates_of document))) rs
results_fit document anchors when ss rs have = each_fits document anchors when ss rs have.one_each have.right

-- ---- the document is one

pub same_read : (message : List ℕ) (a : ValueOf signed_data) (o : Option (ValueOf signed_data)) → IsReadAs message (Some a) → IsReadAs message o → Some a ≡ o
same_read message a None is none = absurd (none a is)
same_read message a (Some b) is other = ap Some (one_document message a b is.0 other.0)

-- so the bound on verifications is that of any document that is read
pub checks_read : (message : List ℕ) (a : ValueOf signed_data) (anchors old new : ℕ) → IsReadAs message (Some a) → new ≤ old + checks_of anchors (Some a) → (o : Option (ValueOf signed_data)) → IsReadAs message o → new ≤ old + checks_of anchors o
checks_read message a anchors old new is le o other = subst (λ (x : Option (ValueOf signed_data)). new ≤ old + checks_of anchors x) (same_read message a o is other) le

-- ---- the entries

-- their octets
entries_octets : (certificates : List (List ℕ)) (rs : List SignerResult) (es : List Entry) → map entry_in es ≡ map (entry_of certificates) rs → octets_in es ≡ contents (sequence_of true target_chain) (map (entry_of certificates) rs)
entries_octets certificates rs es same = sym (flat-map (spelling target_chain) entry_in es) ∙ ap (flat_map (spelling target_chain)) same

pub entries_are : (certificates : List (List ℕ)) (rs : List SignerResult) (es : List Entry) → rs ≢ [] → map entry_in es ≡ map (entry_of certificates) rs → Some (octets_in es) ≡ entries_from certificates rs
entries_are certificates [] es some same = absurd (some refl)
entries_are certificates (r ∷ rs) es some same = ap Some (entries_octets certificates (r ∷ rs) es same)

-- they fit
all_fit : (certificates : List (List ℕ)) (rs : List SignerResult) → All IsCertificate certificates → All FitsMessage certificates → All (IsFit (length certificates)) rs → AllByRecursion (Fits target_chain 30) (map (entry_of certificates) rs)
all_fit certificates [] read fit all = tt
all_fit certificates (r ∷ rs) read fit all = (entry_fits certificates r read fit (all zero r (omega arith)), all_fit certificates rs read fit (λ k d lt. all (suc k) d (omega arith)))

-- and are short
pub all_few : (certificates : List (List ℕ)) (rs : List SignerResult) → All IsCertificate certificates → All (IsFit (length certificates)) rs → length (contents (sequence_of true target_chain) (map (entry_of certificates) rs)) ≤ 49216 * length rs
all_few certificates [] read all = omega arith
all_few certificates (r ∷ rs) read all =
    let first = entry_few _ _ r.bit (parts_short certificates r read (all zero r (omega arith))) in
    let more = all_few certificates rs read (λ k d lt. all (suc k) d (omega arith)) in
    omega (arith, first, more, length-append (spelling target_chain (entry_of certificates r)) (contents (sequence_of true target_chain) (map (entry_of certificates) rs)))

some_entries : (certificates : List (List ℕ)) (rs : List SignerResult) → rs ≢ [] → map (entry_of certificates) rs ≢ []
some_entries certificates [] some e = some refl
some_entries certificates (r ∷ rs) some e = cc

pub entries_targets : (certificates : List (List ℕ)) (rs : List SignerResult) (es : List Entry) → rs ≢ [] → length rs ≤ 8 → All IsCertificate certificates → ∥ All FitsMessage certificates ∥₁ → All (IsFit (length certificates)) rs
    → map entry_in es ≡ map (entry_of certificates) rs → AreTargets (octets_in es)
entries_targets certificates rs es some few read fit all same =
    let is = entries_octets certificates rs es same in
    let size = ap length is in
    let short = all_few certificates rs read all in
    let made : All FitsMessage certificates → Fits (target_chains 163) 31 (octets_in es) = λ f. (omega arith, omega (arith, size, short, few), (map (entry_of certificates) rs, is, (λ _. some_entries certificates rs some, all_fit certificates rs read f all))) in
    (∥∥₁_map fit made, omega (arith, size, short, few))

-- a list that isn't empty
pub not_empty : {X : Type 0} (xs : List X) → eqb (length xs) 0 ≡ false → xs ≢ []
not_empty [] e same = absurd cc
not_empty (x ∷ xs) e same = cc
