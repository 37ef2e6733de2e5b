-- The entry of a signer fits in a certificate of service.
use Rattle.std.proofs.Common.{◌≡◌, ◌≢◌, ◌≤◌, ◌<◌, ◌+◌, ◌*◌, ◌-◌, ◌^◌, ◌++◌, ◌∷◌, ◌∙◌, ℕ, zero, suc, true, Option, Some, None, List, [], drop, get_or, length, map, refl, sym, ap, subst, arith}
use Rattle.std.specs.Prelude.{All, option_map, sum_by, unwrap_or}
use Rattle.std.specs.List.{AllByRecursion}
use Rattle.std.specs.Option.{ForSome}
use Rattle.std.proofs.lemmas.List.{length-append, length-drop, length-map}
use Rattle.std.proofs.lemmas.List.Sums.{sum_by-cons}
use Rattle.dv_schema.specs.Schema.{ValueOf, contents, sequence_of, spelling}
use Rattle.dv_schema.specs.Fits.{FieldsFit, Fits}
use Rattle.dv_schema.specs.Tlv.{tlv}
use Rattle.dv_schema.specs.Types.{list_of}
use Rattle.dv_schema.specs.Decodes.{HasSpelling}
use Rattle.dv_schema.proofs.Spellings.{fits_more}
use Rattle.dv_status.specs.Types.{status_info}
use Rattle.dv_status.proofs.StatusLemmas.{bits_allowed, status_fits}
use Rattle.dv_request.specs.Made.{certificate_token, retagged}
use Rattle.dv_request.specs.Materials.{IsCertificate as FitsMessage}
use Rattle.dv_request.specs.Types.{target_chain, target_fields, token}
use Rattle.dv_request.proofs.FitLemmas.{certificate_fits}
use Rattle.dv_request.proofs.MessageLemmas.{octets_few}
use Rattle.dv_x509.proofs.OwnLemmas.{length-tlv}
use Rattle.dv_draft.specs.Parts.{status_of}
use Rattle.dv_draft.specs.Records.{IsCertificate}
use Rattle.dv_draft.proofs.WellCertificates.{certificate_short}
use Rattle.dv_svc_document.specs.declared.result.SignerResult.{SignerResult}
use Rattle.dv_svc_document.specs.Entries.{AreShort, above, chain_with, entry_of, entry_with, positions_of, status_token, status_with}
use Rattle.dv_svc_document.specs.Kept.{IsFit}
use Rattle.dv_svc_document.proofs.EntryLemmas.{length-chain, length-retagged, status_octets, token_few}

-- ---- the status

-- a status fits as a token
status_at : (n : ℕ) (bit : Option ℕ) → n ≤ 6 → ForSome bit (λ b. b ≤ 26) → Fits (status_info 162) 28 (status_of n bit)
unfolding HasSpelling
status_at n None le known =
    let a = status_fits n None le tt in
    (omega arith, a.0.1, ((omega arith, a.0.2.0.1, a.0.2.0.2), (tt, (tt, tt))))
status_at n (Some b) le known =
    let a = status_fits n (Some (2 ^ (31 - b))) le (bits_allowed (Some b) known) in
    (omega arith, a.0.1, ((omega arith, a.0.2.0.1, a.0.2.0.2), (tt, ((omega arith, a.0.2.1.1.0.1, a.0.2.1.1.0.2), tt))))

token_fits : (bit : Option ℕ) → ForSome bit (λ b. b ≤ 26) → Fits token 28 (status_token (status_with bit))
token_fits None known = status_at 0 None (omega arith) known
token_fits (Some b) known = status_at 2 (Some b) (omega arith) known

-- ---- the certificates

-- those at positions
taken_all : {X : Type 0} (P : X → Type 0) (xs : List X) (d : X) (path : List ℕ) → All P xs → All (λ p. p < length xs) path → AllByRecursion P (map (λ p. get_or xs p d) path)
taken_all P xs d [] all within = tt
taken_all P xs d (p ∷ ps) all within = (all p d (within 0 0 (omega arith)), taken_all P xs d ps all (λ k e lt. within (suc k) e (omega arith)))

-- all positions but the first
pub others : (n : ℕ) (path : List ℕ) → All (λ p. p < n) path → All (λ p. p < n) (drop 1 path)
others n [] all = all
others n (p ∷ ps) all = λ k d lt. all (suc k) d (omega arith)

-- those above the first of a path
above_all : (P : List ℕ → Type 0) (certificates : List (List ℕ)) (path : List ℕ) → All P certificates → All (λ p. p < length certificates) path → AllByRecursion P (above certificates path)
above_all P certificates path all within = taken_all P certificates [] (drop 1 path) all (others (length certificates) path within)

-- certificates have so many octets
certificates_short : (cs : List (List ℕ)) → AllByRecursion IsCertificate cs → sum_by length cs ≤ 8192 * length cs
certificates_short [] all = omega arith
certificates_short (c ∷ cs) all = omega (arith, sum_by-cons length c cs, certificate_short c all.0, certificates_short cs all.1)

-- the tokens of a chain fit
tokens_fit : (cs : List (List ℕ)) (bit : Option ℕ) → AllByRecursion FitsMessage cs → ForSome bit (λ b. b ≤ 26) → AllByRecursion (Fits token 28) (map certificate_token cs ++ status_token (status_with bit) ∷ [])
tokens_fit [] bit all known = (token_fits bit known, tt)
tokens_fit (c ∷ cs) bit all known = (fits_more token 26 28 (certificate_token c) (omega arith) (certificate_fits 26 c all.0), tokens_fit cs bit all.1 known)

some_tokens : (cs : List (List ℕ)) (bit : Option ℕ) → map certificate_token cs ++ status_token (status_with bit) ∷ [] ≢ []
some_tokens [] bit e = cc
some_tokens (c ∷ cs) bit e = cc

-- ---- the entry

-- the parts of an entry are short
pub parts_short : (certificates : List (List ℕ)) (r : SignerResult) → All IsCertificate certificates → IsFit (length certificates) r
    → AreShort (option_map (λ position. get_or certificates position []) r.certificate) (above certificates (positions_of r.path))
parts_short certificates r read fit = record { own = own r.certificate fit.certificate; others = few }
  where
    own : (o : Option ℕ) → ForSome o (λ position. position < length certificates) → length (unwrap_or (option_map (λ position. get_or certificates position []) o) []) ≤ 8192
    own None within = omega arith
    own (Some position) within = certificate_short (get_or certificates position []) (read position [] (within position refl))

    few : sum_by length (above certificates (positions_of r.path)) ≤ 40960
    few =
        let path : List ℕ = positions_of r.path in
        let short = certificates_short (above certificates path) (above_all IsCertificate certificates path read fit.members) in
        omega (arith, short, length-map (drop 1 path) (λ p. get_or certificates p []), length-drop 1 path, fit.short)

-- its contents, and the whole entry
pub contents_few : (o : Option (List ℕ)) (cs : List (List ℕ)) (bit : Option ℕ) → AreShort o cs → length (contents target_fields (entry_with o cs bit)) ≤ 49206
contents_few None cs bit short = omega (arith, token_few bit, length-append (status_octets bit) [])
contents_few (Some octets) cs bit short =
    let chain : List ℕ = chain_with cs bit in
    let few : length chain ≤ 41004 = omega (arith, length-chain cs bit, token_few bit, short.others) in
    omega (arith, few, short.own, length-retagged octets, length-append (retagged 160 octets) (tlv 48 chain ++ []), length-append (tlv 48 chain) [], length-tlv 48 chain, octets_few (length chain) (omega (arith, few)))

pub entry_few : (o : Option (List ℕ)) (cs : List (List ℕ)) (bit : Option ℕ) → AreShort o cs → length (spelling target_chain (entry_with o cs bit)) ≤ 49216
entry_few o cs bit short =
    let inside : List ℕ = contents target_fields (entry_with o cs bit) in
    let few = contents_few o cs bit short in
    omega (arith, few, length-tlv 48 inside, octets_few (length inside) (omega (arith, few)))

-- it fits
fits_with : (certificates : List (List ℕ)) (o : Option ℕ) (cs : List (List ℕ)) (bit : Option ℕ) → ForSome o (λ position. position < length certificates) → All FitsMessage certificates → AllByRecursion FitsMessage cs
    → AreShort (option_map (λ position. get_or certificates position []) o) cs → ForSome bit (λ b. b ≤ 26) → Fits target_chain 30 (entry_with (option_map (λ position. get_or certificates position []) o) cs bit)
fits_with certificates None cs bit within fit all short known =
    let few = contents_few None cs bit short in
    (omega arith, omega (arith, few), (fits_more token 28 29 (status_token (status_with bit)) (omega arith) (token_fits bit known), (tt, (tt, tt))))
fits_with certificates (Some position) cs bit within fit all short known =
    let octets : List ℕ = get_or certificates position [] in
    let few = contents_few (Some octets) cs bit short in
    let size : length (chain_with cs bit) ≤ 41004 = omega (arith, length-chain cs bit, token_few bit, short.others) in
    let own : Fits token 29 (certificate_token octets) = fits_more token 26 29 (certificate_token octets) (omega arith) (certificate_fits 26 octets (fit position [] (within position refl))) in
    let chain : Fits (list_of 48 true token) 29 (chain_with cs bit) = (omega arith, omega (arith, size), (map certificate_token cs ++ status_token (status_with bit) ∷ [], refl, (λ _. some_tokens cs bit, tokens_fit cs bit all known))) in
    (omega arith, omega (arith, few), (own, (chain, (tt, tt))))

pub entry_fits : (certificates : List (List ℕ)) (r : SignerResult) → All IsCertificate certificates → All FitsMessage certificates → IsFit (length certificates) r → Fits target_chain 30 (entry_of certificates r)
entry_fits certificates r read fit is =
    fits_with certificates r.certificate (above certificates (positions_of r.path)) r.bit is.certificate fit (above_all FitsMessage certificates (positions_of r.path) fit is.members) (parts_short certificates r read is) is.bit
