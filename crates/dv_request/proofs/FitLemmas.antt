-- The requests that are made have spellings.
use Rattle.std.proofs.Common.{◌≡◌, ◌≢◌, ◌<◌, ◌≤◌, ◌/◌, ◌%◌, ◌++◌, ◌∷◌, ◌||◌, eqb, ℕ, zero, suc, true, false, Option, Some, None, List, [], map, length, inl, inr, refl, sym, ap, ◌∙◌, arith}
use Rattle.std.specs.Prelude.{IfSome, IsTrue, option_map}
use Rattle.std.specs.List.{AllByRecursion, flat_map}
use Rattle.std.proofs.lemmas.Bool.{cases_Bool, eqb-true}
use Rattle.std.proofs.lemmas.List.{length-append}
use Rattle.dv_schema.specs.Tlv.{integer_octets, length_octets, tlv}
use Rattle.dv_schema.specs.Schema.{ValueOf, contents, sequence_of, spelled_if, spelling}
use Rattle.dv_schema.specs.Fits.{Fits, WellFormed, tag_of}
use Rattle.dv_schema.specs.Types.{list_of, octet_string}
use Rattle.dv_schema.proofs.Spellings.{fits_more}
use Rattle.dv_names.specs.declared.identifiers.TheConstants.{SHA_256}
use Rattle.dv_names.specs.Types.{algorithm_identifier}
use Rattle.dv_time.specs.Text.{last_second}
use Rattle.dv_time.proofs.TimeLemmas.{generalized_spelled, moment_fits, text_long}
use Rattle.dv_request.specs.declared.service.Service.{Service}
use Rattle.dv_request.specs.declared.service.Service.TheVariants.{Cpd, Vsd, Cpkc, Ccpd}
use Rattle.dv_request.specs.Information.{number_of}
use Rattle.dv_request.specs.Made.{certificate_token, certificates_data, chain_of, digest_data, information_of, is_good_nonce, message_data, request_from, retagged, spelled_chain, targets_from, time_of}
use Rattle.dv_request.specs.Types.{data_of_request, dvcs_request, nonce, request_information, request_time, service_type, target_chain, token, whole_certificate}
use Rattle.dv_request.proofs.MadeLemmas.{nonce_short, nonce_size, service_size}
use Rattle.dv_request.proofs.MessageLemmas.{octets_few}

-- ---- certificates

-- a SEQUENCE is as well formed under another constructed tag
retag : (n : ℕ) (c : List ℕ) → WellFormed n c → tag_of c ≡ 48 → WellFormed n (retagged 160 c)
retag zero c w t = absurd w
retag (suc n) c w t =
    let same : w.0 ≡ 48 = sym (ap tag_of w.2) ∙ t in
    elim w.6 [
      | inl h ↦ absurd (h.0 (ap (λ (k : ℕ). k / 32 % 2) same))
      | inr h ↦ (160, w.1, ap (retagged 160) w.2, λ (e : 160 % 32 ≡ 31). omega arith, refl, w.5, inr (refl, h.1, h.2, h.3))
    ]

-- the one tag that is allowed
among_one : (t u : ℕ) → (eqb t u || false) ≡ true → t ≡ u
among_one t u e =
    elim (cases_Bool (eqb t u)) [
      | inl h ↦ eqb-true t u h
      | inr h ↦ let neither : (eqb t u || false) ≡ false = rw h refl in absurd cc
    ]

-- a certificate under its tag as a token
pub certificate_fits : (n : ℕ) (c : List ℕ) → Fits (whole_certificate 48) n c → Fits token n (certificate_token c)
certificate_fits n [] f = let e : (eqb 0 48 || false) ≡ true = f.1 in absurd cc
certificate_fits n (t ∷ more) f = (retag n (t ∷ more) f.0 (among_one t 48 f.1), refl)

tokens_fit : (n : ℕ) (cs : List (List ℕ)) → AllByRecursion (Fits (whole_certificate 48) n) cs → AllByRecursion (Fits token n) (map certificate_token cs)
tokens_fit n [] all = tt
tokens_fit n (c ∷ cs) all = (certificate_fits n c all.0, tokens_fit n cs all.1)

-- the links are the tokens' spellings
links_contents : (cs : List (List ℕ)) → flat_map (retagged 160) cs ≡ contents (sequence_of true token) (map certificate_token cs)
links_contents [] = refl
links_contents (c ∷ cs) = ap (λ (l : List ℕ). retagged 160 c ++ l) (links_contents cs)

-- a value is at least as long as its contents
longer : (tag : ℕ) (c : List ℕ) → length c ≤ length (tlv tag c)
longer tag c = omega (arith, length-append (tag ∷ length_octets (length c)) c)

chain_fits : (cs : List (List ℕ)) → AllByRecursion (Fits (whole_certificate 48) 26) cs → length (spelled_chain cs) < 18446744073709551616 → IfSome (chain_of cs) (Fits (list_of 48 true token) 27)
chain_fits [] all short = tt
chain_fits (c ∷ cs) all short =
    let size = longer 48 (flat_map (retagged 160) (c ∷ cs)) in
    let some : IsTrue true → map certificate_token (c ∷ cs) ≢ [] = λ _ e. cc in
    (omega arith, omega (arith, size, short), (map certificate_token (c ∷ cs), links_contents (c ∷ cs), (some, tokens_fit 26 (c ∷ cs) all)))

-- a target and its chain
target_fits : (c : List ℕ) (cs : List (List ℕ)) → Fits (whole_certificate 48) 26 c → AllByRecursion (Fits (whole_certificate 48) 26) cs → length (spelling target_chain (certificate_token c, (chain_of cs, (None, tt)))) < 18446744073709551616
    → Fits target_chain 28 (certificate_token c, (chain_of cs, (None, tt)))
target_fits c cs f all short =
    let first : List ℕ = retagged 160 c in
    let chain : List ℕ = spelled_chain cs in
    let whole : List ℕ = first ++ (chain ++ []) in
    let size : length (tlv 48 whole) < 18446744073709551616 = short in
    let a = longer 48 whole in
    let small : length chain < 18446744073709551616 = omega (arith, a, size, length-append first (chain ++ []), length-append chain []) in
    (omega arith, omega (arith, a, size), (fits_more token 26 27 (certificate_token c) (omega arith) (certificate_fits 26 c f), (chain_fits cs all small, (tt, tt))))

pub certificates_fit : (cs : List (List ℕ)) → cs ≢ [] → AllByRecursion (Fits (whole_certificate 48) 26) cs → length (spelling data_of_request (certificates_data cs)) < 4294967296 → Fits data_of_request 29 (certificates_data cs)
certificates_fit [] some all short = absurd (some refl)
certificates_fit (c ∷ cs) some all short =
    let ts : List (ValueOf target_chain) = targets_from (c ∷ cs) in
    let target : List ℕ = spelling target_chain (certificate_token c, (chain_of cs, (None, tt))) in
    let w : List ℕ = target ++ [] in
    let size : length (tlv 160 w) < 4294967296 = short in
    let a = longer 160 w in
    let b = length-append target [] in
    let any : IsTrue true → ts ≢ [] = λ _ e. cc in
    (w, refl, (omega arith, omega (arith, a, size), (ts, refl, (any, (target_fits c cs all.0 all.1 (omega (arith, a, b, size)), tt)))))

-- ---- messages and digests

pub message_fits : (octets : List ℕ) → length octets < 4294967296 → Fits data_of_request 29 (message_data octets)
message_fits octets short = (omega arith, omega (arith, short), refl)

pub digest_fits : (digest : List ℕ) → length digest ≡ 32 → Fits data_of_request 29 (digest_data digest)
digest_fits digest size =
    let algorithm : Fits algorithm_identifier 28 (SHA_256, (None, tt)) = (omega arith, omega arith, ((omega arith, omega arith, refl), (tt, tt))) in
    let octets : Fits octet_string 28 digest = (omega arith, omega (arith, size), refl) in
    let front : List ℕ = spelling algorithm_identifier (SHA_256, (None, tt)) in
    let string : List ℕ = spelling octet_string digest in
    let a : length string ≡ 34 = rw size (omega (arith, size)) in
    let b : length front ≡ 13 = refl in
    (omega arith, omega (arith, a, b, length-append front (string ++ []), length-append string []), (algorithm, (octets, tt)))

-- ---- the information

service_fits : (s : Service) → Fits service_type 28 (number_of s)
service_fits Cpd = (omega arith, omega arith, refl)
service_fits Vsd = (omega arith, omega arith, refl)
service_fits Cpkc = (omega arith, omega arith, refl)
service_fits Ccpd = (omega arith, omega arith, refl)

nonce_fits : (o : Option (List ℕ)) → is_good_nonce o ≡ true → IfSome o (Fits nonce 28) × (length (spelled_if (spelling nonce) o) ≤ 66)
nonce_fits None good = (tt, omega arith)
nonce_fits (Some octets) good =
    let short = nonce_short octets good in
    let size = nonce_size octets good in
    ((omega arith, omega (arith, short), good), omega (arith, short, size))

time_fits : (o : Option ℕ) → IfSome o (λ s. s ≤ last_second) → IfSome (option_map time_of o) (Fits request_time 28) × (length (spelled_if (spelling request_time) (option_map time_of o)) ≤ 17)
time_fits None within = (tt, omega arith)
time_fits (Some s) within = (moment_fits s 28 within (omega arith), omega (arith, ap length (generalized_spelled s), text_long s))

information_fits : (service : Service) (o : Option (List ℕ)) (at : Option ℕ) → is_good_nonce o ≡ true → IfSome at (λ s. s ≤ last_second)
    → Fits request_information 29 (information_of service o at) × (length (spelling request_information (information_of service o at)) ≤ 100)
information_fits service o at good within =
    let n = nonce_fits o good in
    let t = time_fits at within in
    let a : List ℕ = tlv 10 (integer_octets (number_of service)) in
    let b : List ℕ = spelled_if (spelling nonce) o in
    let d : List ℕ = spelled_if (spelling request_time) (option_map time_of at) in
    let whole : List ℕ = a ++ (b ++ (d ++ [])) in
    let size : length whole ≤ 86 = omega (arith, service_size service, n.1, t.1, length-append a (b ++ (d ++ [])), length-append b (d ++ []), length-append d []) in
    let head = octets_few (length whole) (omega (arith, size)) in (
      (omega arith, omega (arith, size), (tt, (service_fits service, (n.0, (t.0, (tt, (tt, (tt, (tt, (tt, tt)))))))))),
      omega (arith, size, head, length-append (48 ∷ length_octets (length whole)) whole),
    )

pub request_fits : (service : Service) (matter : ValueOf data_of_request) (o : Option (List ℕ)) (at : Option ℕ) → Fits data_of_request 29 matter → length (spelling data_of_request matter) < 4294967296
    → is_good_nonce o ≡ true → IfSome at (λ s. s ≤ last_second) → Fits dvcs_request 30 (request_from service matter o at)
request_fits service matter o at fits short good within =
    let i = information_fits service o at good within in
    let front : List ℕ = spelling request_information (information_of service o at) in
    let matter_octets : List ℕ = spelling data_of_request matter in
    (omega arith, omega (arith, short, i.1, length-append front (matter_octets ++ []), length-append matter_octets []), (i.0, (fits, (tt, tt))))
