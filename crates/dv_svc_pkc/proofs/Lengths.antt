-- How many octets the entries of a draft have.
use Rattle.std.proofs.Common.{◌≡◌, ◌≤◌, ◌<◌, ◌+◌, ◌*◌, ◌++◌, ◌∷◌, ℕ, zero, suc, Bool, true, false, cond, ltb, Option, Some, None, List, [], length, inr, refl, arith}
use Rattle.std.specs.Prelude.{All, option_map, slice_get}
use Rattle.std.specs.List.{AllByRecursion, filter_map, flat_map, list_all, zip}
use Rattle.std.specs.Coded.{le_prop}
use Rattle.std.proofs.lemmas.Bool.{ltb-false}
use Rattle.std.proofs.lemmas.List.{length-append}
use Rattle.std.proofs.Math.Logic.{∥∥₁_elim}
use Rattle.dv_schema.specs.Tlv.{length_octets}
use Rattle.dv_schema.specs.Schema.{ValueOf, contents, sequence_of, spelled_if, spelling}
use Rattle.dv_schema.specs.Fits.{Fits}
use Rattle.dv_schema.specs.Types.{list_of}
use Rattle.dv_request.specs.Targets.{targets_in}
use Rattle.dv_request.specs.Types.{dvcs_request, path_input, request_information, target_chain, target_fields, token}
use Rattle.dv_request.proofs.DataLemmas.{certs_spelled, targets_short}
use Rattle.dv_request.proofs.MessageLemmas.{octets_few}
use Rattle.dv_path.specs.Anchors.{Anchored}
use Rattle.dv_svc_pkc.specs.Certificates.{certificates_of, is_certificate, pkc_failure, target_failure}
use Rattle.dv_svc_pkc.specs.Entries.{above, entries_of, entry_of, entry_with}
use Rattle.dv_svc_pkc.specs.Outcomes.{IsOutcome, search_of}
use Rattle.dv_svc_pkc.proofs.Entered.{chain_with, has_parts}
use Rattle.dv_svc_pkc.proofs.Failures.{front_none}
use Rattle.dv_svc_pkc.proofs.Fitting.{AreFew, chain_fits, few_above, handed_pieces}
use Rattle.dv_svc_pkc.proofs.Requested.{AreFit, targets_fit}
use Rattle.dv_svc_pkc.proofs.Searches.{none_first, target_good}

-- an entry has at most so many octets more than its target: five certificates, a status, and headers
entry_few : (t : ValueOf target_chain) (o : Option (List (List ℕ))) → length (spelling target_chain t) < 4294967296 → AreFew o
    → length (spelling target_chain (entry_with t o)) ≤ length (spelling target_chain t) + 41020
entry_few t o short few =
    let c = chain_fits o few in
    let parts = has_parts t.0 (chain_with o) t.1.1.0 in
    let a : List ℕ = spelling token t.0 in
    let b : List ℕ = spelled_if (spelling (list_of 48 true token)) t.1.0 in
    let d : List ℕ = spelled_if (spelling (path_input 160)) t.1.1.0 in
    let all : List ℕ = a ++ (b ++ (d ++ [])) in
    let whole = length-append (48 ∷ length_octets (length all)) all in
    let sides : length a + length d ≤ length (spelling target_chain t) = omega (arith, whole, length-append a (b ++ (d ++ [])), length-append b (d ++ []), length-append d []) in
    let inner = octets_few (length (chain_with o)) (omega (arith, c.1)) in
    let fields : length (contents target_fields (entry_with t o)) ≤ length (spelling target_chain t) + 41010 = omega (arith, parts.fields, sides, inner, c.1) in
    let outer = octets_few (length (contents target_fields (entry_with t o))) (omega (arith, fields, short)) in
    omega (arith, parts.whole, fields, outer)

-- what was found of a target that is checked
outcome_few : (anchors : List Anchored) (when : ℕ) (t : ValueOf target_chain) (path : Option (List ℕ)) → Fits target_chain 28 t → target_failure t ≡ None → IsOutcome (search_of anchors when t) path
    → AreFew (option_map (above (certificates_of t)) path)
outcome_few anchors when t path fits checked right =
    few_above anchors when t (option_map (above (certificates_of t)) path) (record { path = path; right = right; is = refl }) (handed_pieces t fits (target_good t checked).1)

-- the entries of targets, one behind another
entries_few : (anchors : List Anchored) (when : ℕ) (ts : List (ValueOf target_chain)) (outcomes : List (Option (List ℕ))) → AllByRecursion (Fits target_chain 28) ts → filter_map target_failure ts ≡ []
    → length (flat_map (spelling target_chain) ts) < 4294967296 → All (λ x. IsOutcome (search_of anchors when x.0) x.1) (zip ts outcomes)
    → length (flat_map (spelling target_chain) (entries_of ts outcomes)) ≤ length (flat_map (spelling target_chain) ts) + 41020 * length ts
entries_few anchors when [] outcomes fit checked short right = omega arith
entries_few anchors when (t ∷ ts) [] fit checked short right = omega arith
entries_few anchors when (t ∷ ts) (path ∷ outcomes) fit checked short right =
    let none = front_none (target_failure t) (filter_map target_failure ts) checked in
    let size = length-append (spelling target_chain t) (flat_map (spelling target_chain) ts) in
    let entry : ValueOf target_chain = entry_of t path in
    let first = entry_few t (option_map (above (certificates_of t)) path) (omega (arith, size, short)) (outcome_few anchors when t path fit.0 none.0 (right zero (t, path) (omega arith))) in
    let more = entries_few anchors when ts outcomes fit.1 none.1 (omega (arith, size, short)) (λ k d lt. right (suc k) d (omega arith)) in
    omega (arith, size, first, more, length-append (spelling target_chain entry) (flat_map (spelling target_chain) (entries_of ts outcomes)))

-- targets that are checked are few, and none has a failure
none_if : (b : Bool) (o : Option ℕ) → cond b (Some 2) o ≡ None → (b ≡ false) × (o ≡ None)
none_if true o e = absurd cc
none_if false o e = (refl, e)

-- So the entries for the data of a request whose targets are checked have at most 328,160 octets more than these.
pub certs_few : (info : ValueOf request_information) (certs : List ℕ) (transaction : Option (List ℕ)) (anchors : List Anchored) (when : ℕ) (outcomes : List (Option (List ℕ)))
    → ∥ Fits dvcs_request 30 (info, (inr (inr certs), (transaction, tt))) ∥₁ → pkc_failure (targets_in certs) ≡ None → length certs < 4294967296
    → All (λ x. IsOutcome (search_of anchors when x.0) x.1) (zip (targets_in certs) outcomes)
    → length (contents (sequence_of true target_chain) (entries_of (targets_in certs) outcomes)) ≤ length certs + 328160
certs_few info certs transaction anchors when outcomes fits checked short right =
    let ts : List (ValueOf target_chain) = targets_in certs in
    let none = none_if (ltb 8 (length ts)) (slice_get (filter_map target_failure ts) 0) checked in
    let eight : length ts ≤ 8 = ltb-false 8 (length ts) none.0 in
    let spelled = targets_short certs (certs_spelled info certs transaction fits) in
    ∥∥₁_elim (targets_fit info certs transaction fits) (hlevel le_prop) (λ f.
    (let all = entries_few anchors when ts outcomes f.1 (none_first (filter_map target_failure ts) none.1) (omega (arith, spelled, short)) right in
    omega (arith, all, eight, spelled)))
