-- The draft of a request, from what was found of its targets.
use Rattle.std.proofs.Common.{◌≡◌, ◌≢◌, ◌≤◌, ◌<◌, ◌+◌, ◌*◌, ◌∷◌, ◌∙◌, ◌&&◌, ℕ, zero, suc, Bool, true, false, is_some, Option, Some, None, List, [], length, map, refl, sym, ap, subst, arith}
use Rattle.std.specs.Prelude.{IfSome, IsTrue, All, option_map}
use Rattle.std.specs.List.{AllByRecursion, list_all, zip}
use Rattle.std.specs.Option.{ForSome}
use Rattle.std.proofs.lemmas.List.{length-append}
use Rattle.std.proofs.Math.Logic.{∥∥₁_elim, ∥∥₁_map, ∥∥₁_prop}
use Rattle.dv_schema.specs.Schema.{ValueOf, contents, sequence_of, spelled_if, spelling}
use Rattle.dv_schema.specs.Fits.{Fits}
use Rattle.dv_schema.specs.Tlv.{tlv}
use Rattle.dv_schema.specs.Types.{list_of}
use Rattle.dv_schema.proofs.Decoding.{slice_spelled}
use Rattle.dv_schema.proofs.Spellings.{fits_more}
use Rattle.dv_time.specs.Text.{last_second}
use Rattle.dv_time.specs.Views.{view_moment}
use Rattle.dv_names.specs.declared.digest.DigestKind.TheVariants.{Sha256}
use Rattle.dv_status.specs.Types.{status_info}
use Rattle.dv_members.specs.Members.{front_of}
use Rattle.dv_request.specs.TargetView.{view_target}
use Rattle.dv_request.specs.Targets.{targets_in}
use Rattle.dv_request.specs.Types.{dvcs_request, request_information, target_chain, target_chains}
use Rattle.dv_request.proofs.MessageLemmas.{octets_few}
use Rattle.dv_cms.specs.Types.{signer_info}
use Rattle.dv_x509.proofs.OwnLemmas.{length-tlv}
use Rattle.dv_path.specs.Anchors.{Anchored}
use Rattle.dv_draft.specs.declared.imprint.Imprint.{Imprint}
use Rattle.dv_draft.specs.declared.service_status.Status.{Status}
use Rattle.dv_draft.specs.CertInfo.{after_serial, before_serial}
use Rattle.dv_draft.specs.Parts.{draft_of, imprint_of, view_imprint, view_status}
use Rattle.dv_draft.specs.Servers.{IsPolicyName}
use Rattle.dv_draft.specs.Types.{draft, draft_fields, imprint, is_plain, kept_policy, plain_status}
use Rattle.dv_draft.proofs.DraftLemmas.{fields_size, later_size}
use Rattle.dv_draft.proofs.MadeLemmas.{draft_fits, imprint_few, imprint_fits, merely_if, policy_fits}
use Rattle.dv_svc_pkc.specs.declared.entry.Finding.{Finding}
use Rattle.dv_svc_pkc.specs.Certificates.{certificates_of}
use Rattle.dv_parts.specs.Drafts.{AreTargets, draft_with, imprint_by_server}
use Rattle.dv_parts.specs.Moments.{IsWhen, time_of}
use Rattle.dv_svc_pkc.specs.Drafts.{IsPkc}
use Rattle.dv_svc_pkc.specs.Entries.{above, entries_of, entry_of, entry_with, granted_if}
use Rattle.dv_svc_pkc.specs.Outcomes.{IsOutcome, search_of}
use Rattle.dv_draft.specs.Signers.{AreSigners}
use Rattle.dv_svc_pkc.specs.Slices.{octets_if}
use Rattle.dv_svc_pkc.specs.Validated.{AreFindings, IsFinding, are_granted, draft_from, entries_in, entry_in}
use Rattle.dv_parts.proofs.Flattened.{flat-map}

-- ---- the entries

-- the entries
entries_short : (fs : List Finding) → length (entries_in fs) ≤ 1099511627776 * length fs
entries_short [] = omega arith
entries_short (f ∷ fs) = omega (arith, f.short, entries_short fs, length-append (spelling target_chain (entry_in f)) (entries_in fs))

each_fits : (fs : List Finding) → ∥ AllByRecursion (Fits target_chain 30) (map entry_in fs) ∥₁
each_fits [] = ∣ tt ∣₁
each_fits (f ∷ fs) = ∥∥₁_elim f.spelled ∥∥₁_prop (λ h. ∥∥₁_map (each_fits fs) (λ k. (h, k)))

some_entries : (fs : List Finding) → fs ≢ [] → map entry_in fs ≢ []
some_entries [] some e = some refl
some_entries (f ∷ fs) some e = cc

entries_fit : (fs : List Finding) → fs ≢ [] → length fs ≤ 8 → ∥ Fits (target_chains 163) 31 (entries_in fs) ∥₁
entries_fit fs some few =
    let short = entries_short fs in
    let same : entries_in fs ≡ contents (sequence_of true target_chain) (map entry_in fs) = sym (flat-map (spelling target_chain) entry_in fs) in
    let any : IsTrue true → map entry_in fs ≢ [] = λ _. some_entries fs some in
    ∥∥₁_map (each_fits fs) (λ h. (omega arith, omega (arith, short, few), (map entry_in fs, same, (any, h))))

-- so they are a SEQUENCE OF TargetEtcChain
pub entries_are : (fs : List Finding) → fs ≢ [] → length fs ≤ 8 → AreTargets (entries_in fs)
entries_are fs some few = let short = entries_short fs in (entries_fit fs some few, omega (arith, short, few))

-- ---- what was found, as outcomes

-- the outcomes of findings
pub record HasOutcomes (anchors : List Anchored) (when : ℕ) (ts : List (ValueOf target_chain)) (fs : List Finding) : Type 0 where
  pub outcomes : List (Option (List ℕ))
  pub one_each : length outcomes ≡ length ts
  pub right : All (λ x. IsOutcome (search_of anchors when x.0) x.1) (zip ts outcomes)
  pub entries : map entry_in fs ≡ entries_of ts outcomes
  pub granted : are_granted fs ≡ list_all is_some outcomes

-- what holds of the first and of all others holds of all
all_cons : {X : Type 0} (P : X → Type 0) (x : X) (xs : List X) → P x → All P xs → All P (x ∷ xs)
all_cons P x xs h all zero d lt = h
all_cons P x xs h all (suc k) d lt = all k d (omega arith)

-- there are as many
some_if : (o : _) → is_some (octets_if o) ≡ is_some o
some_if None = refl
some_if (Some v) = refl

some_map : {X Y : Type 0} (f : X → Y) (o : Option X) → is_some (option_map f o) ≡ is_some o
some_map f None = refl
some_map f (Some x) = refl

pub outcomes_of : (anchors : List Anchored) (when : ℕ) (fs : List Finding) → All (IsFinding anchors when) fs → HasOutcomes anchors when (map (λ f. view_target f.target) fs) fs
outcomes_of anchors when [] all = record { outcomes = []; one_each = refl; right = λ k d lt. absurd (omega arith); entries = refl; granted = refl }
outcomes_of anchors when (f ∷ fs) all =
    let a : IsFinding anchors when f = all zero f (omega arith) in
    let more = outcomes_of anchors when fs (λ k d lt. all (suc k) d (omega arith)) in
    let t : ValueOf target_chain = view_target f.target in
    let ts : List (ValueOf target_chain) = map (λ g. view_target g.target) fs in
    let some : is_some f.above ≡ is_some a.path = sym (some_if f.above) ∙ (ap is_some a.is ∙ some_map (above (certificates_of t)) a.path) in
    record {
      outcomes = a.path ∷ more.outcomes;
      one_each = ap suc more.one_each;
      right = all_cons (λ x. IsOutcome (search_of anchors when x.0) x.1) (t, a.path) (zip ts more.outcomes) a.right more.right;
      entries = ap (λ o. entry_with t o ∷ map entry_in fs) a.is ∙ ap (λ l. entry_of t a.path ∷ l) more.entries;
      granted = ap (λ b. b && are_granted fs) some ∙ ap (λ b. is_some a.path && b) more.granted;
    }

-- so the draft is that of the request
pub is_pkc : (request : ValueOf dvcs_request) (certs : List ℕ) (anchors : List Anchored) (moment when : ℕ) (policy signers : Option (List ℕ)) (fs : List Finding) (d : ValueOf draft) → IsWhen (time_of request) moment when
    → AreFindings anchors when (targets_in certs) fs → d ≡ draft_from request certs fs moment policy signers → IsPkc request certs anchors moment policy signers d
is_pkc request certs anchors moment when policy signers fs d at a is =
    let h = subst (λ ts. HasOutcomes anchors when ts fs) a.one_each (outcomes_of anchors when fs a.right) in
    let entries : entries_in fs ≡ contents (sequence_of true target_chain) (entries_of (targets_in certs) h.outcomes) = sym (flat-map (spelling target_chain) entry_in fs) ∙ ap (contents (sequence_of true target_chain)) h.entries in
    let make : Bool → List ℕ → ValueOf draft = λ b e. draft_with request (imprint_by_server certs) moment (Some (granted_if b)) policy signers (Some e) in
    record {
      when = when;
      is_when = at;
      outcomes = h.outcomes;
      one_each = h.one_each;
      right = h.right;
      is = is ∙ (ap (λ b. make b (entries_in fs)) h.granted ∙ ap (make (list_all is_some h.outcomes)) entries);
    }

-- no value is there
pub not_some : {X : Type 0} (o : Option X) → ((x : X) → o ≡ Some x → ⊥) → o ≡ None
not_some None h = refl
not_some (Some x) h = absurd (h x refl)

-- the same is there
pub some_same : {X : Type 0} {x y : X} → ◌≡◌ {A = Option X} (Some x) (Some y) → x ≡ y
some_same e = cc
