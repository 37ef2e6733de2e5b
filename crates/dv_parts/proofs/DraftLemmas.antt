-- The draft of a service fits.
use Rattle.std.proofs.Common.{◌≡◌, ◌≤◌, ◌<◌, ◌+◌, ◌^◌, ◌-◌, ◌∙◌, ◌++◌, ℕ, true, false, Option, Some, None, List, [], length, refl, sym, ap, subst, arith}
use Rattle.std.specs.Prelude.{IfSome, option_map}
use Rattle.std.specs.Option.{ForSome}
use Rattle.std.proofs.lemmas.List.{length-append}
use Rattle.std.proofs.Math.Logic.{∥∥₁_elim, ∥∥₁_map, ∥∥₁_prop}
use Rattle.dv_schema.specs.Schema.{ValueOf, contents, spelled_if, spelling}
use Rattle.dv_schema.specs.Fits.{Fits}
use Rattle.dv_schema.specs.Tlv.{tlv, integer_octets}
use Rattle.dv_schema.specs.Types.{list_of}
use Rattle.dv_schema.specs.Decodes.{HasSpelling}
use Rattle.dv_schema.proofs.Decoding.{slice_spelled}
use Rattle.dv_schema.proofs.Spellings.{fits_more}
use Rattle.dv_time.specs.Text.{last_second}
use Rattle.dv_status.specs.Fail.{fail_octets}
use Rattle.dv_status.specs.Types.{status_info}
use Rattle.dv_status.proofs.FailLemmas.{octets_few as fail_few}
use Rattle.dv_status.proofs.StatusLemmas.{bits_allowed, status_fits}
use Rattle.dv_members.specs.Members.{front_of}
use Rattle.dv_request.specs.Types.{request_information, target_chains}
use Rattle.dv_request.proofs.MessageLemmas.{octets_few}
use Rattle.dv_cms.specs.Types.{signer_info}
use Rattle.dv_x509.proofs.OwnLemmas.{length-tlv}
use Rattle.dv_draft.specs.declared.imprint.Imprint.{Imprint}
use Rattle.dv_draft.specs.declared.service_status.Status.{Status}
use Rattle.dv_draft.specs.CertInfo.{after_serial, before_serial}
use Rattle.dv_draft.specs.Parts.{draft_of, status_of, view_imprint, view_status}
use Rattle.dv_draft.specs.Servers.{IsPolicyName}
use Rattle.dv_draft.specs.Signers.{AreSigners}
use Rattle.dv_draft.specs.Types.{draft, draft_fields, imprint, is_one_or_none, is_plain, kept_policy, one_bit, plain_status}
use Rattle.dv_draft.proofs.DraftLemmas.{fields_size, later_size}
use Rattle.dv_draft.proofs.LawLemmas.{serial_few}
use Rattle.dv_draft.proofs.MadeLemmas.{draft_fits, imprint_few, imprint_fits, merely_if, policy_fits}
use Rattle.dv_draft.proofs.Statuses.{one_alone}
use Rattle.dv_parts.specs.Drafts.{AreTargets}

-- ---- the parts

-- a value has at most ten octets more than its contents
value_few : (tag : ℕ) (c : List ℕ) → length c < 18446744073709551616 → length (tlv tag c) ≤ length c + 10
value_few tag c lt = omega (arith, octets_few (length c) lt, length-tlv tag c)

-- one failure bit is one alone
one_or_none : (bit : Option ℕ) → ForSome bit (λ b. b ≤ 26) → is_one_or_none (option_map one_bit bit) ≡ true
one_or_none None h = refl
one_or_none (Some b) h = one_alone 27 b (let le : b ≤ 26 = h b refl in omega arith)

-- a status without texts, with one failure bit at most
pub status_plain : (n : ℕ) (bit : Option ℕ) → n ≤ 6 → ForSome bit (λ b. b ≤ 26) → Fits plain_status 31 (status_of n bit)
unfolding HasSpelling
status_plain n None le known =
    let v : ValueOf (status_info 160) = status_of n None in
    let a = status_fits n None le tt in
    let f : Fits (status_info 160) 31 v = (omega arith, a.0.1, ((omega arith, a.0.2.0.1, a.0.2.0.2), (tt, (tt, tt)))) in
    let read = slice_spelled (status_info 160) (front_of (spelling (status_info 160) v)) v refl (fits_more (status_info 160) 31 32 v (omega arith) f) refl in
    (f, ap is_plain read)
status_plain n (Some b) le known =
    let v : ValueOf (status_info 160) = status_of n (Some b) in
    let a = status_fits n (Some (2 ^ (31 - b))) le (bits_allowed (Some b) known) in
    let f : Fits (status_info 160) 31 v = (omega arith, a.0.1, ((omega arith, a.0.2.0.1, a.0.2.0.2), (tt, ((omega arith, a.0.2.1.1.0.1, a.0.2.1.1.0.2), tt)))) in
    let read = slice_spelled (status_info 160) (front_of (spelling (status_info 160) v)) v refl (fits_more (status_info 160) 31 32 v (omega arith) f) refl in
    (f, ap is_plain read ∙ one_or_none (Some b) known)

-- of few octets
pub status_few : (n : ℕ) (bit : Option ℕ) → n ≤ 6 → length (spelling plain_status (status_of n bit)) ≤ 44
status_few n None le =
    let a = serial_few n (omega (arith, le)) in
    let number : List ℕ = tlv 2 (integer_octets n) in
    let b = value_few 2 (integer_octets n) (omega (arith, a)) in
    let inside : List ℕ = number ++ [] in
    let c = length-append number [] in
    let d = value_few 160 inside (omega (arith, a, b, c)) in
    omega (arith, a, b, c, d)
status_few n (Some k) le =
    let a = serial_few n (omega (arith, le)) in
    let number : List ℕ = tlv 2 (integer_octets n) in
    let b = value_few 2 (integer_octets n) (omega (arith, a)) in
    let e = fail_few (2 ^ (31 - k)) in
    let fail : List ℕ = tlv 3 (one_bit k) in
    let f = value_few 3 (one_bit k) (omega (arith, e)) in
    let inside : List ℕ = number ++ (fail ++ []) in
    let c = length-append number (fail ++ []) in
    let g = length-append fail [] in
    let d = value_few 160 inside (omega (arith, a, b, c, e, f, g)) in
    omega (arith, a, b, c, d, e, f, g)

statuses_few : (o : Option Status) → length (spelled_if (spelling plain_status) (option_map view_status o)) ≤ 44
statuses_few None = omega arith
statuses_few (Some s) = status_few s.status s.bit s.known

statuses_fit : (o : Option Status) → IfSome (option_map view_status o) (Fits plain_status 31)
statuses_fit None = tt
statuses_fit (Some s) = status_plain s.status s.bit s.known s.bit_known

-- the policy
policy_few : (o : Option (List ℕ)) → ForSome o IsPolicyName → length (spelled_if (tlv 161) o) ≤ 2058
policy_few None h = omega arith
policy_few (Some c) h = let short : length c ≤ 2048 = (h c refl).0 in omega (arith, short, value_few 161 c (omega arith))

-- the signers
signers_few : (o : Option (List ℕ)) → IfSome o AreSigners → length (spelled_if (tlv 162) o) ≤ 4294967306
signers_few None h = omega arith
signers_few (Some c) h = omega (arith, h.1, value_few 162 c (omega arith))

signers_fit : (o : Option (List ℕ)) → IfSome o AreSigners → ∥ IfSome o (Fits (list_of 162 false signer_info) 31) ∥₁
signers_fit None h = ∣ tt ∣₁
signers_fit (Some c) h = h.0

-- the entries
certs_few : (o : Option (List ℕ)) → IfSome o AreTargets → length (spelled_if (tlv 163) o) ≤ 4611686018427387914
certs_few None h = omega arith
certs_few (Some c) h = omega (arith, h.1, value_few 163 c (omega arith))

certs_fit : (o : Option (List ℕ)) → IfSome o AreTargets → ∥ IfSome o (Fits (target_chains 163) 31) ∥₁
certs_fit None h = ∣ tt ∣₁
certs_fit (Some c) h = h.0

-- ---- the draft

-- A draft whose information is the octets of a value that fits, whose policy is a server's, whose signers are a SET OF SignerInfo, and whose entries are
-- a SEQUENCE OF TargetEtcChain.
module _ (info : ValueOf request_information) (octets : List ℕ) (i : Imprint) (time : ℕ) (status : Option Status) (policy signers certs : Option (List ℕ)) (same : octets ≡ spelling request_information info)
    (few : length octets < 4294967296) (named : ForSome policy IsPolicyName) (signed : IfSome signers AreSigners) (listed : IfSome certs AreTargets) where
  -- its octets
  pub made_short : length (spelling draft (draft_of octets i time status policy signers certs)) < 9223372036854775808
  made_short =
      let d : ValueOf draft = draft_of octets i time status policy signers certs in
      let a = imprint_few i.kind i.with_null i.digest i.sized in
      let b = length-append octets (spelling imprint (view_imprint i)) in
      let e = later_size time (option_map view_status status) policy signers certs in
      let s = statuses_few status in
      let p = policy_few policy named in
      let r = signers_few signers signed in
      let q = certs_few certs listed in
      let inside : length (contents draft_fields d) < 18446744073709551616 = omega (arith, few, a, b, e, s, p, r, q, fields_size d) in
      omega (arith, few, a, b, e, s, p, r, q, fields_size d, value_few 48 (contents draft_fields d) inside)

  -- it fits
  pub made_fits : ∥ Fits request_information 31 info ∥₁ → time ≤ last_second → ∥ Fits draft 32 (draft_of octets i time status policy signers certs) ∥₁
  made_fits fits within =
      let short = made_short in
      let made : Fits request_information 31 info → IfSome policy (Fits kept_policy 31) → IfSome signers (Fits (list_of 162 false signer_info) 31) → IfSome certs (Fits (target_chains 163) 31)
      → Fits draft 32 (draft_of octets i time status policy signers certs) = λ f p r q.
      (let shorter : length (spelling draft (draft_of (spelling request_information info) i time status policy signers certs)) < 18446744073709551616 =
      subst (λ (o : List ℕ). length (spelling draft (draft_of o i time status policy signers certs)) < 18446744073709551616) same (omega (arith, short)) in
      subst (λ (o : List ℕ). Fits draft 32 (draft_of o i time status policy signers certs)) (sym same)
      (draft_fits info (view_imprint i) time (option_map view_status status) policy signers certs f (imprint_fits i.kind i.with_null i.digest i.sized) within (statuses_fit status) p r q shorter)) in
      let policies = merely_if (Fits kept_policy 31) policy (λ x e. policy_fits x (named x e)) in
      ∥∥₁_elim fits ∥∥₁_prop (λ f. ∥∥₁_elim policies ∥∥₁_prop (λ p. ∥∥₁_elim (signers_fit signers signed) ∥∥₁_prop (λ r. ∥∥₁_map (certs_fit certs listed) (λ q. made f p r q))))
