-- What is given for a reply: a notice, or the certificate of the record that is added.
use Rattle.std.proofs.Common.{◌≡◌, ◌≢◌, ◌≤◌, ◌<◌, ◌+◌, ◌++◌, ◌∷◌, ◌∙◌, ℕ, Bool, true, false, cond, Result, Ok, Err, Option, Some, None, List, [], length, get_or, inl, inr, refl, sym, ap, subst, arith}
use Rattle.std.specs.Prelude.{◌⊎◌, ◌==◌, ◌&&◌, nat_lt, not, IfOk, IfSome, unwrap_or}
use Rattle.std.specs.List.{cons_option, filter_map, list_all, slice_get}
use Rattle.std.specs.declared.alloc.AllocError.{AllocError}
use Rattle.std.proofs.lemmas.List.{append_cancel_left, length-append}
use Rattle.std.proofs.lemmas.Option.{slice_get-get_or}
use Rattle.std.proofs.Math.Logic.{∥∥₁_elim}
use Rattle.std.proofs.Math.Nat.{ℕ_set}
use Rattle.std.proofs.Math.Seq.{get_or-append_seam}
use mathlib.Core.Sum.{⊎_set}
use mathlib.Core.List.{is_set as List_set}
use Rattle.dv_schema.specs.Fits.{Fits}
use Rattle.dv_schema.specs.Schema.{ValueOf, raw}
use Rattle.dv_outside.specs.Releases.{Entry, Identity as RuleIdentity}
use Rattle.dv_outside.specs.Station.{Counts, Spends}
use Rattle.dv_lms.specs.declared.height.Height.{Height}
use Rattle.dv_lms.specs.declared.height.Height.TheVariants.{H5}
use Rattle.dv_lms.specs.Identity.{Identity as Key}
use Rattle.dv_register.specs.State.{rule_identity}
use Rattle.dv_names.specs.Digest.{kind_of}
use Rattle.dv_names.specs.Types.{general_name}
use Rattle.dv_request.specs.Targets.{targets_in}
use Rattle.dv_request.specs.Types.{data_of_request, dvcs_request, target_chain}
use Rattle.dv_draft.specs.declared.draft.Answer.{Answer}
use Rattle.dv_draft.specs.declared.draft.Answer.TheVariants.{Draft as Drafted, Notice}
use Rattle.dv_draft.specs.declared.server.Server.{Server}
use Rattle.dv_draft.specs.CertInfo.{cert_info_of}
use Rattle.dv_draft.specs.Records.{record_in, record_of}
use Rattle.dv_draft.specs.Types.{draft, has_length}
use Rattle.dv_path.specs.Anchors.{Anchored}
use Rattle.dv_path.specs.declared.path.Path.{Path}
use Rattle.dv_path.specs.Members.{member}
use Rattle.dv_cms.specs.Types.{signed_data, signer_info}
use Rattle.dv_x509.specs.Uses.{usage_of}
use Rattle.dv_names.specs.declared.digest.DigestKind.{DigestKind}
use Rattle.dv_signed.specs.declared.fault.SignerFault.{SignerFault}
use Rattle.dv_signed.specs.Certificates.{signers_of}
use Rattle.dv_signed.specs.Check.{known_kind}
use Rattle.dv_svc_document.specs.declared.result.SignerResult.{SignerResult}
use Rattle.dv_svc_document.specs.Bags.{bag_of}
use Rattle.dv_svc_document.specs.Named.{named_by}
use Rattle.dv_svc_document.specs.Results.{IsResultAt, IsResultWith, may_sign, trust_failure}
use Rattle.dv_svc_pkc.specs.Certificates.{certificates_of, is_certificate, is_refused, target_failure}
use Rattle.dv_svc_possession.specs.Possession.{is_unknown}
use Rattle.dv_cert.specs.Certificates.{MayLeave, certificate_of, issued_if, key_of, sealed_with, service_issued}
use Rattle.dv_cert.specs.Notices.{IsTransaction}
use Rattle.dv_cert.proofs.LeaveLemmas.{notice_leaves}
use Rattle.dv_register.specs.declared.refusals.Reserve.{Reserve}
use Rattle.dv_register.specs.declared.refusals.Reserve.TheVariants.{Full, Shut, Fault}
use Rattle.dv_session.specs.declared.issuing.Issued.{Issued}
use Rattle.dv_answer.specs.declared.reply.Reply.{Reply}
use Rattle.dv_answer.specs.Messages.{is_token, takes, version_of}
use Rattle.dv_session.specs.Issuing.{Given, bit_of_refusal, notice_for, view_issued}
use Rattle.dv_answer.specs.Failures.{IsFailure, IsFailureOf, IsFirstBit, IsSignersFailure, OrNext}
use Rattle.dv_answer.specs.Replies.{IsAnswerOf, IsAnswerWith, IsDraftFor, IsReply, request_message, other_octets, signers_in}
use Rattle.dv_answer.specs.Steps.{Office, data_failure, first_of, form_failure, has_critical, extensions_of, is_another_policy, is_after, is_for_others, is_timed, is_valid_at, office_failure, policy_of, service_of, servers_of, time_failure, time_of}

-- ---- notices

-- a failure that there is stands among the bits of RFC 4210, section 5.2.3
abbrev IsKnown : Option ℕ → Type 0
IsKnown o = IfSome o (λ bit. bit ≤ 26)

known_if : (b : Bool) (x y : Option ℕ) → IsKnown x → IsKnown y → IsKnown (cond b x y)
known_if true x y p q = p
known_if false x y p q = q

known_first : (o : Option ℕ) (more : List (Option ℕ)) → IsKnown o → IsKnown (first_of more) → IsKnown (first_of (o ∷ more))
known_first None more p q = q
known_first (Some bit) more p q = p

known_form : (moment : ℕ) (v : ValueOf dvcs_request) → IsKnown (form_failure moment v)
known_form moment v =
    known_if (not (version_of v == 1)) (Some 2) _ (omega arith)
    (known_if (not (takes (service_of v) v.1.0)) (Some 2) _ (omega arith)
    (known_if (is_token (time_of v)) (Some 3) _ (omega arith)
    (known_if (is_timed (service_of v) && is_after moment (time_of v)) (Some 3) None (omega arith) tt)))

known_office : (office : Office) (v : ValueOf dvcs_request) → IsKnown (office_failure office v)
known_office office v =
    known_if (is_for_others office.subject (servers_of v)) (Some 6) _ (omega arith)
    (known_if (is_another_policy office.policy (policy_of v)) (Some 15) _ (omega arith) (known_if (has_critical (extensions_of v)) (Some 16) None (omega arith) tt))

known_cons : (o : Option ℕ) (bits : List ℕ) → IsKnown o → IsKnown (slice_get bits 0) → IsKnown (slice_get (cons_option o bits) 0)
known_cons None bits p q = q
known_cons (Some bit) bits p q = p

known_target : (t : ValueOf target_chain) → IsKnown (target_failure t)
known_target t =
    let good = list_all is_certificate (certificates_of t) in
    known_if (is_refused t) (Some 2) (cond good None (Some 5)) (omega arith) (known_if good None (Some 5) tt (omega arith))

known_targets : (ts : List (ValueOf target_chain)) → IsKnown (slice_get (filter_map target_failure ts) 0)
known_targets [] = tt
known_targets (t ∷ ts) = known_cons (target_failure t) (filter_map target_failure ts) (known_target t) (known_targets ts)

known_data : (matter : ValueOf data_of_request) → IsKnown (data_failure matter)
known_data (inl message) = tt
known_data (inr (inl claim)) =
    let fits = has_length (kind_of claim.0) claim.1.0 in
    known_if (is_unknown (kind_of claim.0)) (Some 0) (cond fits None (Some 5)) (omega arith) (known_if fits None (Some 5) tt (omega arith))
known_data (inr (inr certs)) = known_if (nat_lt 8 (length (targets_in certs))) (Some 2) _ (omega arith) (known_targets (targets_in certs))

-- so does that of a signer
known_trust : (path : Option Path) (usage : Option ℕ) → IsKnown (trust_failure path usage)
known_trust None usage = omega arith
known_trust (Some path) usage = known_if (may_sign usage) None (Some 20) tt (omega arith)

known_with : (fault : Option SignerFault) (document : ValueOf signed_data) (position : ℕ) (anchors : List Anchored) (when : ℕ) (r : SignerResult) → IsResultWith fault document position anchors when r → IsKnown r.bit
known_with (Some fault) document position anchors when r is = subst (λ (x : SignerResult). IsKnown x.bit) (sym is) (omega arith)
known_with None document position anchors when r is = subst (λ (x : SignerResult). IsKnown x.bit) (sym is.1) (known_trust r.path (usage_of (member (bag_of document) position)))

known_at : (kind : Option DigestKind) (named : Option ℕ) (s : ValueOf signer_info) (document : ValueOf signed_data) (anchors : List Anchored) (when : ℕ) (r : SignerResult) → IsResultAt kind named s document anchors when r
    → IsKnown r.bit
known_at None named s document anchors when r is = subst (λ (x : SignerResult). IsKnown x.bit) (sym is) (omega arith)
known_at (Some kind) None s document anchors when r is = subst (λ (x : SignerResult). IsKnown x.bit) (sym is) (omega arith)
known_at (Some kind) (Some position) s document anchors when r is = known_with is.0 document position anchors when r is.2

known_or : (first : Option ℕ) (IsNext : Option ℕ → Type 0) (failure : Option ℕ) → IsKnown first → (IsNext failure → IsKnown failure) → OrNext first IsNext failure → IsKnown failure
known_or None IsNext failure known next is = next is
known_or (Some bit) IsNext failure known next is = subst IsKnown (sym is) known

known_bit : (document : ValueOf signed_data) (anchors : List Anchored) (moment : ℕ) (ss : List (ValueOf signer_info)) (failure : Option ℕ) → IsFirstBit document anchors moment ss failure → IsKnown failure
known_bit document anchors moment [] failure is = subst IsKnown (sym is) tt
known_bit document anchors moment (s ∷ ss) failure is =
    known_or is.0.bit (IsFirstBit document anchors moment ss) failure (known_at (known_kind s) (named_by s (bag_of document)) s document anchors moment is.0 is.1)
    (known_bit document anchors moment ss failure) is.2

known_of : (document : ValueOf signed_data) (anchors : List Anchored) (moment : ℕ) (ss : List (ValueOf signer_info)) (failure : Option ℕ) → IsFailureOf document anchors moment ss failure → IsKnown failure
known_of document anchors moment [] failure is = subst IsKnown (sym is) (omega arith)
known_of document anchors moment (s ∷ ss) failure is = known_bit document anchors moment (s ∷ ss) failure is

known_signers : (document : Option (ValueOf signed_data)) (anchors : List Anchored) (moment : ℕ) (failure : Option ℕ) → IsSignersFailure document anchors moment failure → IsKnown failure
known_signers None anchors moment failure is = subst IsKnown (sym is) tt
known_signers (Some document) anchors moment failure is = known_of document anchors moment (signers_of document) failure is

-- and that of a request
known_failure : (office : Office) (anchors : List Anchored) (moment : ℕ) (document : Option (ValueOf signed_data)) (v : ValueOf dvcs_request) (failure : Option ℕ) → IsFailure office anchors moment document v failure
    → IsKnown failure
known_failure office anchors moment document v failure is =
    known_or (first_of (form_failure moment v ∷ office_failure office v ∷ []))
    (λ failure. (signers : Option ℕ) × IsSignersFailure document anchors moment signers × (failure ≡ first_of (signers ∷ data_failure v.1.0 ∷ time_failure office moment ∷ [])))
    failure
    (known_first (form_failure moment v) (office_failure office v ∷ []) (known_form moment v) (known_first (office_failure office v) [] (known_office office v) tt))
    (λ x. subst IsKnown (sym x.2)
    (known_first x.0 _ (known_signers document anchors moment x.0 x.1)
    (known_first (data_failure v.1.0) _ (known_data v.1.0) (known_first (time_failure office moment) [] (known_if (is_valid_at office moment) None (Some 14) tt (omega arith)) tt))))
    is

-- a draft is no notice
no_notice : (matter : ValueOf data_of_request) (v : ValueOf dvcs_request) (anchors : List Anchored) (moment : ℕ) (policy signers : Option (List ℕ)) (bit : ℕ) → IsDraftFor matter v anchors moment policy signers (Notice bit) → ⊥
no_notice (inl message) v anchors moment policy signers bit is = is
no_notice (inr (inl claim)) v anchors moment policy signers bit is = is
no_notice (inr (inr targets)) v anchors moment policy signers bit is = is

noticed_known : (failure : Option ℕ) (v : ValueOf dvcs_request) (anchors : List Anchored) (moment : ℕ) (policy signers : Option (List ℕ)) (bit : ℕ) → IsKnown failure
    → IsAnswerWith failure v anchors moment policy signers (Notice bit) → bit ≤ 26
noticed_known (Some b) v anchors moment policy signers bit known is = let same : bit ≡ b = cc in omega (arith, same, known)
noticed_known None v anchors moment policy signers bit known is = absurd (no_notice v.1.0 v anchors moment policy signers bit is)

-- the failure bit of a notice is known
pub bit_known : (octets : List ℕ) (moment : ℕ) (server : Server) (anchors : List Anchored) (reply : Reply) (bit : ℕ) → IsReply octets moment server anchors reply → reply.answer ≡ Notice bit → bit ≤ 26
bit_known octets moment server anchors reply bit (request_message document v message carried answered) is =
    noticed_known answered.failure v anchors moment server.policy (signers_in document) bit (known_failure answered.office anchors moment document v answered.failure answered.is_failure)
    (subst (IsAnswerWith answered.failure v anchors moment server.policy (signers_in document)) is answered.is)
bit_known octets moment server anchors reply bit (other_octets none absent notice) is = let same : bit ≡ 5 = cc in omega (arith, same)

-- a transactionIdentifier stands at depth 4
carried_is : (o : Option (List ℕ)) → IfSome o (Fits (raw general_name) 29) → IsTransaction (unwrap_or o [])
carried_is None fits = inl refl
carried_is (Some octets) fits = inr (fits.0, fits.2, fits.1)

pub transaction_is : (octets : List ℕ) (moment : ℕ) (server : Server) (anchors : List Anchored) (reply : Reply) → IsReply octets moment server anchors reply → IsTransaction (unwrap_or reply.transaction [])
transaction_is octets moment server anchors reply (request_message document v message carried answered) =
    subst (λ (o : Option (List ℕ)). IsTransaction (unwrap_or o [])) (sym carried) (carried_is v.1.1.0 message.0.2.1.1.0)
transaction_is octets moment server anchors reply (other_octets none absent notice) = inl (ap (λ (o : Option (List ℕ)). unwrap_or o []) absent)

-- ---- certificates

-- the key of a register is the one that its identity gives
held : (height : Height) (id seed : List ℕ) → key_of (rule_identity (record { height = height; id = id; seed = seed })) ≡ Some (record { height = height; id = id; seed = seed })
held H5 id seed = refl

-- octets are a set
octets_if_set : (x y : Option (List ℕ)) (p q : x ≡ y) → p ≡ q
octets_if_set = let l : IsSet (List ℕ) = List_set ℕ_set in let s : IsSet (Option (List ℕ)) = hlevel (l, ⊎_set) in s

-- the record of a draft stands for what is sealed
pub record_certificate : (key : Key) (first index : ℕ) (certificates : List (List ℕ)) (d : ValueOf draft) (octets : List ℕ) → ∥ Fits draft 32 d ∥₁
    → (Fits draft 32 d → record_in (record_of certificates d) ≡ Ok (certificates, d)) → octets ≡ sealed_with key index certificates (cert_info_of (first + index) d)
    → certificate_of (rule_identity key) first index (record { kind = 2; contents = record_of certificates d }) ≡ Some octets
unfolding certificate_of
record_certificate key first index certificates d octets fits read is =
    let entry : Entry = record { kind = 2; contents = record_of certificates d } in
    ∥∥₁_elim fits (octets_if_set _ _) (λ f.
    ap (λ (k : Option Key). issued_if k index (first + index) entry) (held key.height key.id key.seed) ∙ ap (service_issued key index (first + index)) (read f) ∙ ap Some (sym is))

-- the last record of a list
last_of : (list : List Entry) (entry : Entry) → slice_get (list ++ entry ∷ []) (length list) ≡ Some entry
last_of list entry =
    slice_get-get_or (list ++ entry ∷ []) (length list) entry (omega (arith, length-append list (entry ∷ []))) ∙ ap Some (get_or-append_seam list entry [] entry)

-- its certificate may leave
pub last_leaves : (key : RuleIdentity) (first : ℕ) (old new : List Entry) (entry : Entry) (octets : List ℕ) → new ≡ old ++ entry ∷ [] → certificate_of key first (length old) entry ≡ Some octets
    → MayLeave key first new octets
unfolding MayLeave
last_leaves key first old new entry octets added is =
    inl (length old, entry, ap (λ (l : List Entry). slice_get l (length old)) added ∙ last_of old entry, is)

-- a notice may leave
pub notice_leaves_if : (r : Result Issued AllocError) (key : RuleIdentity) (first : ℕ) (list : List Entry) (reply : Reply) (bit : ℕ) → bit ≤ 26 → IsTransaction (unwrap_or reply.transaction [])
    → IfOk r (λ i. view_issued i ≡ notice_for reply bit) → IfOk r (λ i. MayLeave key first list i.octets.items)
notice_leaves_if (Ok i) key first list reply bit few is told =
    subst (MayLeave key first list) (sym (ap (λ (g : Given). g.octets) told)) (notice_leaves key first list (unwrap_or reply.transaction []) bit few is)
notice_leaves_if (Err e) key first list reply bit few is told = tt

-- the failure bit for a draft for which no record is reserved is known
pub refusal_known : (refusal : Reserve) → bit_of_refusal refusal ≤ 26
refusal_known Full = omega arith
refusal_known Shut = omega arith
refusal_known Fault = omega arith

-- ---- what is spent

abbrev IsSpent : Counts → Counts → List Entry → List Entry → Type 0
IsSpent before after old new =
    (size : ℕ) × (size ≤ 1048576) × Spends 6 (size + 7) before after × ((entry : Entry) → new ≡ old ++ entry ∷ [] → size ≡ length entry.contents)

-- no list is one record longer than itself
not_longer : (list : List Entry) (entry : Entry) → list ≡ list ++ entry ∷ [] → ⊥
not_longer list entry same = omega (arith, ap length same, length-append list (entry ∷ []))

-- where no record is added
pub spent_in_vain : (size : ℕ) (before after : Counts) (old new : List Entry) → size ≤ 1048576 → Spends 6 (size + 7) before after → new ≡ old → IsSpent before after old new
spent_in_vain size before after old new few spends same = (size, few, spends, λ entry longer. absurd (not_longer old entry (sym same ∙ longer)))

-- where one is
pub spent_on_one : (size : ℕ) (before after : Counts) (old new : List Entry) (entry : Entry) → size ≤ 1048576 → Spends 6 (size + 7) before after → new ≡ old ++ entry ∷ [] → size ≡ length entry.contents
    → IsSpent before after old new
spent_on_one size before after old new entry few spends added is = (
  size,
  few,
  spends,
  λ other also. (let one = append_cancel_left old (entry ∷ []) (other ∷ []) (sym added ∙ also) in let same : entry ≡ other = cc in is ∙ ap (λ (e : Entry). length e.contents) same),
)
