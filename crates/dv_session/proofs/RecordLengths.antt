-- How long the parts of a message are, and the record of a draft that it is answered with.
use Rattle.std.proofs.Common.{◌≡◌, ◌≤◌, ◌<◌, ◌*◌, ◌+◌, ◌++◌, ◌∷◌, ◌∙◌, ℕ, Bool, true, false, cond, ltb, Result, Ok, Err, Option, Some, None, List, [], length, inl, inr, refl, sym, ap, subst, arith}
use Rattle.std.specs.Prelude.{All, IsOk, is_some, unwrap_or}
use Rattle.std.specs.List.{concat, list_all}
use Rattle.std.specs.Option.{ForSome}
use Rattle.std.proofs.lemmas.Bool.{ltb-false}
use Rattle.std.proofs.lemmas.List.{length-append}
use Rattle.std.proofs.lemmas.List.Elements.{All-head, All-tail}
use Rattle.dv_schema.specs.Schema.{FieldsOf, ValueOf, contents, raw, sequence_of, spelled_if, spelling}
use Rattle.dv_schema.specs.Fits.{Fits}
use Rattle.dv_schema.specs.Tlv.{tlv}
use Rattle.dv_cms.specs.Types.{content_info, signed_data, signed_data_type}
use Rattle.dv_time.specs.Views.{view_moment}
use Rattle.dv_names.specs.Types.{general_name}
use Rattle.dv_request.specs.Request.{request_data_type}
use Rattle.dv_request.specs.Targets.{targets_in}
use Rattle.dv_request.specs.Types.{data_of_request, dvcs_request, request_fields, request_information, target_chain}
use Rattle.dv_request.proofs.MessageLemmas.{octets_few}
use Rattle.dv_x509.specs.declared.fault.X509.{X509}
use Rattle.dv_x509.specs.declared.fault.X509.TheVariants.{TooLong}
use Rattle.dv_x509.specs.Judged.{certificate_in}
use Rattle.dv_x509.specs.Types.{certificate_fields}
use Rattle.dv_x509.proofs.OwnLemmas.{length-tlv}
use Rattle.dv_draft.specs.declared.draft.Answer.{Answer}
use Rattle.dv_draft.specs.declared.draft.Answer.TheVariants.{Draft as Drafted, Notice}
use Rattle.dv_draft.specs.declared.draft.Draft.{Draft}
use Rattle.dv_draft.specs.declared.server.Server.{Server}
use Rattle.dv_draft.specs.CertInfo.{after_serial, before_serial}
use Rattle.dv_draft.specs.Records.{IsCertificate, record_of}
use Rattle.dv_draft.specs.Servers.{IsPolicyName}
use Rattle.dv_draft.specs.Types.{draft, draft_fields, imprint, plain_status}
use Rattle.dv_draft.specs.Views.{view_draft}
use Rattle.dv_draft.proofs.DraftLemmas.{fields_size, later_size}
use Rattle.dv_draft.proofs.ListLemmas.{record_is}
use Rattle.dv_draft.proofs.MadeLemmas.{imprint_few}
use Rattle.dv_path.specs.Anchors.{Anchored}
use Rattle.dv_svc_pkc.specs.Certificates.{pkc_failure}
use Rattle.dv_svc_pkc.specs.Drafts.{IsPkc, pkc_of}
use Rattle.dv_svc_pkc.specs.Entries.{entries_of, granted_if}
use Rattle.dv_svc_pkc.proofs.Lengths.{certs_few}
use Rattle.dv_parts.specs.Drafts.{imprint_by_server}
use Rattle.dv_svc_document.specs.Drafts.{entries_in as document_entries, status_in}
use Rattle.dv_svc_document.proofs.Lengths.{entries_few as document_entries_few, statuses_few}
use Rattle.dv_answer.specs.declared.reply.Reply.{Reply}
use Rattle.dv_answer.specs.Messages.{IsRequestMessage}
use Rattle.dv_answer.specs.Failures.{IsFailure, IsSignersFailure, OrNext}
use Rattle.dv_answer.specs.Replies.{IsAnswerOf, IsAnswerWith, IsDraftFor, IsMessageDraft, IsReply, request_message, other_octets, signers_in}
use Rattle.dv_answer.specs.Steps.{Office, data_failure, first_of, form_failure, is_vsd, office_failure, time_failure}
use Rattle.dv_answer.proofs.SignedLemmas.{content_short}

-- ---- certificates

not_too_long : (b : Bool) (r : Result (FieldsOf certificate_fields) X509) → IsOk (cond b (Err TooLong) r) → b ≡ false
not_too_long true r h = absurd cc
not_too_long false r h = refl

-- a certificate that decodes has at most 8,192 octets
certificate_few : (octets : List ℕ) → IsCertificate octets → length octets ≤ 8192
unfolding certificate_in
certificate_few octets h = ltb-false 8192 (length octets) (not_too_long (ltb 8192 (length octets)) _ h)

joined_few : (cs : List (List ℕ)) → All IsCertificate cs → length (concat cs) ≤ length cs * 8192
joined_few [] h = omega arith
joined_few (c ∷ cs) h =
    omega (arith, length-append c (concat cs), certificate_few c (All-head IsCertificate c cs h), joined_few cs (All-tail IsCertificate c cs h))

-- ---- messages

-- the octets of a content are fewer than those of the ContentInfo that holds it
content_few : (type content : List ℕ) → length content ≤ length (spelling content_info (type, ((content, tt), tt)))
content_few type content =
    let front : List ℕ = tlv 6 type in
    let explicit : List ℕ = tlv 160 (content ++ []) in
    omega (
      arith,
      length-tlv 48 (front ++ (explicit ++ [])),
      length-append front (explicit ++ []),
      length-append explicit [],
      length-tlv 160 (content ++ []),
      length-append content [],
    )

-- those of a request, and of its signers where it is signed, are fewer than those of its message
request_few : (octets : List ℕ) (document : Option (ValueOf signed_data)) (v : ValueOf dvcs_request) → IsRequestMessage document v octets
    → length (spelling dvcs_request v) + length (unwrap_or (signers_in document) []) ≤ length octets
request_few octets None v message = omega (arith, ap length message.1.1, content_few request_data_type (spelling dvcs_request v))
request_few octets (Some document) v message =
    let held = message.1.0 in
    omega (
      arith,
      ap length held.2,
      content_few signed_data_type (spelling signed_data document),
      content_short document (spelling dvcs_request v) message.1.1.holds,
    )

-- a value that is there has its own octets
spelled_same : (o : Option (List ℕ)) → spelled_if (spelling (raw general_name)) o ≡ unwrap_or o []
spelled_same None = refl
spelled_same (Some octets) = refl

-- the octets of its information, and those of its transactionIdentifier
parts_few : (v : ValueOf dvcs_request) → length (spelling request_information v.0) + length (unwrap_or v.1.1.0 []) ≤ length (spelling dvcs_request v)
parts_few v =
    let a : List ℕ = spelling request_information v.0 in
    let b : List ℕ = spelling data_of_request v.1.0 in
    let d : List ℕ = spelled_if (spelling (raw general_name)) v.1.1.0 in
    omega (
      arith,
      length-tlv 48 (contents request_fields v),
      length-append a (b ++ (d ++ [])),
      length-append b (d ++ []),
      length-append d [],
      ap length (spelled_same v.1.1.0),
    )

-- the transactionIdentifier of a reply is no longer than the message
pub transaction_few : (octets : List ℕ) (moment : ℕ) (server : Server) (anchors : List Anchored) (reply : Reply) → IsReply octets moment server anchors reply → length (unwrap_or reply.transaction []) ≤ length octets
transaction_few octets moment server anchors reply (request_message document v message carried answered) =
    omega (arith, ap (λ (o : Option (List ℕ)). length (unwrap_or o [])) carried, parts_few v, request_few octets document v message)
transaction_few octets moment server anchors reply (other_octets none absent notice) = omega (arith, ap (λ (o : Option (List ℕ)). length (unwrap_or o [])) absent)

-- ---- drafts

-- the octets of its data
data_few : (v : ValueOf dvcs_request) → length (spelling data_of_request v.1.0) ≤ length (spelling dvcs_request v)
data_few v =
    let a : List ℕ = spelling request_information v.0 in
    let b : List ℕ = spelling data_of_request v.1.0 in
    let d : List ℕ = spelled_if (spelling (raw general_name)) v.1.1.0 in
    omega (arith, length-tlv 48 (contents request_fields v), length-append a (b ++ (d ++ [])), length-append b (d ++ []))

-- The draft for a request has its information, an imprint, the moment, the policy and the signers; a status of a few octets, or none; and the
-- contents octets of entries, or none, which have at most 328,160 octets more than a request.
record IsMade (v : ValueOf dvcs_request) (moment : ℕ) (policy signers : Option (List ℕ)) (d : ValueOf draft) : Type 0 where
  imprint_is : ValueOf imprint
  status : Option (ValueOf plain_status)
  certs : Option (List ℕ)
  is : d ≡ (spelling request_information v.0, (imprint_is, (view_moment moment, (status, (policy, (signers, (certs, tt)))))))
  status_few : length (spelled_if (spelling plain_status) status) ≤ 44
  certs_short : length (unwrap_or certs []) ≤ 590304

granted_few : (granted : Bool) → length (spelling plain_status (granted_if granted)) ≤ 44
granted_few true = omega arith
granted_few false = omega arith

-- that of the validation of certificates
validated_made : (v : ValueOf dvcs_request) (certs : List ℕ) (anchors : List Anchored) (moment : ℕ) (policy signers : Option (List ℕ)) (d : ValueOf draft) → v.1.0 ≡ inr (inr certs) → Fits dvcs_request 30 v
    → length (spelling dvcs_request v) ≤ 262144 → pkc_failure (targets_in certs) ≡ None → IsPkc v certs anchors moment policy signers d → IsMade v moment policy signers d
validated_made v certs anchors moment policy signers d same fits few checked p =
    let has = ap (λ (x : ValueOf data_of_request). length (spelling data_of_request x)) same in
    let short : length certs ≤ 262144 = omega (arith, few, data_few v, has) in
    let fit = subst (λ (x : ValueOf data_of_request). ∥ Fits dvcs_request 30 (v.0, (x, (v.1.1.0, tt))) ∥₁) same ∣ fits ∣₁ in
    let entries = certs_few v.0 certs v.1.1.0 anchors p.when p.outcomes fit checked (omega (arith, short)) p.right in
    record {
      imprint_is = (pkc_of v certs p.outcomes moment policy signers).1.0;
      status = Some (granted_if (list_all is_some p.outcomes));
      certs = Some (contents (sequence_of true target_chain) (entries_of (targets_in certs) p.outcomes));
      is = p.is;
      status_few = granted_few (list_all is_some p.outcomes);
      certs_short = omega (arith, entries, short);
    }

-- that of a message: of the validation of a document, or of its possession
message_made : (validates : Bool) (v : ValueOf dvcs_request) (message : List ℕ) (anchors : List Anchored) (moment : ℕ) (policy signers : Option (List ℕ)) (d : ValueOf draft)
    → IsMessageDraft validates v message anchors moment policy signers d → IsMade v moment policy signers d
message_made true v message anchors moment policy signers d p = record {
  imprint_is = imprint_by_server message;
  status = Some (status_in p.document p.results);
  certs = document_entries p.document p.results;
  is = p.is;
  status_few = statuses_few p.document p.results;
  certs_short = let few = document_entries_few message p.document anchors p.when p.results p.read p.right in omega (arith, few);
}
message_made false v message anchors moment policy signers d is = record { imprint_is = imprint_by_server message; status = None; certs = None; is = is; status_few = omega arith; certs_short = omega arith }

drafted_for : (matter : ValueOf data_of_request) (v : ValueOf dvcs_request) (anchors : List Anchored) (moment : ℕ) (policy signers : Option (List ℕ)) (d : Draft) → v.1.0 ≡ matter → Fits dvcs_request 30 v
    → length (spelling dvcs_request v) ≤ 262144 → data_failure matter ≡ None → IsDraftFor matter v anchors moment policy signers (Drafted d) → IsMade v moment policy signers (view_draft d)
drafted_for (inl message) v anchors moment policy signers d same fits few none is = message_made (is_vsd v) v message anchors moment policy signers (view_draft d) is
drafted_for (inr (inl claim)) v anchors moment policy signers d same fits few none is = record { imprint_is = claim; status = None; certs = None; is = is; status_few = omega arith; certs_short = omega arith }
drafted_for (inr (inr certs)) v anchors moment policy signers d same fits few none is = validated_made v certs anchors moment policy signers (view_draft d) same fits few none is

drafted_with : (failure : Option ℕ) (v : ValueOf dvcs_request) (anchors : List Anchored) (moment : ℕ) (policy signers : Option (List ℕ)) (d : Draft) → Fits dvcs_request 30 v → length (spelling dvcs_request v) ≤ 262144
    → (failure ≡ None → data_failure v.1.0 ≡ None) → IsAnswerWith failure v anchors moment policy signers (Drafted d) → IsMade v moment policy signers (view_draft d)
drafted_with (Some bit) v anchors moment policy signers d fits few none is = absurd cc
drafted_with None v anchors moment policy signers d fits few none is = drafted_for v.1.0 v anchors moment policy signers d refl fits few (none refl) is

-- where no step refuses a request, its data have no failure
second_none : (a b c : Option ℕ) → None ≡ first_of (a ∷ b ∷ c ∷ []) → b ≡ None
second_none None None c e = refl
second_none None (Some bit) c e = absurd cc
second_none (Some bit) b c e = absurd cc

none_next : (first : Option ℕ) (IsNext : Option ℕ → Type 0) (failure : Option ℕ) → failure ≡ None → OrNext first IsNext failure → IsNext failure
none_next None IsNext failure none is = is
none_next (Some bit) IsNext failure none is = absurd cc

data_passed : (office : Office) (anchors : List Anchored) (moment : ℕ) (document : Option (ValueOf signed_data)) (v : ValueOf dvcs_request) (failure : Option ℕ) → IsFailure office anchors moment document v failure → failure ≡ None
    → data_failure v.1.0 ≡ None
data_passed office anchors moment document v failure is none =
    let x = none_next (first_of (form_failure moment v ∷ office_failure office v ∷ []))
    (λ f. (signers : Option ℕ) × IsSignersFailure document anchors moment signers × (f ≡ first_of (signers ∷ data_failure v.1.0 ∷ time_failure office moment ∷ []))) failure none is in
    second_none x.0 (data_failure v.1.0) (time_failure office moment) (sym none ∙ x.2)

-- a value has at most ten octets more than its contents
value_few : (tag : ℕ) (c : List ℕ) → length c < 18446744073709551616 → length (tlv tag c) ≤ length c + 10
value_few tag c short = omega (arith, octets_few (length c) short, length-tlv tag c)

policy_few : (o : Option (List ℕ)) → ForSome o IsPolicyName → length (spelled_if (tlv 161) o) ≤ 2058
policy_few None named = omega arith
policy_few (Some c) named = let short : length c ≤ 2048 = (named c refl).0 in omega (arith, short, value_few 161 c (omega arith))

signers_few : (o : Option (List ℕ)) → length (unwrap_or o []) ≤ 262144 → length (spelled_if (tlv 162) o) ≤ length (unwrap_or o []) + 10
signers_few None short = omega arith
signers_few (Some c) short = value_few 162 c (omega (arith, short))

entries_few : (o : Option (List ℕ)) → length (unwrap_or o []) ≤ 590304 → length (spelled_if (tlv 163) o) ≤ 590314
entries_few None short = omega arith
entries_few (Some c) short = omega (arith, short, value_few 163 c (omega (arith, short)))

-- a draft has at most 592,600 octets more than the request's information and its signers
draft_few : (v : ValueOf dvcs_request) (moment : ℕ) (policy signers : Option (List ℕ)) (d : Draft) → IsMade v moment policy signers (view_draft d) → ForSome policy IsPolicyName
    → length (spelling request_information v.0) + length (unwrap_or signers []) ≤ 262144
    → length (spelling draft (view_draft d)) ≤ length (spelling request_information v.0) + length (unwrap_or signers []) + 592600
draft_few v moment policy signers d m named short =
    let info : List ℕ = spelling request_information v.0 in
    let w : ValueOf draft = (info, (m.imprint_is, (view_moment moment, (m.status, (policy, (signers, (m.certs, tt))))))) in
    let same : length (spelling imprint m.imprint_is) ≡ length (spelling imprint (view_draft d).1.0) = sym (ap (λ (x : ValueOf draft). length (spelling imprint x.1.0)) m.is) in
    let few = imprint_few d.imprint.kind d.imprint.with_null d.imprint.digest d.imprint.sized in
    let before = length-append info (spelling imprint m.imprint_is) in
    let after = later_size moment m.status policy signers m.certs in
    let signed_few = signers_few signers (omega (arith, short)) in
    let named_few = policy_few policy named in
    let entries = entries_few m.certs m.certs_short in
    let inside : length (contents draft_fields w) ≤ length info + length (unwrap_or signers []) + 592580 = omega (arith, same, few, before, after, named_few, signed_few, entries, m.status_few, fields_size w) in
    omega (arith, inside, short, value_few 48 (contents draft_fields w) (omega (arith, inside, short)), ap (λ (x : ValueOf draft). length (spelling draft x)) m.is)

-- the record of a draft that a request is answered with
answered_few : (octets : List ℕ) (moment : ℕ) (server : Server) (anchors : List Anchored) (document : Option (ValueOf signed_data)) (v : ValueOf dvcs_request) (d : Draft) → IsRequestMessage document v octets
    → IsAnswerOf server anchors moment document v (Drafted d) → length octets ≤ 262144 → length (record_of server.certificates (view_draft d)) ≤ 1048576
answered_few octets moment server anchors document v d message answered few =
    let signers : Option (List ℕ) = signers_in document in
    let all_few = request_few octets document v message in
    let whole : length (spelling dvcs_request v) ≤ 262144 = omega (arith, few, all_few) in
    let none = data_passed answered.office anchors moment document v answered.failure answered.is_failure in
    let made = drafted_with answered.failure v anchors moment server.policy signers d message.0 whole none answered.is in
    let info : length (spelling request_information v.0) + length (unwrap_or signers []) ≤ 262144 = omega (arith, few, all_few, parts_few v) in
    let drafted = draft_few v moment server.policy signers d made server.named info in
    let all : List ℕ = concat server.certificates in
    let joined : length all ≤ 49152 = omega (arith, joined_few server.certificates server.decoded, server.few) in
    omega (
      arith,
      info,
      drafted,
      value_few 48 all (omega (arith, joined)),
      joined,
      length-append (tlv 48 all) (spelling draft (view_draft d)),
      ap length (record_is server.certificates (view_draft d)),
    )

-- the record of the draft of a reply to at most 262,144 octets has at most 1,048,576
pub record_few : (octets : List ℕ) (moment : ℕ) (server : Server) (anchors : List Anchored) (reply : Reply) (d : Draft) → IsReply octets moment server anchors reply → reply.answer ≡ Drafted d → length octets ≤ 262144
    → length (record_of server.certificates (view_draft d)) ≤ 1048576
record_few octets moment server anchors reply d (request_message document v message carried answered) is few =
    answered_few octets moment server anchors document v d message (subst (IsAnswerOf server anchors moment document v) is answered) few
record_few octets moment server anchors reply d (other_octets none absent notice) is few = absurd cc
