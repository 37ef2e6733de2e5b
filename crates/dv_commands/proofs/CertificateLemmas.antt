-- Which octets a record stands for.
use Rattle.std.proofs.Common.{◌≡◌, ◌∙◌, inl, ⊎_elim, ◌≤◌, ◌+◌, ◌==◌, ℕ, List, [], ◌∷◌, length, Option, Some, None, Ok, ap, subst, refl, sym, arith, add-zero}
use Rattle.std.specs.Prelude.{if◌then◌else◌}
use Rattle.std.specs.List.{slice_get}
use Rattle.std.specs.Str.{IsUtf8}
use Rattle.dv_schema.specs.declared.refusal.Der.{Der}
use Rattle.dv_schema.specs.Reading.{read_all}
use Rattle.dv_schema.specs.Schema.{ValueOf, contents as contents_of, spelling}
use Rattle.dv_time.specs.Text.{Text, civil_in, civil_of, last_second, second_of, text_of}
use Rattle.dv_time.proofs.TextLemmas.{is_timed, one_second, second_again, text_tested, text_there}
use Rattle.dv_outside.specs.Releases.{Entry}
use Rattle.dv_lms.specs.declared.height.Height.{Height}
use Rattle.dv_lms.specs.declared.height.Height.TheVariants.{H5}
use Rattle.dv_lms.specs.Height.{levels}
use Rattle.dv_lms.specs.Identity.{Identity as Key}
use Rattle.dv_lms.specs.Signed.{public_of, signature_of}
use Rattle.dv_members.specs.Members.{front_of}
use Rattle.dv_register.specs.State.{rule_identity}
use Rattle.dv_x509.specs.declared.own.OwnParts.{OwnParts}
use Rattle.dv_x509.specs.Own.{OwnCertificate, OwnTbs}
use Rattle.dv_x509.proofs.OwnLemmas.{length-tlv}
use Rattle.dv_request.proofs.MessageLemmas.{octets_few}
use Rattle.dv_draft.specs.CertInfo.{cert_info_of}
use Rattle.dv_draft.specs.OwnRecords.{own_record, own_record_fields, view_own}
use Rattle.dv_draft.specs.Records.{record_in}
use Rattle.dv_draft.specs.Types.{draft}
use Rattle.dv_draft.proofs.DraftLemmas.{own_size}
use Rattle.dv_draft.proofs.LawLemmas.{own_again, own_fits}
use Rattle.dv_cert.specs.Certificates.{MayLeave, certificate_of, issued, issued_if, key_of, moment_of, own_issued, own_signed, service_issued}
use Rattle.dv_cert.specs.Sealed.{own_of, sealed, signed_by}
use Rattle.dv_commands.specs.Answers.{IsRefusedAs, own_entry, own_octets}

-- the key of a register by the identity that the rule sees
keyed : (height : Height) (id seed : List ℕ) → key_of (record { id = id; height = levels height; seed = seed }) ≡ Some (record { height = height; id = id; seed = seed })
keyed H5 id seed = refl

-- the certificate of a record, by the key
pub certificate_is : (key : Key) (first index : ℕ) (entry : Entry) → certificate_of (rule_identity key) first index entry ≡ issued key index (first + index) entry
unfolding certificate_of
certificate_is key first index entry = ap (λ (k : Option Key). issued_if k index (first + index) entry) (keyed key.height key.id key.seed)

-- what a record of some kind stands for
abbrev by_kind : Option (List ℕ) → Option (List ℕ) → ℕ → Option (List ℕ)
by_kind own service kind = if kind == 1 then own else if kind == 2 then service else None

module _ (key : Key) (index serial : ℕ) (entry : Entry) where
  pub issued_own : entry.kind ≡ 1 → issued key index serial entry ≡ own_issued key index serial (read_all own_record (front_of entry.contents))
  issued_own is =
      ap (by_kind (own_issued key index serial (read_all own_record (front_of entry.contents))) (service_issued key index serial (record_in entry.contents))) is

  pub issued_service : entry.kind ≡ 2 → issued key index serial entry ≡ service_issued key index serial (record_in entry.contents)
  issued_service is =
      ap (by_kind (own_issued key index serial (read_all own_record (front_of entry.contents))) (service_issued key index serial (record_in entry.contents))) is

  -- contents that don't decode stand for no certificate
  issued_none : (d : Der) → IsRefusedAs entry d → issued key index serial entry ≡ None
  issued_none d refused = ⊎_elim
      (λ own. issued_own own.0 ∙ ap (own_issued key index serial) own.1)
      (λ service. issued_service service.0 ∙ ap (service_issued key index serial) service.1)
      refused

pub unreadable : (key : Key) (first index : ℕ) (entry : Entry) (d : Der) → IsRefusedAs entry d → certificate_of (rule_identity key) first index entry ≡ None
unreadable key first index entry d refused = certificate_is key first index entry ∙ issued_none key index (first + index) entry d refused

-- the moment of a moment's text
moment_again : (s : ℕ) → s ≤ last_second → moment_of (text_of s) ≡ s
unfolding text_of
moment_again s within =
    let timed = second_again s within in
    let there : Text s (text_of s) = (civil_of s, is_timed (civil_of s) timed.0, timed.1, refl) in
    one_second (second_of (civil_in (text_of s))) s (text_of s) (text_there (text_of s) (text_tested s (text_of s) there)) there

-- the own certificate that a record stands for, by the parts that it holds
pub own_made : (key : Key) (index serial : ℕ) (contents : List ℕ) (parts : OwnParts) (tbs octets : List ℕ) → read_all own_record (front_of contents) ≡ Ok (view_own parts)
    → parts.from ≤ last_second → parts.until ≤ last_second → tbs ≡ OwnTbs parts.name.now parts.from parts.until (public_of key) serial
    → octets ≡ own_signed key index tbs → own_issued key index serial (read_all own_record (front_of contents)) ≡ Some octets
own_made key index serial contents parts tbs octets read from until tbs_is octets_is =
    ap (own_issued key index serial) read
    ∙ ap (λ (n : ℕ). Some (own_signed key index (OwnTbs parts.name.now n (moment_of (text_of parts.until)) (public_of key) serial))) (moment_again parts.from from)
    ∙ ap (λ (n : ℕ). Some (own_signed key index (OwnTbs parts.name.now parts.from n (public_of key) serial))) (moment_again parts.until until)
    ∙ ap (λ (o : List ℕ). Some (own_signed key index o)) (sym tbs_is)
    ∙ ap (λ (o : List ℕ). Some o) (sym octets_is)

-- the certificate of service that a record stands for, by the draft and the certificates that it holds
pub service_made : (key : Key) (index serial : ℕ) (contents : List ℕ) (certificates : List (List ℕ)) (d : ValueOf draft) (message signature octets : List ℕ)
    → record_in contents ≡ Ok (certificates, d) → message ≡ signed_by (own_of certificates) (cert_info_of serial d) → signature ≡ signature_of key index message
    → octets ≡ sealed certificates (cert_info_of serial d) signature → service_issued key index serial (record_in contents) ≡ Some octets
service_made key index serial contents certificates d message signature octets read message_is signature_is octets_is =
    ap (service_issued key index serial) read
    ∙ ap (λ (m : List ℕ). Some (sealed certificates (cert_info_of serial d) (signature_of key index m))) (sym message_is)
    ∙ ap (λ (s : List ℕ). Some (sealed certificates (cert_info_of serial d) s)) (sym signature_is)
    ∙ ap (λ (o : List ℕ). Some o) (sym octets_is)

-- the certificate of the first record
pub first_certificate : (key : Key) (first : ℕ) (parts : OwnParts) → IsUtf8 parts.name.now → length parts.name.now ≤ 64 → parts.from ≤ last_second → parts.until ≤ last_second
    → certificate_of (rule_identity key) first 0 (own_entry parts) ≡ Some (own_octets key first parts)
first_certificate key first parts utf8 short from until =
    certificate_is key first 0 (own_entry parts)
    ∙ ap (λ (n : ℕ). issued key 0 n (own_entry parts)) (add-zero first)
    ∙ issued_own key 0 first (own_entry parts) refl
    ∙ own_made key 0 first (spelling own_record (view_own parts)) parts (OwnTbs parts.name.now parts.from parts.until (public_of key) first) (own_octets key first parts)
    (own_again (view_own parts) (own_fits parts.name.now parts.from parts.until utf8 (omega (arith, short)) from until)) from until refl refl

-- the certificate of a record may leave while the list has it
pub may_leave : (key : Key) (first index : ℕ) (list : List Entry) (entry : Entry) (octets : List ℕ) → slice_get list index ≡ Some entry
    → certificate_of (rule_identity key) first index entry ≡ Some octets → MayLeave (rule_identity key) first list octets
unfolding MayLeave
may_leave key first index list entry octets there certificate = inl (index, entry, there, certificate)

-- the signature over the first certificate
pub first_signed : (key : Key) (number : ℕ) (tbs signature octets : List ℕ) → number ≡ 0 → signature ≡ signature_of key number tbs → octets ≡ OwnCertificate tbs signature
    → octets ≡ own_signed key 0 tbs
first_signed key number tbs signature octets none signed is =
    is ∙ ap (OwnCertificate tbs) (signed ∙ ap (λ (n : ℕ). signature_of key n tbs) none)

-- what may leave a register may leave it after a call that keeps it
pub may_leave_same : (key held : Key) (first serial : ℕ) (list now : List Entry) (octets signed : List ℕ) → held ≡ key → serial ≡ first → now ≡ list → octets ≡ signed
    → MayLeave (rule_identity key) first list signed → MayLeave (rule_identity held) serial now octets
may_leave_same key held first serial list now octets signed same first_is list_is octets_is may =
    subst (λ (o : List ℕ). MayLeave (rule_identity held) serial now o) (sym octets_is)
    (subst (λ (l : List Entry). MayLeave (rule_identity held) serial l signed) (sym list_is)
    (subst (λ (n : ℕ). MayLeave (rule_identity held) n list signed) (sym first_is)
    (subst (λ (k : Key). MayLeave (rule_identity k) first list signed) (sym same) may)))

-- the certificate of the first record may leave
pub first_may_leave : (key held : Key) (first serial : ℕ) (list : List Entry) (entry : Entry) (octets signed : List ℕ) → held ≡ key → serial ≡ first → list ≡ entry ∷ []
    → certificate_of (rule_identity key) first 0 entry ≡ Some signed → octets ≡ signed → MayLeave (rule_identity held) serial list octets
first_may_leave key held first serial list entry octets signed same first_is is certificate octets_is =
    may_leave_same key held first serial (entry ∷ []) list octets signed same first_is is octets_is (may_leave key first 0 (entry ∷ []) entry signed refl certificate)

-- the record of an own certificate is short
pub own_short : (parts : OwnParts) → length parts.name.now ≤ 64 → length (spelling own_record (view_own parts)) ≤ 1048576
own_short parts short =
    let c : List ℕ = contents_of own_record_fields (view_own parts) in
    let name = octets_few (length parts.name.now) (omega (arith, short)) in
    let size = own_size parts.name.now parts.from parts.until in
    let whole = octets_few (length c) (omega (arith, size, name, short)) in
    omega (arith, size, name, short, whole, length-tlv 48 c)
