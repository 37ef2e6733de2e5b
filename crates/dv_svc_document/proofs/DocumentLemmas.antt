-- Which messages hold a SignedData, by what decoding them answers; and which documents are read.
use Rattle.std.proofs.Common.{◌≡◌, ◌<◌, ◌∙◌, ℕ, true, false, Option, Some, None, Result, Ok, Err, List, get_or, length, refl, sym, ap, subst, arith}
use Rattle.std.specs.Borrow.{Bor}
use Rattle.std.specs.Option.{option_copied}
use Rattle.std.specs.Prelude.{All, IsOk, IsSome, is_some, option_map}
use Rattle.std.proofs.lemmas.Option.{get_or_from_slice_get, slice_get_within}
use Rattle.dv_schema.specs.declared.refusal.Der.{Der}
use Rattle.dv_schema.specs.Octets.{same_octets}
use Rattle.dv_schema.specs.Schema.{FieldsOf, ValueOf, spelling}
use Rattle.dv_schema.specs.Fits.{Fits}
use Rattle.dv_schema.specs.Decodes.{DecodesAll}
use Rattle.dv_schema.proofs.Spellings.{one_spelling}
use Rattle.dv_schema.proofs.Takes.{same_self}
use Rattle.dv_cms.specs.declared.content_info.ContentInfo.{ContentInfo}
use Rattle.dv_cms.specs.Types.{content_info, signed_data, signed_data_type}
use Rattle.dv_cms.specs.Views.{view_content_info}
use Rattle.dv_x509.specs.declared.fault.X509.{X509}
use Rattle.dv_x509.specs.Judged.{certificate_in}
use Rattle.dv_x509.specs.Types.{certificate_fields}
use Rattle.dv_x509.proofs.Algorithms.{same_is}
use Rattle.dv_signed.specs.declared.signed_data.SignedData.{SignedData}
use Rattle.dv_draft.specs.Records.{IsCertificate}
use Rattle.dv_signed.specs.Certificates.{certificates_of}
use Rattle.dv_signed.specs.Messages.{IsSignedMessage, signed_message}
use Rattle.dv_signed.specs.SignedView.{view_signed}
use Rattle.dv_svc_document.specs.declared.fault.DocumentBag.{DocumentBag}
use Rattle.dv_svc_document.specs.declared.fault.DocumentBag.TheVariants.{TooMany, Bad, Memory}
use Rattle.dv_svc_document.specs.Bags.{IsBagCause, IsFirstBad}
use Rattle.dv_svc_document.specs.Documents.{IsDocument, IsReadable}

-- what decoding whole octets answers
abbrev pub Answers : Result ContentInfo Der → List ℕ → Type 0
Answers r message = DecodesAll content_info view_content_info r (record { levels = 32; place = 0; rest = message })

abbrev pub AnswersSigned : Result SignedData Der → List ℕ → Type 0
AnswersSigned r content = DecodesAll signed_data view_signed r (record { levels = 32; place = 0; rest = content })

-- ---- messages without a SignedData

-- it is no ContentInfo
pub no_info : (r : Result ContentInfo Der) (message : List ℕ) → Answers r message → ((x : ContentInfo) → r ≡ Ok x → ⊥) → (document : ValueOf signed_data) → ¬ IsSignedMessage document message
no_info (Ok x) message d other document is = other x refl
no_info (Err e) message d other document is = d.only (signed_message (spelling signed_data document)) is.1 is.2

-- the value of a ContentInfo is that of the message
info_is : (info : ContentInfo) (message : List ℕ) (document : ValueOf signed_data) → Answers (Ok info) message → IsSignedMessage document message → view_content_info info ≡ signed_message (spelling signed_data document)
info_is info message document d is = d.only (signed_message (spelling signed_data document)) is.1 is.2

-- its type is another one
pub other_type : (info : ContentInfo) (message : List ℕ) → Answers (Ok info) message → same_octets info.oid.now signed_data_type ≡ false → (document : ValueOf signed_data) → ¬ IsSignedMessage document message
other_type info message d other document is =
    let same : info.oid.now ≡ signed_data_type = ap (λ (v : ValueOf content_info). v.0) (info_is info message document d is) in
    let e : same_octets info.oid.now signed_data_type ≡ true = ap (λ (o : List ℕ). same_octets o signed_data_type) same ∙ same_self signed_data_type in
    absurd cc

-- its content is no SignedData
pub no_content : (info : ContentInfo) (message : List ℕ) (refusal : Der) → Answers (Ok info) message → AnswersSigned (Err refusal) info.content.now → (document : ValueOf signed_data) → ¬ IsSignedMessage document message
no_content info message refusal d e document is =
    let same : info.content.now ≡ spelling signed_data document = ap (λ (v : ValueOf content_info). v.1.0.0) (info_is info message document d is) in
    e.only document is.0 same

-- ---- and with one

pub its_document : (info : ContentInfo) (message : List ℕ) (signed : SignedData) → Answers (Ok info) message → same_octets info.oid.now signed_data_type ≡ true → AnswersSigned (Ok signed) info.content.now
    → IsSignedMessage (view_signed signed) message
its_document info message signed d same e =
    let type : info.oid.now ≡ signed_data_type = same_is info.oid.now signed_data_type same in
    let content : info.content.now ≡ spelling signed_data (view_signed signed) = e.found.1 in
    let value : view_content_info info ≡ signed_message (spelling signed_data (view_signed signed)) =
    ap (λ (o : List ℕ). (o, ((info.content.now, tt), tt))) type ∙ ap (λ (o : List ℕ). (signed_data_type, ((o, tt), tt))) content in
    (e.found.0, subst (Fits content_info 32) value d.found.0, d.found.1 ∙ ap (spelling content_info) value)

-- a message holds one SignedData at most
pub one_document : (message : List ℕ) (a b : ValueOf signed_data) → IsSignedMessage a message → IsSignedMessage b message → a ≡ b
one_document message a b x y =
    let same = one_spelling content_info 32 32 (signed_message (spelling signed_data a)) (signed_message (spelling signed_data b)) refl x.1 y.1 (sym x.2 ∙ y.2) in
    one_spelling signed_data 32 32 a b refl x.0 y.0 (ap (λ (v : ValueOf content_info). v.1.0.0) same)

-- ---- documents that aren't read

-- where all of them are certificates, none is bad
pub no_bad : (certificates : List (List ℕ)) (i : ℕ) (cause : X509) → IsFirstBad certificates i cause → All IsCertificate certificates → ⊥
no_bad certificates i cause bad all =
    let at : IsCertificate (get_or certificates i bad.octets) = all i bad.octets (slice_get_within certificates i bad.octets bad.is) in
    let same : get_or certificates i bad.octets ≡ bad.octets = get_or_from_slice_get certificates i bad.octets bad.octets bad.is in
    let read : IsOk (certificate_in 48 bad.octets) = subst IsCertificate same at in
    let no : IsOk {T = FieldsOf certificate_fields} (Err cause) = subst IsOk bad.bad read in
    absurd cc

-- the message holds this SignedData alone
module _ (message : List ℕ) (signed : SignedData) (held : IsSignedMessage (view_signed signed) message) where
  -- where it isn't readable, no document is read
  not_readable : ¬ IsReadable (view_signed signed) → (document : ValueOf signed_data) → ¬ IsDocument message document
  not_readable bad document is = bad (subst IsReadable (one_document message document (view_signed signed) is.0 held) is.1)

  -- it has no content
  pub no_octets : is_some signed.content ≡ false → (document : ValueOf signed_data) → ¬ IsDocument message document
  no_octets none = not_readable (λ r. absent signed.content none r.content)
    where
      absent : (o : Option (Bor (List ℕ))) → is_some o ≡ false → ¬ IsSome (option_map (λ (c : List ℕ × Unit {0}). c.0) (option_map (λ (c : List ℕ). (c, tt)) (option_copied o)))
      absent None e some = absurd cc
      absent (Some octets) e some = absurd cc

  -- it has too many signers
  pub many_signers : 8 < signed.signers → (document : ValueOf signed_data) → ¬ IsDocument message document
  many_signers many = not_readable (λ r. (let few = r.signers in absurd (omega (arith, many, few, signed.signers_counted))))

  -- or its certificates aren't read
  pub bad_certificates : (fault : DocumentBag) → IsBagCause (certificates_of (view_signed signed)) fault → (fault ≡ Memory → ⊥) → (document : ValueOf signed_data) → ¬ IsDocument message document
  bad_certificates TooMany cause other = not_readable (λ r. (let few = r.certificates.few in absurd (omega (arith, cause, few))))
  bad_certificates (Bad index fault) cause other = not_readable (λ r. (let no = no_bad (certificates_of (view_signed signed)) index fault cause.1 r.certificates.decoded in no))
  bad_certificates Memory cause other = absurd (other refl)
