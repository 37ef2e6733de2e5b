-- What the rule lets leave.
use Rattle.std.proofs.Common.{◌≡◌, ◌∙◌, ◌≤◌, ◌+◌, ◌==◌, inl, inr, ℕ, List, Option, Some, None, Ok, ap, refl}
use Rattle.std.specs.Prelude.{if◌then◌else◌}
use Rattle.std.specs.List.{slice_get}
use Rattle.dv_schema.specs.Reading.{read_all}
use Rattle.dv_schema.specs.Schema.{ValueOf}
use Rattle.dv_outside.specs.Releases.{Entry, Identity}
use Rattle.dv_lms.specs.Identity.{Identity as Key}
use Rattle.dv_lms.specs.Signed.{public_of}
use Rattle.dv_members.specs.Members.{front_of}
use Rattle.dv_x509.specs.Own.{OwnTbs}
use Rattle.dv_draft.specs.CertInfo.{cert_info_of}
use Rattle.dv_draft.specs.OwnRecords.{own_record}
use Rattle.dv_draft.specs.Records.{record_in}
use Rattle.dv_draft.specs.Types.{draft}
use Rattle.dv_cert.specs.Certificates.{MayLeave, certificate_of, issued_if, key_of, moment_of, own_issued, own_signed, sealed_with, service_issued}
use Rattle.dv_cert.specs.Notice.{notice_of}
use Rattle.dv_cert.specs.Notices.{IsTransaction}

-- what a record of some kind stands for
abbrev by_kind : Option (List ℕ) → Option (List ℕ) → ℕ → Option (List ℕ)
by_kind own service kind = if kind == 1 then own else if kind == 2 then service else None

pub service_leaves : (key : Identity) (held : Key) (first index : ℕ) (list : List Entry) (entry : Entry) (certificates : List (List ℕ)) (d : ValueOf draft)
    → key_of key ≡ Some held → slice_get list index ≡ Some entry → entry.kind ≡ 2 → record_in entry.contents ≡ Ok (certificates, d)
    → MayLeave key first list (sealed_with held index certificates (cert_info_of (first + index) d))
unfolding MayLeave certificate_of
service_leaves key held first index list entry certificates d keyed there kind read =
    let serial : ℕ = first + index in
    inl (
      index,
      entry,
      there,
      ap (λ (k : Option Key). issued_if k index serial entry) keyed
          ∙ ap (by_kind (own_issued held index serial (read_all own_record (front_of entry.contents))) (service_issued held index serial (record_in entry.contents))) kind
          ∙ ap (service_issued held index serial) read,
    )

pub own_leaves : (key : Identity) (held : Key) (first index : ℕ) (list : List Entry) (entry : Entry) (v : ValueOf own_record)
    → key_of key ≡ Some held → slice_get list index ≡ Some entry → entry.kind ≡ 1 → read_all own_record (front_of entry.contents) ≡ Ok v
    → MayLeave key first list (own_signed held index (OwnTbs v.0 (moment_of v.1.0) (moment_of v.1.1.0) (public_of held) (first + index)))
unfolding MayLeave certificate_of
own_leaves key held first index list entry v keyed there kind read =
    let serial : ℕ = first + index in
    inl (
      index,
      entry,
      there,
      ap (λ (k : Option Key). issued_if k index serial entry) keyed
          ∙ ap (by_kind (own_issued held index serial (read_all own_record (front_of entry.contents))) (service_issued held index serial (record_in entry.contents))) kind
          ∙ ap (own_issued held index serial) read,
    )

pub notice_leaves : (key : Identity) (first : ℕ) (list : List Entry) (transaction : List ℕ) (bit : ℕ) → bit ≤ 26 → IsTransaction transaction
    → MayLeave key first list (notice_of transaction bit)
unfolding MayLeave
notice_leaves key first list transaction bit few is = inr (transaction, bit, few, is, refl)
