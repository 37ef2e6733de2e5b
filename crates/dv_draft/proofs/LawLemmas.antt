-- A draft with its serial number is a certificate of service, and own records have spellings.
use Rattle.std.proofs.Common.{◌≡◌, ◌≤◌, ◌<◌, ◌++◌, ◌∷◌, ◌&&◌, cond, ltb, leb, ℕ, Bool, true, false, Option, Some, None, Ok, List, [], length, refl, sym, ap, arith}
use Rattle.std.specs.Prelude.{IfSome, option_map}
use Rattle.std.specs.Str.{IsUtf8}
use Rattle.std.specs.Int.Digits.{digits_of}
use Rattle.std.proofs.lemmas.Bool.{le-leb}
use Rattle.std.proofs.lemmas.List.{length-append}
use Rattle.std.proofs.lemmas.Str.{is_utf8-from_IsUtf8}
use Rattle.dv_schema.specs.Tlv.{integer_octets, signed_octets, tlv}
use Rattle.dv_schema.specs.Rules.{is_integer}
use Rattle.dv_schema.specs.Schema.{FieldsOf, ValueOf, contents, spelled_if, spelling}
use Rattle.dv_schema.specs.Fits.{Fits}
use Rattle.dv_schema.specs.Reading.{read_all}
use Rattle.dv_schema.proofs.Decoding.{slice_spelled}
use Rattle.dv_schema.proofs.Numbers.{number_fits}
use Rattle.dv_asn1.proofs.Digits.{length-digits_le}
use Rattle.dv_time.specs.Text.{last_second}
use Rattle.dv_time.proofs.TimeLemmas.{moment_fits}
use Rattle.dv_names.specs.Types.{policy_fields, policy_information}
use Rattle.dv_status.specs.Types.{status_info}
use Rattle.dv_members.specs.Members.{front_of}
use Rattle.dv_cms.specs.Types.{serial_number}
use Rattle.dv_response.specs.Types.{cert_info, cert_info_fields}
use Rattle.dv_request.proofs.MessageLemmas.{octets_few}
use Rattle.dv_x509.proofs.OwnLemmas.{length-tlv, small_size}
use Rattle.dv_draft.specs.CertInfo.{after_serial, cert_info_of, numbered_fields, with_serial}
use Rattle.dv_draft.specs.Completed.{Completes}
use Rattle.dv_draft.specs.OwnRecords.{own_parts_of, own_record}
use Rattle.dv_draft.specs.Types.{draft, draft_fields, imprint, kept_policy, plain_status}
use Rattle.dv_draft.proofs.DraftLemmas.{fields_size, own_size}

-- ---- serial numbers

-- a zero octet in front is one octet more at most
signed_few : (c : List ℕ) → length c ≤ 8 → length (signed_octets c) ≤ 9
signed_few [] h = omega arith
signed_few (b ∷ bs) h = go (ltb b 128)
  where
    go : (t : Bool) → length (cond t (b ∷ bs) (0 ∷ b ∷ bs)) ≤ 9
    go true = omega arith
    go false = omega arith

pub serial_few : (n : ℕ) → n < 18446744073709551616 → length (integer_octets n) ≤ 9
serial_few n lt = signed_few (digits_of 256 n) (length-digits_le n lt)

-- both tests hold
both : (a b : Bool) → a ≡ true → b ≡ true → (a && b) ≡ true
both true true e f = refl
both true false e f = absurd cc
both false b e f = absurd cc

pub serial_fits : (n : ℕ) → n < 18446744073709551616 → Fits serial_number 31 (integer_octets n)
serial_fits n lt =
    let few = serial_few n lt in
    let within : leb (length (integer_octets n)) 20 ≡ true = le-leb _ _ (omega arith) in
    (omega arith, omega arith, both (is_integer (integer_octets n)) (leb (length (integer_octets n)) 20) (number_fits n).0 within)

-- ---- the policy

-- a policy that is kept as its contents, and the one of these contents
pub policy_of : (o : Option (List ℕ)) → IfSome o (Fits kept_policy 31) → Option (FieldsOf policy_fields)
policy_of None h = None
policy_of (Some c) h = Some (h.2.0)

policy_contents : (o : Option (List ℕ)) (h : IfSome o (Fits kept_policy 31)) → option_map (contents policy_fields) (policy_of o h) ≡ o
unfolding policy_of
policy_contents None h = refl
policy_contents (Some c) h = ap Some (sym h.2.1)

policy_spelled : (o : Option (List ℕ)) (h : IfSome o (Fits kept_policy 31)) → spelled_if (spelling (policy_information 161)) (policy_of o h) ≡ spelled_if (spelling kept_policy) o
unfolding policy_of
policy_spelled None h = refl
policy_spelled (Some c) h = ap (tlv 161) (sym h.2.1)

policy_fits : (o : Option (List ℕ)) (h : IfSome o (Fits kept_policy 31)) → IfSome (policy_of o h) (Fits (policy_information 161) 31)
unfolding policy_of
policy_fits None h = tt
policy_fits (Some c) h = (h.0, omega (arith, h.1, ap length h.2.1), h.2.2)

-- ---- the status

status_fits : (o : Option (ValueOf plain_status)) → IfSome o (Fits plain_status 31) → IfSome o (Fits (status_info 160) 31)
status_fits None h = tt
status_fits (Some s) h = h.0

-- ---- the certificate of service

pub completed : (serial : ℕ) (d : ValueOf draft) → Fits draft 32 d → ValueOf cert_info
completed serial d f =
    let g = f.2 in
    (None, (g.0.0, (d.1.0, (integer_octets serial, (d.1.1.0, (d.1.1.1.0, (policy_of d.1.1.1.1.0 g.1.1.1.1.0, (d.1.1.1.1.1.0, (d.1.1.1.1.1.1.0, (None, tt))))))))))

pub completes : (serial : ℕ) (d : ValueOf draft) (f : Fits draft 32 d) → Completes serial d (completed serial d f)
unfolding completed
completes serial d f =
    let g = f.2 in
    record {
      version = refl;
      information = sym g.0.1;
      imprint = refl;
      serial_number = refl;
      time = refl;
      status = refl;
      policy = policy_contents d.1.1.1.1.0 g.1.1.1.1.0;
      signers = refl;
      certs = refl;
      extensions = refl;
    }

-- its contents are those of the numbered draft
same_contents : (serial : ℕ) (d : ValueOf draft) (f : Fits draft 32 d) → contents numbered_fields (with_serial serial d) ≡ contents cert_info_fields (completed serial d f)
unfolding completed
same_contents serial d f =
    let g = f.2 in
    rw (g.0.1, ← policy_spelled d.1.1.1.1.0 g.1.1.1.1.0) refl

-- and it is spelled as the numbered draft
pub completed_spelled : (serial : ℕ) (d : ValueOf draft) (f : Fits draft 32 d) → cert_info_of serial d ≡ spelling cert_info (completed serial d f)
unfolding cert_info_of
completed_spelled serial d f = ap (tlv 48) (same_contents serial d f)

-- it has a spelling
pub completed_fits : (serial : ℕ) (d : ValueOf draft) (f : Fits draft 32 d) → serial < 18446744073709551616 → length (spelling draft d) < 9223372036854775808 → Fits cert_info 32 (completed serial d f)
unfolding completed
completed_fits serial d f lt short =
    let g = f.2 in
    let n : List ℕ = integer_octets serial in
    let few = serial_few serial lt in
    let s : List ℕ = tlv 2 n in
    let eleven = small_size 2 (length n) n refl (omega arith) in
    let whole = ap length (same_contents serial d f) in
    let small : length (contents cert_info_fields (completed serial d f)) < 18446744073709551616 =
    omega (
      arith,
      few,
      eleven,
      whole,
      short,
      fields_size d,
      length-tlv 48 (contents draft_fields d),
      length-append d.0 (spelling imprint d.1.0 ++ (s ++ after_serial d)),
      length-append (spelling imprint d.1.0) (s ++ after_serial d),
      length-append s (after_serial d),
      length-append d.0 (spelling imprint d.1.0),
    ) in (
      omega arith,
      small,
      (tt, (g.0.2, (g.1.0.0, (serial_fits serial lt, (g.1.1.0, (status_fits d.1.1.1.0 g.1.1.1.0, (policy_fits d.1.1.1.1.0 g.1.1.1.1.0, (g.1.1.1.1.1.0, (g.1.1.1.1.1.1.0, (tt, tt)))))))))),
    )

-- ---- own records

pub own_fits : (name : List ℕ) (from until : ℕ) → IsUtf8 name → length name < 9223372036854775808 → from ≤ last_second → until ≤ last_second → Fits own_record 32 (own_parts_of name from until)
own_fits name from until utf8 short f u =
    let head = octets_few (length name) (omega arith) in
    (omega arith, omega (arith, head, own_size name from until), ((omega arith, omega arith, is_utf8-from_IsUtf8 name utf8), (moment_fits from 31 f (omega arith), (moment_fits until 31 u (omega arith), tt))))

pub own_again : (v : ValueOf own_record) → Fits own_record 32 v → read_all own_record (front_of (spelling own_record v)) ≡ Ok v
own_again v f = slice_spelled own_record (front_of (spelling own_record v)) v refl f refl
