-- How many octets a draft has, and its parts one behind another.
use Rattle.std.proofs.Common.{◌≡◌, ◌+◌, ◌++◌, ℕ, List, [], Option, length, ap, arith}
use Rattle.std.proofs.lemmas.List.{length-append}
use Rattle.dv_schema.specs.Tlv.{length_octets, tlv}
use Rattle.dv_schema.specs.Schema.{ValueOf, contents, spelled_if, spelling}
use Rattle.dv_time.specs.Types.{generalized_time}
use Rattle.dv_time.specs.Views.{view_moment}
use Rattle.dv_time.proofs.TimeLemmas.{generalized_spelled, text_long}
use Rattle.dv_x509.proofs.OwnLemmas.{length-tlv}
use Rattle.dv_draft.specs.CertInfo.{after_serial, before_serial, later_fields}
use Rattle.dv_draft.specs.OwnRecords.{own_parts_of, own_record_fields}
use Rattle.dv_draft.specs.Types.{draft, draft_fields, imprint, plain_status}

-- a GeneralizedTime has 17 octets
pub moment_size : (t : ℕ) → length (spelling generalized_time (view_moment t)) ≡ 17
moment_size t = omega (arith, ap length (generalized_spelled t), text_long t)

-- what stands behind the serial number
pub later_size : (t : ℕ) (status : Option (ValueOf plain_status)) (p q r : Option (List ℕ))
    → length (contents later_fields (view_moment t, (status, (p, (q, (r, tt))))))
    ≡ 17 + length (spelled_if (spelling plain_status) status) + length (spelled_if (tlv 161) p) + length (spelled_if (tlv 162) q) + length (spelled_if (tlv 163) r)
later_size t status p q r =
    let a : List ℕ = spelling generalized_time (view_moment t) in
    let s : List ℕ = spelled_if (spelling plain_status) status in
    let x : List ℕ = spelled_if (tlv 161) p in
    let y : List ℕ = spelled_if (tlv 162) q in
    let z : List ℕ = spelled_if (tlv 163) r in
    omega (
      arith,
      moment_size t,
      length-append a (s ++ (x ++ (y ++ (z ++ [])))),
      length-append s (x ++ (y ++ (z ++ []))),
      length-append x (y ++ (z ++ [])),
      length-append y (z ++ []),
      length-append z [],
    )

-- all fields
pub fields_size : (d : ValueOf draft) → length (contents draft_fields d) ≡ length (before_serial d) + length (after_serial d)
fields_size d =
    omega (
      arith,
      length-append d.0 (spelling imprint d.1.0 ++ after_serial d),
      length-append (spelling imprint d.1.0) (after_serial d),
      length-append d.0 (spelling imprint d.1.0),
    )

-- the draft in its record
pub draft_size : (d : ValueOf draft) → length (spelling draft d) ≡ 1 + length (length_octets (length (contents draft_fields d))) + (length (before_serial d) + length (after_serial d))
draft_size d = omega (arith, fields_size d, length-tlv 48 (contents draft_fields d))

-- ---- own records

-- the contents of an own record
pub own_size : (name : List ℕ) (from until : ℕ) → length (contents own_record_fields (own_parts_of name from until)) ≡ 1 + length (length_octets (length name)) + length name + 34
own_size name from until =
    let a : List ℕ = tlv 12 name in
    let b : List ℕ = spelling generalized_time (view_moment from) in
    let d : List ℕ = spelling generalized_time (view_moment until) in
    omega (arith, moment_size from, moment_size until, length-tlv 12 name, length-append a (b ++ (d ++ [])), length-append b (d ++ []), length-append d [])
