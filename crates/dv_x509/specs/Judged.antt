-- Which certificates are taken.
use Rattle.std.specs.Prelude.{◌≡◌, ℕ, Bool, true, false, not, ◌&&◌, ◌||◌, nat_lt, List, [], ◌∷◌, length, Option, Some, None, Result, Ok, Err, if◌then◌else◌}
use Rattle.dv_schema.specs.declared.refusal.Der.{Der}
use Rattle.dv_schema.specs.Octets.{same_octets}
use Rattle.dv_schema.specs.Schema.{FieldsOf, ValueOf}
use Rattle.dv_schema.specs.Reading.{Spot, read_all}
use Rattle.dv_names.specs.Types.{algorithm_identifier}
use Rattle.dv_x509.specs.declared.fault.X509.{X509}
use Rattle.dv_x509.specs.declared.fault.X509.TheVariants.{Der as Refused, Version, Algorithm, TooLong}
use Rattle.dv_x509.specs.Types.{certificate, certificate_fields, version}

-- the version is absent, 1 or 2
abbrev pub is_known_version : Option (ValueOf version) → Bool
is_known_version None = true
is_known_version (Some v) = same_octets v.0 (1 ∷ []) || same_octets v.0 (2 ∷ [])

-- the parameters are the same octets, or absent in both
abbrev pub same_parameters : Option (List ℕ) → Option (List ℕ) → Bool
same_parameters None None = true
same_parameters (Some x) (Some y) = same_octets x y
same_parameters None (Some y) = false
same_parameters (Some x) None = false

-- the same identifier and the same parameters
abbrev pub same_algorithm : ValueOf algorithm_identifier → ValueOf algorithm_identifier → Bool
same_algorithm a b = same_octets a.0 b.0 && same_parameters a.1.0 b.1.0

-- A certificate that was read: its version, and then that the algorithm in the signed part is the one of the signature (RFC 5280
-- 4.1.1.2).
abbrev pub judged : FieldsOf certificate_fields → Result (FieldsOf certificate_fields) X509
judged v =
    if not (is_known_version v.0.0) then Err Version else
    if not (same_algorithm v.0.1.1.0 v.1.0) then Err Algorithm else Ok v

-- the same, where it was read
abbrev pub judged_if : Result (FieldsOf certificate_fields) Der → Result (FieldsOf certificate_fields) X509
judged_if (Ok v) = judged v
judged_if (Err d) = Err (Refused d)

-- the front of a certificate's octets, whose outermost value is at depth 7
abbrev pub certificate_front : List ℕ → Spot
certificate_front octets = record { levels = 26; place = 0; rest = octets }

-- the certificate that the octets are under this tag, or the first cause why they are none
unfoldable pub certificate_in : ℕ → List ℕ → Result (FieldsOf certificate_fields) X509
certificate_in tag octets = if nat_lt 8192 (length octets) then Err TooLong else judged_if (read_all (certificate tag) (certificate_front octets))

-- what a call answered, seen by view, is this
abbrev pub Answers : {X Y : Type 0} → (X → Y) → Result X X509 → Result Y X509 → Type 0
Answers view (Ok x) r = r ≡ Ok (view x)
Answers view (Err e) r = r ≡ Err e
