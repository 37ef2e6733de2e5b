-- The contents of the record of a certificate of service: the certificates of the server, and the draft.
use Rattle.std.specs.Prelude.{ℕ, zero, suc, ◌+◌, ◌==◌, List, [], ◌∷◌, ◌++◌, length, Result, Ok, Err, IsOk, if◌then◌else◌}
use Rattle.std.specs.List.{concat}
use Rattle.dv_schema.specs.declared.refusal.Der.{Der}
use Rattle.dv_schema.specs.declared.refusal.Why.TheVariants.{Value}
use Rattle.dv_schema.specs.Reading.{Spot, ◌>>=◌, is_tag_of, item_at, read_all, refuse, taken}
use Rattle.dv_schema.specs.Schema.{FieldsOf, ValueOf, spelling}
use Rattle.dv_schema.specs.Tlv.{tlv}
use Rattle.dv_members.specs.Members.{front_of}
use Rattle.dv_x509.specs.declared.fault.X509.{X509}
use Rattle.dv_x509.specs.declared.fault.X509.TheVariants.{Der as Refused, Version, Algorithm, TooLong}
use Rattle.dv_x509.specs.Judged.{certificate_in}
use Rattle.dv_x509.specs.Types.{certificate_fields}
use Rattle.dv_draft.specs.Types.{draft}

-- the octets decode as a certificate under tag 30
abbrev pub IsCertificate : List ℕ → Type 0
IsCertificate octets = IsOk (certificate_in 48 octets)

-- the contents of a record: SEQUENCE OF Certificate, 1 to 6, and behind it the draft
unfoldable pub record_of : List (List ℕ) → ValueOf draft → List ℕ
record_of certificates d = tlv 48 (concat certificates) ++ spelling draft d

-- ---- reading them

-- the octets of a certificate that was decoded; its first cause where it wasn't, at its place among the contents
abbrev pub kept_at : ℕ → List ℕ → Result (FieldsOf certificate_fields) X509 → Result (List ℕ) Der
kept_at place octets (Ok v) = Ok octets
kept_at place octets (Err (Refused d)) = refuse (place + d.place) d.why
kept_at place octets (Err Version) = refuse place Value
kept_at place octets (Err Algorithm) = refuse place Value
kept_at place octets (Err TooLong) = refuse place Value

-- the certificate at a spot, and the spot behind it
abbrev pub certificate_at : Spot → Result (List ℕ × Spot) Der
certificate_at p =
    item_at (is_tag_of 48) p >>= λ i.
    kept_at p.place (taken p i.after) (certificate_in 48 (taken p i.after)) >>= λ c. Ok (c, i.after)

-- so many certificates at most, to the end of the list at the place own
abbrev pub certificates_at : ℕ → ℕ → Spot → Result (List (List ℕ)) Der
certificates_at zero own p = if length p.rest == 0 then Ok [] else refuse own Value
certificates_at (suc room) own p =
    if length p.rest == 0 then Ok [] else
    (certificate_at p >>= λ x. certificates_at room own x.1 >>= λ cs. Ok (x.0 ∷ cs))

-- the list of 1 to 6 certificates at a spot, and the spot behind it
abbrev pub list_at : Spot → Result (List (List ℕ) × Spot) Der
list_at p =
    item_at (is_tag_of 48) p >>= λ i.
    (if length i.inside.rest == 0 then refuse p.place Value else certificates_at 6 p.place i.inside) >>= λ cs. Ok (cs, i.after)

-- the certificates and the draft that the contents hold, or the first refusal
unfoldable pub record_in : List ℕ → Result (List (List ℕ) × ValueOf draft) Der
record_in contents = list_at (front_of contents) >>= λ x. read_all draft x.1 >>= λ d. Ok (x.0, d)
