-- The certificates of a bag.
use Rattle.std.specs.Prelude.{◌≡◌, ◌⊎◌, ℕ, List, [], ◌∷◌, ◌++◌, None, Ok, slice_index_or}
use Rattle.std.proofs.Common.{inl}
use Rattle.std.specs.Result.{result_unwrap_or}
use Rattle.dv_schema.specs.Schema.{FieldsOf, ValueOf}
use Rattle.dv_names.specs.Types.{algorithm_identifier}
use Rattle.dv_x509.specs.Judged.{certificate_in}
use Rattle.dv_x509.specs.Types.{certificate_fields, tbs_certificate}

-- no octets in each field of a certificate
abbrev no_algorithm : ValueOf algorithm_identifier
no_algorithm = ([], (None, tt))

abbrev no_fields : ValueOf tbs_certificate
no_fields =
    (None, ([], (no_algorithm, ([], ((inl [], (inl [], tt)), ([], ((no_algorithm, ([], tt)), (None, (None, (None, tt))))))))))

-- a certificate in the place of octets that are none, which no member of a bag is
unfoldable pub no_certificate : FieldsOf certificate_fields
no_certificate = (no_fields, (no_algorithm, ([], tt)))

-- the certificate that octets are under a tag
abbrev pub member_of : ℕ → List ℕ → FieldsOf certificate_fields
member_of tag octets = result_unwrap_or (certificate_in tag octets) no_certificate

-- The tag is 30 or A0, and under it the octets are a certificate.
pub record IsMember (tag : ℕ) (octets : List ℕ) : Type 0 where
  pub known : (tag ≡ 48) ⊎ (tag ≡ 160)
  pub decoded : certificate_in tag octets ≡ Ok (member_of tag octets)

-- The certificate that the octets are under this tag was added at the end.
pub record Adds (old new : List (FieldsOf certificate_fields)) (tag : ℕ) (octets : List ℕ) : Type 0 where
  pub added : FieldsOf certificate_fields
  pub decoded : certificate_in tag octets ≡ Ok added
  pub is : new ≡ old ++ added ∷ []

-- the certificate at a position of a bag
abbrev pub member : List (FieldsOf certificate_fields) → ℕ → FieldsOf certificate_fields
member bag position = slice_index_or bag position no_certificate
