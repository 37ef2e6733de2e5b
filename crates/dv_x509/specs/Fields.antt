-- The fields of a certificate as values of their schemas.
use Rattle.std.specs.Prelude.{ℕ, List, ◌∷◌, Option, option_map}
use Rattle.std.specs.Borrow.{Bor}
use Rattle.std.specs.Option.{option_copied}
use Rattle.dv_schema.specs.Schema.{FieldsOf, ValueOf}
use Rattle.dv_time.specs.Views.{view_time}
use Rattle.dv_names.specs.declared.algorithm.AlgId.{AlgId}
use Rattle.dv_names.specs.declared.name.Name.{Name}
use Rattle.dv_names.specs.Views.{view_algorithm, view_name}
use Rattle.dv_x509.specs.Types.{certificate_extensions, certificate_fields, public_key_info, tbs_certificate, validity, version}

-- a BIT STRING: the count of unused bits, and the octets
abbrev pub view_bits : ℕ × Bor (List ℕ) → List ℕ
view_bits b = b.0 ∷ b.1.now

-- a version that is spelled out, under its explicit tag
abbrev pub view_version : Option (Bor (List ℕ)) → Option (ValueOf version)
view_version v = option_map (λ octets. (octets, tt)) (option_copied v)

-- a Validity: both moments
abbrev pub validity_of : ℕ → ℕ → ValueOf validity
validity_of from until = (view_time from, (view_time until, tt))

-- a SubjectPublicKeyInfo: its algorithm and its bits
abbrev pub key_of : AlgId → ℕ × Bor (List ℕ) → ValueOf public_key_info
key_of alg bits = (view_algorithm alg, (view_bits bits, tt))

-- Extensions, under their explicit tag
abbrev pub view_extensions : Option (Bor (List ℕ)) → Option (ValueOf certificate_extensions)
view_extensions e = option_map (λ octets. (octets, tt)) (option_copied e)

-- a TBSCertificate of these fields, in their order
abbrev pub tbs_of : Option (Bor (List ℕ)) → Bor (List ℕ) → AlgId → Name → ValueOf validity → Name → ValueOf public_key_info → Option (ℕ × Bor (List ℕ)) → Option (ℕ × Bor (List ℕ)) → Option (Bor (List ℕ)) → ValueOf tbs_certificate
tbs_of stated serial alg issuer valid subject key issuer_id subject_id extensions = (
  view_version stated,
  (
    serial.now,
    (
      view_algorithm alg,
      (
        view_name issuer,
        (
          valid,
          (
            view_name subject,
            (
              key,
              (option_map view_bits issuer_id, (option_map view_bits subject_id, (view_extensions extensions, tt))),
            ),
          ),
        ),
      ),
    ),
  ),
)

-- a Certificate of these fields, in their order
abbrev pub certificate_of : ValueOf tbs_certificate → AlgId → ℕ × Bor (List ℕ) → FieldsOf certificate_fields
certificate_of tbs alg signature = (tbs, (view_algorithm alg, (view_bits signature, tt)))

-- the same, from all of its fields; both of its algorithms are this one
abbrev pub certificate_with : Option (Bor (List ℕ)) → Bor (List ℕ) → AlgId → Name → ℕ → ℕ → Name → AlgId → ℕ × Bor (List ℕ) → Option (ℕ × Bor (List ℕ)) → Option (ℕ × Bor (List ℕ)) → Option (Bor (List ℕ)) → ℕ × Bor (List ℕ)
    → FieldsOf certificate_fields
certificate_with stated serial alg issuer from until subject key_alg key_bits issuer_id subject_id extensions signature =
    certificate_of (tbs_of stated serial alg issuer (validity_of from until) subject (key_of key_alg key_bits) issuer_id subject_id extensions) alg signature
