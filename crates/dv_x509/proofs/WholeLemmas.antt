-- The fields of a certificate that was read.
use Rattle.std.proofs.Common.{◌≡◌, ℕ, List, Ok, refl}
use Rattle.dv_schema.specs.Octets.{IsBytes}
use Rattle.dv_schema.specs.Schema.{ValueOf, FieldsOf, contents, done, spelling}
use Rattle.dv_schema.specs.Types.{bit_string}
use Rattle.dv_schema.specs.Reading.{Spot, read, read_fields, taken}
use Rattle.dv_schema.proofs.Takes.{fields_take, takes, taken_text}
use Rattle.dv_names.specs.Types.{algorithm_identifier}
use Rattle.dv_x509.specs.Types.{certificate_fields, tbs_certificate}

-- fields that were read, one after another
fields_are : (p q r s : Spot) (tbs : ValueOf tbs_certificate) (alg : ValueOf algorithm_identifier) (signature : List ℕ)
    → read tbs_certificate p ≡ Ok (tbs, q) → read algorithm_identifier q ≡ Ok (alg, r) → read (bit_string 3) r ≡ Ok (signature, s) → read_fields done 0 s ≡ Ok tt
    → read_fields certificate_fields 0 p ≡ Ok (tbs, (alg, (signature, tt)))
unfolding read_fields
fields_are p q r s tbs alg signature a b d end = rw (a, b, d, end) refl

-- are the contents
pub contents_are : (p q r s : Spot) (tbs : ValueOf tbs_certificate) (alg : ValueOf algorithm_identifier) (signature : List ℕ) → IsBytes p.rest
    → read tbs_certificate p ≡ Ok (tbs, q) → read algorithm_identifier q ≡ Ok (alg, r) → read (bit_string 3) r ≡ Ok (signature, s) → read_fields done 0 s ≡ Ok tt
    → p.rest ≡ contents certificate_fields (tbs, (alg, (signature, tt)))
contents_are p q r s tbs alg signature bytes a b d end =
    let v : FieldsOf certificate_fields = (tbs, (alg, (signature, tt))) in
    (fields_take certificate_fields p.levels 0 p v refl bytes (fields_are p q r s tbs alg signature a b d end)).0

-- the octets of the signed part
pub signed_is : (p q : Spot) (tbs : ValueOf tbs_certificate) → IsBytes p.rest → read tbs_certificate p ≡ Ok (tbs, q) → taken p q ≡ spelling tbs_certificate tbs
signed_is p q tbs bytes e = taken_text p q (spelling tbs_certificate tbs) (takes tbs_certificate p (tbs, q) bytes e).0.octets
