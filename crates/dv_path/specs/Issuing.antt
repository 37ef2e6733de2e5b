-- Who issued a certificate (RFC 5280 6.1.3, 6.1.4).
use Rattle.std.specs.Prelude.{◌≡◌, ◌≤◌, ◌/◌, ◌%◌, ◌^◌, ℕ, List, ◌∷◌, false, true, Option, Some, None, IfSome}
use Rattle.dv_schema.specs.Schema.{FieldsOf, ValueOf, spelling}
use Rattle.dv_lms.specs.Verifies.{Verifies}
use Rattle.dv_time.specs.Text.{last_second}
use Rattle.dv_x509.specs.declared.uses.Ca.{Ca}
use Rattle.dv_x509.specs.declared.uses.Ca.TheVariants.{No, Yes}
use Rattle.dv_x509.specs.Fields.{validity_of}
use Rattle.dv_x509.specs.Types.{certificate_fields, tbs_certificate, validity}
use Rattle.dv_x509.specs.Uses.{ca_of, has_unknown_critical, is_hss, usage_of}
use Rattle.dv_path.specs.Anchors.{Anchored, anchor_of}

-- the issuer of a certificate, as a whole Name
abbrev pub issuer_of : FieldsOf certificate_fields → List ℕ
issuer_of v = v.0.1.1.1.0

-- when it is valid
abbrev pub period_of : FieldsOf certificate_fields → ValueOf validity
period_of v = v.0.1.1.1.1.0

-- the moment t lies in a Validity (RFC 5280 4.1.2.5), both of its ends included
pub record IsWithin (period : ValueOf validity) (t : ℕ) : Type 0 where
  pub from : ℕ
  pub until : ℕ
  pub is : period ≡ validity_of from until
  pub from_moment : from ≤ last_second
  pub until_moment : until ≤ last_second
  pub begun : from ≤ t
  pub lasts : t ≤ until

-- The certificate's signature is an HSS signature of its signed part under this key: its algorithm is HSS without parameters (RFC 9708 3), no
-- bits of it are unused, and it verifies (RFC 8554 6.3).
pub record IsSignedUnder (key : List ℕ) (v : FieldsOf certificate_fields) : Type 0 where
  pub algorithm : is_hss v.1.0 ≡ true
  pub signature : List ℕ
  pub bits : v.1.1.0 ≡ 0 ∷ signature
  pub verifies : Verifies key (spelling tbs_certificate v.0) signature

-- The holder of this name and key issued the certificate, and at the moment t it can be relied on (RFC 5280 6.1.3 (a), 4.2): the names are the
-- same octets, its signature is one under the key, it is valid at t, and each of its critical extensions is known. Without a key nothing is
-- issued.
pub record IsIssuedBy (issuer : Anchored) (v : FieldsOf certificate_fields) (t : ℕ) : Type 0 where
  pub named : issuer_of v ≡ issuer.subject
  pub key : List ℕ
  pub has_key : issuer.key ≡ Some key
  pub signed : IsSignedUnder key v
  pub valid : IsWithin (period_of v) t
  pub known : has_unknown_critical v ≡ false

-- it may issue certificates
abbrev pub IsAuthority : Ca → Type 0
IsAuthority No = ⊥
IsAuthority (Yes bound) = Unit {0}

-- keyUsage, as the number of its bits, has keyCertSign, bit 5 (RFC 5280 4.2.1.3)
abbrev pub HasCertSign : ℕ → Type 0
HasCertSign usage = usage / 2 ^ 5 % 2 ≡ 1

-- The holder of the certificate may issue others (RFC 5280 6.1.4 (k), (n)): it is an authority, and its keyUsage, where present, has keyCertSign.
pub record MayIssue (v : FieldsOf certificate_fields) : Type 0 where
  pub authority : IsAuthority (ca_of v)
  pub usage : IfSome (usage_of v) HasCertSign

-- The holder of the certificate j issued the certificate c, and at the moment t it can be relied on.
pub record Issues (j c : FieldsOf certificate_fields) (t : ℕ) : Type 0 where
  pub may : MayIssue j
  pub issued : IsIssuedBy (anchor_of j) c t

-- how many certificates may stand between an authority and the target, where that is bounded (RFC 5280 4.2.1.9)
abbrev pub bound_in : Ca → Option ℕ
bound_in No = None
bound_in (Yes bound) = bound

abbrev pub bound_of : FieldsOf certificate_fields → Option ℕ
bound_of v = bound_in (ca_of v)
