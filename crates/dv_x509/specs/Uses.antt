-- What a certificate says of itself and of its key.
use Rattle.std.specs.Prelude.{ℕ, zero, suc, ◌+◌, ◌-◌, ◌*◌, ◌/◌, ◌%◌, ◌^◌, Bool, false, not, ◌&&◌, ◌==◌, nat_lt, List, [], ◌∷◌, length, drop, slice_index, Option, Some, None, option_map, Result, Ok, Err, if◌then◌else◌}
use Rattle.std.specs.Int.Digits.{number_from_digits}
use Rattle.std.specs.List.{list_any}
use Rattle.dv_schema.specs.declared.refusal.Der.{Der}
use Rattle.dv_schema.specs.Octets.{is_one_of, same_octets}
use Rattle.dv_schema.specs.Schema.{FieldsOf, ValueOf}
use Rattle.dv_schema.specs.Reading.{Spot, read}
use Rattle.dv_schema.specs.Types.{octet_string, oid}
use Rattle.dv_names.specs.declared.identifiers.TheConstants.{BASIC_CONSTRAINTS, CERTIFICATE_POLICIES, EXTENDED_KEY_USAGE, ID_ALG_HSS_LMS_HASHSIG, KEY_USAGE, SUBJECT_KEY_IDENTIFIER}
use Rattle.dv_names.specs.Types.{algorithm_identifier, extension, policy_information}
use Rattle.dv_x509.specs.declared.uses.Ca.{Ca}
use Rattle.dv_x509.specs.declared.uses.Ca.TheVariants.{No, Yes}
use Rattle.dv_x509.specs.Members.{front_of, values_in}
use Rattle.dv_x509.specs.Types.{basic_constraints, certificate_extensions, certificate_fields, certificate_policies, key_usage, known_identifiers, public_key_info, purposes}

-- ---- the key

-- HSS (RFC 9708 3): its identifier, and no parameters
abbrev pub is_hss : ValueOf algorithm_identifier → Bool
is_hss (id, (None, _)) = same_octets id ID_ALG_HSS_LMS_HASHSIG
is_hss (id, (Some parameters, _)) = false

-- a key of 60 octets inside an OCTET STRING
abbrev pub wrapped_key : List ℕ → Option (List ℕ)
wrapped_key [] = None
wrapped_key (tag ∷ []) = None
wrapped_key (tag ∷ size ∷ key) = if (tag == 4) && (size == 60) && (length key == 60) then Some key else None

-- a key of 60 octets as it is, or inside an OCTET STRING
abbrev pub plain_key : List ℕ → Option (List ℕ)
plain_key octets = if length octets == 60 then Some octets else wrapped_key octets

-- the key in the contents of a BIT STRING, where none of its bits is unused
abbrev pub key_in_bits : List ℕ → Option (List ℕ)
key_in_bits [] = None
key_in_bits (unused ∷ octets) = if unused == 0 then plain_key octets else None

-- the HSS key of a SubjectPublicKeyInfo
abbrev pub hss_key : ValueOf public_key_info → Option (List ℕ)
hss_key info = if is_hss info.0 then key_in_bits info.1.0 else None

-- that of a certificate
abbrev pub key_of : FieldsOf certificate_fields → Option (List ℕ)
key_of v = hss_key v.0.1.1.1.1.1.1.0

-- ---- the extensions

-- the first value with this name
abbrev pub first_named : {A : Type 0} → (A → List ℕ) → List ℕ → List A → Option A
first_named name id [] = None
first_named name id (v ∷ vs) = if same_octets id (name v) then Some v else first_named name id vs

-- the identifier of an extension
abbrev pub name_of_extension : ValueOf extension → List ℕ
name_of_extension e = e.0

-- the extensions of a certificate, in order
abbrev pub extensions_in : Option (ValueOf certificate_extensions) → List (ValueOf extension)
extensions_in None = []
extensions_in (Some e) = values_in extension e.0

abbrev pub extensions_of : FieldsOf certificate_fields → List (ValueOf extension)
extensions_of v = extensions_in v.0.1.1.1.1.1.1.1.1.1.0

-- the value of the extension with this identifier, where there is one
abbrev pub value_of : List ℕ → FieldsOf certificate_fields → Option (List ℕ)
value_of id v = option_map (λ e. e.1.1.0) (first_named name_of_extension id (extensions_of v))

-- it is critical, and isn't one of the known ones
abbrev pub is_unknown_critical : ValueOf extension → Bool
is_unknown_critical (id, (None, _)) = false
is_unknown_critical (id, (Some _, _)) = not (is_one_of known_identifiers id)

-- one of them is so
abbrev pub has_unknown_critical : FieldsOf certificate_fields → Bool
has_unknown_critical v = list_any is_unknown_critical (extensions_of v)

-- the value that these octets are read as, or the other one where they are refused; the value of a known extension isn't refused
abbrev pub read_or : {A : Type 0} → A → Result (A × Spot) Der → A
read_or other (Ok x) = x.0
read_or other (Err d) = other

-- ---- keyUsage (RFC 5280 4.2.1.3)

-- bit i of octets, of which bit 0 is the highest of the first octet (X.690 8.6.2.1); past their end it is 0
abbrev pub bit_at : List ℕ → ℕ → ℕ
bit_at octets i = slice_index octets (i / 8) / 2 ^ (7 - i % 8) % 2

-- the number with the first n bits, bit i at 2^i
abbrev pub bits_below : ℕ → List ℕ → ℕ
bits_below zero octets = 0
bits_below (suc n) octets = bits_below n octets + bit_at octets n * 2 ^ n

-- of a KeyUsage the first 16 bits
abbrev pub usage_number : List ℕ → ℕ
usage_number value = bits_below 16 (drop 1 (read_or [] (read key_usage (front_of value))))

abbrev pub usage_of : FieldsOf certificate_fields → Option ℕ
usage_of v = option_map usage_number (value_of KEY_USAGE v)

-- ---- extKeyUsage and certificatePolicies (RFC 5280 4.2.1.12, 4.2.1.4)

-- there is a value with this name
abbrev pub is_named : {A : Type 0} → (A → List ℕ) → List ℕ → List A → Bool
is_named name id vs = list_any (λ v. same_octets id (name v)) vs

-- the purposes of an ExtKeyUsageSyntax
abbrev pub purposes_in : List ℕ → List (ValueOf oid)
purposes_in value = values_in oid (read_or [] (read purposes (front_of value)))

-- the purpose is listed
abbrev pub lists_purpose : List ℕ → Option (List ℕ) → Bool
lists_purpose id None = false
lists_purpose id (Some value) = is_named (λ purpose. purpose) id (purposes_in value)

abbrev pub has_purpose : FieldsOf certificate_fields → List ℕ → Bool
has_purpose v id = lists_purpose id (value_of EXTENDED_KEY_USAGE v)

-- the policies of CertificatePolicies
abbrev pub policies_in : List ℕ → List (ValueOf (policy_information 48))
policies_in value = values_in (policy_information 48) (read_or [] (read certificate_policies (front_of value)))

-- the policy is listed; anyPolicy stands for itself alone
abbrev pub lists_policy : List ℕ → Option (List ℕ) → Bool
lists_policy id None = false
lists_policy id (Some value) = is_named (λ policy. policy.0) id (policies_in value)

abbrev pub asserts : FieldsOf certificate_fields → List ℕ → Bool
asserts v id = lists_policy id (value_of CERTIFICATE_POLICIES v)

-- ---- basicConstraints (RFC 5280 4.2.1.9)

-- a bound, of which more than 255 is read as 255
abbrev pub bound_of : List ℕ → ℕ
bound_of c = if nat_lt 255 (number_from_digits 256 c) then 255 else number_from_digits 256 c

-- BasicConstraints: an authority where cA is TRUE
abbrev pub authority_of : ValueOf basic_constraints → Ca
authority_of (None, _) = No
authority_of (Some _, (bound, _)) = Yes (option_map bound_of bound)

abbrev pub authority_in : Option (List ℕ) → Ca
authority_in None = No
authority_in (Some value) = authority_of (read_or (None, (None, tt)) (read basic_constraints (front_of value)))

abbrev pub ca_of : FieldsOf certificate_fields → Ca
ca_of v = authority_in (value_of BASIC_CONSTRAINTS v)

-- ---- subjectKeyIdentifier (RFC 5280 4.2.1.2)

abbrev pub key_id_of : FieldsOf certificate_fields → Option (List ℕ)
key_id_of v = option_map (λ value. read_or [] (read octet_string (front_of value))) (value_of SUBJECT_KEY_IDENTIFIER v)
