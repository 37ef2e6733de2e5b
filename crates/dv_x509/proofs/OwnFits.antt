-- The own certificate is a certificate that decodes.
use Rattle.std.proofs.Common.{◌≡◌, ◌≢◌, ◌≤◌, ◌<◌, ◌%◌, ◌-◌, ◌+◌, ◌++◌, ◌∷◌, eqb, leb, ltb, ℕ, true, false, List, [], length, Some, None, inl, inr, refl, sym, ap, ◌∙◌, arith}
use Rattle.std.specs.Prelude.{IsTrue, slice_index}
use Rattle.std.proofs.lemmas.Bool.{and_from, cases_Bool, le-leb}
use Rattle.std.proofs.lemmas.List.{append-nil, length-append}
use Rattle.std.specs.Int.Digits.{digits_of}
use Rattle.dv_asn1.proofs.Digits.{length-digits_le}
use Rattle.dv_schema.specs.Tlv.{integer_octets, length_octets, signed_octets, tlv}
use Rattle.dv_schema.specs.Rules.{is_bits, is_integer}
use Rattle.dv_schema.specs.Octets.{are_apart}
use Rattle.dv_schema.specs.Schema.{FieldsOf, ValueOf, contents, node, sequence_of, spelling}
use Rattle.dv_schema.specs.Fits.{FieldsFit, Fits, FitsIn, WellFormed}
use Rattle.dv_schema.specs.Reading.{first_contents}
use Rattle.dv_schema.specs.Types.{bit_string}
use Rattle.dv_schema.proofs.Distinct.{first_is}
use Rattle.dv_schema.proofs.Numbers.{number_fits}
use Rattle.dv_time.specs.Text.{last_second}
use Rattle.dv_time.specs.Types.{time}
use Rattle.dv_time.specs.Views.{view_time}
use Rattle.dv_time.proofs.TimeLemmas.{time_fits}
use Rattle.dv_names.specs.declared.identifiers.TheConstants.{COMMON_NAME, EXTENDED_KEY_USAGE, ID_KP_DVCS, KEY_USAGE, SUBJECT_KEY_IDENTIFIER}
use Rattle.dv_names.specs.Types.{algorithm_identifier, extension, extension_fields, extensions, name, name_part, named_value}
use Rattle.dv_x509.specs.Fields.{validity_of}
use Rattle.dv_x509.specs.Own.{key_id_extension, own_algorithm, own_extensions, own_fields_with, own_key, own_name, purpose_extension, usage_extension}
use Rattle.dv_x509.specs.Types.{certificate, certificate_extensions, known_extension, public_key_info, serial_number, tbs_certificate, validity, version}
use Rattle.dv_x509.proofs.OwnLemmas.{extensions_size, key_id_size, length-tlv, list_size, pair_text}

-- ---- lengths

-- a part of what is short is short
front_short : (a b : List ℕ) (n : ℕ) → length (a ++ b) ≤ n → length a ≤ n
front_short a b n short = omega (arith, short, length-append a b)

back_short : (a b : List ℕ) (n : ℕ) → length (a ++ b) ≤ n → length b ≤ n
back_short a b n short = omega (arith, short, length-append a b)

inside_short : (tag : ℕ) (c : List ℕ) (n : ℕ) → length (tlv tag c) ≤ n → length c ≤ n
inside_short tag c n short = omega (arith, short, length-tlv tag c)

-- ---- primitive values

-- a BIT STRING without unused bits
whole_bits : (bs : List ℕ) → is_bits (0 ∷ bs) ≡ true
whole_bits bs =
    elim (cases_Bool (eqb (length bs) 0)) [
      | inl t ↦ rw t refl
      | inr f ↦
          let none : slice_index bs (length bs - 1) % 1 ≡ 0 = omega arith in
          rw (f, none) refl
    ]

bits_fit : (n : ℕ) (bs : List ℕ) → 0 < n → length bs ≤ 8192 → Fits (bit_string 3) n (0 ∷ bs)
bits_fit n bs deep short = (deep, omega (arith, short), whole_bits bs)

-- at most a zero octet stands before the digits
signed_few : (c : List ℕ) → length (signed_octets c) ≤ length c + 1
signed_few [] = omega arith
signed_few (b ∷ bs) =
    elim (cases_Bool (ltb b 128)) [
      | inl t ↦ rw t (omega arith)
      | inr f ↦ rw f (omega arith)
    ]

-- a serial number below 2^64
serial_fits : (n serial : ℕ) → 0 < n → serial < 18446744073709551616 → Fits serial_number n (integer_octets serial)
serial_fits n serial deep small =
    let few = signed_few (digits_of 256 serial) in
    let digits = length-digits_le serial small in
    let short : length (integer_octets serial) ≤ 20 = omega (arith, few, digits) in
    (deep, omega (arith, short), and_from (is_integer (integer_octets serial)) (leb (length (integer_octets serial)) 20) (number_fits serial).0 (le-leb _ _ short))

-- ---- the name

-- its one part, of one type and value
abbrev one_pair : List ℕ → ValueOf named_value
one_pair text = (COMMON_NAME, (tlv 12 text, tt))

abbrev one_part : List ℕ → List (List (ValueOf named_value))
one_part text = (one_pair text ∷ []) ∷ []

name_spelled : (text : List ℕ) → spelling (node 48 (sequence_of false name_part)) (one_part text) ≡ own_name text
name_spelled text =
    let pair : spelling named_value (one_pair text) ≡ tlv 48 (pair_text text) = ap (λ (l : List ℕ). tlv 48 (tlv 6 COMMON_NAME ++ l)) (append-nil (tlv 12 text)) in
    let part : spelling name_part (one_pair text ∷ []) ≡ tlv 49 (tlv 48 (pair_text text)) = ap (tlv 49) (append-nil (spelling named_value (one_pair text)) ∙ pair) in
    ap (tlv 48) (append-nil (spelling name_part (one_pair text ∷ [])) ∙ part)

value_fits : (text : List ℕ) → length text ≤ 8192 → WellFormed 21 (tlv 12 text)
value_fits text short = (12, text, refl, λ (e : 12 % 32 ≡ 31). omega arith, refl, omega (arith, short), inl (λ e. omega arith, refl))

pair_fits : (text : List ℕ) → length (spelling named_value (one_pair text)) ≤ 8192 → Fits named_value 22 (one_pair text)
pair_fits text short =
    let inside = inside_short 48 (tlv 6 COMMON_NAME ++ (tlv 12 text ++ [])) 8192 short in
    let value = front_short (tlv 12 text) [] 8192 (back_short (tlv 6 COMMON_NAME) (tlv 12 text ++ []) 8192 inside) in
    (omega arith, omega (arith, inside), ((omega arith, omega arith, refl), ((value_fits text (inside_short 12 text 8192 value), refl), tt)))

part_fits : (text : List ℕ) → length (spelling name_part (one_pair text ∷ [])) ≤ 8192 → Fits name_part 23 (one_pair text ∷ [])
part_fits text short =
    let inside = inside_short 49 (spelling named_value (one_pair text) ++ []) 8192 short in
    let pair = front_short (spelling named_value (one_pair text)) [] 8192 inside in
    (omega arith, omega (arith, inside), (λ _ e. cc, (pair_fits text pair, tt), refl))

name_fits : (text : List ℕ) → length (own_name text) ≤ 8192 → Fits name 24 (own_name text)
name_fits text short =
    let whole = ap length (name_spelled text) in
    let inside = inside_short 48 (spelling name_part (one_pair text ∷ []) ++ []) 8192 (omega (arith, whole, short)) in
    let part = front_short (spelling name_part (one_pair text ∷ [])) [] 8192 inside in
    (one_part text, sym (name_spelled text), (omega arith, omega (arith, inside), (λ _ e. cc, (part_fits text part, tt))))

-- ---- the algorithm and the key

algorithm_fits_23 : Fits algorithm_identifier 23 own_algorithm
algorithm_fits_23 = (omega arith, omega arith, ((omega arith, omega arith, refl), (tt, tt)))

algorithm_fits_24 : Fits algorithm_identifier 24 own_algorithm
algorithm_fits_24 = (omega arith, omega arith, ((omega arith, omega arith, refl), (tt, tt)))

algorithm_fits_25 : Fits algorithm_identifier 25 own_algorithm
algorithm_fits_25 = (omega arith, omega arith, ((omega arith, omega arith, refl), (tt, tt)))

key_fits : (key : List ℕ) → length key ≡ 60 → length (spelling public_key_info (own_key key)) ≤ 8192 → Fits public_key_info 24 (own_key key)
key_fits key size short =
    let inside = inside_short 48 (spelling algorithm_identifier own_algorithm ++ (tlv 3 (0 ∷ key) ++ [])) 8192 short in
    (omega arith, omega (arith, inside), (algorithm_fits_23, (bits_fit 23 key (omega arith) (omega (arith, size)), tt)))

-- ---- the extensions

-- a member of the list, whose contents are known
abbrev Member : ValueOf extension → Type 0
Member x =
    FitsIn 48 22 (contents extension_fields x) (λ n. FieldsFit extension_fields n x × ((w : FieldsOf known_extension) × (contents extension_fields x ≡ contents known_extension w) × FieldsFit known_extension n w))

usage_fits : Member usage_extension
usage_fits = (
  omega arith,
  omega arith,
  (
    ((omega arith, omega arith, refl), ((omega arith, omega arith, refl), ((omega arith, omega arith, refl), tt))),
    (
      (KEY_USAGE, (Some (255 ∷ []), (3 ∷ 2 ∷ 6 ∷ 192 ∷ [], tt))),
      refl,
      ((omega arith, omega arith, refl), ((omega arith, omega arith, refl), ((omega arith, omega arith, ((6 ∷ 192 ∷ [], tt), refl, ((omega arith, omega arith, refl), tt))), tt))),
    ),
  ),
)

purpose_fits : Member purpose_extension
purpose_fits = (
  omega arith,
  omega arith,
  (
    ((omega arith, omega arith, refl), ((omega arith, omega arith, refl), ((omega arith, omega arith, refl), tt))),
    (
      (EXTENDED_KEY_USAGE, (Some (255 ∷ []), (48 ∷ 10 ∷ 6 ∷ 8 ∷ ID_KP_DVCS, tt))),
      refl,
      (
        (omega arith, omega arith, refl),
        (
          (omega arith, omega arith, refl),
          ((omega arith, omega arith, ((6 ∷ 8 ∷ ID_KP_DVCS, tt), refl, ((omega arith, omega arith, (ID_KP_DVCS ∷ [], refl, (λ _ e. cc, ((omega arith, omega arith, refl), tt)))), tt))), tt),
        ),
      ),
    ),
  ),
)

-- the value of the third one is an OCTET STRING
id_spelled : (id : List ℕ) → length id ≡ 20 → 4 ∷ 20 ∷ id ≡ tlv 4 id ++ []
id_spelled id size = sym (append-nil (tlv 4 id) ∙ ap (λ (n : ℕ). 4 ∷ length_octets n ++ id) size)

key_id_fits : (id : List ℕ) → length id ≡ 20 → Member (key_id_extension id)
key_id_fits id size =
    let whole = key_id_size id size in
    let inside = inside_short 48 (contents extension_fields (key_id_extension id)) 8192 (omega (arith, whole)) in
    let string : length (4 ∷ 20 ∷ id) < 18446744073709551616 = omega (arith, size) in (
      omega arith,
      omega (arith, inside),
      (
        ((omega arith, omega arith, refl), (tt, ((omega arith, string, refl), tt))),
        (
          (SUBJECT_KEY_IDENTIFIER, (None, (4 ∷ 20 ∷ id, tt))),
          refl,
          ((omega arith, omega arith, refl), (tt, ((omega arith, string, ((id, tt), id_spelled id size, ((omega arith, omega (arith, size), refl), tt))), tt))),
        ),
      ),
    )

-- their identifiers are three
ids_apart : (id : List ℕ) → are_apart [] (first_contents (contents extension_fields usage_extension) ∷ first_contents (contents extension_fields purpose_extension) ∷ first_contents (contents extension_fields (key_id_extension id)) ∷ []) ≡ true
ids_apart id =
    let a : first_contents (contents extension_fields usage_extension) ≡ KEY_USAGE = first_is 6 KEY_USAGE _ refl (omega arith) in
    let b : first_contents (contents extension_fields purpose_extension) ≡ EXTENDED_KEY_USAGE = first_is 6 EXTENDED_KEY_USAGE _ refl (omega arith) in
    let c : first_contents (contents extension_fields (key_id_extension id)) ≡ SUBJECT_KEY_IDENTIFIER = first_is 6 SUBJECT_KEY_IDENTIFIER _ refl (omega arith) in
    rw (a, b, c) refl

extensions_fit : (id : List ℕ) → length id ≡ 20 → Fits certificate_extensions 24 (own_extensions id, tt)
extensions_fit id size =
    let few = extensions_size id size in
    let list = list_size id size in
    let tagged = ap length (append-nil (tlv 48 (own_extensions id))) in
    let value : List (ValueOf extension) = usage_extension ∷ purpose_extension ∷ key_id_extension id ∷ [] in
    let spelled : own_extensions id ≡ contents (extensions known_extension) value =
    ap (λ (l : List ℕ). spelling extension usage_extension ++ (spelling extension purpose_extension ++ l)) (sym (append-nil (spelling extension (key_id_extension id)))) in
    let some : IsTrue true → value ≢ [] = λ _ e. cc in (
      omega arith,
      omega (arith, tagged, list),
      ((omega arith, omega (arith, few), (value, spelled, (some, (usage_fits, (purpose_fits, (key_id_fits id size, tt))), ids_apart id))), tt),
    )

-- ---- the certificate

-- the signed part
tbs_fits : (text : List ℕ) (from until : ℕ) (key id : List ℕ) (serial : ℕ) → length key ≡ 60 → length id ≡ 20 → serial < 18446744073709551616 → from ≤ last_second → until ≤ last_second
    → length (spelling tbs_certificate (own_fields_with text from until key id serial)) ≤ 8192 → Fits tbs_certificate 25 (own_fields_with text from until key id serial)
tbs_fits text from until key id serial k i small first last short =
    let s : List ℕ = tlv 2 (integer_octets serial) in
    let a : List ℕ = spelling algorithm_identifier own_algorithm in
    let n : List ℕ = own_name text in
    let d : List ℕ = spelling validity (validity_of from until) in
    let p : List ℕ = spelling public_key_info (own_key key) in
    let x : List ℕ = spelling certificate_extensions (own_extensions id, tt) in
    let v : List ℕ = spelling version (2 ∷ [], tt) in
    let inside : length (v ++ (s ++ (a ++ (n ++ (d ++ (n ++ (p ++ (x ++ [])))))))) ≤ 8192 = inside_short 48 (v ++ (s ++ (a ++ (n ++ (d ++ (n ++ (p ++ (x ++ [])))))))) 8192 short in
    let names = back_short a (n ++ (d ++ (n ++ (p ++ (x ++ []))))) 8192 (back_short s (a ++ (n ++ (d ++ (n ++ (p ++ (x ++ [])))))) 8192 (back_short v (s ++ (a ++ (n ++ (d ++ (n ++ (p ++ (x ++ []))))))) 8192 inside)) in
    let name_short = front_short n (d ++ (n ++ (p ++ (x ++ [])))) 8192 names in
    let times = back_short n (d ++ (n ++ (p ++ (x ++ [])))) 8192 names in
    let between : List ℕ = spelling time (view_time from) ++ (spelling time (view_time until) ++ []) in
    let time_short = inside_short 48 between 8192 (front_short d (n ++ (p ++ (x ++ []))) 8192 times) in
    let keys = back_short n (p ++ (x ++ [])) 8192 (back_short d (n ++ (p ++ (x ++ []))) 8192 times) in
    let key_short = front_short p (x ++ []) 8192 keys in
    let valid : Fits validity 24 (validity_of from until) = (omega arith, omega (arith, time_short), (time_fits from 23 first (omega arith), (time_fits until 23 last (omega arith), tt))) in
    let stated : Fits version 24 (2 ∷ [], tt) = (omega arith, omega arith, ((omega arith, omega arith, refl), tt)) in (
      omega arith,
      omega (arith, inside),
      (stated, (serial_fits 24 serial (omega arith) small, (algorithm_fits_24, (name_fits text name_short, (valid, (name_fits text name_short, (key_fits key k key_short, (tt, (tt, (extensions_fit id i, tt)))))))))),
    )

-- the whole
pub own_fits : (text : List ℕ) (from until : ℕ) (key id : List ℕ) (serial : ℕ) (signature : List ℕ) → length key ≡ 60 → length id ≡ 20 → serial < 18446744073709551616 → from ≤ last_second → until ≤ last_second
    → length (spelling (certificate 48) (own_fields_with text from until key id serial, (own_algorithm, (0 ∷ signature, tt)))) ≤ 8192
    → Fits (certificate 48) 26 (own_fields_with text from until key id serial, (own_algorithm, (0 ∷ signature, tt)))
own_fits text from until key id serial signature k i small first last short =
    let t : List ℕ = spelling tbs_certificate (own_fields_with text from until key id serial) in
    let a : List ℕ = spelling algorithm_identifier own_algorithm in
    let b : List ℕ = tlv 3 (0 ∷ signature) in
    let inside : length (t ++ (a ++ (b ++ []))) ≤ 8192 = inside_short 48 (t ++ (a ++ (b ++ []))) 8192 short in
    let bits = inside_short 3 (0 ∷ signature) 8192 (front_short b [] 8192 (back_short a (b ++ []) 8192 (back_short t (a ++ (b ++ [])) 8192 inside))) in
    (omega arith, omega (arith, inside), (tbs_fits text from until key id serial k i small first last (front_short t (a ++ (b ++ [])) 8192 inside), (algorithm_fits_25, (bits_fit 25 signature (omega arith) (omega (arith, bits)), tt))))
