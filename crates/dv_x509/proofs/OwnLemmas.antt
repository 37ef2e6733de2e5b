-- The parts of the own certificate, one behind another.
use Rattle.std.proofs.Common.{◌≡◌, ◌≤◌, ◌<◌, ◌+◌, ◌*◌, ◌++◌, ◌∷◌, ℕ, ltb, true, List, [], length, take, drop, inl, inr, refl, sym, ap, subst, ◌∙◌, arith}
use Rattle.std.proofs.Math.Seq.{take-append_seam}
use Rattle.std.proofs.lemmas.Bool.{cases_Bool, lt-ltb}
use Rattle.std.proofs.lemmas.List.{length-append, append-nil}
use Rattle.dv_schema.specs.Tlv.{integer_octets, length_octets, tlv}
use Rattle.dv_schema.specs.Schema.{contents, spelling}
use Rattle.dv_asn1.specs.declared.writer.Writer.{Writer}
use Rattle.dv_asn1.specs.Writing.{room_of, Writes}
use Rattle.dv_asn1.proofs.Written.{written_more}
use Rattle.dv_time.specs.Text.{first_late, text_of}
use Rattle.dv_time.specs.Types.{time}
use Rattle.dv_time.specs.Views.{view_time}
use Rattle.dv_time.proofs.TimeLemmas.{short_long, text_long}
use Rattle.dv_names.specs.declared.identifiers.TheConstants.{COMMON_NAME}
use Rattle.dv_names.specs.Types.{algorithm_identifier, extension}
use Rattle.dv_x509.specs.Fields.{validity_of}
use Rattle.dv_x509.specs.Own.{key_id_extension, own_algorithm, own_extensions, own_fields_with, own_key, own_name, purpose_extension, usage_extension}
use Rattle.dv_x509.specs.Types.{certificate_extensions, public_key_info, tbs_fields, validity}

-- how many octets a value has
pub length-tlv : (tag : ℕ) (c : List ℕ) → length (tlv tag c) ≡ length (tag ∷ length_octets (length c)) + length c
length-tlv tag c = length-append (tag ∷ length_octets (length c)) c

-- the same, from the number of its contents
pub value_size : (tag m n : ℕ) (c : List ℕ) → n ≡ length c → m ≡ 1 + length (length_octets n) + n → m ≡ length (tlv tag c)
value_size tag m n c e f =
    let g = ap (λ (k : ℕ). 1 + length (length_octets k) + k) e in
    omega (arith, f, g, length-tlv tag c)

-- a header and contents are a value
pub boxed : (old mid new : Writer) (tag n : ℕ) (c : List ℕ) → n ≡ length c → Writes old mid (tag ∷ length_octets n) → Writes mid new c → Writes old new (tlv tag c)
boxed old mid new tag n c e head more =
    subst (λ (k : ℕ). Writes old new ((tag ∷ length_octets k) ++ c)) e (written_more old mid new (tag ∷ length_octets n) c head more)

-- where a value fits its header does
pub head_fits : (room tag n : ℕ) (c : List ℕ) → n ≡ length c → length (tlv tag c) ≤ room → length (tag ∷ length_octets n) ≤ room
head_fits room tag n c e fits = let g = ap (λ (k : ℕ). length (tag ∷ length_octets k)) e in omega (arith, g, fits, length-tlv tag c)

-- and behind it its contents
pub inside_fits : (old mid : Writer) (tag n : ℕ) (c : List ℕ) → n ≡ length c → length (tlv tag c) ≤ room_of old → Writes old mid (tag ∷ length_octets n) → length c ≤ room_of mid
inside_fits old mid tag n c e fits w =
    let g = ap (λ (k : ℕ). length (tag ∷ length_octets k)) e in
    omega (arith, g, fits, w.room, length-tlv tag c)

-- where two parts fit the first does
pub first_fits : (room : ℕ) (a b : List ℕ) → length (a ++ b) ≤ room → length a ≤ room
first_fits room a b fits = omega (arith, fits, length-append a b)

-- and behind it the second
pub second_fits : (old mid : Writer) (a b : List ℕ) → length (a ++ b) ≤ room_of old → Writes old mid a → length b ≤ room_of mid
second_fits old mid a b fits w = omega (arith, fits, length-append a b, w.room)

-- the type and the value of a name
abbrev pub pair_text : List ℕ → List ℕ
pair_text name = tlv 6 COMMON_NAME ++ tlv 12 name

pub pair_size : (name : List ℕ) (m : ℕ) → m ≡ 1 + length (length_octets (length name)) + length name → 5 + m ≡ length (pair_text name)
pair_size name m e = omega (arith, e, length-tlv 12 name, length-append (tlv 6 COMMON_NAME) (tlv 12 name))

-- the extension that identifies the key has 31 octets
pub key_id_size : (id : List ℕ) → length id ≡ 20 → length (spelling extension (key_id_extension id)) ≡ 31
key_id_size id e =
    let value : List ℕ = tlv 4 (4 ∷ 20 ∷ id) in
    let n : length (4 ∷ 20 ∷ id) ≡ 22 = omega (arith, e) in
    let v : length value ≡ 24 = sym (value_size 4 24 22 (4 ∷ 20 ∷ id) (sym n) refl) in
    let c : List ℕ = 6 ∷ 3 ∷ 85 ∷ 29 ∷ 14 ∷ (value ++ []) in
    let size : length c ≡ 29 = omega (arith, v, length-append value []) in
    sym (value_size 48 31 29 c (sym size) refl)

-- the three extensions have 71
pub extensions_size : (id : List ℕ) → length id ≡ 20 → length (own_extensions id) ≡ 71
extensions_size id e =
    let u : length (spelling extension usage_extension) ≡ 16 = refl in
    let p : length (spelling extension purpose_extension) ≡ 24 = refl in
    omega (
      arith,
      u,
      p,
      key_id_size id e,
      length-append (spelling extension usage_extension) (spelling extension purpose_extension ++ spelling extension (key_id_extension id)),
      length-append (spelling extension purpose_extension) (spelling extension (key_id_extension id)),
    )

-- and under their two tags 75
pub list_size : (id : List ℕ) → length id ≡ 20 → length (tlv 48 (own_extensions id)) ≡ 73
list_size id e = sym (value_size 48 73 71 (own_extensions id) (sym (extensions_size id e)) refl)

pub tagged_is : (id : List ℕ) → spelling certificate_extensions (own_extensions id, tt) ≡ tlv 163 (tlv 48 (own_extensions id))
tagged_is id = ap (tlv 163) (append-nil (tlv 48 (own_extensions id)))

pub tagged_size : (id : List ℕ) → length id ≡ 20 → length (spelling certificate_extensions (own_extensions id, tt)) ≡ 75
tagged_size id e = ap length (tagged_is id) ∙ sym (value_size 163 75 73 (tlv 48 (own_extensions id)) (sym (list_size id e)) refl)

-- a key's bits, and its SubjectPublicKeyInfo
pub bits_size : (key : List ℕ) → length key ≡ 60 → length (tlv 3 (0 ∷ key)) ≡ 63
bits_size key e = sym (value_size 3 63 61 (0 ∷ key) (omega (arith, e)) refl)

pub key_is : (key : List ℕ) → spelling public_key_info (own_key key) ≡ tlv 48 (spelling algorithm_identifier own_algorithm ++ tlv 3 (0 ∷ key))
key_is key = ap (λ (c : List ℕ). tlv 48 (spelling algorithm_identifier own_algorithm ++ c)) (append-nil (tlv 3 (0 ∷ key)))

pub inner_size : (key : List ℕ) → length key ≡ 60 → length (spelling algorithm_identifier own_algorithm ++ tlv 3 (0 ∷ key)) ≡ 78
inner_size key e =
    let a : length (spelling algorithm_identifier own_algorithm) ≡ 15 = refl in
    omega (arith, a, bits_size key e, length-append (spelling algorithm_identifier own_algorithm) (tlv 3 (0 ∷ key)))

pub key_size : (key : List ℕ) → length key ≡ 60 → length (spelling public_key_info (own_key key)) ≡ 80
key_size key e = ap length (key_is key) ∙ sym (value_size 48 80 78 (spelling algorithm_identifier own_algorithm ++ tlv 3 (0 ∷ key)) (sym (inner_size key e)) refl)

-- a value of few contents octets
pub small_size : (tag n : ℕ) (c : List ℕ) → n ≡ length c → n < 128 → 2 + n ≡ length (tlv tag c)
small_size tag n c e lt =
    let t : ltb n 128 ≡ true = lt-ltb _ _ lt in
    let f : 2 + n ≡ 1 + length (length_octets n) + n = rw t (omega arith) in
    value_size tag (2 + n) n c e f

-- a Time has at most 17 octets
pub time_few : (s : ℕ) → length (spelling time (view_time s)) ≤ 17
time_few s =
    elim (cases_Bool (ltb s first_late)) [
      | inl t ↦ let e = small_size 23 13 (drop 2 (text_of s)) (sym (short_long s)) (omega arith) in rw t (omega (arith, e))
      | inr f ↦ let e = small_size 24 15 (text_of s) (sym (text_long s)) (omega arith) in rw f (omega (arith, e))
    ]

-- a Validity
pub validity_size : (from until m n : ℕ) → m ≡ length (spelling time (view_time from)) → n ≡ length (spelling time (view_time until)) → 2 + (m + n) ≡ length (spelling validity (validity_of from until))
validity_size from until m n e f =
    let a : List ℕ = spelling time (view_time from) in
    let b : List ℕ = spelling time (view_time until) in
    let c : m + n ≡ length (a ++ (b ++ [])) = omega (arith, e, f, length-append a (b ++ []), length-append b []) in
    small_size 48 (m + n) (a ++ (b ++ [])) c (omega (arith, e, f, time_few from, time_few until))

-- the contents of the signed part
pub tbs_size : (text : List ℕ) (from until : ℕ) (key id : List ℕ) (serial : ℕ) → length key ≡ 60 → length id ≡ 20
    → length (contents tbs_fields (own_fields_with text from until key id serial)) ≡ 5 + length (tlv 2 (integer_octets serial)) + 15 + 2 * length (own_name text) + length (spelling validity (validity_of from until)) + 80 + 75
tbs_size text from until key id serial k i =
    let s : List ℕ = tlv 2 (integer_octets serial) in
    let a : List ℕ = spelling algorithm_identifier own_algorithm in
    let n : List ℕ = own_name text in
    let d : List ℕ = spelling validity (validity_of from until) in
    let p : List ℕ = spelling public_key_info (own_key key) in
    let x : List ℕ = spelling certificate_extensions (own_extensions id, tt) in
    let fifteen : length a ≡ 15 = refl in
    omega (
      arith,
      fifteen,
      key_size key k,
      tagged_size id i,
      length-append s (a ++ (n ++ (d ++ (n ++ (p ++ (x ++ [])))))),
      length-append a (n ++ (d ++ (n ++ (p ++ (x ++ []))))),
      length-append n (d ++ (n ++ (p ++ (x ++ [])))),
      length-append d (n ++ (p ++ (x ++ []))),
      length-append n (p ++ (x ++ [])),
      length-append p (x ++ []),
      length-append x [],
    )

-- the contents of a certificate
pub certificate_size : (tbs signature : List ℕ) (bits m : ℕ) → bits ≡ length (0 ∷ signature) → m ≡ 1 + length (length_octets bits) + bits
    → length tbs + 15 + m ≡ length (tbs ++ (spelling algorithm_identifier own_algorithm ++ (tlv 3 (0 ∷ signature) ++ [])))
certificate_size tbs signature bits m e f =
    let a : List ℕ = spelling algorithm_identifier own_algorithm in
    let b : List ℕ = tlv 3 (0 ∷ signature) in
    let fifteen : length a ≡ 15 = refl in
    omega (arith, fifteen, value_size 3 m bits (0 ∷ signature) e f, length-append tbs (a ++ (b ++ [])), length-append a (b ++ []), length-append b [])

-- the front of a longer list
pub whole_front : (n : ℕ) (xs ys : List ℕ) → n ≡ length xs → take n (xs ++ ys) ≡ xs
whole_front n xs ys e = ap (λ (k : ℕ). take k (xs ++ ys)) e ∙ take-append_seam xs ys
