-- The values that words and options write.
use Rattle.std.specs.Prelude.{ℕ, ◌+◌, ◌*◌, ◌^◌, ◌&&◌, nat_le, if◌then◌else◌, List, length, Option, Some, None, option_map, option_and_then, codes}
use Rattle.std.specs.Result.{result_ok}
use Rattle.std.specs.Str.{bytes_eq}
use Rattle.hex.specs.Hex.{decode_of}
use Rattle.dv_schema.specs.Rules.{is_integer_within}
use Rattle.dv_time.specs.Text.{civil_in, is_generalized, last_second, second_of}
use Rattle.dv_names.specs.Arcs.{are_good, dotted, oid_octets}
use Rattle.dv_names.proofs.ArcTexts.{said as arcs_behind}
use Rattle.dv_words.specs.Number.{number_of}
use Rattle.dv_words.specs.Uses.{Text}
use Rattle.dv_lines.specs.declared.service.Service.{Service}
use Rattle.dv_lines.specs.declared.service.Service.TheVariants.{Cpd, Vsd, Ccpd}

-- the service that a word names
abbrev pub service_of : Text → Option Service
service_of word =
    if bytes_eq word (codes "cpd") then Some Cpd else
    if bytes_eq word (codes "vsd") then Some Vsd else
    if bytes_eq word (codes "ccpd") then Some Ccpd else None

-- FILE.. of certificates: 1 to 16
abbrev pub chain_of : List Text → Option (List Text)
chain_of files = if nat_le 1 (length files) && nat_le (length files) 16 then Some files else None

-- HEX of a nonce: an even number of hexadecimal digits of either case, whose octets, 1 to 64, are the fewest that say an
-- INTEGER (X.690 8.3.2)
abbrev pub nonce_of : Text → Option (List ℕ)
nonce_of text = option_and_then (λ octets. if is_integer_within 64 octets then Some octets else None) (result_ok (decode_of text))

-- TIME: `YYYYMMDDHHMMSSZ`, as its second from 1950 on
unfoldable pub moment_of : Text → Option ℕ
moment_of text = if is_generalized text then Some (second_of (civil_in text)) else None

-- N between these ends
abbrev pub within : ℕ → ℕ → ℕ → Option ℕ
within least most n = if nat_le least n && nat_le n most then Some n else None

abbrev pub number_within : ℕ → ℕ → Text → Option ℕ
number_within least most text = option_and_then (within least most) (number_of text)

-- the last second of a key that stands so many days from a second on, up to 9999-12-31T23:59:59Z
abbrev pub until_of : ℕ → ℕ → Option ℕ
until_of from days = if nat_le (from + days * 86_400) last_second then Some (from + days * 86_400) else None

-- `--from TIME --days N`, both given, N from 1 to 36,500: the first second and the last
abbrev pub period_of : Option Text → Option Text → Option (ℕ × ℕ)
period_of (Some from) (Some days) =
    option_and_then (λ f. option_and_then (λ d. option_map (λ u. (f, u)) (until_of f d)) (number_within 1 36_500 days)) (moment_of from)
period_of _ _ = None

-- `--first N`, N from 1 to 2^62: 1 where it isn't given
abbrev pub first_of : Option Text → Option ℕ
first_of None = Some 1
first_of (Some text) = number_within 1 (2 ^ 62) text

-- NAME: 1 to 64 octets
abbrev pub name_of : Text → Option Text
name_of text = if nat_le 1 (length text) && nat_le (length text) 64 then Some text else None

-- OID: the dotted decimal of an identifier's arcs, in at most 1,024 octets, as the identifier's contents octets (X.690 8.19).
-- The arcs are the text's digits between its dots.
unfoldable pub policy_of : Text → Option (List ℕ)
policy_of text =
    let arcs = arcs_behind 0 text in
    if nat_le (length text) 1024 && (are_good arcs && bytes_eq (dotted arcs) text) then Some (oid_octets arcs) else None

-- the value of an option that may be left out
abbrev pub optional : {X : Type 0} → (Text → Option X) → Option Text → Option (Option X)
optional read None = Some None
optional read (Some text) = option_map (λ x. Some x) (read text)
