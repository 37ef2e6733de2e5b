-- From what a parse of words says to the line that they are.
use Rattle.std.proofs.Common.{◌≡◌, ◌∙◌, ◌-◌, ◌<◌, Bool, false, codes, length, drop, get_or, arith, String, Global, refl, sym, ap, List, [], ◌∷◌, Option, Some, None, Result, Err, subst}
use Rattle.std.specs.List.{slice_range}
use Rattle.std.specs.Str.{bytes_eq}
use Rattle.std.specs.String.{string_bytes}
use Rattle.std.proofs.lemmas.Bool.{false_from_ne_true}
use Rattle.std.proofs.lemmas.List.{length-drop, take_all}
use Rattle.std.proofs.lemmas.Slice.Eq.{bytes_eq-Decides}
use Rattle.std.specs.Prelude.{if◌then◌else◌, IsSomeAnd, option_and_then, unwrap_or}
use Rattle.dv_words.specs.declared.parsed.Parsed.{Parsed}
use Rattle.dv_words.specs.declared.fault.WordsFault.{WordsFault}
use Rattle.dv_words.specs.declared.fault.WordsFault.TheVariants.{Memory as WordsMemory}
use Rattle.dv_words.specs.Uses.{Text, Use, others_of, uses_of}
use Rattle.dv_words.specs.Commands.{IsParsed, IsReading, nonempty}
use Rattle.dv_lines.specs.declared.line.Line.{Line}
use Rattle.dv_lines.specs.declared.faulty.NoLine.{NoLine}
use Rattle.dv_lines.specs.declared.faulty.NoLine.TheVariants.{Memory}
use Rattle.dv_lines.specs.Line.{init_of, init_options, IsRead, line_at, line_of, register_of, reissue_of, request_of, request_options, serve_of, serve_options, show_of, texts_of, Told, told_by}

-- where words were taken apart, what is read of them is the line of what they say
pub line_of_parsed : (said : Option (List Use)) (parsed : Parsed) (f : List Use → Option Told) (r : Result Line NoLine) → IsSomeAnd said (λ us. IsParsed us parsed)
    → ((us : List Use) → IsParsed us parsed → IsRead told_by (f us) r) → IsRead told_by (option_and_then f said) r
line_of_parsed None parsed f r h g = absurd h
line_of_parsed (Some us) parsed f r h g = g us h

-- where they weren't, they are no line
pub no_line_of : (said : Option (List Use)) (fault : WordsFault) (other : NoLine) (f : List Use → Option Told) → IsReading said (Err fault)
    → (fault ≡ WordsMemory → other ≡ Memory) → IsRead told_by (option_and_then f said) (Err other)
no_line_of said fault other f h same = λ differs. ap (option_and_then f) (h (λ e. differs (same e)))

whole : (words : List Text) → unwrap_or (nonempty words) [] ≡ words
whole [] = refl
whole (word ∷ words) = refl

-- the words that the getter gives
pub words_are : (words : Option (List Text)) (us : List Use) → words ≡ nonempty (others_of us) → unwrap_or words [] ≡ others_of us
words_are words us h = ap (λ o. unwrap_or o []) h ∙ whole (others_of us)

-- ---- lines of a register

texts_dropped : (words : List (String Global)) → texts_of (drop 1 words) ≡ drop 1 (texts_of words)
texts_dropped [] = refl
texts_dropped (word ∷ words) = refl

-- the words behind the first, as texts
texts_behind : (words : List (String Global)) → texts_of (slice_range words 1 (length words)) ≡ drop 1 (texts_of words)
texts_behind words = ap (λ ws. texts_of ws) (take_all (length words - 1) (drop 1 words) (omega (arith, length-drop 1 words))) ∙ texts_dropped words

-- a line whose register was read
line_at_register : (options : List Text) (line : Text → List Use → Option Told) (words : List Text) (register : Text) (r : Result Line NoLine) → register_of words ≡ Some register
    → IsRead told_by (option_and_then (line register) (uses_of options (drop 1 words))) r → IsRead told_by (line_at options line words) r
line_at_register options line words register r is read =
    subst (λ o. IsRead told_by o r) (sym (ap (option_and_then (λ register. option_and_then (line register) (uses_of options (drop 1 words)))) is)) read

-- its line, where the words behind the register were taken apart
pub line_of_register : (options names : List Text) (line : Text → List Use → Option Told) (words : List (String Global)) (register : Text) (parsed : Parsed) (r : Result Line NoLine)
    → names ≡ options → register_of (drop 1 (texts_of words)) ≡ Some register
    → IsSomeAnd (uses_of names (drop 1 (texts_of (slice_range words 1 (length words))))) (λ us. IsParsed us parsed)
    → ((us : List Use) → IsParsed us parsed → IsRead told_by (line register us) r) → IsRead told_by (line_at options line (drop 1 (texts_of words))) r
line_of_register options names line words register parsed r names_are register_is said read =
    let rest = drop 1 (texts_of words) in
    line_at_register options line rest register r register_is
    (line_of_parsed (uses_of options (drop 1 rest)) parsed (line register) r
    (subst (λ (ws : List Text). IsSomeAnd (uses_of options (drop 1 ws)) (λ us. IsParsed us parsed)) (texts_behind words)
    (subst (λ (ns : List Text). IsSomeAnd (uses_of ns (drop 1 (texts_of (slice_range words 1 (length words))))) (λ us. IsParsed us parsed)) names_are said)) read)

-- and where they weren't
pub no_line_of_register : (options names : List Text) (line : Text → List Use → Option Told) (words : List (String Global)) (register : Text) (fault : WordsFault) (other : NoLine)
    → names ≡ options → register_of (drop 1 (texts_of words)) ≡ Some register
    → IsReading (uses_of names (drop 1 (texts_of (slice_range words 1 (length words))))) (Err fault)
    → (fault ≡ WordsMemory → other ≡ Memory) → IsRead told_by (line_at options line (drop 1 (texts_of words))) (Err other)
no_line_of_register options names line words register fault other names_are register_is said same =
    let rest = drop 1 (texts_of words) in
    line_at_register options line rest register (Err other) register_is
    (no_line_of (uses_of options (drop 1 rest)) fault other (line register)
    (subst (λ (ws : List Text). IsReading (uses_of options (drop 1 ws)) (Err fault)) (texts_behind words)
    (subst (λ (ns : List Text). IsReading (uses_of ns (drop 1 (texts_of (slice_range words 1 (length words))))) (Err fault)) names_are said)) same)

-- ---- commands

-- a word that is another one
other_word : (a b : Text) → (a ≡ b → ⊥) → bytes_eq a b ≡ false
other_word a b h = false_from_ne_true (bytes_eq a b) (λ e. h ((bytes_eq-Decides a b).0 e))

abbrev line_by : Bool → Bool → Bool → Bool → Bool → List Text → Option Told
line_by is_request is_show is_init is_serve is_reissue rest =
    if is_request then option_and_then request_of (uses_of request_options rest) else
    if is_show then option_and_then show_of (uses_of [] rest) else
    if is_init then line_at init_options init_of rest else
    if is_serve then line_at serve_options serve_of rest else
    if is_reissue then line_at [] reissue_of rest else None

-- words that begin with no command are no line
pub no_command : (words : List (String Global)) (first : String Global) (text : Text) → 0 < length words → first ≡ get_or words 0 first → text ≡ string_bytes first
    → (text ≡ codes "request" → ⊥) → (text ≡ codes "show" → ⊥) → (text ≡ codes "init" → ⊥) → (text ≡ codes "serve" → ⊥) → (text ≡ codes "reissue" → ⊥) → line_of (texts_of words) ≡ None
no_command [] first text some is at a b c d e = absurd (omega arith)
no_command (word ∷ words) first text some is at a b c d e =
    let same : text ≡ string_bytes word = at ∙ ap (λ w. string_bytes w) is in
    let other = λ (name : Text) (differs : text ≡ name → ⊥). other_word (string_bytes word) name (λ e. differs (same ∙ e)) in
    λ i. line_by (other (codes "request") a i) (other (codes "show") b i) (other (codes "init") c i) (other (codes "serve") d i) (other (codes "reissue") e i) (texts_of words)
