-- The values of a line lie within their limits.
use Rattle.std.proofs.Common.{◌≡◌, ℕ, ◌+◌, ◌*◌, ◌^◌, ◌<◌, ◌≤◌, ◌&&◌, inl, inr, Bool, true, false, cond, codes, List, [], ◌∷◌, length, drop, Option, Some, None, Result, Ok, Err, refl, arith, leb, subst}
use Rattle.std.specs.Prelude.{IfOk, option_and_then, option_map}
use Rattle.std.specs.Option.{ForSome}
use Rattle.std.specs.Str.{bytes_eq}
use Rattle.std.proofs.lemmas.Bool.{and_parts, leb-true, cases_Bool}
use Rattle.dv_time.specs.Text.{last_second}
use Rattle.dv_words.specs.Number.{number_of}
use Rattle.dv_words.specs.Uses.{Text, Use, others_of, uses_of, value_of}
use Rattle.dv_lines.specs.declared.line.Line.{Line}
use Rattle.dv_lines.specs.declared.faulty.NoLine.{NoLine}
use Rattle.dv_lines.specs.Values.{chain_of, first_of, moment_of, name_of, nonce_of, number_within, optional, period_of, policy_of, service_of, until_of, within}
use Rattle.dv_lines.specs.Line.{init, init_by, init_of, init_options, IsPolicy, KeepsLimits, line_at, line_of, register_of, reissue, reissue_by, reissue_of, request, request_by, request_of, request_options, serve, serve_by, serve_of, serve_options, show_by, show_of, single_by, Told, told_by, validate, validate_by, IsRead}
use Rattle.dv_lines.proofs.Policies.{policy_limits}

-- a value that keeps its limits where it is there
abbrev pub Keeps : {X : Type 0} → (X → Type 0) → Option X → Type 0
Keeps P None = Unit {0}
Keeps P (Some x) = P x

keeps_then : {X Y : Type 0} (P : X → Type 0) (Q : Y → Type 0) (f : X → Option Y) (o : Option X) → Keeps P o → ((x : X) → P x → Keeps Q (f x)) → Keeps Q (option_and_then f o)
keeps_then P Q f None h g = tt
keeps_then P Q f (Some x) h g = g x h

keeps_map : {X Y : Type 0} (P : X → Type 0) (Q : Y → Type 0) (f : X → Y) (o : Option X) → Keeps P o → ((x : X) → P x → Q (f x)) → Keeps Q (option_map f o)
keeps_map P Q f None h g = tt
keeps_map P Q f (Some x) h g = g x h

keeps_any : {X : Type 0} (o : Option X) → Keeps (λ x. Unit {0}) o
keeps_any None = tt
keeps_any (Some x) = tt

-- ---- values

within_keeps : (least most n : ℕ) → Keeps (λ m. (least ≤ m) × (m ≤ most)) (within least most n)
within_keeps least most n =
    elim (cases_Bool (leb least n && leb n most)) [
      | inl t ↦ let parts = and_parts _ _ t in rw t (leb-true least n parts.0, leb-true n most parts.1)
      | inr f ↦ rw f tt
    ]

number_keeps : (least most : ℕ) (text : Text) → Keeps (λ m. (least ≤ m) × (m ≤ most)) (number_within least most text)
number_keeps least most text = keeps_then (λ n. Unit {0}) (λ m. (least ≤ m) × (m ≤ most)) (within least most) (number_of text) (keeps_any (number_of text)) (λ n _. within_keeps least most n)

first_keeps : (text : Option Text) → Keeps (λ m. (1 ≤ m) × (m ≤ 2 ^ 62)) (first_of text)
first_keeps None = (omega arith, omega arith)
first_keeps (Some text) = number_keeps 1 (2 ^ 62) text

name_keeps : (text : Text) → Keeps (λ (n : Text). (1 ≤ length n) × (length n ≤ 64)) (name_of text)
name_keeps text =
    elim (cases_Bool (leb 1 (length text) && leb (length text) 64)) [
      | inl t ↦ let parts = and_parts _ _ t in rw t (leb-true 1 (length text) parts.0, leb-true (length text) 64 parts.1)
      | inr f ↦ rw f tt
    ]

chain_keeps : (files : List Text) → Keeps (λ (fs : List Text). (1 ≤ length fs) × (length fs ≤ 16)) (chain_of files)
chain_keeps files =
    elim (cases_Bool (leb 1 (length files) && leb (length files) 16)) [
      | inl t ↦ let parts = and_parts _ _ t in rw t (leb-true 1 (length files) parts.0, leb-true (length files) 16 parts.1)
      | inr f ↦ rw f tt
    ]

until_keeps : (from days : ℕ) → 1 ≤ days → Keeps (λ u. from < u) (until_of from days)
until_keeps from days some =
    elim (cases_Bool (leb (from + days * 86_400) last_second)) [ inl t ↦ rw t (omega arith) | inr f ↦ rw f tt ]

period_keeps : (from days : Option Text) → Keeps (λ (p : ℕ × ℕ). p.0 < p.1) (period_of from days)
period_keeps None None = tt
period_keeps None (Some days) = tt
period_keeps (Some from) None = tt
period_keeps (Some from) (Some days) =
    keeps_then (λ f. Unit {0}) (λ (p : ℕ × ℕ). p.0 < p.1) _ (moment_of from) (keeps_any (moment_of from))
    (λ f _. keeps_then (λ d. (1 ≤ d) × (d ≤ 36_500)) (λ (p : ℕ × ℕ). p.0 < p.1) _ (number_within 1 36_500 days) (number_keeps 1 36_500 days)
    (λ d h. keeps_map (λ u. f < u) (λ (p : ℕ × ℕ). p.0 < p.1) _ (until_of f d) (until_keeps f d h.0) (λ u lt. lt)))

policy_keeps : (text : Option Text) → Keeps (λ policy. ForSome policy IsPolicy) (optional policy_of text)
policy_keeps None = λ id is. absurd cc
policy_keeps (Some text) = go (policy_of text) refl
  where
    go : (policy : Option (List ℕ)) → policy_of text ≡ policy → Keeps (λ policy. ForSome policy IsPolicy) (option_map (λ x. Some x) policy)
    go None is = tt
    go (Some id) is = λ other same. let here : id ≡ other = cc in subst IsPolicy here (policy_limits text id is)

-- ---- lines

-- one of several
choice_keeps : (b : Bool) (x y : Option Told) → Keeps KeepsLimits x → Keeps KeepsLimits y → Keeps KeepsLimits (cond b x y)
choice_keeps true x y h k = h
choice_keeps false x y h k = k

single_keeps : (service : Text) (files : List Text) (digits time : Option Text) → Keeps KeepsLimits (single_by service files digits time)
single_keeps service [] digits time = tt
single_keeps service (a ∷ b ∷ more) digits time = tt
single_keeps service (a ∷ []) digits time =
    keeps_then (λ s. Unit {0}) KeepsLimits _ (service_of service) (keeps_any (service_of service))
    (λ s _. keeps_then (λ n. Unit {0}) KeepsLimits _ (optional nonce_of digits) (keeps_any (optional nonce_of digits))
    (λ n _. keeps_map (λ t. Unit {0}) KeepsLimits (request s a n) (optional moment_of time) (keeps_any (optional moment_of time)) (λ t _. tt)))

validate_keeps : (files : List Text) (digits time : Option Text) → Keeps KeepsLimits (validate_by files digits time)
validate_keeps files digits time =
    keeps_then (λ (fs : List Text). (1 ≤ length fs) × (length fs ≤ 16)) KeepsLimits _ (chain_of files) (chain_keeps files)
    (λ fs h. keeps_then (λ n. Unit {0}) KeepsLimits _ (optional nonce_of digits) (keeps_any (optional nonce_of digits))
    (λ n _. keeps_map (λ t. Unit {0}) KeepsLimits (validate fs n) (optional moment_of time) (keeps_any (optional moment_of time)) (λ t _. h)))

request_keeps : (words : List Text) (digits time : Option Text) → Keeps KeepsLimits (request_by words digits time)
request_keeps [] digits time = tt
request_keeps (service ∷ files) digits time =
    choice_keeps (bytes_eq service (codes "cpkc")) _ _ (validate_keeps files digits time) (single_keeps service files digits time)

pub request_line_keeps : (words : List Text) → Keeps KeepsLimits (option_and_then request_of (uses_of request_options words))
request_line_keeps words =
    keeps_then (λ s. Unit {0}) KeepsLimits request_of (uses_of request_options words) (keeps_any (uses_of request_options words))
    (λ s _. request_keeps (others_of s) (value_of (codes "nonce") s) (value_of (codes "at") s))

show_keeps : (words : List Text) → Keeps KeepsLimits (show_by words)
show_keeps [] = tt
show_keeps (a ∷ []) = tt
show_keeps (a ∷ b ∷ more) = tt

init_keeps : (register : Text) (words : List Text) (from days first : Option Text) → Keeps KeepsLimits (init_by register words from days first)
init_keeps register [] from days first = tt
init_keeps register (a ∷ []) from days first = tt
init_keeps register (a ∷ b ∷ c ∷ more) from days first = tt
init_keeps register (a ∷ b ∷ []) from days first =
    keeps_then (λ (n : Text). (1 ≤ length n) × (length n ≤ 64)) KeepsLimits _ (name_of b) (name_keeps b)
    (λ n h. keeps_then (λ (p : ℕ × ℕ). p.0 < p.1) KeepsLimits _ (period_of from days) (period_keeps from days)
    (λ p lt. keeps_map (λ m. (1 ≤ m) × (m ≤ 2 ^ 62)) KeepsLimits (init register a n p.0 p.1) (first_of first) (first_keeps first) (λ m k. (h.0, h.1, lt, k.0, k.1))))

serve_keeps : (register : Text) (words : List Text) (policy : Option Text) → Keeps KeepsLimits (serve_by register words policy)
serve_keeps register [] policy = tt
serve_keeps register (a ∷ []) policy = tt
serve_keeps register (a ∷ b ∷ []) policy = tt
serve_keeps register (a ∷ b ∷ c ∷ d ∷ more) policy = tt
serve_keeps register (a ∷ b ∷ c ∷ []) policy =
    keeps_map (λ policy. ForSome policy IsPolicy) KeepsLimits (serve register a b c) (optional policy_of policy) (policy_keeps policy) (λ p h. h)

reissue_keeps : (register : Text) (words : List Text) → Keeps KeepsLimits (reissue_by register words)
reissue_keeps register [] = tt
reissue_keeps register (a ∷ []) = tt
reissue_keeps register (a ∷ b ∷ c ∷ more) = tt
reissue_keeps register (a ∷ b ∷ []) = keeps_map (λ n. Unit {0}) KeepsLimits (reissue register a) (number_of b) (keeps_any (number_of b)) (λ n _. tt)

at_keeps : (options : List Text) (line : Text → List Use → Option Told) (words : List Text) → ((register : Text) (said : List Use) → Keeps KeepsLimits (line register said)) → Keeps KeepsLimits (line_at options line words)
at_keeps options line words h =
    keeps_then (λ r. Unit {0}) KeepsLimits _ (register_of words) (keeps_any (register_of words))
    (λ r _. keeps_then (λ s. Unit {0}) KeepsLimits (line r) (uses_of options (drop 1 words)) (keeps_any (uses_of options (drop 1 words))) (λ s _. h r s))

pub init_line_keeps : (words : List Text) → Keeps KeepsLimits (line_at init_options init_of words)
init_line_keeps words =
    at_keeps init_options init_of words (λ r s. init_keeps r (others_of s) (value_of (codes "from") s) (value_of (codes "days") s) (value_of (codes "first") s))

line_keeps : (words : List Text) → Keeps KeepsLimits (line_of words)
line_keeps [] = tt
line_keeps (command ∷ rest) =
    choice_keeps (bytes_eq command (codes "request")) _ _
    (request_line_keeps rest)
    (choice_keeps (bytes_eq command (codes "show")) _ _
    (keeps_then (λ s. Unit {0}) KeepsLimits show_of (uses_of [] rest) (keeps_any (uses_of [] rest)) (λ s _. show_keeps (others_of s)))
    (choice_keeps (bytes_eq command (codes "init")) _ _
    (init_line_keeps rest)
    (choice_keeps (bytes_eq command (codes "serve")) _ _
    (at_keeps serve_options serve_of rest (λ r s. serve_keeps r (others_of s) (value_of (codes "policy") s)))
    (choice_keeps (bytes_eq command (codes "reissue")) _ _ (at_keeps [] reissue_of rest (λ r s. reissue_keeps r (others_of s))) tt))))

pub line_limits : (words : List Text) (told : Told) → line_of words ≡ Some told → KeepsLimits told
line_limits words told is = subst (Keeps KeepsLimits) is (line_keeps words)

-- what was read of words with such a line
pub read_limits : (told : Option Told) (r : Result Line NoLine) → Keeps KeepsLimits told → IsRead told_by told r → IfOk r (λ line. KeepsLimits (told_by line))
read_limits told (Ok line) keeps is = subst (Keeps KeepsLimits) is keeps
read_limits told (Err fault) keeps is = tt
