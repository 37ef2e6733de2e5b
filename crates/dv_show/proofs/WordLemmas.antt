-- How long words are.
use Rattle.std.proofs.Common.{◌≡◌, ◌+◌, ◌*◌, ◌-◌, ◌<◌, ◌≤◌, ◌^◌, ◌++◌, ◌∷◌, [], suc, ℕ, length, arith, Bool, true, false, cond, eqb, ltb, List, refl, inl, inr}
use Rattle.std.specs.Prelude.{Option, Some, None, codes, option_map, unwrap_or}
use Rattle.std.specs.List.{flat_map}
use Rattle.std.specs.Fmt.{decimal}
use Rattle.std.specs.Int.Digits.{digits_of}
use Rattle.std.proofs.lemmas.Bool.{cases_Bool, ltb-true}
use Rattle.std.proofs.lemmas.Fmt.{length-decimal-le}
use Rattle.std.proofs.lemmas.Int.Digits.{length-digits_of-le}
use Rattle.std.proofs.lemmas.List.{length-append, length-map}
use Rattle.std.proofs.lemmas.Nat.{pow-add}
use Rattle.dv_schema.specs.Octets.{IsBytes}
use Rattle.dv_schema.specs.Schema.{ValueOf}
use Rattle.dv_time.specs.Text.{text_of}
use Rattle.dv_names.specs.declared.digest.DigestKind.{DigestKind}
use Rattle.dv_names.specs.declared.digest.DigestKind.TheVariants.{Sha256, Sha384, Sha512}
use Rattle.dv_names.specs.Arcs.{arc_text, arcs_of, arcs_of_numbers, are_narrow, dotted, numbers_after}
use Rattle.dv_names.specs.Digest.{kind_of}
use Rattle.dv_names.specs.Types.{algorithm_identifier}
use Rattle.dv_request.specs.declared.service.Service.{Service}
use Rattle.dv_request.specs.declared.service.Service.TheVariants.{Cpd, Vsd, Cpkc, Ccpd}
use Rattle.dv_show.specs.Lines.{name_of_digest, name_of_service, word_of_algorithm, word_of_identifier, word_of_notice, word_of_status}

-- ---- identifiers

-- an arc in decimal, with a dot before it
abbrev dot_text : ℕ → List ℕ
dot_text n = 46 ∷ arc_text n

-- a number below a power of ten has at most so many digits
arc_short : (n j : ℕ) → 0 < j → n < 10 ^ j → length (arc_text n) ≤ j
arc_short n j some lt =
    let digits = length-digits_of-le 10 j n (omega arith) lt in
    elim (cases_Bool (eqb n 0)) [
      | inl t ↦ rw t (omega arith)
      | inr f ↦ rw f (omega (arith, digits, length-map (digits_of 10 n) (λ d. 48 + d)))
    ]

-- three digits more hold seven bits more
grown : (n j b : ℕ) → n < 10 ^ j → b < 128 → n * 128 + b < 10 ^ (j + 3)
grown n j b lt small = let more = pow-add 10 j 3 in omega (arith, lt, small, more)

-- The numbers have at most so long a text, and so would they where the first were less.
abbrev Short : List ℕ → ℕ → Type 0
Short [] limit = Unit {0}
Short (m ∷ ms) limit = (n : ℕ) → n ≤ m → length (dot_text n ++ flat_map dot_text ms) ≤ limit

short_all : (ns : List ℕ) (limit : ℕ) → Short ns limit → length (flat_map dot_text ns) ≤ limit
short_all [] limit h = omega arith
short_all (m ∷ ms) limit h = h m (omega arith)

numbers_short : (bs : List ℕ) (n j : ℕ) → IsBytes bs → n < 10 ^ j → Short (numbers_after n bs) (4 * length bs + j)
unfolding numbers_after
numbers_short [] n j bytes lt = tt
numbers_short (b ∷ bs) n j bytes lt =
    elim (cases_Bool (ltb b 128)) [
      | inl t ↦ rw t (λ m le.
          let big = grown n j b lt (ltb-true b 128 t) in
          let first = arc_short m (j + 3) (omega arith) (omega (arith, le, big)) in
          let rest = short_all (numbers_after 0 bs) (4 * length bs + 0) (numbers_short bs 0 0 (λ i. bytes (suc i)) (omega arith)) in
          omega (arith, first, rest, length-append (dot_text m) (flat_map dot_text (numbers_after 0 bs))))
      | inr f ↦ rw f (longer (numbers_after (n * 128 + (b - 128)) bs) (4 * length bs + (j + 3)) (4 * suc (length bs) + j) (omega arith)
          (numbers_short bs (n * 128 + (b - 128)) (j + 3) (λ i. bytes (suc i)) (grown n j (b - 128) lt (omega (arith, bytes 0)))))
    ]
  where
    longer : (ns : List ℕ) (small large : ℕ) → small ≤ large → Short ns small → Short ns large
    longer [] small large le h = tt
    longer (m ∷ ms) small large le h = λ k under. omega (arith, le, h k under)

-- a dotted identifier has at most four times as many octets as its contents, and one
pub dotted_short : (octets : List ℕ) → IsBytes octets → length (dotted (arcs_of octets)) ≤ 4 * length octets + 1
dotted_short octets bytes = omega (arith, at (numbers_after 0 octets) (4 * length octets + 0) (numbers_short octets 0 0 bytes (omega arith)))
  where
    at : (ns : List ℕ) (limit : ℕ) → Short ns limit → length (dotted (arcs_of_numbers ns)) ≤ limit + 1
    at [] limit h = omega arith
    at (n ∷ ns) limit h =
        elim (cases_Bool (ltb n 40)) [
          | inl t ↦ rw t (omega (arith, h n (omega arith)))
          | inr f ↦ elim (cases_Bool (ltb n 80)) [
            | inl t ↦ rw (f, t) (omega (arith, h (n - 40) (omega arith)))
            | inr g ↦ rw (f, g) (omega (arith, h (n - 80) (omega arith)))
          ]
        ]

-- ---- words

-- one word and others
either : (b : Bool) (most : ℕ) (word other : List ℕ) → length word ≤ most → length other ≤ most → length (cond b word other) ≤ most
either true most word other h i = h
either false most word other h i = i

named : (b : Bool) (most : ℕ) (name other : List ℕ) (x : Option (List ℕ)) → length name ≤ most → length (unwrap_or x other) ≤ most → length (unwrap_or (cond b (Some name) x) other) ≤ most
named true most name other x h i = h
named false most name other x h i = i

pub service_short : (service : Service) → length (name_of_service service) ≤ 4
service_short Cpd = omega arith
service_short Vsd = omega arith
service_short Cpkc = omega arith
service_short Ccpd = omega arith

-- a bit has at most two digits
pub notice_short : (bit : ℕ) → bit ≤ 31 → length (word_of_notice (Some bit)) ≤ 19
notice_short bit le =
    let other : List ℕ = codes "bit " ++ decimal bit in
    let digits = length-decimal-le 2 bit (omega arith) (omega (arith, le)) (omega (arith, le)) in
    let last : length other ≤ 19 = omega (arith, digits) in
    named (eqb bit 0) 19 _ other _ (omega arith) (named (eqb bit 1) 19 _ other _ (omega arith) (named (eqb bit 2) 19 _ other _ (omega arith) (named (eqb bit 3) 19 _ other _ (omega arith)
    (named (eqb bit 5) 19 _ other _ (omega arith) (named (eqb bit 6) 19 _ other _ (omega arith) (named (eqb bit 10) 19 _ other _ (omega arith) (named (eqb bit 14) 19 _ other _ (omega arith)
    (named (eqb bit 15) 19 _ other _ (omega arith) (named (eqb bit 16) 19 _ other _ (omega arith) (named (eqb bit 20) 19 _ other _ (omega arith) (named (eqb bit 24) 19 _ other _ (omega arith)
    (named (eqb bit 25) 19 _ other None (omega arith) last))))))))))))

-- a status has one digit
pub status_short : (status : ℕ) → status ≤ 6 → length (word_of_status (Some status)) ≤ 15
status_short status le =
    let other : List ℕ = codes "other " ++ decimal status in
    let digits = length-decimal-le 1 status (omega arith) (omega (arith, le)) (omega (arith, le)) in
    let last : length other ≤ 15 = omega (arith, digits) in
    named (eqb status 0) 15 _ other _ (omega arith) (named (eqb status 1) 15 _ other _ (omega arith) (named (eqb status 2) 15 _ other None (omega arith) last))

identifier_short : (octets : List ℕ) → IsBytes octets → length (word_of_identifier octets) ≤ 4 * length octets + 6
identifier_short octets bytes = either (are_narrow (arcs_of octets)) (4 * length octets + 6) (dotted (arcs_of octets)) (codes "wide") (omega (arith, dotted_short octets bytes)) (omega arith)

pub algorithm_short : (algorithm : ValueOf algorithm_identifier) → IsBytes algorithm.0 → length (word_of_algorithm algorithm) ≤ 4 * length algorithm.0 + 6
algorithm_short algorithm bytes = at (kind_of algorithm)
  where
    at : (kind : Option DigestKind) → length (unwrap_or (option_map name_of_digest kind) (word_of_identifier algorithm.0)) ≤ 4 * length algorithm.0 + 6
    at None = identifier_short algorithm.0 bytes
    at (Some Sha256) = omega arith
    at (Some Sha384) = omega arith
    at (Some Sha512) = omega arith

-- the text of a moment
pub moment_long : (s : ℕ) → length (text_of s) ≡ 15
unfolding text_of
moment_long s = refl
