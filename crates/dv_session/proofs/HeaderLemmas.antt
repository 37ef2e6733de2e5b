-- Which octets begin the header of a request.
use Rattle.std.proofs.Common.{◌≡◌, ◌≢◌, ◌⊎◌, ⊎_elim, inl, inr, ◌∙◌, ℕ, zero, suc, ◌+◌, ◌-◌, ◌<◌, ◌≤◌, Bool, true, false, cond, ltb, List, [], ◌∷◌, ◌++◌, length, get_or, take, drop, refl, sym, ap, subst, arith}
use Rattle.std.specs.Int.Digits.{digits_of, number_from_digits}
use Rattle.std.proofs.lemmas.Int.Digits.{number_digits_of, first_digits_of, length-digits_of-le}
use Rattle.std.proofs.lemmas.Bool.{ltb-false, ltb-true, lt-ltb, le-ltb}
use Rattle.std.proofs.lemmas.List.{length-take-le, get_or-take, take_at, take-append-le, take-append-drop, take_all}
use Rattle.dv_schema.specs.Tlv.{length_octets}
use Rattle.dv_session.specs.Requests.{request_limit, header_of, IsHeader, HasHeader, NeedsMore, HasNoHeader}
use Rattle.dv_session.specs.declared.front.Front.{Front}
use Rattle.dv_session.specs.Headers.{MayBegin, Tells}
use Rattle.dv_session.proofs.Lengths.{IsBytes, IsBytes-nil, IsBytes-cons, IsBytes-take, digits_back}

-- a length below 128 is its own octet
pub length_octets-short : (n : ℕ) → n < 128 → length_octets n ≡ n ∷ []
length_octets-short n lt = let t : ltb n 128 ≡ true = lt-ltb _ _ lt in rw t refl

-- a length from 128 on is the count of its octets and these
pub length_octets-long : (n : ℕ) → 128 ≤ n → length_octets n ≡ (128 + length (digits_of 256 n)) ∷ digits_of 256 n
length_octets-long n le = let t : ltb n 128 ≡ false = le-ltb _ _ le in rw t refl

-- ---- octets that are a header, or go on to one

-- no octets
pub need_nothing : NeedsMore []
need_nothing = (48 ∷ 0 ∷ [], 2, (λ e. cc), (0, refl, refl, omega arith))

-- the tag alone
pub need_length : NeedsMore (48 ∷ [])
need_length = (0 ∷ [], 2, (λ e. cc), (0, refl, refl, omega arith))

-- a length below 128
pub whole_short : (first : ℕ) (more : List ℕ) → first < 128 → HasHeader (48 ∷ first ∷ more) (2 + first)
whole_short first more lt = (48 ∷ first ∷ [], more, refl, (first, ap (λ (o : List ℕ). 48 ∷ o) (sym (length_octets-short first lt)), omega arith, omega arith))

-- a length in octets that is said in no fewer
pub header_long : (ds : List ℕ) → IsBytes ds → 0 < get_or ds 0 0 → 128 ≤ number_from_digits 256 ds
    → 2 + length ds + number_from_digits 256 ds ≤ request_limit
    → IsHeader (48 ∷ (128 + length ds) ∷ ds) (2 + length ds + number_from_digits 256 ds)
header_long ds bytes first least most =
    let n = number_from_digits 256 ds in
    let back = digits_back ds bytes first in
    let octets : length_octets n ≡ (128 + length ds) ∷ ds =
    length_octets-long n least ∙ ap (λ (xs : List ℕ). (128 + length xs) ∷ xs) back in
    (n, ap (λ (o : List ℕ). 48 ∷ o) (sym octets), omega arith, most)

-- a number in one to three octets that may begin with its first one is at least 128
number_least : (ds : List ℕ) → 0 < length ds → length ds ≤ 3 → MayBegin (length ds) (get_or ds 0 0) → 128 ≤ number_from_digits 256 ds
number_least [] some few begins = absurd (omega arith)
number_least (a ∷ []) some few begins = omega (arith, begins.least refl)
number_least (a ∷ b ∷ []) some few begins = omega (arith, begins.some)
number_least (a ∷ b ∷ c ∷ []) some few begins = omega (arith, begins.some)
number_least (a ∷ b ∷ c ∷ d ∷ ds) some few begins = absurd (omega arith)

-- the octets so far and those to come are a length that may be
need_some : (count : ℕ) (ds more : List ℕ) → IsBytes (ds ++ more) → more ≢ [] → length (ds ++ more) ≡ count → 0 < count → count ≤ 3
    → MayBegin count (get_or (ds ++ more) 0 0) → 2 + count + number_from_digits 256 (ds ++ more) ≤ request_limit → NeedsMore (48 ∷ (128 + count) ∷ ds)
need_some count ds more bytes any same some few begins most =
    let all = ds ++ more in
    let begins' : MayBegin (length all) (get_or all 0 0) = subst (λ (k : ℕ). MayBegin k (get_or all 0 0)) (sym same) begins in
    let least = number_least all (omega arith) (omega arith) begins' in
    let is = header_long all bytes begins.some least (omega arith) in (
      more,
      2 + length all + number_from_digits 256 all,
      any,
      subst (λ (k : ℕ). IsHeader (48 ∷ (128 + k) ∷ all) (2 + length all + number_from_digits 256 all)) same is,
    )

-- two and three octets
two : (a b : ℕ) → a < 256 → b < 256 → IsBytes (a ∷ b ∷ [])
two a b first second = IsBytes-cons a (b ∷ []) first (IsBytes-cons b [] second IsBytes-nil)

three : (a b c : ℕ) → a < 256 → b < 256 → c < 256 → IsBytes (a ∷ b ∷ c ∷ [])
three a b c first second third = IsBytes-cons a (b ∷ c ∷ []) first (two b c second third)

-- some octets of a length, but not all: zeros go on to one
pub need_digits : (count : ℕ) (ds : List ℕ) → 0 < count → count ≤ 3 → IsBytes ds → length ds < count → 0 < length ds → MayBegin count (get_or ds 0 0)
    → NeedsMore (48 ∷ (128 + count) ∷ ds)
need_digits count [] some few bytes lt any begins = absurd (omega arith)
need_digits count (a ∷ []) some few bytes lt any begins = by_count count some few lt begins
  where
    by_count : (count : ℕ) → 0 < count → count ≤ 3 → 1 < count → MayBegin count a → NeedsMore (48 ∷ (128 + count) ∷ a ∷ [])
    by_count zero some few lt begins = absurd (omega arith)
    by_count (suc zero) some few lt begins = absurd (omega arith)
    by_count (suc (suc zero)) some few lt begins =
        need_some 2 (a ∷ []) (0 ∷ []) (two a 0 (bytes 0) (omega arith)) (λ e. cc) refl some few begins (omega (arith, bytes 0))
    by_count (suc (suc (suc zero))) some few lt begins =
        need_some 3 (a ∷ []) (0 ∷ 0 ∷ []) (three a 0 0 (bytes 0) (omega arith) (omega arith)) (λ e. cc) refl some few begins (omega (arith, begins.most refl))
    by_count (suc (suc (suc (suc n)))) some few lt begins = absurd (omega arith)
need_digits count (a ∷ b ∷ []) some few bytes lt any begins =
    let is : count ≡ 3 = omega arith in
    subst (λ (k : ℕ). NeedsMore (48 ∷ (128 + k) ∷ a ∷ b ∷ [])) (sym is)
    (need_some 3 (a ∷ b ∷ []) (0 ∷ []) (three a b 0 (bytes 0) (bytes 1) (omega arith)) (λ e. cc) refl (omega arith) (omega arith)
    (subst (λ (k : ℕ). MayBegin k a) is begins) (omega (arith, begins.most is, bytes 1)))
need_digits count (a ∷ b ∷ c ∷ ds) some few bytes lt any begins = absurd (omega arith)

-- no octet of a length: its first one goes on so, and zeros
pub need_count : (count : ℕ) → 0 < count → count ≤ 3 → NeedsMore (48 ∷ (128 + count) ∷ [])
need_count zero some few = absurd (omega arith)
need_count (suc zero) some few =
    need_some 1 [] (128 ∷ []) (IsBytes-cons 128 [] (omega arith) IsBytes-nil) (λ e. cc) refl some few
    (record { some = omega arith; least = λ e. omega arith; most = λ e. omega arith }) (omega arith)
need_count (suc (suc zero)) some few =
    need_some 2 [] (1 ∷ 0 ∷ []) (two 1 0 (omega arith) (omega arith)) (λ e. cc) refl some few
    (record { some = omega arith; least = λ e. absurd (omega arith); most = λ e. omega arith }) (omega arith)
need_count (suc (suc (suc zero))) some few =
    need_some 3 [] (1 ∷ 0 ∷ 0 ∷ []) (three 1 0 0 (omega arith) (omega arith) (omega arith)) (λ e. cc) refl some few
    (record { some = omega arith; least = λ e. absurd (omega arith); most = λ e. omega arith }) (omega arith)
need_count (suc (suc (suc (suc n)))) some few = absurd (omega arith)

-- the octets of a whole header
pub whole_long : (count total : ℕ) (ds : List ℕ) → 0 < count → count ≤ 3 → IsBytes ds → count ≤ length ds → MayBegin count (get_or ds 0 0)
    → total ≡ 2 + count + number_from_digits 256 (take count ds) → total ≤ request_limit → HasHeader (48 ∷ (128 + count) ∷ ds) total
whole_long count total ds some few bytes within begins is most =
    let front = take count ds in
    let size : length front ≡ count = length-take-le count ds within in
    let first : get_or front 0 0 ≡ get_or ds 0 0 = get_or-take count ds 0 0 some in
    let begins' : MayBegin (length front) (get_or front 0 0) = subst (λ (k : ℕ). MayBegin k (get_or front 0 0)) (sym size) (subst (MayBegin count) (sym first) begins) in
    let least = number_least front (omega arith) (omega arith) begins' in
    let header = header_long front (IsBytes-take count ds bytes) begins'.some least (omega arith) in
    let octets = 48 ∷ (128 + count) ∷ front in
    let same : IsHeader octets total =
    subst (λ (k : ℕ). IsHeader (48 ∷ (128 + count) ∷ front) k) (ap (λ (k : ℕ). 2 + k + number_from_digits 256 front) size ∙ sym is)
    (subst (λ (k : ℕ). IsHeader (48 ∷ (128 + k) ∷ front) (2 + length front + number_from_digits 256 front)) size header) in
    (octets, drop count ds, ap (λ (l : List ℕ). 48 ∷ (128 + count) ∷ l) (sym (take-append-drop count ds)), same)

-- ---- octets that begin no header

-- another tag
pub bad_tag : (tag : ℕ) (rest : List ℕ) → tag ≢ 48 → HasNoHeader (tag ∷ rest)
bad_tag tag rest other octets more behind total is same =
    other (ap (λ (l : List ℕ). get_or l 0 0) (same ∙ ap (λ (l : List ℕ). l ++ behind) is.1))

-- What the second octet and those behind it say of the number in the length octets.
abbrev Says : ℕ → List ℕ → ℕ → List ℕ → Type 0
Says first tail n behind = ((n < 128) × (first ≡ n)) ⊎ ((128 ≤ n) × (first ≡ 128 + length (digits_of 256 n)) × (tail ≡ digits_of 256 n ++ behind))

-- by which form of a length the octets begin
says_by : (first n : ℕ) (tail behind : List ℕ) (t : Bool) → ltb n 128 ≡ t
    → first ∷ tail ≡ cond t (n ∷ []) ((128 + length (digits_of 256 n)) ∷ digits_of 256 n) ++ behind → Says first tail n behind
says_by first n tail behind true t same = inl (ltb-true _ _ t, ap (λ (l : List ℕ). get_or l 0 0) same)
says_by first n tail behind false t same = inr (ltb-false _ _ t, ap (λ (l : List ℕ). get_or l 0 0) same, ap (drop 1) same)

-- what the octets behind the tag say, where they go on to a header
says : (first n : ℕ) (rest more octets behind : List ℕ) → octets ≡ header_of n → (48 ∷ first ∷ rest) ++ more ≡ octets ++ behind → Says first (rest ++ more) n behind
says first n rest more octets behind is same =
    says_by first n (rest ++ more) behind (ltb n 128) refl (ap (drop 1) (same ∙ ap (λ (l : List ℕ). l ++ behind) is))

-- the length of a request is below 2^24, so at most three octets say it
pub few_digits : (n : ℕ) → n ≤ request_limit → length (digits_of 256 n) ≤ 3
few_digits n le = length-digits_of-le 256 3 n (omega arith) (omega arith)

-- a number above 0 has a digit
some_digits : (n : ℕ) → 0 < n → 0 < length (digits_of 256 n)
some_digits n pos = at_least (digits_of 256 n) (first_digits_of 256 n (omega arith) pos)
  where
    at_least : (ds : List ℕ) → 0 < get_or ds 0 0 → 0 < length ds
    at_least [] lt = absurd (omega arith)
    at_least (d ∷ ds) lt = omega arith

-- 128, or more than 131
pub bad_first : (first : ℕ) (rest : List ℕ) → 128 ≤ first → (first ≤ 128) ⊎ (132 ≤ first) → HasNoHeader (48 ∷ first ∷ rest)
bad_first first rest high where_to octets more behind total is same = ⊎_elim
    (λ short. omega (arith, short.0, short.1, high))
    (λ long.
    let few = few_digits is.0 (omega (arith, is.2, is.3)) in
    let some = some_digits is.0 (omega (arith, long.0)) in
    ⊎_elim (λ low. omega (arith, low, some, long.1)) (λ past. omega (arith, past, few, long.1)) where_to)
    (says first is.0 rest more octets behind is.1 same)

-- what a length in few octets begins with
begins_so : (n : ℕ) (ds : List ℕ) → 128 ≤ n → n < 262144 → number_from_digits 256 ds ≡ n → 0 < get_or ds 0 0 → length ds ≤ 3 → MayBegin (length ds) (get_or ds 0 0)
begins_so n [] least most is first few = absurd (omega arith)
begins_so n (a ∷ []) least most is first few = record { some = first; least = λ e. omega (arith, is, least); most = λ e. absurd (omega arith) }
begins_so n (a ∷ b ∷ []) least most is first few = record { some = first; least = λ e. absurd (omega arith); most = λ e. absurd (omega arith) }
begins_so n (a ∷ b ∷ c ∷ []) least most is first few = record { some = first; least = λ e. absurd (omega arith); most = λ e. omega (arith, is, most) }
begins_so n (a ∷ b ∷ c ∷ d ∷ ds) least most is first few = absurd (omega arith)

-- what the length octets of a request begin with
header_begins : (n : ℕ) → 128 ≤ n → n + 2 + length (digits_of 256 n) ≤ request_limit → MayBegin (length (digits_of 256 n)) (get_or (digits_of 256 n) 0 0)
header_begins n least most =
    let few = few_digits n (omega (arith, most)) in
    let first = first_digits_of 256 n (omega arith) (omega (arith, least)) in
    let some = some_digits n (omega (arith, least)) in
    begins_so n (digits_of 256 n) least (omega (arith, most)) (number_digits_of 256 n (omega arith)) first few

-- a first octet of the length that can't be
pub bad_begin : (count first : ℕ) (rest : List ℕ) → 0 < count → ¬ MayBegin count first → HasNoHeader (48 ∷ (128 + count) ∷ first ∷ rest)
bad_begin count first rest some never octets more behind total is same = ⊎_elim
    (λ short. omega (arith, short.0, short.1, some))
    (λ long.
    let n = is.0 in
    let digits = digits_of 256 n in
    let count_is : count ≡ length digits = omega (arith, long.1) in
    let begins = header_begins n long.0 (header_size n octets total is.1 is.2 is.3 long.0) in
    let first_is : first ≡ get_or digits 0 0 = first_of digits behind (first ∷ (rest ++ more)) long.2 (some_digits n (omega (arith, long.0))) in
    never (subst (λ (k : ℕ). MayBegin k first) (sym count_is) (subst (MayBegin (length digits)) (sym first_is) begins)))
    (says (128 + count) is.0 (first ∷ rest) more octets behind is.1 same)
  where
    first_of : (ds behind all : List ℕ) → all ≡ ds ++ behind → 0 < length ds → get_or all 0 0 ≡ get_or ds 0 0
    first_of [] behind all e lt = absurd (omega arith)
    first_of (d ∷ ds) behind all e lt = ap (λ (l : List ℕ). get_or l 0 0) e

    header_size : (n : ℕ) (octets : List ℕ) (total : ℕ) → octets ≡ header_of n → total ≡ length octets + n → total ≤ request_limit → 128 ≤ n
        → n + 2 + length (digits_of 256 n) ≤ request_limit
    header_size n octets total is size most least =
        let long = length_octets-long n least in
        omega (arith, ap length is, ap length long, size, most)

-- a length that makes the value longer than a request
pub bad_total : (count total : ℕ) (ds : List ℕ) → 0 < count → count ≤ length ds → total ≡ 2 + count + number_from_digits 256 (take count ds)
    → request_limit < total → HasNoHeader (48 ∷ (128 + count) ∷ ds)
bad_total count total ds some within is past octets more behind all header same = ⊎_elim
    (λ short. omega (arith, short.0, short.1, some))
    (λ long.
    let n = header.0 in
    let digits = digits_of 256 n in
    let count_is : length digits ≡ count = omega (arith, long.1) in
    let front : take count ds ≡ digits =
    sym (take-append-le count ds more within) ∙ ap (take count) long.2 ∙ take_at digits behind count count_is in
    let value : number_from_digits 256 (take count ds) ≡ n = ap (number_from_digits 256) front ∙ number_digits_of 256 n (omega arith) in
    omega (arith, value, is, past, header.2, header.3, ap length header.1, ap length (length_octets-long n long.0), count_is))
    (says (128 + count) header.0 ds more octets behind header.1 same)

-- ---- the same of a front whose first octets are known

-- one octet, which is the tag
pub one_octet : (front : List ℕ) → 1 ≤ length front → length front < 2 → get_or front 0 0 ≡ 48 → NeedsMore front
one_octet [] some lt tag = absurd (omega arith)
one_octet (a ∷ []) some lt tag = subst (λ (k : ℕ). NeedsMore (k ∷ [])) (sym tag) need_length
one_octet (a ∷ b ∷ rest) some lt tag = absurd (omega arith)

-- a length below 128
pub short_front : (front : List ℕ) → 2 ≤ length front → get_or front 0 0 ≡ 48 → get_or front 1 0 < 128 → HasHeader front (2 + get_or front 1 0)
short_front [] some tag lt = absurd (omega arith)
short_front (a ∷ []) some tag lt = absurd (omega arith)
short_front (a ∷ b ∷ rest) some tag lt = subst (λ (k : ℕ). HasHeader (k ∷ b ∷ rest) (2 + b)) (sym tag) (whole_short b rest lt)

-- another tag
pub other_tag : (front : List ℕ) → 1 ≤ length front → get_or front 0 0 ≢ 48 → HasNoHeader front
other_tag [] some other = absurd (omega arith)
other_tag (a ∷ rest) some other = bad_tag a rest other

-- a first octet of the length that begins none
pub bad_second : (front : List ℕ) → 2 ≤ length front → get_or front 0 0 ≡ 48 → 128 ≤ get_or front 1 0 → (get_or front 1 0 ≤ 128) ⊎ (132 ≤ get_or front 1 0) → HasNoHeader front
bad_second [] some tag high where_to = absurd (omega arith)
bad_second (a ∷ []) some tag high where_to = absurd (omega arith)
bad_second (a ∷ b ∷ rest) some tag high where_to = subst (λ (k : ℕ). HasNoHeader (k ∷ b ∷ rest)) (sym tag) (bad_first b rest high where_to)

-- a length in octets of its own
pub long_front : (front : List ℕ) (said : Front) → 2 ≤ length front → get_or front 0 0 ≡ 48 → 128 ≤ get_or front 1 0
    → Tells (48 ∷ (128 + (get_or front 1 0 - 128)) ∷ take (length front - 2) (drop 2 front)) said → Tells front said
long_front [] said some tag high tells = absurd (omega arith)
long_front (a ∷ []) said some tag high tells = absurd (omega arith)
long_front (a ∷ b ∷ rest) said some tag high tells =
    let second : 128 + (b - 128) ≡ b = omega arith in
    let all : take (length (a ∷ b ∷ rest) - 2) rest ≡ rest = take_all (length (a ∷ b ∷ rest) - 2) rest (omega arith) in
    subst (λ (l : List ℕ). Tells l said) (ap (λ (k : ℕ). k ∷ b ∷ rest) (sym tag))
    (subst (λ (k : ℕ). Tells (48 ∷ k ∷ rest) said) second
    (subst (λ (l : List ℕ). Tells (48 ∷ (128 + (b - 128)) ∷ l) said) all tells))

-- of which there is none yet
pub need_empty : (count : ℕ) (ds : List ℕ) → 0 < count → count ≤ 3 → length ds ≡ 0 → NeedsMore (48 ∷ (128 + count) ∷ ds)
need_empty count [] some few e = need_count count some few
need_empty count (d ∷ ds) some few e = absurd (omega arith)

-- of which the first one can't be
pub bad_digit : (count : ℕ) (ds : List ℕ) → 0 < count → 0 < length ds → ¬ MayBegin count (get_or ds 0 0) → HasNoHeader (48 ∷ (128 + count) ∷ ds)
bad_digit count [] some any never = absurd (omega arith)
bad_digit count (d ∷ ds) some any never = bad_begin count d ds some never

-- no octets
pub no_octets : (front : List ℕ) → length front < 1 → NeedsMore front
no_octets [] lt = need_nothing
no_octets (a ∷ rest) lt = absurd (omega arith)
