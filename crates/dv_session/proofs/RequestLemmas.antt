-- Octets begin with one request at most, so a stream has one split.
use Rattle.std.proofs.Common.{◌≡◌, ⊎_elim, ◌⊎◌, inl, inr, ◌∙◌, ℕ, ◌+◌, ◌-◌, ◌<◌, ◌≤◌, List, [], ◌∷◌, ◌++◌, length, take, refl, sym, ap, subst, append_assoc, length-append, arith}
use Rattle.std.specs.List.{concat, AllByRecursion}
use Rattle.std.proofs.lemmas.List.{append-nil, append_cancel_left, length-take-le, take_at}
use Rattle.std.proofs.lemmas.List.Folds.{concat-append}
use Rattle.std.proofs.lemmas.List.Elements.{All-append, All-from_recursion, recursion_from_All}
use Rattle.std.proofs.Math.Seq.{take-append-add}
use Rattle.dv_schema.specs.Tlv.{tlv}
use Rattle.dv_session.specs.Requests.{IsRequest, Requests, header_of, HasHeader, HasNoHeader}
use Rattle.dv_session.specs.Splitting.{IsBegun, Ends}
use Rattle.dv_session.proofs.HeaderLemmas.{need_nothing}
use Rattle.dv_session.proofs.FrontLemmas.{same_total, header_more, no_header_more, needs_some_header, has_some_header, needs_less}

-- ---- a request and its header

-- a request begins with its header
pub request_header : (octets : List ℕ) → IsRequest octets → HasHeader octets (length octets)
request_header octets is =
    let contents = is.0 in
    let size : length octets ≡ length (header_of (length contents)) + length contents =
    ap length is.1 ∙ length-append (header_of (length contents)) contents in
    (header_of (length contents), contents, is.1, (length contents, refl, size, is.2))

-- octets that begin with a header, and are as many as it says, are a request
header_request : (front : List ℕ) (total : ℕ) → HasHeader front total → total ≤ length front → IsRequest (take total front)
header_request front total has within =
    let octets = has.0 in
    let more = has.1 in
    let n = has.3.0 in
    let contents = take n more in
    let size : length front ≡ length octets + length more = ap length has.2 ∙ length-append octets more in
    let count : length contents ≡ n = length-take-le n more (omega (arith, size, has.3.2)) in
    let cut : take total front ≡ octets ++ contents =
    ap (take total) has.2 ∙ ap (λ (k : ℕ). take k (octets ++ more)) has.3.2 ∙ take-append-add octets more n in
    let same : octets ++ contents ≡ tlv 48 contents = ap (λ (l : List ℕ). l ++ contents) (has.3.1 ∙ ap header_of (sym count)) in
    (contents, cut ∙ same, omega (arith, length-take-le total front within, has.3.3))

-- octets that begin no header begin with no request
never_whole : (rest front behind : List ℕ) → HasNoHeader rest → rest ≡ front ++ behind → IsRequest front → ⊥
never_whole rest front behind never cut is =
    has_some_header rest (length front)
    (subst (λ (l : List ℕ). HasHeader l (length front)) (sym cut) (header_more front behind (length front) (request_header front is))) never

-- ---- a request that has begun

-- no octets
pub nothing_begun : IsBegun []
nothing_begun = inl need_nothing

-- it is longer than what has come of it
pub begun_less : (begun ahead : List ℕ) (total : ℕ) → IsBegun begun → HasHeader (begun ++ ahead) total → length begun < total
begun_less begun ahead total is has = ⊎_elim
    (λ needs. needs_less begun ahead total needs has)
    (λ less. omega (arith, less.2, same_total (begun ++ ahead) less.0 total (header_more begun ahead less.0 less.1) has))
    is

-- so it isn't whole
pub begun_open : (begun front behind : List ℕ) → IsBegun begun → begun ≡ front ++ behind → IsRequest front → ⊥
begun_open begun front behind is cut whole =
    let has = header_more front behind (length front) (request_header front whole) in
    let less = begun_less begun [] (length front) is (subst (λ (l : List ℕ). HasHeader l (length front)) (sym (append-nil begun ∙ cut)) has) in
    omega (arith, less, ap length cut, length-append front behind)

-- it begins a header
pub begun_header : (begun : List ℕ) → IsBegun begun → HasNoHeader begun → ⊥
begun_header begun is never = ⊎_elim
    (λ needs. needs_some_header begun needs never)
    (λ less. has_some_header begun less.0 less.1 never)
    is

-- it ends behind as many octets as its header says
pub begun_ends : (begun ahead : List ℕ) (total : ℕ) → IsBegun begun → HasHeader (begun ++ ahead) total → total - length begun ≤ length ahead
    → Ends begun ahead (total - length begun)
begun_ends begun ahead total is has within =
    let end = total - length begun in
    let less = begun_less begun ahead total is has in
    let all : length begun + end ≡ total = omega (arith, less) in
    let cut : take total (begun ++ ahead) ≡ begun ++ take end ahead =
    ap (λ (n : ℕ). take n (begun ++ ahead)) (sym all) ∙ take-append-add begun ahead end in
    record {
      some = omega (arith, less);
      within = within;
      request = subst IsRequest cut (header_request (begun ++ ahead) total has (omega (arith, within, less, length-append begun ahead)));
    }

-- or goes on, where they haven't all come
pub begun_more : (begun ahead : List ℕ) (total : ℕ) → HasHeader (begun ++ ahead) total → length ahead < total - length begun → IsBegun (begun ++ ahead)
begun_more begun ahead total has past = inr (total, has, omega (arith, past, length-append begun ahead))

-- ---- one split

-- octets begin with one request at most
same_request : (first second x y : List ℕ) → IsRequest first → IsRequest second → first ++ x ≡ second ++ y → first ≡ second
same_request first second x y is also same =
    let size : length first ≡ length second =
    same_total (first ++ x) (length first) (length second) (header_more first x (length first) (request_header first is))
    (subst (λ (l : List ℕ). HasHeader l (length second)) (sym same) (header_more second y (length second) (request_header second also))) in
    sym (take_at first x (length second) size) ∙ ap (take (length second)) same ∙ take_at second y (length second) refl

-- a stream has one split
pub same_split : (stream : List ℕ) (first second : List (List ℕ)) (rest other : List ℕ) → Requests stream first rest → Requests stream second other
    → (first ≡ second) × (rest ≡ other)
same_split stream [] [] rest other one two = (refl, sym one.whole ∙ two.whole)
same_split stream [] (r ∷ rs) rest other one two =
    absurd (one.open_end r (concat rs ++ other) (sym one.whole ∙ two.whole ∙ append_assoc r (concat rs) other) two.each.0)
same_split stream (q ∷ qs) [] rest other one two =
    absurd (two.open_end q (concat qs ++ rest) (sym two.whole ∙ one.whole ∙ append_assoc q (concat qs) rest) one.each.0)
same_split stream (q ∷ qs) (r ∷ rs) rest other one two =
    let all : q ++ (concat qs ++ rest) ≡ r ++ (concat rs ++ other) =
    sym (append_assoc q (concat qs) rest) ∙ sym one.whole ∙ two.whole ∙ append_assoc r (concat rs) other in
    let head : q ≡ r = same_request q r (concat qs ++ rest) (concat rs ++ other) one.each.0 two.each.0 all in
    let tail : concat qs ++ rest ≡ concat rs ++ other =
    append_cancel_left r (concat qs ++ rest) (concat rs ++ other) (ap (λ (l : List ℕ). l ++ (concat qs ++ rest)) (sym head) ∙ all) in
    let others = same_split (concat qs ++ rest) qs rs rest other
    (record { whole = refl; each = one.each.1; open_end = one.open_end })
    (record { whole = tail; each = two.each.1; open_end = two.open_end }) in
    (cc (head, others.0), others.1)

-- ---- a stream that goes on

-- each one is a request
pub each_more : (requests more : List (List ℕ)) → AllByRecursion IsRequest requests → AllByRecursion IsRequest more → AllByRecursion IsRequest (requests ++ more)
each_more requests more each also =
    recursion_from_All IsRequest (requests ++ more)
    (All-append IsRequest requests more (All-from_recursion IsRequest requests each) (All-from_recursion IsRequest more also))

-- a rest that begins no header, or in which a request has begun, begins with no request
pub open_rest : (rest front behind : List ℕ) → HasNoHeader rest ⊎ IsBegun rest → rest ≡ front ++ behind → IsRequest front → ⊥
open_rest rest front behind none cut is = ⊎_elim
    (λ never. never_whole rest front behind never cut is)
    (λ begun. begun_open rest front behind begun cut is)
    none

-- where the rest splits with the piece behind it, the whole stream does
pub split_more : (stream piece rest last : List ℕ) (requests more : List (List ℕ)) → Requests stream requests rest → Requests (rest ++ piece) more last
    → Requests (stream ++ piece) (requests ++ more) last
split_more stream piece rest last requests more first then = record {
  whole =
      ap (λ (l : List ℕ). l ++ piece) first.whole ∙ append_assoc (concat requests) rest piece
      ∙ ap (λ (l : List ℕ). concat requests ++ l) then.whole ∙ sym (append_assoc (concat requests) (concat more) last)
      ∙ ap (λ (l : List ℕ). l ++ last) (sym (concat-append requests more));
  each = each_more requests more first.each then.each;
  open_end = then.open_end;
}

-- behind a rest that begins no header comes no request
pub split_stopped : (stream piece rest : List ℕ) (requests : List (List ℕ)) → Requests stream requests rest → HasNoHeader rest
    → Requests (stream ++ piece) requests (rest ++ piece)
split_stopped stream piece rest requests first never = record {
  whole = ap (λ (l : List ℕ). l ++ piece) first.whole ∙ append_assoc (concat requests) rest piece;
  each = first.each;
  open_end = λ front behind cut is. never_whole (rest ++ piece) front behind (no_header_more rest piece never) cut is;
}
