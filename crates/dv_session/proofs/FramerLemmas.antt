-- What a framer makes of a piece.
use Rattle.std.proofs.Common.{◌≡◌, ◌⊎◌, ⊎_elim, ◌∙◌, ℕ, ◌+◌, ◌-◌, false, IsTrue, Option, Vec, List, [], ◌∷◌, ◌++◌, if◌then◌else◌, length, take, drop, refl, sym, ap, subst, append_assoc, length-append, arith}
use Rattle.std.specs.List.{concat, AllByRecursion}
use Rattle.std.specs.declared.alloc.Global.{Global}
use Rattle.std.proofs.lemmas.Bool.{both_ways}
use Rattle.std.proofs.lemmas.List.{append-nil, map-append, take-append-drop}
use Rattle.std.proofs.lemmas.List.Folds.{concat-append}
use Rattle.dv_session.specs.declared.front.Front.{Front}
use Rattle.dv_session.specs.declared.front.Front.TheVariants.{Bad}
use Rattle.dv_session.specs.declared.framer.Framer.TheInside.{Inside}
use Rattle.dv_session.specs.declared.framer.Split.{Split}
use Rattle.dv_session.specs.Headers.{Tells}
use Rattle.dv_session.specs.Requests.{IsRequest, HasNoHeader}
use Rattle.dv_session.specs.Progress.{Progress, stop_of}
use Rattle.dv_asn1.specs.Lists.{lists_of}
use Rattle.dv_session.specs.Feeding.{Feeds}
use Rattle.dv_session.specs.Splitting.{IsBegun, progress_of, IsKept, left_behind, rest_of, IsSplit, Splits, Ends}
use Rattle.dv_session.proofs.FrontLemmas.{same_answer}
use Rattle.dv_session.proofs.RequestLemmas.{nothing_begun, each_more, open_rest}

-- ---- the loop over a piece

-- What the loop keeps: the octets are the requests so far, then those that have begun one, then those ahead.
pub record IsCut (octets start : List ℕ) (requests : List (List ℕ)) (begun ahead : List ℕ) : Type 0 where
  pub whole : octets ≡ concat requests ++ (begun ++ ahead)
  pub each : AllByRecursion IsRequest requests
  pub goes_on : IsBegun begun
  pub left : begun ≡ left_behind requests start

-- one vector more
octets_push : (vectors : List (Vec ℕ Global)) (vector : Vec ℕ Global) (octets : List ℕ) → vector.items ≡ octets
    → lists_of (vectors ++ vector ∷ []) ≡ lists_of vectors ++ octets ∷ []
octets_push vectors vector octets is =
    map-append (λ (v : Vec ℕ Global). v.items) vectors (vector ∷ []) ∙ ap (λ (l : List ℕ). lists_of vectors ++ l ∷ []) is

-- one request more
cut_push : (octets start begun ahead request behind : List ℕ) (requests : List (List ℕ)) → IsCut octets start requests begun ahead
    → IsRequest request → begun ++ ahead ≡ request ++ behind → IsCut octets start (requests ++ request ∷ []) [] behind
cut_push octets start begun ahead request behind requests cut is parts =
    let one : concat (requests ++ request ∷ []) ≡ concat requests ++ request =
    concat-append requests (request ∷ []) ∙ ap (λ (l : List ℕ). concat requests ++ l) (append-nil request) in
    record {
      whole =
          cut.whole ∙ ap (λ (l : List ℕ). concat requests ++ l) parts ∙ sym (append_assoc (concat requests) request behind)
          ∙ ap (λ (l : List ℕ). l ++ behind) (sym one);
      each = each_more requests (request ∷ []) cut.each (is, tt);
      goes_on = nothing_begun;
      left = none_left requests;
    }
  where
    none_left : (requests : List (List ℕ)) → [] ≡ left_behind (requests ++ request ∷ []) start
    none_left [] = refl
    none_left (r ∷ rs) = refl

-- a turn of the loop
pub cut_more : (octets start begun ahead last behind : List ℕ) (end : ℕ) (vectors more : List (Vec ℕ Global)) (vector : Vec ℕ Global)
    → IsCut octets start (lists_of vectors) begun ahead → Ends begun ahead end → last ≡ take end ahead → behind ≡ drop end ahead
    → vector.items ≡ begun ++ last → more ≡ vectors ++ vector ∷ [] → IsCut octets start (lists_of more) [] behind
cut_more octets start begun ahead last behind end vectors more vector cut ends is_last is_behind is pushed =
    let request = begun ++ take end ahead in
    let items : vector.items ≡ request = is ∙ ap (λ (l : List ℕ). begun ++ l) is_last in
    let parts : begun ++ ahead ≡ request ++ behind =
    ap (λ (l : List ℕ). begun ++ l) (sym (take-append-drop end ahead)) ∙ sym (append_assoc begun (take end ahead) (drop end ahead))
    ∙ ap (λ (l : List ℕ). request ++ l) (sym is_behind) in
    subst (λ (rs : List (List ℕ)). IsCut octets start rs [] behind) (sym (ap lists_of pushed ∙ octets_push vectors vector request items))
    (cut_push octets start begun ahead request behind (lists_of vectors) cut ends.request parts)

-- its end, where no request ends any more
pub cut_splits : (start piece begun : List ℕ) (split : Split) (said : Front) → IsCut (start ++ piece) start (lists_of split.requests.items) begun split.ahead.now
    → split.behind ≡ length begun + length split.ahead.now → (IsTrue split.stops → said ≡ Bad) → (said ≡ Bad → IsTrue split.stops)
    → Tells (begun ++ split.ahead.now) said → HasNoHeader (begun ++ split.ahead.now) ⊎ IsBegun (begun ++ split.ahead.now) → Splits start piece split
cut_splits start piece begun split said cut behind is_bad bad_is tells none =
    subst (λ (rest : List ℕ). IsSplit (start ++ piece) rest split) (ap (λ (l : List ℕ). l ++ split.ahead.now) cut.left) (record {
      requests = record { whole = cut.whole; each = cut.each; open_end = λ front after is whole. open_rest octets front after none is whole };
      behind = omega (arith, behind, length-append begun split.ahead.now);
      stops = ((λ stops. subst (Tells octets) (is_bad stops) tells), stopped);
      goes_on = λ going. ⊎_elim (λ never. absurd (both_ways split.stops going (stopped never))) (λ is. is) none;
    })
  where
    octets : List ℕ
    octets = begun ++ split.ahead.now

    stopped : HasNoHeader octets → IsTrue split.stops
    stopped never = bad_is (same_answer octets said Bad tells never)

-- ---- a piece that comes before the stop

-- what a framer has then
abbrev framer_after : Inside → List ℕ → Split → Vec ℕ Global → Inside
framer_after framer piece split rest = record {
  before = framer.before + framer.behind + length piece - split.behind;
  behind = split.behind;
  rest = rest;
  stopped = split.stops;
}

-- each octet is counted, that of a request or one behind them
pub octets_after : (framer : Inside) (piece : List ℕ) (split : Split) → IsKept framer → framer.stopped ≡ false → Splits framer.rest.items piece split
    → framer.before + framer.behind + length piece ≡ framer.before + length (concat (lists_of split.requests.items)) + split.behind
octets_after framer piece split kept going splits =
    omega (
      arith,
      (kept.reads going).1,
      splits.behind,
      ap length splits.requests.whole,
      length-append framer.rest.items piece,
      length-append (concat (lists_of split.requests.items)) (rest_of framer.rest.items split),
    )

-- so the counts grow by the octets of the piece
pub after_counted : (framer : Inside) (old : Progress) (piece : List ℕ) (split : Split) → progress_of framer ≡ old → IsKept framer → framer.stopped ≡ false
    → Splits framer.rest.items piece split
    → framer.before + framer.behind + length piece - split.behind + split.behind ≡ old.before + old.behind + length piece
after_counted framer old piece split seen kept going splits =
    subst (λ (p : Progress). framer.before + framer.behind + length piece - split.behind + split.behind ≡ p.before + p.behind + length piece) seen
    (omega (arith, octets_after framer piece split kept going splits))

-- a request has begun in what is kept
pub after_kept : (framer : Inside) (piece : List ℕ) (split : Split) (rest : Vec ℕ Global) → Splits framer.rest.items piece split
    → rest.items ≡ (if split.stops then [] else rest_of framer.rest.items split) → IsKept (framer_after framer piece split rest)
after_kept framer piece split rest splits kept = record {
  reads = λ going.
      let all : rest.items ≡ rest_of framer.rest.items split = kept ∙ rw going refl in
      (subst IsBegun (sym all) (splits.goes_on going), splits.behind ∙ ap length (sym all));
  stopped = λ stops. kept ∙ rw stops refl;
}

-- and the piece gave what it gives
pub after_feeds : (framer : Inside) (old : Progress) (piece : List ℕ) (split : Split) (rest : Vec ℕ Global) (stop : Option ℕ) → progress_of framer ≡ old
    → IsKept framer → framer.stopped ≡ false → Splits framer.rest.items piece split
    → rest.items ≡ (if split.stops then [] else rest_of framer.rest.items split)
    → stop ≡ stop_of (progress_of (framer_after framer piece split rest))
    → (requests : List (List ℕ)) → requests ≡ lists_of split.requests.items
    → Feeds old piece (record { requests = requests; stop = stop }) (progress_of (framer_after framer piece split rest))
after_feeds framer old piece split rest stop seen kept going splits is stops requests same =
    let new = progress_of (framer_after framer piece split rest) in
    let feeds : Feeds old piece (record { requests = lists_of split.requests.items; stop = stop }) new =
    subst (λ (p : Progress). Feeds p piece (record { requests = lists_of split.requests.items; stop = stop }) new) seen (record {
      stopped = λ stopped. absurd (both_ways framer.stopped going stopped);
      reads = λ going'. (
        rest_of framer.rest.items split,
        splits.requests,
        record {
          before = omega (arith, octets_after framer piece split kept going splits);
          behind = splits.behind;
          kept = is;
          stopped = splits.stops;
        },
      );
      stop = stops;
    }) in
    subst (λ (l : List (List ℕ)). Feeds old piece (record { requests = l; stop = stop }) new) (sym same) feeds

-- ---- a piece for which there was no memory

-- the same octets are kept
pub kept_same : (framer : Inside) (rest : Vec ℕ Global) → IsKept framer → rest.items ≡ framer.rest.items → IsKept (record framer { rest = rest })
kept_same framer rest kept same = record {
  reads = λ going. let was = kept.reads going in (subst IsBegun (sym same) was.0, was.1 ∙ ap length (sym same));
  stopped = λ stops. same ∙ kept.stopped stops;
}
