-- A run of the server, turn by turn.
use Rattle.std.proofs.Common.{◌≡◌, ◌≢◌, ◌⊎◌, ◌∙◌, inl, inr, ℕ, ◌+◌, ◌<◌, ◌≤◌, ◌^◌, Bool, true, false, List, [], ◌∷◌, ◌++◌, length, refl, sym, ap, subst, arith, append_assoc, length-append, Ok, Err}
use Rattle.std.specs.Prelude.{Option, Some, None, IsTrue, Result, is_some, if◌then◌else◌}
use Rattle.std.specs.Option.{option_map}
use Rattle.std.proofs.lemmas.List.{append-nil}
use Rattle.dv_outside.specs.Station.{Content}
use Rattle.dv_session.specs.declared.framer.Fed.{Fed}
use Rattle.dv_session.specs.declared.serving.End.{End}
use Rattle.dv_session.specs.declared.serving.End.TheVariants.{Input, Read, Memory, Refused, Limit}
use Rattle.dv_session.specs.Feeding.{Feeds, requests_of}
use Rattle.dv_session.specs.Issuing.{Book, Notary}
use Rattle.dv_session.specs.Progress.{Progress, start, stop_of, Reads, IsAt}
use Rattle.dv_session.specs.Requests.{HasNoHeader}
use Rattle.dv_session.specs.Serving.{Answers, AnswersRequests, Ends, HasTaken, HasTold, IsRun, IsStop, IsWhole, Serves}
use Rattle.dv_session.proofs.AnswerLemmas.{answers_then}
use Rattle.dv_session.proofs.AnsweringLemmas.{answering_more, answering_none, answering_stops, close_of, ends_then, run_of, told_more}
use Rattle.dv_session.proofs.ReadLemmas.{reads_none, reads_more}
use Rattle.dv_session.proofs.RequestLemmas.{nothing_begun, begun_header}

-- All that was taken was read, and all requests in it were answered.
pub record Going (n : Notary) (left left' : Option (List ℕ)) (progress : Progress) (told told' : Option (List ℕ)) (book book' : Book) (tells : Bool)
    (old new : Content) (taken : ℕ) : Type 0 where
  pub stream : List ℕ
  pub requests : List (List ℕ)
  pub took : HasTaken left left' stream
  pub size : length stream ≡ taken
  pub reads : Reads progress stream requests
  pub answering : AnswersRequests n requests (Ok tt) told told' book book' tells old new

pub takes_none : (left : Option (List ℕ)) → HasTaken left left []
takes_none None = refl
takes_none (Some l) = refl

pub takes_then : (a b c : Option (List ℕ)) (xs ys : List ℕ) → HasTaken a b xs → HasTaken b c ys → HasTaken a c (xs ++ ys)
takes_then a b None xs ys one two = one ∙ ap (option_map (λ l. xs ++ l)) two
takes_then a b (Some l) xs ys one two = one ∙ ap (option_map (λ l. xs ++ l)) two ∙ ap (λ (k : List ℕ). Some k) (sym (append_assoc xs ys l))

-- nothing was taken yet
pub going_none : (n : Notary) (left told : Option (List ℕ)) (book : Book) (tells : Bool) (a : Content) → book.shut ≡ false
    → Going n left left start told told book book tells a a 0
going_none n left told book tells a still = record {
  stream = [];
  requests = [];
  took = takes_none left;
  size = refl;
  reads = reads_none;
  answering = answering_none n told book tells a still;
}

-- the source gave nothing more
pub going_on : (n : Notary) (left left' left'' : Option (List ℕ)) (progress : Progress) (told told' : Option (List ℕ)) (book book' : Book) (tells : Bool) (a b : Content)
    (taken : ℕ) → Going n left left' progress told told' book book' tells a b taken → HasTaken left' left'' [] → Going n left left'' progress told told' book book' tells a b taken
going_on n left left' left'' progress told told' book book' tells a b taken going none = record {
  stream = going.stream;
  requests = going.requests;
  took = subst (HasTaken left left'') (append-nil going.stream) (takes_then left left' left'' going.stream [] going.took none);
  size = going.size;
  reads = going.reads;
  answering = going.answering;
}

-- a turn more: a piece was taken and fed, and the requests that it completed were answered
pub going_more : (n : Notary) (left left' left'' : Option (List ℕ)) (before after : Progress) (fed : Fed) (told told' told'' : Option (List ℕ)) (book mid book' : Book)
    (tells : Bool) (a b c : Content) (taken : ℕ) (piece : List ℕ) → Going n left left' before told told' book mid tells a b taken → HasTaken left' left'' piece
    → Feeds before piece fed after → AnswersRequests n (requests_of fed) (Ok tt) told' told'' mid book' tells b c
    → Going n left left'' after told told'' book book' tells a c (taken + length piece)
going_more n left left' left'' before after fed told told' told'' book mid book' tells a b c taken piece going took fed_so more = record {
  stream = going.stream ++ piece;
  requests = going.requests ++ requests_of fed;
  took = takes_then left left' left'' going.stream piece going.took took;
  size = length-append going.stream piece ∙ ap (λ (k : ℕ). k + length piece) going.size;
  reads = reads_more before after going.stream piece going.requests fed going.reads fed_so;
  answering = answering_more n (going.requests ++ requests_of fed) going.requests (requests_of fed) told told' told'' book mid book' tells a b c refl going.answering more;
}

-- ---- how a run ends with each request answered

module _ (n : Notary) (left left' : Option (List ℕ)) (progress : Progress) (told told' : Option (List ℕ)) (book book' : Book) (tells : Bool) (a b : Content) (taken : ℕ)
    (going : Going n left left' progress told told' book book' tells a b taken) (ended : Bool) where
  -- the run, with octets that were taken and not read
  is_run : (end : End) (left'' : Option (List ℕ)) (unread : List ℕ) → HasTaken left' left'' unread → (end ≢ Memory → unread ≡ []) → taken + length unread ≤ 2 ^ 40
      → IsRun n end (run_of going.stream going.requests going.reads.0 unread going.answering.answers going.answering.between) left left'' book
  is_run end left'' unread took all bound = record {
    taken = takes_then left left' left'' going.stream unread going.took took;
    all_read = all;
    bound = omega (arith, length-append going.stream unread, going.size, bound);
    split = going.reads.1;
    answers = going.answering.answered;
    is_open = going.answering.is_open;
  }

  whole : (unread : List ℕ) → IsWhole (run_of going.stream going.requests going.reads.0 unread going.answering.answers going.answering.between)
      (close_of going.answering.said book' ended tells a b)
  whole unread = let is = going.answering.stops.1 in record { told = is.told; book = is.book; sent = is.sent }

  -- all that was taken was read
  serves : (end : End) → taken ≤ 2 ^ 40
      → Ends n end (run_of going.stream going.requests going.reads.0 [] going.answering.answers going.answering.between) (close_of going.answering.said book' ended tells a b)
      → Serves n end left left' told told' book book' ended tells a b
  serves end bound so = (
    run_of going.stream going.requests going.reads.0 [] going.answering.answers going.answering.between,
    going.answering.said,
    is_run end left' [] (takes_none left') (λ _. refl) (omega (arith, bound)),
    going.answering.has_told,
    so,
  )

  not_stopped : progress.stopped ≡ false → ¬ HasNoHeader going.reads.0
  not_stopped on never = let stopped : progress.stopped ≡ true = going.reads.2.stopped.1 never in cc

  -- the input ended behind the last request
  pub serves_input : taken ≤ 2 ^ 40 → progress.behind ≡ 0 → ended ≡ true → Serves n Input left left' told told' book book' ended tells a b
  serves_input bound none at_end = serves Input bound (empty going.reads.0 (sym going.reads.2.behind ∙ none), at_end, going.answering.stops.0, whole [])
    where
      empty : (l : List ℕ) → length l ≡ 0 → l ≡ []
      empty [] e = refl
      empty (x ∷ xs) e = absurd (omega arith)

  -- it ended in octets behind it
  pub serves_cut : taken ≤ 2 ^ 40 → progress.behind ≢ 0 → ended ≡ true → Serves n Refused left left' told told' book book' ended tells a b
  serves_cut bound some at_end =
      serves Refused bound (filled going.reads.0 (omega (arith, some, going.reads.2.behind)), inr at_end, going.answering.stops.0, whole [])
    where
      filled : (l : List ℕ) → 0 < length l → l ≢ []
      filled l lt e = let none : length l ≡ 0 = ap length e in omega arith

  -- these octets begin no request
  pub serves_refused : taken ≤ 2 ^ 40 → progress.stopped ≡ true → Serves n Refused left left' told told' book book' ended tells a b
  serves_refused bound stopped =
      let never = going.reads.2.stopped.0 stopped in
      serves Refused bound (not_empty going.reads.0 never, inl never, going.answering.stops.0, whole [])
    where
      -- no octets go on to any header
      not_empty : (rest : List ℕ) → HasNoHeader rest → rest ≢ []
      not_empty rest never e = begun_header [] nothing_begun (subst HasNoHeader e never)

  -- a read failed
  pub serves_read : taken ≤ 2 ^ 40 → progress.stopped ≡ false → ended ≡ false → Serves n Read left left' told told' book book' ended tells a b
  serves_read bound on not_end = serves Read bound (not_stopped on, not_end, going.answering.stops.0, whole [])

  -- as much was taken as may be
  pub serves_limit : taken ≡ 2 ^ 40 → progress.stopped ≡ false → ended ≡ false → Serves n Limit left left' told told' book book' ended tells a b
  serves_limit all on not_end =
      serves Limit (omega (arith, all)) (going.size ∙ all, not_stopped on, not_end, going.answering.stops.0, whole [])

  -- There was no memory to read on. What was taken last isn't read.
  pub serves_memory : (left'' : Option (List ℕ)) (unread : List ℕ) → HasTaken left' left'' unread → taken + length unread ≤ 2 ^ 40
      → Serves n Memory left left'' told told' book book' ended tells a b
  serves_memory left'' unread took bound =
      let is = whole unread in (
        run_of going.stream going.requests going.reads.0 unread going.answering.answers going.answering.between,
        going.answering.said,
        is_run Memory left'' unread took (λ other. absurd (other refl)) bound,
        going.answering.has_told,
        record { told = inl is.told; list = ap (λ (k : Book). k.list) is.book; sent = is.sent },
      )

-- ---- how it ends at a request

pub serves_stop : (n : Notary) (end : End) (left left' left'' : Option (List ℕ)) (before after : Progress) (fed : Fed) (told told' told'' : Option (List ℕ))
    (book mid book' : Book) (tells ended : Bool) (a b c : Content) (taken : ℕ) (piece : List ℕ) → Going n left left' before told told' book mid tells a b taken
    → HasTaken left' left'' piece → Feeds before piece fed after → taken + length piece ≤ 2 ^ 40
    → AnswersRequests n (requests_of fed) (Err end) told' told'' mid book' tells b c → IsStop end → Serves n end left left'' told told'' book book' ended tells a c
serves_stop n end left left' left'' before after fed told told' told'' book mid book' tells ended a b c taken piece going took fed_so bound two stop =
    let more = requests_of fed in
    let one = going.answering in
    let reads = reads_more before after going.stream piece going.requests fed going.reads fed_so in
    let none = append-nil (going.stream ++ piece) in
    let same : going.requests ++ more ≡ going.requests ++ (more ++ []) = ap (λ (l : List (List ℕ)). going.requests ++ l) (sym (append-nil more)) in
    let from = subst (λ (m : Book). Answers n more two.answers m two.between) one.stops.1.book two.answered in
    let is : IsRun n end (run_of (going.stream ++ piece) (going.requests ++ more) reads.0 [] (one.answers ++ two.answers) two.between) left left'' book = record {
      taken = subst (HasTaken left left'') (sym none) (takes_then left left' left'' going.stream piece going.took took);
      all_read = λ _. refl;
      bound = omega (arith, length-append going.stream piece, ap length none, going.size, bound);
      split = reads.1;
      answers = answers_then n going.requests more one.answers two.answers book one.between two.between one.stops.0 one.answered from;
      is_open = two.is_open;
    } in (
      run_of (going.stream ++ piece) (going.requests ++ more) reads.0 [] (one.answers ++ two.answers) two.between,
      one.said ++ two.said,
      is,
      told_more told told' told'' one.said two.said one.has_told two.has_told,
      ends_then n (going.requests ++ more) going.requests more [] same one.answers two.answers one.stops.0 one.said two.said one.stops.1.told two.between book' tells a b c
          one.stops.1.sent (going.stream ++ piece) reads.0 [] ended end stop two.stops,
    )

-- a stop is told exactly where the stream has stopped
pub is_stop : (progress : Progress) (stop : Option ℕ) (some : Bool) → stop ≡ stop_of progress → some ≡ is_some stop → progress.stopped ≡ some
is_stop progress stop some told test = by_stopped progress.stopped progress.before ∙ sym (ap is_some told) ∙ sym test
  where
    by_stopped : (stopped : Bool) (before : ℕ) → stopped ≡ is_some (if stopped then Some before else None)
    by_stopped true before = refl
    by_stopped false before = refl
