-- How the answering of requests goes, one after another, and how it ends.
use Rattle.std.proofs.Common.{◌≡◌, ◌⊎◌, ◌∙◌, ⊎_elim, inl, inr, ℕ, ◌+◌, ◌<◌, ◌≤◌, Bool, false, List, [], ◌∷◌, ◌++◌, length, drop, refl, sym, ap, subst, arith, append_assoc, length-append, Ok, Err}
use Rattle.std.specs.Prelude.{IsTrue, Option, Some, None, Result}
use Rattle.std.specs.Option.{option_map}
use Rattle.std.proofs.lemmas.List.{append-nil}
use Rattle.dv_outside.specs.Releases.{Entry}
use Rattle.dv_outside.specs.Station.{Content, Keeps, Puts, Silent}
use Rattle.dv_draft.specs.declared.server.Server.{Server}
use Rattle.dv_path.specs.Anchors.{Anchored}
use Rattle.dv_lms.specs.Height.{leaf_count}
use Rattle.dv_lms.specs.Identity.{Identity}
use Rattle.dv_register.specs.State.{IsSameRegister, State, rule_identity}
use Rattle.dv_time.specs.Text.{last_second}
use Rattle.dv_session.specs.declared.serving.End.{End}
use Rattle.dv_session.specs.declared.serving.End.TheVariants.{Input, Read, Put, Fault, Clock, Memory, Refused, Range, Limit}
use Rattle.dv_session.specs.Issuing.{Book, Given, IsGiven, Notary, book_of, notary_of}
use Rattle.dv_session.specs.Sending.{Sends, SendsCut}
use Rattle.dv_session.specs.Serving.{Answered, Answers, AnswersRequests, Close, Ends, HasMore, HasTold, IsAnswer, IsAnswered, IsCut, IsInRange, IsNext, IsOut, IsPast, IsShut, IsStop, IsWhole, Run, StopsAt, from_1950, pieces_of, told_for}
use Rattle.dv_session.proofs.AnswerLemmas.{answers_more, answers_then, behind_then, pieces_then, told_then}
use Rattle.dv_session.proofs.SendingLemmas.{cut_then, failed_put_sends_a_front, nothing_sent, put_sends, sends_then, silent_sends}

-- ---- what the clock told

pub told_none : (told : Option (List ℕ)) → HasTold told told []
told_none None = refl
told_none (Some before) = ap (λ (l : List ℕ). Some l) (sym (append-nil before))

pub told_more : (a b c : Option (List ℕ)) (xs ys : List ℕ) → HasTold a b xs → HasTold b c ys → HasTold a c (xs ++ ys)
told_more None b c xs ys one two = two ∙ ap (option_map (λ before. before ++ ys)) one
told_more (Some before) b c xs ys one two =
    two ∙ ap (option_map (λ before. before ++ ys)) one ∙ ap (λ (l : List ℕ). Some l) (append_assoc before xs ys)

-- ---- runs

abbrev pub run_of : List ℕ → List (List ℕ) → List ℕ → List ℕ → List Answered → Book → Run
run_of stream requests rest unread answers book =
    record { stream = stream; requests = requests; rest = rest; unread = unread; answers = answers; book = book }

abbrev pub close_of : List ℕ → Book → Bool → Bool → Content → Content → Close
close_of told book ended tells old new = record { told = told; book = book; ended = ended; tells = tells; old = old; new = new }

-- Requests were answered, and then more of them, and some weren't. The octets around them don't matter.
module _ (n : Notary) (requests rs more behind : List (List ℕ)) (same : requests ≡ rs ++ (more ++ behind)) (xs ys : List Answered) (each : length xs ≡ length rs)
    (s t : List ℕ) (told : s ≡ told_for xs) (mid new : Book) (tells : Bool) (a b c : Content) (sent : IsTrue tells → Sends (pieces_of xs) a b)
    (stream rest unread : List ℕ) (ended : Bool) where
  -- what the clock told for these and for those behind
  told_behind : (past : List ℕ) → t ≡ told_for ys ++ past → s ++ t ≡ told_for (xs ++ ys) ++ past
  told_behind past is = ap (λ (l : List ℕ). l ++ t) told ∙ ap (λ (l : List ℕ). told_for xs ++ l) is ∙ sym (append_assoc (told_for xs) (told_for ys) past)
      ∙ ap (λ (l : List ℕ). l ++ past) (sym (told_then xs ys))

  told_both : t ≡ told_for ys → s ++ t ≡ told_for (xs ++ ys)
  told_both is = ap (λ (l : List ℕ). l ++ t) told ∙ ap (λ (l : List ℕ). told_for xs ++ l) is ∙ sym (told_then xs ys)

  sent_both : (IsTrue tells → Sends (pieces_of ys) b c) → IsTrue tells → Sends (pieces_of (xs ++ ys)) a c
  sent_both two is = subst (λ (l : List ℕ). Sends l a c) (sym (pieces_then xs ys)) (sends_then (pieces_of xs) (pieces_of ys) a b c (sent is) (two is))

  whole_both : IsWhole (run_of [] more [] [] ys mid) (close_of t new false tells b c)
      → IsWhole (run_of stream requests rest unread (xs ++ ys) mid) (close_of (s ++ t) new ended tells a c)
  whole_both two = record { told = told_both two.told; book = two.book; sent = sent_both two.sent }

  more_both : length ys < length more → length (xs ++ ys) < length requests
  more_both less = omega (arith, less, each, length-append xs ys, ap length same, length-append rs (more ++ behind), length-append more behind)

  next_both : (next : Answered) → IsNext n (run_of [] more [] [] ys mid) next new → IsNext n (run_of stream requests rest unread (xs ++ ys) mid) next new
  next_both next is = (
    is.0,
    is.1 ++ behind,
    ap (drop (length (xs ++ ys))) same ∙ behind_then rs more behind xs ys is.0 is.1 each is.2,
    is.3,
  )

  pub ends_then : (end : End) → IsStop end → Ends n end (run_of [] more [] [] ys mid) (close_of t new false tells b c)
      → Ends n end (run_of stream requests rest unread (xs ++ ys) mid) (close_of (s ++ t) new ended tells a c)
  ends_then Input stop two = absurd stop
  ends_then Read stop two = absurd stop
  ends_then Refused stop two = absurd stop
  ends_then Limit stop two = absurd stop
  ends_then Clock stop two = (more_both two.0, whole_both two.1)
  ends_then Range stop two = record {
    more = more_both two.more;
    past = two.past;
    late = two.late;
    told = told_behind (two.past ∷ []) two.told;
    book = two.book;
    sent = sent_both two.sent;
  }
  ends_then Put stop two = record {
    next = two.next;
    is_next = next_both two.next two.is_next;
    told = told_behind (two.next.told ∷ []) two.told;
    sent = λ is. subst (λ (l : List ℕ). SendsCut l two.next.piece a c) (sym (pieces_then xs ys))
        (cut_then (pieces_of xs) (pieces_of ys) two.next.piece a b c (sent is) (two.sent is));
  }
  ends_then Fault stop two = record {
    next = two.next;
    is_next = next_both two.next two.is_next;
    shut = two.shut;
    told = told_behind (two.next.told ∷ []) two.told;
    sent = λ is. subst (λ (l : List ℕ). Sends l a c)
        (sym (append_assoc (pieces_of xs) (pieces_of ys) two.next.piece) ∙ ap (λ (l : List ℕ). l ++ two.next.piece) (sym (pieces_then xs ys)))
        (sends_then (pieces_of xs) (pieces_of ys ++ two.next.piece) a b c (sent is) (two.sent is));
  }
  ends_then Memory stop two = record {
    told = ⊎_elim (λ is. inl (told_both is)) (λ one. inr (one.0, one.1, told_behind (one.0 ∷ []) one.2)) two.told;
    list = two.list;
    sent = sent_both two.sent;
  }

-- ---- the requests of a piece

-- no request
pub answering_none : (n : Notary) (told : Option (List ℕ)) (book : Book) (tells : Bool) (a : Content) → book.shut ≡ false
    → AnswersRequests n [] (Ok tt) told told book book tells a a
answering_none n told book tells a still = record {
  answers = [];
  between = book;
  said = [];
  answered = refl;
  is_open = still;
  has_told = told_none told;
  stops = (refl, record { told = refl; book = refl; sent = λ is. nothing_sent a });
}

-- what requests that were all answered make of what comes behind them
pub answering_more : (n : Notary) (requests rs more : List (List ℕ)) (p q r : Option (List ℕ)) (old mid new : Book) (tells : Bool) (a b c : Content)
    → requests ≡ rs ++ more → AnswersRequests n rs (Ok tt) p q old mid tells a b → AnswersRequests n more (Ok tt) q r mid new tells b c
    → AnswersRequests n requests (Ok tt) p r old new tells a c
answering_more n requests rs more p q r old mid new tells a b c same one two =
    let before = one.stops.1 in
    let from = subst (λ (m : Book). Answers n more two.answers m two.between) before.book two.answered in
    let split : requests ≡ rs ++ (more ++ []) = same ∙ ap (λ (l : List (List ℕ)). rs ++ l) (sym (append-nil more)) in
    record {
      answers = one.answers ++ two.answers;
      between = two.between;
      said = one.said ++ two.said;
      answered = subst (λ (l : List (List ℕ)). Answers n l (one.answers ++ two.answers) old two.between) (sym same)
          (answers_then n rs more one.answers two.answers old one.between two.between one.stops.0 one.answered from);
      is_open = two.is_open;
      has_told = told_more p q r one.said two.said one.has_told two.has_told;
      stops = (
        omega (arith, one.stops.0, two.stops.0, length-append one.answers two.answers, length-append rs more, ap length same),
        whole_both n requests rs more [] split one.answers two.answers one.stops.0 one.said two.said before.told two.between new tells a b c before.sent
            [] [] [] false two.stops.1,
      );
    }

-- and how the answering ends where one behind them isn't answered
pub answering_stops : (n : Notary) (requests rs more behind : List (List ℕ)) (end : End) (p q r : Option (List ℕ)) (old mid new : Book) (tells : Bool)
    (a b c : Content) → requests ≡ rs ++ (more ++ behind) → IsStop end → AnswersRequests n rs (Ok tt) p q old mid tells a b
    → AnswersRequests n more (Err end) q r mid new tells b c → AnswersRequests n requests (Err end) p r old new tells a c
answering_stops n requests rs more behind end p q r old mid new tells a b c same stop one two =
    let before = one.stops.1 in
    let from = subst (λ (m : Book). Answers n more two.answers m two.between) before.book two.answered in
    record {
      answers = one.answers ++ two.answers;
      between = two.between;
      said = one.said ++ two.said;
      answered = subst (λ (l : List (List ℕ)). Answers n l (one.answers ++ two.answers) old two.between) (sym same)
          (answers_then n rs (more ++ behind) one.answers two.answers old one.between two.between one.stops.0 one.answered
          (answers_more n more behind two.answers one.between two.between from));
      is_open = two.is_open;
      has_told = told_more p q r one.said two.said one.has_told two.has_told;
      stops = ends_then n requests rs more behind same one.answers two.answers one.stops.0 one.said two.said before.told two.between new tells a b c before.sent
          [] [] [] false end stop two.stops;
    }

-- the same of a notary, requests and a station that are the same
pub answering_as : (n n' : Notary) (xs ys : List (List ℕ)) (r : Result (Unit {0}) End) (p q : Option (List ℕ)) (old new : Book) (t u : Bool) (a b : Content)
    → n ≡ n' → xs ≡ ys → t ≡ u → AnswersRequests n xs r p q old new t a b → AnswersRequests n' ys r p q old new u a b
answering_as n n' xs ys r p q old new t u a b notary same as_much is =
    subst (λ (m : Notary). AnswersRequests m ys r p q old new u a b) notary
    (subst (λ (v : Bool). AnswersRequests n ys r p q old new v a b) as_much (subst (λ (zs : List (List ℕ)). AnswersRequests n zs r p q old new t a b) same is))

-- a register is of one notary throughout
pub same_notary : {V : Type 0} (server : Server) (anchors : List Anchored) (old new : State V) → IsSameRegister old new → notary_of server anchors new ≡ notary_of server anchors old
same_notary server anchors old new same =
    ap (λ (i : Identity). record { server = server; anchors = anchors; key = rule_identity i; first = new.first; limit = leaf_count i.height }) same.identity
    ∙ ap (λ (k : ℕ). record { server = server; anchors = anchors; key = rule_identity old.identity; first = k; limit = leaf_count old.identity.height }) same.first

-- so is the book of one with the same records that is as open
pub same_book : {V : Type 0} (old new : State V) → new.list ≡ old.list → new.shut ≡ old.shut → book_of new ≡ book_of old
same_book old new list shut = ap (λ (l : List Entry). record { list = l; shut = new.shut }) list ∙ ap (λ (b : Bool). record { list = old.list; shut = b }) shut

-- ---- one request

-- what was given is the answer, whose octets are put
pub is_answer : (n : Notary) (request : List ℕ) (second moment : ℕ) (old mid new : Book) (g : Given) → moment ≡ from_1950 second → moment ≤ last_second
    → IsGiven n moment request old mid g → new ≡ mid → IsAnswer n request (record { told = second; piece = g.octets }) old new
is_answer n request second moment old mid new g at range given same = (
  subst (λ (m : ℕ). m ≤ last_second) at range,
  g,
  subst (λ (m : ℕ). IsGiven n m request old new g) at (subst (λ (b : Book). IsGiven n moment request old b g) (sym same) given),
  refl,
)

-- a put of the same octets
pub put_same : {T E : Type 0} (r : Result T E) (xs ys : List ℕ) (a b : Content) → xs ≡ ys → Puts xs r a b → Puts ys r a b
put_same r xs ys a b same put = subst (λ (l : List ℕ). Puts l r a b) same put

module _ (n : Notary) (request : List ℕ) (told told' : Option (List ℕ)) (old : Book) (tells : Bool) (a : Content) (here : old.shut ≡ false) where
  -- the clock failed
  pub one_clock : told' ≡ told → AnswersRequests n (request ∷ []) (Err Clock) told told' old old tells a a
  one_clock is = record {
    answers = [];
    between = old;
    said = [];
    answered = refl;
    is_open = here;
    has_told = subst (λ (t : Option (List ℕ)). HasTold told t []) (sym is) (told_none told);
    stops = (omega arith, record { told = refl; book = refl; sent = λ is. nothing_sent a });
  }

  module _ (second : ℕ) (has : HasTold told told' (second ∷ [])) where
    -- it told a second that is too late
    pub one_past : last_second < from_1950 second → AnswersRequests n (request ∷ []) (Err Range) told told' old old tells a a
    one_past late = record {
      answers = [];
      between = old;
      said = second ∷ [];
      answered = refl;
      is_open = here;
      has_told = has;
      stops = record { more = omega arith; past = second; late = late; told = refl; book = refl; sent = λ is. nothing_sent a };
    }

    -- there was no memory
    pub one_out : (new : Book) (b : Content) → IsInRange second → new.list ≡ old.list → (IsTrue tells → Keeps a b) → (IsTrue tells → Silent a b)
        → AnswersRequests n (request ∷ []) (Err Memory) told told' old new tells a b
    one_out new b range same keeps silent = record {
      answers = [];
      between = old;
      said = second ∷ [];
      answered = refl;
      is_open = here;
      has_told = has;
      stops = record { told = inr (second, range, refl); list = same; sent = λ is. silent_sends a b (keeps is) (silent is) };
    }

    module _ (piece : List ℕ) (new : Book) (is_answer : IsAnswer n request (record { told = second; piece = piece }) old new) (b c : Content)
        (keeps : IsTrue tells → Keeps a b) (silent : IsTrue tells → Silent a b) where
      -- the put of the answer failed
      pub one_cut : {T E : Type 0} (e : E) → (IsTrue tells → Puts {T = T} {E = E} piece (Err e) b c)
          → AnswersRequests n (request ∷ []) (Err Put) told told' old new tells a c
      one_cut {T = T} {E = E} e put = record {
        answers = [];
        between = old;
        said = second ∷ [];
        answered = refl;
        is_open = here;
        has_told = has;
        stops = record {
          next = record { told = second; piece = piece };
          is_next = (request, [], refl, is_answer);
          told = refl;
          sent = λ is. failed_put_sends_a_front {T = T} {E = E} e [] piece a b c (silent_sends a b (keeps is) (silent is)) (put is);
        };
      }

      module _ {T E : Type 0} (x : T) (put : IsTrue tells → Puts {T = T} {E = E} piece (Ok x) b c) where
        one_sent : IsTrue tells → Sends piece a c
        one_sent is = put_sends {T = T} {E = E} x [] piece a b c (silent_sends a b (keeps is) (silent is)) (put is)

        -- it was put, and the register is shut
        pub one_shut : IsTrue new.shut → AnswersRequests n (request ∷ []) (Err Fault) told told' old new tells a c
        one_shut shut = record {
          answers = [];
          between = old;
          said = second ∷ [];
          answered = refl;
          is_open = here;
          has_told = has;
          stops = record {
            next = record { told = second; piece = piece };
            is_next = (request, [], refl, is_answer);
            shut = shut;
            told = refl;
            sent = one_sent;
          };
        }

        -- it was put, and the register isn't
        pub one_answered : new.shut ≡ false → AnswersRequests n (request ∷ []) (Ok tt) told told' old new tells a c
        one_answered still = record {
          answers = record { told = second; piece = piece } ∷ [];
          between = new;
          said = second ∷ [];
          answered = (new, is_answer, refl);
          is_open = still;
          has_told = has;
          stops = (
            refl,
            record { told = refl; book = refl; sent = λ is. subst (λ (l : List ℕ). Sends l a c) (sym (append-nil piece)) (one_sent is) },
          );
        }
