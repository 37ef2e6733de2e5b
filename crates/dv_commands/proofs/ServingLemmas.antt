-- Runs of the server: they add to the list alone, and what came before them may be a look at the file.
use Rattle.std.proofs.Common.{◌≡◌, ◌∙◌, ℕ, Bool, IsTrue, List, [], ◌∷◌, ◌++◌, ap, subst, refl, sym, append_assoc}
use Rattle.std.proofs.lemmas.List.{append-nil}
use Rattle.std.specs.Prelude.{Option, Result, Ok, Err}
use Rattle.dv_outside.specs.Releases.{Entry}
use Rattle.dv_outside.specs.Station.{Content, Counts, Keeps, Looks, Silent}
use Rattle.dv_lms.specs.Height.{leaf_count}
use Rattle.dv_lms.specs.Identity.{Identity}
use Rattle.dv_register.specs.Layout.{BeginsWith}
use Rattle.dv_register.specs.State.{IsKept, IsSameRegister, State, rule_identity}
use Rattle.dv_cert.specs.Certificates.{MayLeave}
use Rattle.dv_draft.specs.declared.server.Server.{Server}
use Rattle.dv_path.specs.Anchors.{Anchored}
use Rattle.dv_session.specs.declared.serving.End.{End}
use Rattle.dv_session.specs.declared.serving.End.TheVariants.{Input, Read, Put, Fault, Clock, Memory, Refused, Range, Limit}
use Rattle.dv_session.specs.Issuing.{Book, book_of, notary_of, entry_for, Given, IsGiven, Notary, refused, certified, full, failed}
use Rattle.dv_session.specs.Serving.{Answered, Answers, Close, Ends, IsCut, IsNext, IsOut, IsPast, IsShut, IsWhole, Run, Serves, pieces_of}
use Rattle.dv_commands.specs.declared.serving.NotServed.{NotServed}
use Rattle.dv_commands.specs.declared.serving.NotServed.TheVariants.{Open as NotOpened, NoOwn, Fault as NoFile, Memory as NoMemory}
use Rattle.dv_commands.specs.Runs.{IsOpened, IsRunOn}
use Rattle.dv_commands.specs.Serving.{ServesFrom, ServesRegister}
use Rattle.dv_commands.proofs.SendingLemmas.{cut_after, sends_after}

-- ---- lists that begin with another

begins_same : (list : List Entry) → BeginsWith list list
begins_same list = ([], sym (append-nil list))

begins_then : (a b c : List Entry) → BeginsWith b a → BeginsWith c b → BeginsWith c a
begins_then a b c one two = (one.0 ++ two.0, two.1 ∙ ap (λ (l : List Entry). l ++ two.0) one.1 ∙ append_assoc a one.0 two.0)

same_begins : (old new : Book) → new ≡ old → BeginsWith new.list old.list
same_begins old new same = subst (λ (b : Book). BeginsWith b.list old.list) (sym same) (begins_same old.list)

given_begins : (n : Notary) (moment : ℕ) (request : List ℕ) (old new : Book) (g : Given) → IsGiven n moment request old new g → BeginsWith new.list old.list
given_begins n moment request old new g (refused reply bit is notice same given) = same_begins old new same
given_begins n moment request old new g (certified reply d is drafted opened room grown certificate) =
    subst (λ (b : Book). BeginsWith b.list old.list) (sym grown) (entry_for n.server d ∷ [], refl)
given_begins n moment request old new g (full reply d is drafted opened room same given) = same_begins old new same
given_begins n moment request old new g (failed reply d is drafted cause shut given) =
    subst (λ (b : Book). BeginsWith b.list old.list) (sym shut) (begins_same old.list)

answers_begin : (n : Notary) (requests : List (List ℕ)) (answers : List Answered) (old new : Book) → Answers n requests answers old new → BeginsWith new.list old.list
answers_begin n requests [] old new same = same_begins old new same
answers_begin n [] (a ∷ more) old new none = absurd none
answers_begin n (request ∷ requests) (a ∷ more) old new is =
    begins_then old.list (is.0).list new.list
    (given_begins n _ request old is.0 is.1.1 is.1.2)
    (answers_begin n requests more is.0 new is.2)

next_begins : (n : Notary) (run : Run) (a : Answered) (book : Book) → IsNext n run a book → BeginsWith book.list run.book.list
next_begins n run a book is = given_begins n _ is.0 run.book book is.3.1 is.3.2

-- ---- the end of a run

module _ (n : Notary) (run : Run) where
  ends_begin : (end : End) (c : Close) → Ends n end run c → BeginsWith c.book.list run.book.list
  ends_begin Input c e = same_begins run.book c.book e.3.book
  ends_begin Refused c e = same_begins run.book c.book e.3.book
  ends_begin Read c e = same_begins run.book c.book e.3.book
  ends_begin Limit c e = same_begins run.book c.book e.4.book
  ends_begin Clock c e = same_begins run.book c.book e.1.book
  ends_begin Range c e = same_begins run.book c.book e.book
  ends_begin Put c e = next_begins n run e.next c.book e.is_next
  ends_begin Fault c e = next_begins n run e.next c.book e.is_next
  ends_begin Memory c e = subst (λ (l : List Entry). BeginsWith l run.book.list) (sym e.list) (begins_same run.book.list)

  ends_keep : (end : End) (c : Close) → Ends n end run c → IsTrue c.tells → Keeps c.old c.new
  ends_keep Input c e told = (e.3.sent told).keeps
  ends_keep Refused c e told = (e.3.sent told).keeps
  ends_keep Read c e told = (e.3.sent told).keeps
  ends_keep Limit c e told = (e.4.sent told).keeps
  ends_keep Clock c e told = (e.1.sent told).keeps
  ends_keep Range c e told = (e.sent told).keeps
  ends_keep Put c e told = (e.sent told).keeps
  ends_keep Fault c e told = (e.sent told).keeps
  ends_keep Memory c e told = (e.sent told).keeps

  -- the same end of a run that began with a look at the file
  module _ (told : List ℕ) (book : Book) (ended tells : Bool) (a b c : Content) (quiet : IsTrue tells → Keeps a b × Silent a b) where
    abbrev later : Close
    later = record { told = told; book = book; ended = ended; tells = tells; old = b; new = c }

    abbrev sooner : Close
    sooner = record { told = told; book = book; ended = ended; tells = tells; old = a; new = c }

    whole_after : IsWhole run later → IsWhole run sooner
    whole_after w = record { told = w.told; book = w.book; sent = λ t. let q = quiet t in sends_after (pieces_of run.answers) a b c q.0 q.1 (w.sent t) }

    ends_after : (end : End) → Ends n end run later → Ends n end run sooner
    ends_after Input e = (e.0, e.1, e.2, whole_after e.3)
    ends_after Refused e = (e.0, e.1, e.2, whole_after e.3)
    ends_after Read e = (e.0, e.1, e.2, whole_after e.3)
    ends_after Limit e = (e.0, e.1, e.2, e.3, whole_after e.4)
    ends_after Clock e = (e.0, whole_after e.1)
    ends_after Range e = record {
      more = e.more;
      past = e.past;
      late = e.late;
      told = e.told;
      book = e.book;
      sent = λ t. let q = quiet t in sends_after (pieces_of run.answers) a b c q.0 q.1 (e.sent t);
    }
    ends_after Put e = record {
      next = e.next;
      is_next = e.is_next;
      told = e.told;
      sent = λ t. let q = quiet t in cut_after (pieces_of run.answers) e.next.piece a b c q.0 q.1 (e.sent t);
    }
    ends_after Fault e = record {
      next = e.next;
      is_next = e.is_next;
      shut = e.shut;
      told = e.told;
      sent = λ t. let q = quiet t in sends_after (pieces_of run.answers ++ e.next.piece) a b c q.0 q.1 (e.sent t);
    }
    ends_after Memory e = record {
      told = e.told;
      list = e.list;
      sent = λ t. let q = quiet t in sends_after (pieces_of run.answers) a b c q.0 q.1 (e.sent t);
    }

-- ---- a run

module _ (n : Notary) (end : End) (left left' told told' : Option (List ℕ)) (book book' : Book) (ended tells : Bool) where
  pub serves_begin : (a c : Content) → Serves n end left left' told told' book book' ended tells a c → BeginsWith book'.list book.list
  serves_begin a c s =
      begins_then book.list (s.0).book.list book'.list
      (answers_begin n (s.0).requests (s.0).answers book (s.0).book s.2.answers)
      (ends_begin n s.0 end _ s.4)

  pub serves_keep : (a c : Content) → Serves n end left left' told told' book book' ended tells a c → IsTrue tells → Keeps a c
  serves_keep a c s = ends_keep n s.0 end _ s.4

  pub serves_after : (a b c : Content) → (IsTrue tells → Keeps a b × Silent a b) → Serves n end left left' told told' book book' ended tells b c
      → Serves n end left left' told told' book book' ended tells a c
  serves_after a b c quiet s =
      (s.0, s.1, s.2, s.3, ends_after n s.0 s.1 book' ended tells a b c quiet end s.4)

-- ---- a run from an open register

-- what stays the same while a notary serves, and the book, by their parts
abbrev notary : Server → List Anchored → Identity → ℕ → Notary
notary server anchors key first = record { server = server; anchors = anchors; key = rule_identity key; first = first; limit = leaf_count key.height }

abbrev book : List Entry → Bool → Book
book list shut = record { list = list; shut = shut }

notary_same : {V : Type 0} (server : Server) (anchors : List Anchored) (a b : State V) → IsSameRegister a b → notary_of server anchors b ≡ notary_of server anchors a
notary_same server anchors a b same =
    ap (λ (k : Identity). notary server anchors k b.first) same.identity ∙ ap (λ (f : ℕ). notary server anchors a.identity f) same.first

book_same : {V : Type 0} (a b : State V) → b.list ≡ a.list → b.shut ≡ a.shut → book_of b ≡ book_of a
book_same a b list shut = ap (λ (l : List Entry). book l b.shut) list ∙ ap (λ (s : Bool). book a.list s) shut

module _ {V : Type 0} (tells : V → Bool) (content : V → Content) (counts : V → Counts) (server : Server) (anchors : List Anchored)
    (left left' told told' : Option (List ℕ)) (ended : Bool) where
  -- the same run, from a register before it was looked at
  pub serves_from : (end : End) (old asked new : State V) → asked.list ≡ old.list → asked.shut ≡ old.shut → IsSameRegister old asked
      → tells asked.station ≡ tells old.station → (IsTrue (tells old.station) → Looks (content old.station) (content asked.station))
      → Serves (notary_of server anchors asked) end left left' told told' (book_of asked) (book_of new) ended (tells asked.station) (content asked.station) (content new.station)
      → Serves (notary_of server anchors old) end left left' told told' (book_of old) (book_of new) ended (tells old.station) (content old.station) (content new.station)
  serves_from end old asked new list shut same told_same looks s =
      let by_notary = subst (λ (n : Notary). Serves n end left left' told told' (book_of asked) (book_of new) ended (tells asked.station) (content asked.station) (content new.station))
      (notary_same server anchors old asked same) s in
      let by_book = subst (λ (b : Book). Serves (notary_of server anchors old) end left left' told told' b (book_of new) ended (tells asked.station) (content asked.station) (content new.station))
      (book_same old asked list shut) by_notary in
      let by_telling = subst (λ (t : Bool). Serves (notary_of server anchors old) end left left' told told' (book_of old) (book_of new) ended t (content asked.station) (content new.station))
      told_same by_book in
      serves_after (notary_of server anchors old) end left left' told told' (book_of old) (book_of new) ended (tells old.station)
      (content old.station) (content asked.station) (content new.station) (λ t. let l = looks t in (l.keeps, l.silent)) by_telling

  list_begins : (answer : Result End NotServed) (old new : State V) → ServesFrom tells content counts server anchors left left' told told' ended old new answer → BeginsWith new.list old.list
  list_begins (Ok end) old new s =
      serves_begin (notary_of server anchors old) end left left' told told' (book_of old) (book_of new) ended (tells old.station) (content old.station) (content new.station) s.1
  list_begins (Err NoOwn) old new s = subst (λ (l : List Entry). BeginsWith l old.list) (sym s.1.0) (begins_same old.list)
  list_begins (Err NoFile) old new s = subst (λ (l : List Entry). BeginsWith l old.list) (sym s.1.0) (begins_same old.list)
  list_begins (Err NoMemory) old new s = subst (λ (l : List Entry). BeginsWith l old.list) (sym s.0) (begins_same old.list)
  list_begins (Err (NotOpened e)) old new s = absurd s

  moments_keep : (answer : Result End NotServed) (old new : State V) → ServesFrom tells content counts server anchors left left' told told' ended old new answer
      → IsTrue (tells old.station) → Keeps (content old.station) (content new.station)
  moments_keep (Ok end) old new s told_so =
      serves_keep (notary_of server anchors old) end left left' told told' (book_of old) (book_of new) ended (tells old.station) (content old.station) (content new.station) s.1 told_so
  moments_keep (Err NoOwn) old new s told_so = (s.1.1 told_so).keeps
  moments_keep (Err NoFile) old new s told_so = (s.1.1 told_so).keeps
  moments_keep (Err NoMemory) old new s told_so = (s.1 told_so).keeps
  moments_keep (Err (NotOpened e)) old new s told_so = absurd s

  module _ (key : Identity) (station result : V) where
    served_by : (answer : Result End NotServed) (opened closed : State V) → IsRunOn tells content counts key station result opened closed
        → ServesFrom tells content counts server anchors left left' told told' ended opened closed answer
        → ServesRegister tells content counts server anchors key left left' told told' ended station result answer
    served_by (Ok end) opened closed run s = record { opened = opened; closed = closed; run = run; serves = s }
    served_by (Err NoOwn) opened closed run s = record { opened = opened; closed = closed; run = run; serves = s }
    served_by (Err NoFile) opened closed run s = record { opened = opened; closed = closed; run = run; serves = s }
    served_by (Err NoMemory) opened closed run s = record { opened = opened; closed = closed; run = run; serves = s }
    served_by (Err (NotOpened e)) opened closed run s = absurd s

    -- what the server did on a register that it opened
    pub served_on : (answer : Result End NotServed) (opened closed : State V) → IsOpened tells content counts key station opened → IsKept tells content counts MayLeave closed
        → IsSameRegister opened closed → closed.station ≡ result → tells closed.station ≡ tells opened.station
        → ServesFrom tells content counts server anchors left left' told told' ended opened closed answer
        → ServesRegister tells content counts server anchors key left left' told told' ended station result answer
    served_on answer opened closed is_opened kept same handed told_same s = served_by answer opened closed
        (record {
          is_opened = is_opened;
          goes_on = record {
            kept = kept;
            same = same;
            begins = list_begins answer opened closed s;
            station = handed;
            tells_same = ap tells (sym handed) ∙ told_same;
            later = λ t. subst (λ (v : V). Keeps (content opened.station) (content v)) handed (moments_keep answer opened closed s t);
          };
        })
        s
