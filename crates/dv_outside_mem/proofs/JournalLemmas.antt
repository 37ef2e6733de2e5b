-- One call joins those that were made.
use Rattle.std.proofs.Common.{zero, suc, ◌≡◌, ◌∙◌, ℕ, ◌+◌, ◌<◌, ◌≤◌, min, true, false, Bool, List, [], ◌∷◌, ◌++◌, length, take, drop, subst, ap, refl, sym, arith, length-append, length-drop}
use Rattle.std.proofs.lemmas.List.{drop_at, take_all, take-append-le, drop-append-le}
use Rattle.std.proofs.lemmas.Bool.Decides.{nat_tests}
use Rattle.std.proofs.lemmas.Result.{on_ok_weaker}
use Rattle.std.specs.Prelude.{Result, Ok, Err, OnOk, nat_le, if◌then◌else◌}
use Rattle.dv_outside.specs.Station.{ChangesIn, DiffersIn, Keeps, Looks, Syncs, Writes, Puts}
use Rattle.dv_outside_mem.specs.declared.made.Made.{Made}
use Rattle.dv_outside_mem.specs.declared.made.Made.TheVariants.{Look, Sync, Write, Put}
use Rattle.dv_outside_mem.specs.Over.{over}
use Rattle.dv_outside_mem.specs.Replay.{State, write_to, send_to, step, after, IsImage, start, content_of, is_within, all_within, Stands}
use Rattle.dv_outside_mem.specs.Reads.{after_reads, reaches-last, over_changes}

-- What a test of numbers says.
pub le_of_test : (m n : ℕ) → nat_le m n ≡ true → m ≤ n
le_of_test m n is = grind (arith, nat_tests)

pub test_of_le : (m n : ℕ) → m ≤ n → nat_le m n ≡ true
test_of_le m n le = grind (arith, nat_tests)

-- Both tests of two.
pub both_of : (a b : Bool) → (if a then b else false) ≡ true → (a ≡ true) × (b ≡ true)
both_of true b is = (refl, is)
both_of false b is = absurd (cc)

both : (a b : Bool) → a ≡ true → b ≡ true → (if a then b else false) ≡ true
both a b one two = ap (λ (x : Bool). if x then b else false) one ∙ two

-- A piece within a tape stays where the tape grows.
piece_stays : (tape more : List ℕ) (from done : ℕ) → from + done ≤ length tape → take done (drop from (tape ++ more)) ≡ take done (drop from tape)
piece_stays tape more from done within =
    ap (take done) (drop-append-le from tape more (omega (arith, within)))
    ∙ take-append-le done (drop from tape) more (omega (arith, within, length-drop from tape))

-- So do the calls whose pieces lie within it.
step_stays : (tape more : List ℕ) (s : State) (m : Made) → is_within (length tape) m ≡ true → step (tape ++ more) s m ≡ step tape s m
step_stays tape more s Look within = refl
step_stays tape more s Sync within = refl
step_stays tape more s (Write place from done rest) within = let same = piece_stays tape more from done (le_of_test (from + done) (length tape) within) in rw same
step_stays tape more s (Put from done) within = let same = piece_stays tape more from done (le_of_test (from + done) (length tape) within) in rw same

after_stays : (tape more : List ℕ) (s : State) (log : List Made) → all_within (length tape) log ≡ true → after (tape ++ more) s log ≡ after tape s log
after_stays tape more s [] within = refl
after_stays tape more s (m ∷ log) within =
    let two = both_of (is_within (length tape) m) (all_within (length tape) log) within in
    ap (λ (t : State). after (tape ++ more) t log) (step_stays tape more s m two.0) ∙ after_stays tape more (step tape s m) log two.1

-- One call behind others.
pub after-push : (tape : List ℕ) (s : State) (log : List Made) (m : Made) → after tape s (log ++ m ∷ []) ≡ step tape (after tape s log) m
after-push tape s [] m = refl
after-push tape s (x ∷ log) m = after-push tape (step tape s x) log m

-- The first calls lie within the tape too, also where it is longer.
pub all_within-take : (n k : ℕ) (log : List Made) → all_within n log ≡ true → all_within n (take k log) ≡ true
all_within-take n zero log within = refl
all_within-take n (suc k) [] within = refl
all_within-take n (suc k) (m ∷ log) within =
    let two = both_of (is_within n m) (all_within n log) within in
    both (is_within n m) (all_within n (take k log)) two.0 (all_within-take n k log two.1)

is_within-wider : (n k : ℕ) (m : Made) → n ≤ k → is_within n m ≡ true → is_within k m ≡ true
is_within-wider n k Look le is = refl
is_within-wider n k Sync le is = refl
is_within-wider n k (Write place from done rest) le is = test_of_le (from + done) k (omega (arith, le, le_of_test (from + done) n is))
is_within-wider n k (Put from done) le is = test_of_le (from + done) k (omega (arith, le, le_of_test (from + done) n is))

all_within-push : (n k : ℕ) (log : List Made) (m : Made) → n ≤ k → all_within n log ≡ true → is_within k m ≡ true → all_within k (log ++ m ∷ []) ≡ true
all_within-push n k [] m le all here = both (is_within k m) true here refl
all_within-push n k (x ∷ log) m le all here =
    let two = both_of (is_within n x) (all_within n log) all in
    both (is_within k x) (all_within k (log ++ m ∷ [])) (is_within-wider n k x le two.0) (all_within-push n k log m le two.1 here)

module _ (base file file' sent sent' tape more tape' : List ℕ) (log log' : List Made) (m : Made) (stands : Stands base file sent tape log) (is_tape : tape' ≡ tape ++ more) (is_log : log' ≡ log ++ m ∷ []) where
  before : State
  before = after tape (start base) log

  -- The state by a moment that is past.
  state_then : (k : ℕ) → k ≤ length log → after tape' (start base) (take k log') ≡ after tape (start base) (take k log)
  state_then k le =
      ap (λ (l : List Made). after tape' (start base) (take k l)) is_log
      ∙ ap (after tape' (start base)) (take-append-le k log (m ∷ []) le)
      ∙ ap (λ (o : List ℕ). after o (start base) (take k log)) is_tape
      ∙ after_stays tape more (start base) (take k log) (all_within-take (length tape) k log stands.within)

  -- The state after the call.
  state_end : after tape' (start base) log' ≡ step tape' (after tape (start base) log) m
  state_end =
      ap (after tape' (start base)) is_log ∙ after-push tape' (start base) log m
      ∙ ap (λ (t : State). step tape' t m) (ap (λ (o : List ℕ). after o (start base) log) is_tape ∙ after_stays tape more (start base) log stands.within)

  state_now : (k : ℕ) → length log < k → after tape' (start base) (take k log') ≡ step tape' (after tape (start base) log) m
  state_now k lt = ap (after tape' (start base)) (take_all k log' (omega (arith, lt, ap length is_log, length-append log (m ∷ [])))) ∙ state_end

  -- The fields still stand.
  pub stands_on : file' ≡ (step tape' (after tape (start base) log) m).reads → sent' ≡ (step tape' (after tape (start base) log) m).sent → is_within (length tape') m ≡ true
      → Stands base file' sent' tape' log'
  stands_on reads out here = record {
    reads = reads ∙ sym (ap (λ (t : State). t.reads) state_end);
    out = out ∙ sym (ap (λ (t : State). t.sent) state_end);
    within = ap (all_within (length tape')) is_log
        ∙ all_within-push (length tape) (length tape') log m (omega (arith, ap length is_tape, length-append tape more)) stands.within here;
  }

  -- What was told of earlier moments stands.
  keeps : Keeps (content_of base file tape log) (content_of base file' tape' log')
  keeps = record {
    later = omega (arith, ap length is_log, length-append log (m ∷ []));
    images = λ k b le at. subst (λ (t : State). IsImage t b) (state_then k le) at;
    kept = λ k b le at. subst (λ (t : State). IsImage t b) (sym (state_then k le)) at;
    sent = λ k le. ap (λ (t : State). t.sent) (state_then k le);
  }

  -- The state as the call began.
  at_begin : (b : List ℕ) → IsImage (after tape (start base) log) b → (content_of base file tape log).image (length log) b
  at_begin b at = subst (λ (l : List Made). IsImage (after tape (start base) l) b) (sym (take_all (length log) log (omega arith))) at

  from_begin : (b : List ℕ) → (content_of base file tape log).image (length log) b → IsImage (after tape (start base) log) b
  from_begin b at = subst (λ (l : List Made). IsImage (after tape (start base) l) b) (take_all (length log) log (omega arith)) at

  sent_begin : (after tape (start base) log).sent ≡ (content_of base file tape log).sent (length log)
  sent_begin = ap (λ (l : List Made). (after tape (start base) l).sent) (sym (take_all (length log) log (omega arith)))

  past_log : length log < length log'
  past_log = omega (arith, ap length is_log, length-append log (m ∷ []))

  pub look_joins : m ≡ Look → file' ≡ file → Looks (content_of base file tape log) (content_of base file' tape' log')
  look_joins look same =
      let now : (k : ℕ) → length log < k → after tape' (start base) (take k log') ≡ after tape (start base) log =
      λ k lt. state_now k lt ∙ ap (step tape' (after tape (start base) log)) look in
      record {
        keeps = keeps;
        reads = same;
        images = λ k lt le b at. at_begin b (subst (λ (t : State). IsImage t b) (now k lt) at);
        silent = λ k lt le. ap (λ (t : State). t.sent) (now k lt) ∙ sent_begin;
      }

  pub sync_joins : {T E : Type 0} (r : Result T E) → m ≡ Sync → file' ≡ file → Syncs r (content_of base file tape log) (content_of base file' tape' log')
  sync_joins r sync same =
      let state : (k : ℕ) → length log < k → after tape' (start base) (take k log') ≡ step tape' (after tape (start base) log) Sync =
      λ k lt. state_now k lt ∙ ap (step tape' (after tape (start base) log)) sync in
      let now : (k : ℕ) → length log < k → (b : List ℕ) → (content_of base file' tape' log').image k b → b ≡ (after tape (start base) log).reads =
      λ k lt b at. subst (λ (t : State). IsImage t b) (state k lt) at in
      record {
        looks = record {
          keeps = keeps;
          reads = same;
          images = λ k lt le b at. at_begin b (subst (IsImage (after tape (start base) log)) (sym (now k lt b at)) (after_reads tape (start base) log refl));
          silent = λ k lt le. ap (λ (t : State). t.sent) (state k lt) ∙ sent_begin;
        };
        durable = always r (λ b at. now (length log') past_log b at ∙ sym stands.reads ∙ sym same);
      }
    where
      always : {T E P : Type 0} (r : Result T E) → P → OnOk r P
      always (Ok x) p = p
      always (Err e) p = tt

  -- The octets of the newest call.
  newest : (done : ℕ) → done ≡ length more → take done (drop (length tape) tape') ≡ more
  newest done is =
      ap (λ (o : List ℕ). take done (drop (length tape) o)) is_tape
      ∙ ap (take done) (drop_at tape more (length tape) refl)
      ∙ take_all done more (omega (arith, is))

  -- A write within the file of the octets at the end of the tape.
  write_state : (place rest : ℕ) → m ≡ Write place (length tape) (length more) rest → place ≤ length file
      → step tape' (after tape (start base) log) m ≡ write_to (after tape (start base) log) place more rest
  write_state place rest write inside =
      let s = after tape (start base) log in
      let at : min place (length s.reads) ≡ place = omega (arith, inside, ap length stands.reads) in
      let piece = newest (length more) refl in
      ap (step tape' s) write ∙ ap (λ n. write_to s n (take (length more) (drop (length tape) tape')) rest) at ∙ ap (λ (l : List ℕ). write_to s place l rest) piece

  pub write_reads : (place rest : ℕ) → m ≡ Write place (length tape) (length more) rest → place ≤ length file
      → (step tape' (after tape (start base) log) m).reads ≡ over file place more
  write_reads place rest write inside =
      ap (λ (t : State). t.reads) (write_state place rest write inside) ∙ ap (λ (l : List ℕ). over l place more) (sym stands.reads)

  pub write_sent : (place rest : ℕ) → m ≡ Write place (length tape) (length more) rest → place ≤ length file
      → sent ≡ (step tape' (after tape (start base) log) m).sent
  write_sent place rest write inside = stands.out ∙ sym (ap (λ (t : State). t.sent) (write_state place rest write inside))

  pub write_joins : {T E : Type 0} (r : Result T E) (place rest : ℕ) (bytes : List ℕ) → m ≡ Write place (length tape) (length more) rest → length more + rest ≡ length bytes
      → place ≤ length file → file' ≡ over file place more → OnOk r (more ≡ bytes) → Writes place bytes r (content_of base file tape log) (content_of base file' tape' log')
  write_joins r place rest bytes write size inside is whole =
      let s = after tape (start base) log in
      let now : (k : ℕ) → length log < k → after tape' (start base) (take k log') ≡ write_to s place more rest = λ k lt. state_now k lt ∙ write_state place rest write inside in
      let here : (a b : List ℕ) → DiffersIn place (length more + rest) (length s.reads) a b → DiffersIn place (length bytes) (length file) a b =
      λ a b differs. subst (λ n. DiffersIn place n (length file) a b) size (subst (λ (l : List ℕ). DiffersIn place (length more + rest) (length l) a b) (sym stands.reads) differs) in
      record {
        keeps = keeps;
        written = on_ok_weaker r (λ same. is ∙ ap (over file place) same) whole;
        outside = subst (ChangesIn place (length bytes) file) (sym is) (over_changes file more place (length bytes) inside (omega (arith, size)));
        images = λ k lt le b at.
            let last = reaches-last s.ranges (record { place = place; written = length more; size = length more + rest; end = length s.reads }) s.durable b
            (subst (λ (t : State). IsImage t b) (now k lt) at) in
            (last.0, at_begin last.0 last.1, here last.0 b last.2);
        silent = λ k lt le. ap (λ (t : State). t.sent) (now k lt) ∙ sent_begin;
      }

  -- A put of the octets at the end of the tape.
  put_state : m ≡ Put (length tape) (length more) → step tape' (after tape (start base) log) m ≡ send_to (after tape (start base) log) more
  put_state put = ap (step tape' (after tape (start base) log)) put ∙ ap (send_to (after tape (start base) log)) (newest (length more) refl)

  pub put_reads : m ≡ Put (length tape) (length more) → file ≡ (step tape' (after tape (start base) log) m).reads
  put_reads put = stands.reads ∙ sym (ap (λ (t : State). t.reads) (put_state put))

  pub put_sent : m ≡ Put (length tape) (length more) → (step tape' (after tape (start base) log) m).sent ≡ sent ++ more
  put_sent put = ap (λ (t : State). t.sent) (put_state put) ∙ ap (λ (l : List ℕ). l ++ more) (sym stands.out)

  pub put_joins : {T E : Type 0} (r : Result T E) (bytes : List ℕ) → m ≡ Put (length tape) (length more) → file' ≡ file → length more ≤ length bytes
      → more ≡ take (length more) bytes → OnOk r (more ≡ bytes) → Puts bytes r (content_of base file tape log) (content_of base file' tape' log')
  put_joins r bytes put same short front whole =
      let s = after tape (start base) log in
      let now : (k : ℕ) → length log < k → after tape' (start base) (take k log') ≡ send_to s more = λ k lt. state_now k lt ∙ put_state put in
      let sends : (k : ℕ) → length log < k → (after tape' (start base) (take k log')).sent ≡ (content_of base file tape log).sent (length log) ++ more =
      λ k lt. ap (λ (t : State). t.sent) (now k lt) ∙ ap (λ (l : List ℕ). l ++ more) sent_begin in
      record {
        keeps = keeps;
        reads = same;
        images = λ k lt le b. (
          λ at. at_begin b (subst (λ (t : State). IsImage t b) (now k lt) at),
          λ at. subst (λ (t : State). IsImage t b) (sym (now k lt)) (from_begin b at),
        );
        sending = λ k lt le. (length more, short, sends k lt ∙ ap (λ (l : List ℕ). (content_of base file tape log).sent (length log) ++ l) front);
        whole = on_ok_weaker r (λ all. sends (length log') past_log ∙ ap (λ (l : List ℕ). (content_of base file tape log).sent (length log) ++ l) all) whole;
      }

  -- What was sent by the end of a put.
  pub put_sends : m ≡ Put (length tape) (length more) → (content_of base file' tape' log').sent (length log') ≡ (content_of base file tape log).sent (length log) ++ more
  put_sends put = ap (λ (t : State). t.sent) (state_now (length log') past_log ∙ put_state put) ∙ ap (λ (l : List ℕ). l ++ more) sent_begin
