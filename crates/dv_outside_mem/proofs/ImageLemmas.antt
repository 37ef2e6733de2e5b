-- What a crash leaves, by the calls that were made.
use Rattle.std.proofs.Common.{zero, suc, ◌≡◌, ◌∙◌, ⊎_elim, ℕ, ◌+◌, ◌-◌, ◌≤◌, min, true, false, Bool, List, [], ◌∷◌, ◌++◌, length, take, drop, get_or, replicate, ◌&&◌, subst, ap, refl, sym, arith, length-append, length-drop, length-take}
use Rattle.std.proofs.lemmas.List.{take-append-drop, take_all, drop-replicate, take-replicate, length-replicate}
use Rattle.std.specs.List.{list_all}
use Rattle.dv_outside_mem.specs.declared.made.Made.{Made}
use Rattle.dv_outside_mem.specs.declared.made.Made.TheVariants.{Look, Sync, Write, Put}
use Rattle.dv_outside_mem.specs.Over.{over}
use Rattle.dv_outside_mem.specs.Replay.{State, Range, step, after, start, is_within, all_within, Reaches, IsImage}
use Rattle.dv_outside_mem.specs.Reads.{reaches-push, over_changes, changes_differs, after_reads}
use Rattle.dv_outside_mem.specs.declared.image.Pick.{Pick}
use Rattle.dv_outside_mem.specs.Image.{torn, picked, is_no_sync, IsLastSync}
use Rattle.dv_outside_mem.specs.declared.image.Pick.TheVariants.{Old, New, Torn}
use Rattle.dv_outside_mem.proofs.JournalLemmas.{le_of_test, both_of, after-push}

-- Both of two.
and_of : (a b : Bool) → (a && b) ≡ true → (a ≡ true) × (b ≡ true)
and_of true b is = (refl, is)
and_of false b is = absurd (cc)

-- Each call of those whose octets lie within a tape, and those behind some of them.
pub all_within-at : (n : ℕ) (log : List Made) (i : ℕ) → all_within n log ≡ true → is_within n (get_or log i Look) ≡ true
all_within-at n [] i within = refl
all_within-at n (m ∷ log) zero within = let two = both_of (is_within n m) (all_within n log) within in two.0
all_within-at n (m ∷ log) (suc i) within = let two = both_of (is_within n m) (all_within n log) within in all_within-at n log i two.1

pub all_within-drop : (n k : ℕ) (log : List Made) → all_within n log ≡ true → all_within n (drop k log) ≡ true
all_within-drop n zero log within = within
all_within-drop n (suc k) [] within = within
all_within-drop n (suc k) (m ∷ log) within = let two = both_of (is_within n m) (all_within n log) within in all_within-drop n k log two.1

-- Calls, and then others.
pub after-append : (tape : List ℕ) (s : State) (xs ys : List Made) → after tape s (xs ++ ys) ≡ after tape (after tape s xs) ys
after-append tape s [] ys = refl
after-append tape s (x ∷ xs) ys = after-append tape (step tape s x) xs ys

-- What a call makes of the file depends on the file alone.
pub step_reads_only : (tape : List ℕ) (s t : State) (m : Made) → s.reads ≡ t.reads → (step tape s m).reads ≡ (step tape t m).reads
step_reads_only tape s t Look same = same
step_reads_only tape s t Sync same = same
step_reads_only tape s t (Write place from done rest) same = ap (λ (l : List ℕ). over l (min place (length l)) (take done (drop from tape))) same
step_reads_only tape s t (Put from done) same = same

pub reads_only : (tape : List ℕ) (s t : State) (log : List Made) → s.reads ≡ t.reads → (after tape s log).reads ≡ (after tape t log).reads
reads_only tape s t [] same = same
reads_only tape s t (m ∷ log) same = reads_only tape (step tape s m) (step tape t m) log (step_reads_only tape s t m same)

-- Without a sync what is sure stays.
step_durable : (tape : List ℕ) (s : State) (m : Made) → is_no_sync m ≡ true → (step tape s m).durable ≡ s.durable
step_durable tape s Look none = refl
step_durable tape s Sync none = absurd (cc)
step_durable tape s (Write place from done rest) none = refl
step_durable tape s (Put from done) none = refl

pub durable_stays : (tape : List ℕ) (s : State) (log : List Made) → list_all is_no_sync log ≡ true → (after tape s log).durable ≡ s.durable
durable_stays tape s [] none = refl
durable_stays tape s (m ∷ log) none = let two = and_of (is_no_sync m) (list_all is_no_sync log) none in durable_stays tape (step tape s m) log two.1 ∙ step_durable tape s m two.0

-- Right after a sync, and at the start, what the file holds is sure.
pub record IsSettled (s : State) : Type 0 where
  pub ranges : s.ranges ≡ []
  pub durable : s.durable ≡ s.reads

pub last_sync_settles : (tape base : List ℕ) (log : List Made) (n : ℕ) → IsLastSync log n → let s = after tape (start base) (take n log) in IsSettled s
last_sync_settles tape base log n last = ⊎_elim
    (λ none. subst (λ k. let s = after tape (start base) (take k log) in IsSettled s) (sym none) (record { ranges = refl; durable = refl }))
    (λ sync. subst IsSettled (sym (ap (after tape (start base)) sync.1 ∙ after-push tape (start base) sync.0 Sync)) (record { ranges = refl; durable = refl }))
    last.sync

-- One range more, at the end.
torn-push : (x : ℕ) (ranges : List Range) (r : Range) (octets : List ℕ) → torn x (ranges ++ r ∷ []) octets ≡ over (torn x ranges octets) r.place (replicate r.written x)
torn-push x [] r octets = refl
torn-push x (q ∷ ranges) r octets = torn-push x ranges r (over octets q.place (replicate q.written x))

-- How long a file is after a write depends on the lengths alone.
length-over : (f g o p : List ℕ) (place : ℕ) → length f ≡ length g → length o ≡ length p → length (over f place o) ≡ length (over g place p)
length-over f g o p place same same' =
    omega (
      arith,
      same,
      same',
      length-append (take place f ++ o) (drop (place + length o) f),
      length-append (take place f) o,
      length-take place f,
      length-drop (place + length o) f,
      length-append (take place g ++ p) (drop (place + length p) g),
      length-append (take place g) p,
      length-take place g,
      length-drop (place + length p) g,
    )

-- A file that is torn as the writes since the last sync may tear it.
pub record Tears (x : ℕ) (s t : State) : Type 0 where
  pub file : t.reads ≡ torn x s.ranges s.durable
  pub len : length t.reads ≡ length s.reads

module _ (x : ℕ) (tape same : List ℕ) (is_same : same ≡ replicate (length tape) x) where
  -- A piece of the tape, and of the one that is all x.
  piece : (from done : ℕ) → from + done ≤ length tape → take done (drop from same) ≡ replicate (length (take done (drop from tape))) x
  piece from done within =
      let size : length (take done (drop from tape)) ≡ done = omega (arith, length-take done (drop from tape), length-drop from tape, within) in
      ap (λ (l : List ℕ). take done (drop from l)) is_same
      ∙ ap (take done) (drop-replicate from (length tape) x)
      ∙ take-replicate done (length tape - from) x (omega (arith, within))
      ∙ ap (λ n. replicate n x) (sym size)

  step_tears : (s t : State) (m : Made) → is_within (length tape) m ≡ true → is_no_sync m ≡ true → Tears x s t → Tears x (step tape s m) (step same t m)
  step_tears s t Look within none tears = tears
  step_tears s t Sync within none tears = absurd (cc)
  step_tears s t (Write place from done rest) within none tears =
      let octets = take done (drop from tape) in
      let p = min place (length s.reads) in
      let r : Range = record { place = p; written = length octets; size = length octets + rest; end = length s.reads } in
      let is : over t.reads (min place (length t.reads)) (take done (drop from same)) ≡ over t.reads p (replicate (length octets) x) =
      ap (λ n. over t.reads (min place n) (take done (drop from same))) tears.len ∙ ap (over t.reads p) (piece from done (le_of_test (from + done) (length tape) within)) in
      record {
        file = is ∙ ap (λ (l : List ℕ). over l p (replicate (length octets) x)) tears.file ∙ sym (torn-push x s.ranges r s.durable);
        len = ap length is ∙ length-over t.reads s.reads (replicate (length octets) x) octets p tears.len (length-replicate (length octets) x);
      }
  step_tears s t (Put from done) within none tears = record { file = tears.file; len = tears.len }

  pub after_tears : (s t : State) (log : List Made) → all_within (length tape) log ≡ true → list_all is_no_sync log ≡ true → Tears x s t → Tears x (after tape s log) (after same t log)
  after_tears s t [] within none tears = tears
  after_tears s t (m ∷ log) within none tears =
      let two = both_of (is_within (length tape) m) (all_within (length tape) log) within in
      let quiet = and_of (is_no_sync m) (list_all is_no_sync log) none in
      after_tears (step tape s m) (step same t m) log two.1 quiet.1 (step_tears s t m two.0 quiet.0 tears)

-- What is left after calls of which the first n end with the last sync, by the file after these n.
module _ (tape base copy file : List ℕ) (log : List Made) (n : ℕ) (last : IsLastSync log n) (is_copy : copy ≡ base) (replayed : file ≡ (after tape (start copy) (take n log)).reads) where
  reads : file ≡ (after tape (start base) (take n log)).reads
  reads = replayed ∙ ap (λ (l : List ℕ). (after tape (start l) (take n log)).reads) is_copy

  settled : let s = after tape (start base) (take n log) in IsSettled s
  settled = last_sync_settles tape base log n last

  whole : after tape (start base) log ≡ after tape (after tape (start base) (take n log)) (drop n log)
  whole = ap (after tape (start base)) (sym (take-append-drop n log)) ∙ after-append tape (start base) (take n log) (drop n log)

  pub rest_is : take (length log - n) (drop n log) ≡ drop n log
  rest_is = take_all (length log - n) (drop n log) (omega (arith, length-drop n log))

  durable : (after tape (start base) log).durable ≡ file
  durable = ap (λ (s : State). s.durable) whole ∙ durable_stays tape (after tape (start base) (take n log)) (drop n log) last.none_later ∙ settled.durable ∙ sym reads

  pub old_picked : file ≡ picked Old (after tape (start base) log)
  old_picked = sym durable

  pub new_picked : (after tape (start file) (take (length log - n) (drop n log))).reads ≡ picked New (after tape (start base) log)
  new_picked =
      ap (λ (l : List Made). (after tape (start file) l).reads) rest_is
      ∙ reads_only tape (start file) (after tape (start base) (take n log)) (drop n log) reads
      ∙ sym (ap (λ (s : State). s.reads) whole)

  pub torn_picked : (x : ℕ) (same : List ℕ) → same ≡ replicate (length tape) x → all_within (length tape) log ≡ true
      → (after same (start file) (take (length log - n) (drop n log))).reads ≡ picked (Torn x) (after tape (start base) log)
  torn_picked x same is_same within =
      let s = after tape (start base) (take n log) in
      let t = start file in
      let first : Tears x s t = record {
        file = reads ∙ sym settled.durable ∙ sym (ap (λ (r : List Range). torn x r s.durable) settled.ranges);
        len = ap length reads;
      } in
      let tears = after_tears x tape same is_same s t (drop n log) (all_within-drop (length tape) n log within) last.none_later first in
      ap (λ (l : List Made). (after same (start file) l).reads) rest_is ∙ tears.file ∙ sym (ap (λ (u : State). torn x u.ranges u.durable) whole)

-- Where no write is left, the file that was made sure of is an image.
old_is_image : (ranges : List Range) (octets : List ℕ) → Reaches ranges octets octets
old_is_image [] octets = refl
old_is_image (r ∷ ranges) octets = (octets, record { before = refl; after = refl }, old_is_image ranges octets)

-- A torn file is one, and is as long as the file.
record IsTorn (x : ℕ) (s : State) : Type 0 where
  reached : Reaches s.ranges s.durable (torn x s.ranges s.durable)
  len : length (torn x s.ranges s.durable) ≡ length s.reads

step_torn : (x : ℕ) (tape : List ℕ) (s : State) (m : Made) → IsTorn x s → IsTorn x (step tape s m)
step_torn x tape s Look is = is
step_torn x tape s Sync is = record { reached = refl; len = refl }
step_torn x tape s (Write place from done rest) is =
    let octets = take done (drop from tape) in
    let p = min place (length s.reads) in
    let r : Range = record { place = p; written = length octets; size = length octets + rest; end = length s.reads } in
    let mid = torn x s.ranges s.durable in
    let xs = replicate (length octets) x in
    let next = torn-push x s.ranges r s.durable in
    record {
      reached = subst (Reaches (s.ranges ++ r ∷ []) s.durable) (sym next)
          (reaches-push s.ranges r s.durable mid (over mid p xs) is.reached
          (changes_differs p (length octets + rest) (length s.reads) mid (over mid p xs)
          (over_changes mid xs p (length octets + rest) (omega (arith, is.len)) (omega (arith, length-replicate (length octets) x)))));
      len = ap length next ∙ length-over mid s.reads xs octets p is.len (length-replicate (length octets) x);
    }
step_torn x tape s (Put from done) is = record { reached = is.reached; len = is.len }

after_torn : (x : ℕ) (tape : List ℕ) (s : State) (log : List Made) → IsTorn x s → IsTorn x (after tape s log)
after_torn x tape s [] is = is
after_torn x tape s (m ∷ log) is = after_torn x tape (step tape s m) log (step_torn x tape s m is)

-- What a pick leaves is an image.
pub picked_is_image : (pick : Pick) (tape base : List ℕ) (log : List Made) → IsImage (after tape (start base) log) (picked pick (after tape (start base) log))
picked_is_image Old tape base log = let s = after tape (start base) log in old_is_image s.ranges s.durable
picked_is_image New tape base log = after_reads tape (start base) log refl
picked_is_image (Torn x) tape base log = let is = after_torn x tape (start base) log (record { reached = refl; len = refl }) in is.reached
