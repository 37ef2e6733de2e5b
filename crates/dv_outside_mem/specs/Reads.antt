-- The file as it is now is one of its images.
use Rattle.std.proofs.Common.{◌≡◌, ◌∙◌, ◌⊎◌, ⊎_elim, ℕ, ◌+◌, ◌-◌, ◌<◌, ◌≤◌, min, List, [], ◌∷◌, ◌++◌, length, take, drop, subst, ap, refl, sym, arith, append_assoc, length-append, length-take}
use Rattle.std.proofs.lemmas.List.{take_at, drop_at, drop_all, drop-take, take_all, drop-drop, length-take-le}
use Rattle.dv_outside.specs.Station.{ChangesIn, DiffersIn}
use Rattle.dv_outside_mem.specs.declared.made.Made.{Made}
use Rattle.dv_outside_mem.specs.declared.made.Made.TheVariants.{Look, Sync, Write, Put}
use Rattle.dv_outside_mem.specs.Over.{over}
use Rattle.dv_outside_mem.specs.Replay.{Range, State, step, after, Reaches, IsImage, start}

-- One write more, at the end.
pub reaches-push : (ranges : List Range) (r : Range) (from mid to : List ℕ) → Reaches ranges from mid → DiffersIn r.place r.size r.end mid to → Reaches (ranges ++ r ∷ []) from to
reaches-push [] r from mid to is differs = (to, subst (λ (l : List ℕ). DiffersIn r.place r.size r.end l to) is differs, refl)
reaches-push (x ∷ ranges) r from mid to reached differs = (reached.0, reached.1, reaches-push ranges r reached.0 mid to reached.2 differs)

-- The last write, taken off.
pub reaches-last : (ranges : List Range) (r : Range) (from to : List ℕ) → Reaches (ranges ++ r ∷ []) from to → (mid : List ℕ) × Reaches ranges from mid × DiffersIn r.place r.size r.end mid to
reaches-last [] r from to reached = (from, refl, subst (λ (l : List ℕ). DiffersIn r.place r.size r.end from l) (sym reached.2) reached.1)
reaches-last (x ∷ ranges) r from to reached = let last = reaches-last ranges r reached.0 to reached.2 in (last.0, (reached.0, reached.1, last.1), last.2)

-- A write of at most `size` octets changes a range of that size.
pub over_changes : (old octets : List ℕ) (place size : ℕ) → place ≤ length old → length octets ≤ size → ChangesIn place size old (over old place octets)
over_changes old octets place size within short = record {
  before = ap (take place) (append_assoc (take place old) octets (drop (place + length octets) old)) ∙ take_at (take place old) (octets ++ drop (place + length octets) old) place (length-take-le place old within);
  after =
      let front = take place old ++ octets in
      let at : length front ≡ place + length octets = omega (arith, length-append (take place old) octets, length-take-le place old within) in
      let more : place + size ≡ (place + length octets) + (size - length octets) = omega (arith, short) in
      ap (λ n. drop n (over old place octets)) more
      ∙ sym (drop-drop (size - length octets) (place + length octets) (over old place octets))
      ∙ ap (drop (size - length octets)) (drop_at front (drop (place + length octets) old) (place + length octets) at)
      ∙ drop-drop (size - length octets) (place + length octets) old
      ∙ ap (λ n. drop n old) (sym more);
}

-- What changes in a range differs in it, wherever the end is.
pub changes_differs : (place size end : ℕ) (old new : List ℕ) → ChangesIn place size old new → DiffersIn place size end old new
changes_differs place size end old new changes = record {
  before = changes.before;
  after = ⊎_elim
      (λ past. none new past ∙ sym (none old past))
      (λ inside.
      let more : end ≡ (place + size) + (end - (place + size)) = omega (arith, inside) in
      rest new more ∙ ap (take (end - (place + size))) changes.after ∙ sym (rest old more))
      (le_or_lt end (place + size));
}
  where
    le_or_lt : (m n : ℕ) → (m ≤ n) ⊎ (n < m)
    le_or_lt m n = search (arith)

    none : (l : List ℕ) → end ≤ place + size → drop (place + size) (take end l) ≡ []
    none l past = drop_all (place + size) (take end l) (omega (arith, past, length-take end l))

    rest : (l : List ℕ) → end ≡ (place + size) + (end - (place + size)) → drop (place + size) (take end l) ≡ take (end - (place + size)) (drop (place + size) l)
    rest l more = ap (λ n. drop (place + size) (take n l)) more ∙ drop-take (place + size) (end - (place + size)) l

-- One call more.
pub step_reads : (tape : List ℕ) (s : State) (m : Made) → IsImage s s.reads → let t = step tape s m in IsImage t t.reads
step_reads tape s Look here = here
step_reads tape s Sync here = refl
step_reads tape s (Write place from done rest) here =
    let octets = take done (drop from tape) in
    let at = min place (length s.reads) in
    reaches-push s.ranges (record { place = at; written = length octets; size = length octets + rest; end = length s.reads }) s.durable s.reads (over s.reads at octets) here
    (changes_differs at (length octets + rest) (length s.reads) s.reads (over s.reads at octets)
    (over_changes s.reads octets at (length octets + rest) (omega arith) (omega arith)))
step_reads tape s (Put from done) here = here

-- Any calls more.
pub after_reads : (tape : List ℕ) (s : State) (log : List Made) → IsImage s s.reads → let t = after tape s log in IsImage t t.reads
after_reads tape s [] here = here
after_reads tape s (m ∷ log) here = after_reads tape (step tape s m) log (step_reads tape s m here)

-- The law of a station in memory.
pub reads_now : (base file tape : List ℕ) (log : List Made) → file ≡ (after tape (start base) log).reads → IsImage (after tape (start base) (take (length log) log)) file
reads_now base file tape log reads =
    subst (λ (l : List Made). IsImage (after tape (start base) l) file) (sym (take_all (length log) log (omega arith)))
    (subst (IsImage (after tape (start base) log)) (sym reads) (after_reads tape (start base) log refl))
