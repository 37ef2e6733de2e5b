-- What the steps of an opening find.
use Rattle.std.proofs.Common.{◌≡◌, ◌∙◌, inl, inr, ℕ, ◌+◌, ◌<◌, ◌≤◌, List, [], ◌∷◌, ◌++◌, length, take, drop, get_or, subst, ap, refl, sym, arith, append_assoc, take-append-drop, length-append, length-drop}
use Rattle.std.proofs.lemmas.List.{drop-drop, length-take-le}
use Rattle.std.proofs.Math.Seq.{take-add}
use Rattle.std.specs.Int.{to_be_bytes, from_be_bytes, w32}
use Rattle.std.specs.List.{AllByRecursion}
use Rattle.dv_outside.specs.Releases.{Entry}
use Rattle.dv_register.specs.Layout.{IsKnownKind, IsEntry, body_of, records_of, open_gate}
use Rattle.dv_register.specs.Refusals.{IsNoRecord, unknown_kind, too_long, no_gate, BreaksOff}
use Rattle.dv_register.specs.State.{IsInMemory, entries_of}
use Rattle.dv_register.specs.Opening.{HasAt, IsWhole, BeginsRecord, BreaksAt, IsCause, ReadsOn, IsRead}
use Rattle.dv_register.specs.declared.refusals.Open.{Open}
use Rattle.dv_register.specs.declared.refusals.Open.TheVariants.{NotRegister, OtherKey, Fault, Memory}
use Rattle.dv_register.specs.declared.place.Place.{Place}
use Rattle.dv_register.proofs.SafeLemmas.{all_push, records_of-push}
use Rattle.dv_register.proofs.MemoryLemmas.{length-entries_of}
use Rattle.dv_register.proofs.ReserveLemmas.{memory_longer}

first_of : (octets head : List ℕ) → take 5 octets ≡ head → 0 < length head → octets ≡ get_or head 0 0 ∷ drop 1 octets
first_of [] head is some = absurd (omega (arith, ap length is, some))
first_of (x ∷ octets) head is some = ap (λ k. k ∷ octets) (ap (λ (l : List ℕ). get_or l 0 0) is)

five_of : (head : List ℕ) → length head ≡ 5 → head ≡ get_or head 0 0 ∷ get_or head 1 0 ∷ get_or head 2 0 ∷ get_or head 3 0 ∷ get_or head 4 0 ∷ []
five_of [] five = absurd (omega (arith, five))
five_of (a ∷ []) five = absurd (omega (arith, five))
five_of (a ∷ b ∷ []) five = absurd (omega (arith, five))
five_of (a ∷ b ∷ c ∷ []) five = absurd (omega (arith, five))
five_of (a ∷ b ∷ c ∷ d ∷ []) five = absurd (omega (arith, five))
five_of (a ∷ b ∷ c ∷ d ∷ e ∷ []) five = refl
five_of (a ∷ b ∷ c ∷ d ∷ e ∷ f ∷ more) five = absurd (omega (arith, five))

abbrev len_in : List ℕ → List ℕ
len_in head = get_or head 1 0 ∷ get_or head 2 0 ∷ get_or head 3 0 ∷ get_or head 4 0 ∷ []

split_of : (octets head : List ℕ) → take 5 octets ≡ head → length head ≡ 5 → octets ≡ get_or head 0 0 ∷ len_in head ++ drop 5 octets
split_of octets head is five = sym (take-append-drop 5 octets) ∙ ap (λ (l : List ℕ). l ++ drop 5 octets) (is ∙ five_of head five)

pub no_kind : (octets head : List ℕ) → take 5 octets ≡ head → 0 < length head → ¬ IsKnownKind (get_or head 0 0) → IsNoRecord octets 1
no_kind octets head is some unknown = unknown_kind (get_or head 0 0) (drop 1 octets) (first_of octets head is some) unknown refl

pub long_one : (octets head : List ℕ) → take 5 octets ≡ head → length head ≡ 5 → IsKnownKind (get_or head 0 0) → 1048576 < from_be_bytes w32 (len_in head) → IsNoRecord octets 2
long_one octets head is five known long = too_long (get_or head 0 0) (len_in head) (drop 5 octets) (split_of octets head is five) known refl long refl

pub cut_one : (octets head : List ℕ) → take 5 octets ≡ head → length head ≡ 5 → IsKnownKind (get_or head 0 0) → from_be_bytes w32 (len_in head) ≤ 1048576
    → length octets ≤ 5 + from_be_bytes w32 (len_in head) → IsNoRecord octets 0
cut_one octets head is five known short cut =
    no_gate (get_or head 0 0) (len_in head) (drop 5 octets) (split_of octets head is five) known refl short (omega (arith, cut, length-drop 5 octets)) refl

module _ (told : Type 0) (file head : List ℕ) (limit gate : ℕ) (places : List Place) (octets : List ℕ) (read : IsRead told file head limit gate places octets) where
  -- the whole file, by the octet at the gate
  pub stands_at : told → (octet : ℕ) → HasAt file gate octet → file ≡ head ++ records_of (entries_of places octets) ++ octet ∷ drop (gate + 1) file
  stands_at here octet at =
      sym (take-append-drop gate file)
      ∙ ap (λ (l : List ℕ). l ++ drop gate file) (read.file here)
      ∙ ap (λ (l : List ℕ). (head ++ records_of (entries_of places octets)) ++ l) at

  list_fits : length (entries_of places octets) ≤ limit
  list_fits = omega (arith, read.fits, length-entries_of places octets)

  -- no record stands behind the open gate
  pub broken : told → (place : ℕ) → HasAt file gate open_gate → BreaksAt file gate place → BreaksOff file head limit place
  broken here place at breaks = record {
    list = entries_of places octets;
    entries = read.entries;
    fits = list_fits;
    behind = drop (gate + 1) file;
    is = stands_at here open_gate at;
    cause = inl (breaks.0, breaks.1, omega (arith, breaks.2, read.memory.place));
  }

  -- one more stands there than may be
  pub one_more : told → (kind len : ℕ) → HasAt file gate open_gate → BeginsRecord (drop (gate + 1) file) kind len → IsWhole kind len (length (drop (gate + 1) file))
      → limit ≤ length places → BreaksOff file head limit gate
  one_more here kind len at begins whole full =
      let behind = drop (gate + 1) file in
      let contents = take len (drop 5 behind) in
      let rest = drop len (drop 5 behind) in
      let size : length contents ≡ len = length-take-le len (drop 5 behind) (omega (arith, whole.room, length-drop 5 behind)) in
      let e : Entry = record { kind = kind; contents = contents } in
      let is : behind ≡ body_of e ++ rest =
      sym (take-append-drop 5 behind)
      ∙ ap (λ (l : List ℕ). l ++ drop 5 behind) begins
      ∙ ap (λ (l : List ℕ). (kind ∷ to_be_bytes w32 len) ++ l) (sym (take-append-drop len (drop 5 behind)))
      ∙ sym (append_assoc (kind ∷ to_be_bytes w32 len) contents rest)
      ∙ ap (λ n. (kind ∷ to_be_bytes w32 n ++ contents) ++ rest) (sym size) in
      record {
        list = entries_of places octets;
        entries = read.entries;
        fits = list_fits;
        behind = behind;
        is = stands_at here open_gate at;
        cause = inr (
          omega (arith, full, read.fits, length-entries_of places octets),
          e,
          rest,
          record { kind = whole.known; short = omega (arith, size, whole.short) },
          is,
          omega (arith, whole.room, length-drop 5 behind, length-drop len (drop 5 behind)),
          sym read.memory.place,
        );
      }

  -- one record more was read
  pub read_more : (kind len : ℕ) (places' : List Place) (octets' : List ℕ) (on : ReadsOn told file (gate + 6) len octets octets')
      → IsKnownKind kind → len ≤ 1048576 → length places < limit
      → (told → HasAt file gate open_gate) → (told → BeginsRecord (drop (gate + 1) file) kind len)
      → places' ≡ places ++ (record { kind = kind; from = length octets; len = len }) ∷ [] → IsRead told file head limit (gate + (6 + len)) places' octets'
  read_more kind len places' octets' on known short room at begins is_places =
      let e : Entry = record { kind = kind; contents = on.contents } in
      let noted = memory_longer (entries_of places octets) head gate places octets e read.memory places' octets'
      (is_places ∙ ap (λ n. places ++ (let p : Place = record { kind = kind; from = length octets; len = n } in p) ∷ []) (sym on.size)) on.is in
      let behind = drop (gate + 1) file in
      let front = head ++ records_of (entries_of places octets) in
      let six : gate + 1 + 5 ≡ gate + 6 = omega arith in
      let body : told → take (1 + (5 + len)) (drop gate file) ≡ open_gate ∷ body_of e = λ here.
      take-add 1 (5 + len) (drop gate file)
      ∙ ap (λ (l : List ℕ). take 1 l ++ take (5 + len) (drop 1 l)) (at here)
      ∙ ap (λ (l : List ℕ). open_gate ∷ l)
      (take-add 5 len behind
      ∙ ap (λ (l : List ℕ). l ++ take len (drop 5 behind)) (begins here)
      ∙ ap (λ (l : List ℕ). (kind ∷ to_be_bytes w32 len) ++ l)
      (ap (take len) (drop-drop 5 (gate + 1) file ∙ ap (λ n. drop n file) six) ∙ sym (on.file here))
      ∙ ap (λ n. kind ∷ to_be_bytes w32 n ++ on.contents) (sym on.size)) in
      record {
        memory = subst (λ n. IsInMemory (entries_of places' octets') head n places' octets') (omega (arith, on.size)) noted.1;
        entries = subst (AllByRecursion IsEntry) (sym noted.0) (all_push IsEntry (entries_of places octets) e read.entries (record { kind = known; short = omega (arith, short, on.size) }));
        fits = omega (arith, room, ap length is_places, length-append places ((let p : Place = record { kind = kind; from = length octets; len = len } in p) ∷ []));
        file = λ here.
            ap (λ n. take n file) (omega arith) ∙ take-add gate (1 + (5 + len)) file
            ∙ ap (λ (l : List ℕ). l ++ take (1 + (5 + len)) (drop gate file)) (read.file here)
            ∙ ap (λ (l : List ℕ). front ++ l) (body here)
            ∙ append_assoc head (records_of (entries_of places octets)) (open_gate ∷ body_of e)
            ∙ ap (λ (l : List ℕ). head ++ l) (sym (records_of-push (entries_of places octets) e) ∙ ap records_of (sym noted.0));
      }

-- A cause goes on to stand.
pub cause_moves : (broken broken' : ℕ → Type 0) (other other' : Type 0) (before before' now now' : ℕ) → ((p : ℕ) → broken p → broken' p) → (other → other') → before' ≤ before → now ≤ now'
    → (e : Open) → IsCause broken other before now e → IsCause broken' other' before' now' e
cause_moves broken broken' other other' before before' now now' one two early late (NotRegister place) cause = one place cause
cause_moves broken broken' other other' before before' now now' one two early late OtherKey cause = two cause
cause_moves broken broken' other other' before before' now now' one two early late Fault cause = omega (arith, cause, early, late)
cause_moves broken broken' other other' before before' now now' one two early late Memory cause = tt

-- What was read of one file was read of another that holds the same.
pub reads_moves : (told told' : Type 0) (file file' : List ℕ) (place len : ℕ) (old new : List ℕ) → (told' → told) → (told' → file ≡ file') → ReadsOn told file place len old new → ReadsOn told' file' place len old new
reads_moves told told' file file' place len old new one same on = record {
  contents = on.contents;
  is = on.is;
  size = on.size;
  file = λ here. on.file (one here) ∙ ap (λ (l : List ℕ). take len (drop place l)) (same here);
}

pub read_moves : (told told' : Type 0) (file file' head : List ℕ) (limit gate : ℕ) (places : List Place) (octets : List ℕ) → (told' → told) → (told' → file ≡ file')
    → IsRead told file head limit gate places octets → IsRead told' file' head limit gate places octets
read_moves told told' file file' head limit gate places octets one same read = record {
  memory = read.memory;
  entries = read.entries;
  fits = read.fits;
  file = λ here. ap (take gate) (sym (same here)) ∙ read.file (one here);
}
