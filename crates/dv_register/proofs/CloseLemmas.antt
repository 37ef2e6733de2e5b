-- What an opening keeps, and what it finds.
use Rattle.std.proofs.Common.{◌≡◌, ◌≢◌, ◌∙◌, ⊎_elim, Bool, false, IsTrue, ℕ, ◌+◌, ◌^◌, ◌<◌, ◌≤◌, List, ◌∷◌, ◌++◌, length, take, drop, subst, ap, sym, arith, append_assoc, length-append}
use Rattle.std.proofs.lemmas.List.{take_at, drop_at}
use Rattle.std.specs.List.{AllByRecursion}
use Rattle.dv_outside.specs.Releases.{Identity as RuleIdentity, Entry}
use Rattle.dv_outside.specs.Station.{Content, Counts, Looks, Leaves}
use Rattle.dv_outside.proofs.Moments.{leaves_then, leaves_look, leaves_weaker}
use Rattle.dv_outside.proofs.Looking.{leaves_looking}
use Rattle.dv_register.specs.Layout.{IsEntry, head_of, body_of, records_of, open_gate, Stands, StandsWith, IsStaged, Sound, SoundFor, BeginsWith}
use Rattle.dv_register.specs.Refusals.{IsFirstSerial}
use Rattle.dv_register.specs.Steps.{GateOnly, IsGateSet}
use Rattle.dv_register.specs.Safe.{IsSettled}
use Rattle.dv_lms.specs.Signed.{public_of}
use Rattle.dv_register.specs.State.{State, IsInMemory, IsHeld, entries_of, head_in, limit_in}
use Rattle.dv_register.proofs.FreshLemmas.{held_new}
use Rattle.dv_register.specs.Opening.{HasAt, IsRead, IsFound, KeepsSound}
use Rattle.dv_register.specs.declared.place.Place.{Place}
use Rattle.dv_register.proofs.MemoryLemmas.{length-entries_of, length-head_of, length-records_of}
use Rattle.dv_register.proofs.SafeLemmas.{begins_then, body_sound}
use Rattle.dv_register.proofs.Unique.{one_list}
use Rattle.dv_register.proofs.OpeningLemmas.{stands_at}

-- Octets stand for one head of 76 octets, one list, one gate and one rest.
pub one_way : (octets head head' : List ℕ) (limit : ℕ) (list list' : List Entry) (gate gate' : ℕ) (rest rest' : List ℕ) → length head ≡ 76 → length head' ≡ 76
    → StandsWith octets head limit list gate rest → StandsWith octets head' limit list' gate' rest' → (head ≡ head') × (list ≡ list') × (gate ≡ gate') × (rest ≡ rest')
one_way octets head head' limit list list' gate gate' rest rest' size size' one two =
    let first : octets ≡ head ++ (records_of list ++ gate ∷ rest) = one.is ∙ append_assoc head (records_of list) (gate ∷ rest) in
    let second : octets ≡ head' ++ (records_of list' ++ gate' ∷ rest') = two.is ∙ append_assoc head' (records_of list') (gate' ∷ rest') in
    let heads : head ≡ head' = sym (take_at head (records_of list ++ gate ∷ rest) 76 size) ∙ ap (take 76) (sym first ∙ second) ∙ take_at head' (records_of list' ++ gate' ∷ rest') 76 size' in
    let tails : records_of list ++ gate ∷ rest ≡ records_of list' ++ gate' ∷ rest' =
    sym (drop_at head (records_of list ++ gate ∷ rest) 76 size) ∙ ap (drop 76) (sym first ∙ second) ∙ drop_at head' (records_of list' ++ gate' ∷ rest') 76 size' in
    let same = one_list list list' gate gate' rest rest' one.entries two.entries one.closed two.closed tails in
    (heads, same.0, same.1, same.2)

module _ (file head : List ℕ) (limit gate octet : ℕ) (list : List Entry) (place : length (head ++ records_of list) ≡ gate) (size : length head ≡ 76)
    (stands : StandsWith file head limit list octet (drop (gate + 1) file)) where
  -- the gate is changed where a record is staged behind it
  gate_sound : (e : Entry) (after : List ℕ) → IsStaged limit list (drop (gate + 1) file) e after → (b : List ℕ) → GateOnly gate file b → SoundFor head limit list b
  gate_sound e after staged b only =
      let front : take gate file ≡ head ++ records_of list = ap (take gate) stands.is ∙ take_at (head ++ records_of list) (octet ∷ drop (gate + 1) file) gate place in
      let is : b ≡ head ++ records_of list ++ only.0 ∷ body_of e ++ 0 ∷ (after ++ only.1) =
      only.2
      ∙ ap (λ (l : List ℕ). l ++ only.0 ∷ drop (gate + 1) file ++ only.1) front
      ∙ ap (λ (l : List ℕ). (head ++ records_of list) ++ only.0 ∷ l ++ only.1) staged.is
      ∙ simp append_assoc in
      body_sound head limit list stands.entries stands.fits e staged.entry staged.room b (after ++ only.1) only.0 is

  -- so each image in the closing of an unclear gate is sound for the same lists
  pub closing_keeps : (first : ℕ) (key : List ℕ) (begun : List Entry) (a b c : Content) → length (head_of key first) ≡ 76 → b.reads ≡ file → b.image b.moment b.reads
      → Leaves (SoundFor (head_of key first) limit begun) a b
      → (octet ≡ 0 → Looks b c) → (gate + 1 < length file → Leaves (GateOnly gate file) b c)
      → Leaves (SoundFor (head_of key first) limit begun) a c
  closing_keeps first key begun a b c size' reads here so_far idle closing =
      let P = SoundFor (head_of key first) limit begun in
      let found = so_far.now b.reads here in
      let more = found.0 in
      let sound = found.1 in
      let begins = found.2 in
      let same = one_way file head (head_of key first) limit list more octet sound.0 (drop (gate + 1) file) sound.1 size size' stands
      (subst (λ (l : List ℕ). StandsWith l (head_of key first) limit more sound.0 sound.1) reads sound.2) in
      ⊎_elim
      (λ none. leaves_look P a b c so_far (idle (same.2 ∙ none)))
      (λ some.
      let e = some.0 in
      let after = some.1 in
      let staged : IsStaged limit list (drop (gate + 1) file) e after = record {
        room = subst (λ (l : List Entry). length l < limit) (sym same.1) some.2.room;
        entry = some.2.entry;
        is = same.3 ∙ some.2.is;
      } in
      let behind : gate + 1 < length file = omega (
        arith,
        ap length stands.is,
        place,
        length-append (head ++ records_of list) (octet ∷ drop (gate + 1) file),
        ap length staged.is,
        length-append (body_of e) (0 ∷ after),
      ) in
      leaves_then P a b c so_far
      (leaves_weaker (GateOnly gate file) P b c
      (λ i only.
      let now = gate_sound e after staged i only in (
        now.0,
        subst (λ (h : List ℕ). Sound i h limit now.0) same.0 now.1,
        begins_then begun list now.0 (subst (λ (l : List Entry). BeginsWith l begun) (sym same.1) begins) now.2,
      ))
      (closing behind)))
      sound.3

  -- the list begins with each that the file is sound for
  pub sound_begins : (first : ℕ) (key : List ℕ) (begun : List Entry) → length (head_of key first) ≡ 76 → SoundFor (head_of key first) limit begun file → BeginsWith list begun
  sound_begins first key begun size' found =
      let same = one_way file head (head_of key first) limit list found.0 octet found.1.0 (drop (gate + 1) file) found.1.1 size size' stands found.1.2 in
      subst (λ (l : List Entry). BeginsWith l begun) (sym same.1) found.2

module _ (told : Type 0) (file key : List ℕ) (limit first gate octet : ℕ) (places : List Place) (octets : List ℕ) (read : IsRead told file (head_of key first) limit gate places octets)
    (closed : octet ≢ open_gate) (at : told → HasAt file gate octet) (sixty : length key ≡ 60) where
  pub read_stands : told → StandsWith file (head_of key first) limit (entries_of places octets) octet (drop (gate + 1) file)
  read_stands here = record {
    is = stands_at told file (head_of key first) limit gate places octets read here octet (at here);
    closed = closed;
    entries = read.entries;
    fits = omega (arith, read.fits, length-entries_of places octets);
  }

  pub found_all : (c : Content) → IsFirstSerial first → (told → IsGateSet gate 0 file c) → IsFound told file key limit first gate places octets c
  found_all c serial set = record {
    serial = serial;
    memory = read.memory;
    entries = read.entries;
    fits = read.fits;
    stands = λ here. (octet, drop (gate + 1) file, read_stands here);
    settled = λ here. record {
      rest = drop (gate + 1) file;
      is = (set here).is ∙ ap (λ (l : List ℕ). l ++ 0 ∷ drop (gate + 1) file) (read.file here);
      durable = (set here).durable;
    };
  }

  pub gate_room : limit ≤ 1024 → gate + 1 ≤ 2 ^ 40
  gate_room small = omega (
    arith,
    small,
    read.fits,
    read.memory.place,
    length-entries_of places octets,
    length-head_of key first sixty,
    length-records_of (entries_of places octets) read.entries,
    length-append (head_of key first) (records_of (entries_of places octets)),
  )

-- A call that only looks keeps all of it.
pub keeps_looking : (key : List ℕ) (limit : ℕ) (a b : Content) → Looks a b → KeepsSound key limit a b
keeps_looking key limit a b look = λ first list here. leaves_looking (SoundFor (head_of key first) limit list) a b look here

-- A list that stands begins with each that the octets are sound for.
pub stands_begins : (octets head head' : List ℕ) (limit : ℕ) (list begun : List Entry) → length head ≡ 76 → length head' ≡ 76 → Stands octets head limit list → SoundFor head' limit begun octets → BeginsWith list begun
stands_begins octets head head' limit list begun size size' stands found =
    let same = one_way octets head head' limit list found.0 stands.0 found.1.0 stands.1 found.1.1 size size' stands.2 found.1.2 in
    subst (λ (l : List Entry). BeginsWith l begun) (sym same.1) found.2

-- A register that was opened.
pub held_found : {V : Type 0} (tells : V → Bool) (content : V → Content) (counts : V → Counts) (allows : RuleIdentity → ℕ → List Entry → List ℕ → Type 0)
    (s : State V) (limit gate : ℕ) (places : List Place) (octets : List ℕ) (told : Type 0) (file : List ℕ) → (IsTrue (tells s.station) → told)
    → IsFound told file (public_of s.identity) limit s.first gate places octets (content s.station) → s.list ≡ entries_of places octets → s.base ≡ length places
    → s.shut ≡ false → s.opening ≡ s.station → length (public_of s.identity) ≡ 60 → limit ≡ limit_in s
    → IsHeld tells content counts allows s limit gate places octets
held_found tells content counts allows s limit gate places octets told file tell found list base open_now opening sixty leaves =
    held_new tells content counts allows s limit gate places octets
    (omega (arith, base, ap length list, length-entries_of places octets)) open_now opening sixty leaves found.serial
    (subst (AllByRecursion IsEntry) (sym list) found.entries)
    (omega (arith, found.fits, leaves, ap length list, length-entries_of places octets))
    (subst (λ (l : List Entry). IsInMemory l (head_in s) gate places octets) (sym list) found.memory)
    (λ here. subst (IsSettled (content s.station) (head_in s)) (sym list) (found.settled (tell here)))
