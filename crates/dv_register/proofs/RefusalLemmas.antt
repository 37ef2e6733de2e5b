-- A file that stands for a list is refused by nothing that it says.
use Rattle.std.proofs.Common.{◌≡◌, ◌≢◌, ◌∙◌, ⊎_elim, ℕ, ◌<◌, List, [], ◌∷◌, ◌++◌, length, take, drop, get_or, subst, ap, refl, sym, arith, append_assoc, length-append}
use Rattle.std.proofs.lemmas.List.{take_at, drop_at}
use Rattle.std.proofs.lemmas.Nat.{from_be_bytes-to_be_bytes_4, from_be_bytes-to_be_bytes_8}
use Rattle.std.specs.Int.{to_be_bytes, from_be_bytes, w32, w64}
use Rattle.std.specs.List.{AllByRecursion}
use Rattle.dv_outside.specs.Releases.{Entry}
use Rattle.dv_register.specs.Layout.{IsEntry, IsKnownKind, head_of, magic, body_of, records_of, open_gate, Stands}
use Rattle.dv_register.specs.Refusals.{IsNoRecord, unknown_kind, too_long, no_length, no_gate, BreaksOff, IsFirstSerial, HasMagic, IsNoRegister, no_magic, no_serial, no_record, IsOtherKey}
use Rattle.dv_register.specs.Opening.{IsCause}
use Rattle.dv_register.specs.declared.refusals.Open.{Open}
use Rattle.dv_register.specs.declared.refusals.Open.TheVariants.{NotRegister, OtherKey, Fault, Memory}
use Rattle.dv_register.proofs.MemoryLemmas.{length-head_of}
use Rattle.dv_register.proofs.Unique.{cut_at, same_entry}

-- Two ways to split octets after a kind and four octets.
pub same_five : (k k' : ℕ) (a b x y : List ℕ) → length a ≡ 4 → length b ≡ 4 → k ∷ a ++ x ≡ k' ∷ b ++ y → (k ≡ k') × (a ≡ b) × (x ≡ y)
same_five k k' a b x y four four' same =
    let parts = cut_at (k ∷ a) (k' ∷ b) x y (omega (arith, four, four')) same in
    (ap (λ (l : List ℕ). get_or l 0 0) parts.0, ap (drop 1) parts.0, parts.1)

-- A record that is followed by a gate is no refusal.
pub good_record : (e : Entry) (behind rest : List ℕ) (offset : ℕ) → IsEntry e → behind ≡ body_of e ++ rest → 0 < length rest → ¬ IsNoRecord behind offset
good_record e behind rest offset entry is some (unknown_kind kind more at unknown away) =
    unknown (subst IsKnownKind (ap (λ (l : List ℕ). get_or l 0 0) (sym is ∙ at)) entry.kind)
good_record e behind rest offset entry is some (too_long kind len more at known four long away) =
    let same = same_five e.kind kind (to_be_bytes w32 (length e.contents)) len (e.contents ++ rest) more refl four
    (sym (append_assoc (e.kind ∷ to_be_bytes w32 (length e.contents)) e.contents rest) ∙ sym is ∙ at) in
    absurd (omega (arith, long, ap (from_be_bytes w32) same.1, from_be_bytes-to_be_bytes_4 (length e.contents) (omega (arith, entry.short)), entry.short))
good_record e behind rest offset entry is some (no_length short known away) =
    absurd (omega (arith, short, ap length is, length-append (body_of e) rest, length-append (e.kind ∷ to_be_bytes w32 (length e.contents)) e.contents))
good_record e behind rest offset entry is some (no_gate kind len more at known four short cut away) =
    let same = same_five e.kind kind (to_be_bytes w32 (length e.contents)) len (e.contents ++ rest) more refl four
    (sym (append_assoc (e.kind ∷ to_be_bytes w32 (length e.contents)) e.contents rest) ∙ sym is ∙ at) in
    absurd (omega (arith, cut, ap (from_be_bytes w32) same.1, from_be_bytes-to_be_bytes_4 (length e.contents) (omega (arith, entry.short)), ap length same.2, length-append e.contents rest, some))

-- What follows an open gate behind some of the records of a list.
record Follows (list list' : List Entry) (gate : ℕ) (rest behind : List ℕ) : Type 0 where
  pub entry : Entry
  pub more : List Entry
  pub is : list ≡ list' ++ entry ∷ more
  pub good : IsEntry entry
  pub octets : behind ≡ body_of entry ++ (records_of more ++ gate ∷ rest)

follows : (list list' : List Entry) (gate : ℕ) (rest behind : List ℕ) → AllByRecursion IsEntry list → AllByRecursion IsEntry list' → gate ≢ open_gate
    → records_of list ++ gate ∷ rest ≡ records_of list' ++ open_gate ∷ behind → Follows list list' gate rest behind
follows [] [] gate rest behind all all' shut same = absurd (shut (ap (λ (l : List ℕ). get_or l 0 0) same))
follows [] (e ∷ list') gate rest behind all all' shut same = absurd (shut (ap (λ (l : List ℕ). get_or l 0 0) same))
follows (e ∷ list) [] gate rest behind all all' shut same = record {
  entry = e;
  more = list;
  is = refl;
  good = all.0;
  octets = ap (drop 1) (sym same) ∙ append_assoc (body_of e) (records_of list) (gate ∷ rest);
}
follows (e ∷ list) (e' ∷ list') gate rest behind all all' shut same =
    let bodies = same_entry e e' (records_of list ++ gate ∷ rest) (records_of list' ++ open_gate ∷ behind) all.0 all'.0
    (sym (append_assoc (body_of e) (records_of list) (gate ∷ rest)) ∙ ap (drop 1) same ∙ append_assoc (body_of e') (records_of list') (open_gate ∷ behind)) in
    let next = follows list list' gate rest behind all.1 all'.1 shut bodies.1 in
    record {
      entry = next.entry;
      more = next.more;
      is = ap (λ x. x ∷ list) bodies.0 ∙ ap (λ (l : List Entry). e' ∷ l) next.is;
      good = next.good;
      octets = next.octets;
    }

-- the tails of octets behind equal heads
pub tails : (octets head head' x y : List ℕ) → length head ≡ 76 → length head' ≡ 76 → octets ≡ head ++ x → octets ≡ head' ++ y → x ≡ y
tails octets head head' x y size size' one two = sym (drop_at head x 76 size) ∙ ap (drop 76) (sym one ∙ two) ∙ drop_at head' y 76 size'

no_break : (octets head head' : List ℕ) (limit place : ℕ) (list : List Entry) → length head ≡ 76 → length head' ≡ 76 → Stands octets head limit list → ¬ BreaksOff octets head' limit place
no_break octets head head' limit place list size size' stands breaks =
    let s = stands.2 in
    let gate = stands.0 in
    let rest = stands.1 in
    let same = tails octets head head' (records_of list ++ gate ∷ rest) (records_of breaks.list ++ open_gate ∷ breaks.behind) size size'
    (s.is ∙ append_assoc head (records_of list) (gate ∷ rest)) (breaks.is ∙ append_assoc head' (records_of breaks.list) (open_gate ∷ breaks.behind)) in
    let at = follows list breaks.list gate rest breaks.behind s.entries breaks.entries s.closed same in
    ⊎_elim
    (λ no. good_record at.entry breaks.behind (records_of at.more ++ gate ∷ rest) no.0 at.good at.octets (omega (arith, length-append (records_of at.more) (gate ∷ rest))) no.1)
    (λ full. absurd (omega (arith, full.0, s.fits, ap length at.is, length-append breaks.list (at.entry ∷ at.more))))
    breaks.cause

-- the parts of a head
pub head_parts : (key : List ℕ) (first : ℕ) (octets x : List ℕ) → length key ≡ 60 → octets ≡ head_of key first ++ x
    → (take 8 octets ≡ magic) × (take 60 (drop 8 octets) ≡ key) × (take 8 (drop 68 octets) ≡ to_be_bytes w64 first)
unfolding head_of
head_parts key first octets x sixty is =
    let serial = to_be_bytes w64 first in
    let all : octets ≡ magic ++ (key ++ (serial ++ x)) = is ∙ append_assoc magic (key ++ serial) x ∙ ap (λ (l : List ℕ). magic ++ l) (append_assoc key serial x) in
    let after : drop 8 octets ≡ key ++ (serial ++ x) = ap (drop 8) all ∙ drop_at magic (key ++ (serial ++ x)) 8 refl in
    let last : drop 68 octets ≡ serial ++ x = ap (drop 68) (all ∙ sym (append_assoc magic key (serial ++ x)))
    ∙ drop_at (magic ++ key) (serial ++ x) 68 (omega (arith, sixty, length-append magic key)) in (
      ap (take 8) all ∙ take_at magic (key ++ (serial ++ x)) 8 refl,
      ap (take 60) after ∙ take_at key (serial ++ x) 60 sixty,
      ap (take 8) last ∙ take_at serial x 8 refl,
    )

module _ (octets key : List ℕ) (limit first : ℕ) (list : List Entry) (sixty : length key ≡ 60) (serial : IsFirstSerial first) (stands : Stands octets (head_of key first) limit list) where
  at_head : octets ≡ head_of key first ++ (records_of list ++ stands.0 ∷ stands.1)
  at_head = stands.2.is ∙ append_assoc (head_of key first) (records_of list) (stands.0 ∷ stands.1)

  has_magic : HasMagic octets
  has_magic = record {
    long = omega (arith, ap length stands.2.is, length-append (head_of key first ++ records_of list) (stands.0 ∷ stands.1), length-append (head_of key first) (records_of list), length-head_of key first sixty);
    magic = (head_parts key first octets (records_of list ++ stands.0 ∷ stands.1) sixty at_head).0;
  }

  pub never_refused : (place : ℕ) → ¬ IsNoRegister octets key limit place
  never_refused place (no_magic none at) = none has_magic
  never_refused place (no_serial some same bad at) =
      bad (subst IsFirstSerial (sym (ap (from_be_bytes w64) (head_parts key first octets (records_of list ++ stands.0 ∷ stands.1) sixty at_head).2
      ∙ from_be_bytes-to_be_bytes_8 first (omega (arith, serial.small)))) serial)
  never_refused place (no_record first' serial' breaks) =
      no_break octets (head_of key first) (head_of key first') limit place list (length-head_of key first sixty) (length-head_of key first' sixty) stands breaks

  pub never_other : ¬ IsOtherKey octets key
  never_other other = other.differs (head_parts key first octets (records_of list ++ stands.0 ∷ stands.1) sixty at_head).1

  pub good_cause : (told : Type 0) (before now : ℕ) (e : Open) → told
      → IsCause (λ place. told → IsNoRegister octets key limit place) (told → IsOtherKey octets key) before now e → IsCause (λ _. ⊥) ⊥ before now e
  good_cause told before now (NotRegister place) here cause = never_refused place (cause here)
  good_cause told before now OtherKey here cause = never_other (cause here)
  good_cause told before now Fault here cause = cause
  good_cause told before now Memory here cause = tt
