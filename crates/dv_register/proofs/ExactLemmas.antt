-- A file is refused at one place, or as a register of another key, or stands for a list.
use Rattle.std.proofs.Common.{◌≡◌, ◌∙◌, ⊎_elim, ℕ, ◌<◌, ◌≤◌, List, [], ◌∷◌, ◌++◌, length, take, drop, get_or, subst, ap, refl, sym, arith, append_assoc, length-append}
use Rattle.std.proofs.lemmas.Nat.{from_be_bytes-to_be_bytes_8}
use Rattle.std.specs.Int.{to_be_bytes, from_be_bytes, w32, w64}
use Rattle.std.specs.List.{AllByRecursion}
use Rattle.dv_outside.specs.Releases.{Entry}
use Rattle.dv_register.specs.Layout.{IsEntry, IsKnownKind, head_of, body_of, records_of, open_gate}
use Rattle.dv_register.specs.Refusals.{IsNoRecord, unknown_kind, too_long, no_length, no_gate, BreaksOff, IsFirstSerial, HasMagic, IsNoRegister, no_magic, no_serial, no_record, IsOtherKey}
use Rattle.dv_register.proofs.MemoryLemmas.{length-head_of}
use Rattle.dv_register.proofs.Unique.{same_entry}
use Rattle.dv_register.proofs.RefusalLemmas.{same_five, good_record, head_parts, tails}

same_kind : (octets : List ℕ) (k k' : ℕ) (a b : List ℕ) → octets ≡ k ∷ a → octets ≡ k' ∷ b → k ≡ k'
same_kind octets k k' a b one two = ap (λ (l : List ℕ). get_or l 0 0) (sym one ∙ two)

same_len : (octets : List ℕ) (k k' : ℕ) (a b x y : List ℕ) → length a ≡ 4 → length b ≡ 4 → octets ≡ k ∷ a ++ x → octets ≡ k' ∷ b ++ y → from_be_bytes w32 a ≡ from_be_bytes w32 b
same_len octets k k' a b x y four four' one two = ap (from_be_bytes w32) (same_five k k' a b x y four four' (sym one ∙ two)).1

five_long : (octets : List ℕ) (k : ℕ) (a x : List ℕ) → length a ≡ 4 → octets ≡ k ∷ a ++ x → 5 ≤ length octets
five_long octets k a x four is = omega (arith, ap length is, length-append a x, four)

-- Octets are no record by one octet.
one_offset : (octets : List ℕ) (o o' : ℕ) → IsNoRecord octets o → IsNoRecord octets o' → o ≡ o'
one_offset octets o o' (unknown_kind k a is bad at) (unknown_kind k' b is' bad' at') = at ∙ sym at'
one_offset octets o o' (unknown_kind k a is bad at) (too_long k' l b is' known four long at') = absurd (bad (subst IsKnownKind (sym (same_kind octets k k' a (l ++ b) is is')) known))
one_offset octets o o' (unknown_kind k a is bad at) (no_length short known at') = absurd (bad (known k a is))
one_offset octets o o' (unknown_kind k a is bad at) (no_gate k' l b is' known four short cut at') = absurd (bad (subst IsKnownKind (sym (same_kind octets k k' a (l ++ b) is is')) known))
one_offset octets o o' (too_long k l a is known four long at) (unknown_kind k' b is' bad at') = absurd (bad (subst IsKnownKind (same_kind octets k k' (l ++ a) b is is') known))
one_offset octets o o' (too_long k l a is known four long at) (too_long k' l' b is' known' four' long' at') = at ∙ sym at'
one_offset octets o o' (too_long k l a is known four long at) (no_length short known' at') = absurd (omega (arith, short, five_long octets k l a four is))
one_offset octets o o' (too_long k l a is known four long at) (no_gate k' l' b is' known' four' short cut at') = absurd (omega (arith, long, short, same_len octets k k' l l' a b four four' is is'))
one_offset octets o o' (no_length short known at) (unknown_kind k b is bad at') = absurd (bad (known k b is))
one_offset octets o o' (no_length short known at) (too_long k l b is known' four long at') = absurd (omega (arith, short, five_long octets k l b four is))
one_offset octets o o' (no_length short known at) (no_length short' known' at') = at ∙ sym at'
one_offset octets o o' (no_length short known at) (no_gate k l b is known' four short' cut at') = at ∙ sym at'
one_offset octets o o' (no_gate k l a is known four short cut at) (unknown_kind k' b is' bad at') = absurd (bad (subst IsKnownKind (same_kind octets k k' (l ++ a) b is is') known))
one_offset octets o o' (no_gate k l a is known four short cut at) (too_long k' l' b is' known' four' long at') = absurd (omega (arith, long, short, same_len octets k k' l l' a b four four' is is'))
one_offset octets o o' (no_gate k l a is known four short cut at) (no_length short' known' at') = at ∙ sym at'
one_offset octets o o' (no_gate k l a is known four short cut at) (no_gate k' l' b is' known' four' short' cut' at') = at ∙ sym at'

-- Behind some of the records of a longer list stands the next of them.
record Longer (list list' : List Entry) (behind : List ℕ) : Type 0 where
  pub entry : Entry
  pub more : List Entry
  pub rest : List ℕ
  pub is : list' ≡ list ++ entry ∷ more
  pub good : IsEntry entry
  pub octets : behind ≡ body_of entry ++ rest
  pub some : 0 < length rest

data Two (list list' : List Entry) (behind behind' : List ℕ) : Type 0 where
  same_both : list ≡ list' → behind ≡ behind' → Two list list' behind behind'
  first_short : Longer list list' behind → Two list list' behind behind'
  second_short : Longer list' list behind' → Two list list' behind behind'

next_record : (e : Entry) (list : List Entry) (a b : List ℕ) → open_gate ∷ a ≡ records_of (e ∷ list) ++ open_gate ∷ b → a ≡ body_of e ++ (records_of list ++ open_gate ∷ b)
next_record e list a b same = ap (drop 1) same ∙ append_assoc (body_of e) (records_of list) (open_gate ∷ b)

two : (list list' : List Entry) (a b : List ℕ) → AllByRecursion IsEntry list → AllByRecursion IsEntry list' → records_of list ++ open_gate ∷ a ≡ records_of list' ++ open_gate ∷ b → Two list list' a b
two [] [] a b all all' same = same_both refl (ap (drop 1) same)
two [] (e ∷ list') a b all all' same = first_short (record {
  entry = e;
  more = list';
  rest = records_of list' ++ open_gate ∷ b;
  is = refl;
  good = all'.0;
  octets = next_record e list' a b same;
  some = omega (arith, length-append (records_of list') (open_gate ∷ b));
})
two (e ∷ list) [] a b all all' same = second_short (record {
  entry = e;
  more = list;
  rest = records_of list ++ open_gate ∷ a;
  is = refl;
  good = all.0;
  octets = next_record e list b a (sym same);
  some = omega (arith, length-append (records_of list) (open_gate ∷ a));
})
two (e ∷ list) (e' ∷ list') a b all all' same =
    let bodies = same_entry e e' (records_of list ++ open_gate ∷ a) (records_of list' ++ open_gate ∷ b) all.0 all'.0
    (sym (append_assoc (body_of e) (records_of list) (open_gate ∷ a)) ∙ ap (drop 1) same ∙ append_assoc (body_of e') (records_of list') (open_gate ∷ b)) in
    one_more e e' list list' a b bodies.0 (two list list' a b all.1 all'.1 bodies.1)
  where
    one_more : (e e' : Entry) (list list' : List Entry) (a b : List ℕ) → e ≡ e' → Two list list' a b → Two (e ∷ list) (e' ∷ list') a b
    one_more e e' list list' a b same (same_both one other) = same_both (ap (λ x. x ∷ list) same ∙ ap (λ (l : List Entry). e' ∷ l) one) other
    one_more e e' list list' a b same (first_short l) = first_short (record {
      entry = l.entry;
      more = l.more;
      rest = l.rest;
      is = ap (λ x. x ∷ list') (sym same) ∙ ap (λ (k : List Entry). e ∷ k) l.is;
      good = l.good;
      octets = l.octets;
      some = l.some;
    })
    one_more e e' list list' a b same (second_short l) = second_short (record {
      entry = l.entry;
      more = l.more;
      rest = l.rest;
      is = ap (λ x. x ∷ list) same ∙ ap (λ (k : List Entry). e' ∷ k) l.is;
      good = l.good;
      octets = l.octets;
      some = l.some;
    })

-- What breaks off doesn't go on with a record that fits.
no_longer : (octets head : List ℕ) (limit place : ℕ) (breaks : BreaksOff octets head limit place) (list' : List Entry) → length list' ≤ limit → ¬ Longer breaks.list list' breaks.behind
no_longer octets head limit place breaks list' fits l =
    ⊎_elim
    (λ no. good_record l.entry breaks.behind l.rest no.0 l.good l.octets l.some no.1)
    (λ full. absurd (omega (arith, full.0, fits, ap length l.is, length-append breaks.list (l.entry ∷ l.more))))
    breaks.cause

one_break : (octets head head' : List ℕ) (limit p q : ℕ) → length head ≡ 76 → length head' ≡ 76 → BreaksOff octets head limit p → BreaksOff octets head' limit q → p ≡ q
one_break octets head head' limit p q size size' one other =
    let same = tails octets head head' (records_of one.list ++ open_gate ∷ one.behind) (records_of other.list ++ open_gate ∷ other.behind) size size'
    (one.is ∙ append_assoc head (records_of one.list) (open_gate ∷ one.behind)) (other.is ∙ append_assoc head' (records_of other.list) (open_gate ∷ other.behind)) in
    decide (two one.list other.list one.behind other.behind one.entries other.entries same)
  where
    at_gate : one.list ≡ other.list → length (head ++ records_of one.list) ≡ length (head' ++ records_of other.list)
    at_gate is = omega (arith, size, size', length-append head (records_of one.list), length-append head' (records_of other.list), ap (λ (l : List Entry). length (records_of l)) is)

    decide : Two one.list other.list one.behind other.behind → p ≡ q
    decide (first_short l) = absurd (no_longer octets head limit p one other.list other.fits l)
    decide (second_short l) = absurd (no_longer octets head' limit q other one.list one.fits l)
    decide (same_both lists behinds) =
        ⊎_elim
        (λ no. ⊎_elim
        (λ no'. omega (arith, no.2, no'.2, at_gate lists, one_offset one.behind no.0 no'.0 no.1 (subst (λ (l : List ℕ). IsNoRecord l no'.0) (sym behinds) no'.1)))
        (λ full. absurd (good_record full.1 one.behind full.2 no.0 full.3 (behinds ∙ full.4) full.5 no.1))
        other.cause)
        (λ full. ⊎_elim
        (λ no'. absurd (good_record full.1 other.behind full.2 no'.0 full.3 (sym behinds ∙ full.4) full.5 no'.1))
        (λ full'. omega (arith, full.6, full'.6, at_gate lists))
        other.cause)
        one.cause

-- What breaks off has a whole head.
module _ (octets key : List ℕ) (limit first place : ℕ) (sixty : length key ≡ 60) (breaks : BreaksOff octets (head_of key first) limit place) where
  at_head : octets ≡ head_of key first ++ (records_of breaks.list ++ open_gate ∷ breaks.behind)
  at_head = breaks.is ∙ append_assoc (head_of key first) (records_of breaks.list) (open_gate ∷ breaks.behind)

  break_parts : HasMagic octets × (take 60 (drop 8 octets) ≡ key) × (take 8 (drop 68 octets) ≡ to_be_bytes w64 first)
  break_parts =
      let parts = head_parts key first octets (records_of breaks.list ++ open_gate ∷ breaks.behind) sixty at_head in (
        record {
          long = omega (arith, ap length breaks.is, length-append (head_of key first ++ records_of breaks.list) (open_gate ∷ breaks.behind), length-append (head_of key first) (records_of breaks.list), length-head_of key first sixty);
          magic = parts.0;
        },
        parts.1,
        parts.2,
      )

good_serial : (octets : List ℕ) (first : ℕ) → IsFirstSerial first → take 8 (drop 68 octets) ≡ to_be_bytes w64 first → IsFirstSerial (from_be_bytes w64 (take 8 (drop 68 octets)))
good_serial octets first serial is = subst IsFirstSerial (sym (ap (from_be_bytes w64) is ∙ from_be_bytes-to_be_bytes_8 first (omega (arith, serial.small)))) serial

-- A file is refused at one place.
pub one_place : (octets key : List ℕ) (limit p q : ℕ) → length key ≡ 60 → IsNoRegister octets key limit p → IsNoRegister octets key limit q → p ≡ q
one_place octets key limit p q sixty (no_magic none at) (no_magic none' at') = at ∙ sym at'
one_place octets key limit p q sixty (no_magic none at) (no_serial has same bad at') = absurd (none has)
one_place octets key limit p q sixty (no_magic none at) (no_record first serial breaks) = absurd (none (break_parts octets key limit first q sixty breaks).0)
one_place octets key limit p q sixty (no_serial has same bad at) (no_magic none at') = absurd (none has)
one_place octets key limit p q sixty (no_serial has same bad at) (no_serial has' same' bad' at') = at ∙ sym at'
one_place octets key limit p q sixty (no_serial has same bad at) (no_record first serial breaks) = absurd (bad (good_serial octets first serial (break_parts octets key limit first q sixty breaks).2))
one_place octets key limit p q sixty (no_record first serial breaks) (no_magic none at) = absurd (none (break_parts octets key limit first p sixty breaks).0)
one_place octets key limit p q sixty (no_record first serial breaks) (no_serial has same bad at) = absurd (bad (good_serial octets first serial (break_parts octets key limit first p sixty breaks).2))
one_place octets key limit p q sixty (no_record first serial breaks) (no_record first' serial' breaks') =
    one_break octets (head_of key first) (head_of key first') limit p q (length-head_of key first sixty) (length-head_of key first' sixty) breaks breaks'

-- And it isn't one of another key then.
pub not_both : (octets key : List ℕ) (limit p : ℕ) → length key ≡ 60 → IsNoRegister octets key limit p → ¬ IsOtherKey octets key
not_both octets key limit p sixty (no_magic none at) other = none other.magic
not_both octets key limit p sixty (no_serial has same bad at) other = other.differs same
not_both octets key limit p sixty (no_record first serial breaks) other = other.differs (break_parts octets key limit first p sixty breaks).1
