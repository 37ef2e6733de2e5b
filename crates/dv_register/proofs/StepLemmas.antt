-- What each call of a reservation makes of a file.
use Rattle.std.proofs.Common.{◌≡◌, ◌∙◌, inr, ℕ, ◌+◌, ◌<◌, ◌≤◌, List, [], ◌∷◌, ◌++◌, length, take, drop, subst, ap, sym, arith, append_assoc, take-append-drop, length-append, length-drop, get_or}
use Rattle.std.proofs.lemmas.List.{take-take, take_at, drop_at, length-take-le, append-nil, take_all, drop_more, take-append-le}
use Rattle.std.specs.Prelude.{Result, Ok, Err, OnOk, OnErr, true, false}
use Rattle.std.specs.Result.{is_err}
use Rattle.dv_outside.specs.Station.{Content, Writes, DiffersIn, Holds, Leaves}
use Rattle.dv_outside.proofs.Moments.{leaves_none, leaves_call, leaves_write}
use Rattle.dv_register.specs.Steps.{IsQuiet, SameFront, GateOnly, IsStagedFile, IsGateSet, IsAppended, BeforeOrAfter}
use Rattle.dv_register.specs.Layout.{body_of, open_gate}
use Rattle.dv_outside.specs.Releases.{Entry}

pub front_stays : (n place k end : ℕ) (file x y : List ℕ) → n ≤ place → SameFront n file x → DiffersIn place k end x y → SameFront n file y
front_stays n place k end file x y le same differs =
    sym (take-take n place y le) ∙ ap (take n) differs.before ∙ take-take n place x le ∙ same

-- a write behind a front
pub after_write : (front rest octets new : List ℕ) (place : ℕ) → length front ≡ place → Holds (front ++ rest) place octets new → (more : List ℕ) × (new ≡ (front ++ octets) ++ more)
after_write front rest octets new place is holds =
    (drop (place + length octets) (front ++ rest), holds ∙ ap (λ (l : List ℕ). (l ++ octets) ++ drop (place + length octets) (front ++ rest)) (take_at front rest place is))

-- a first write behind the gate
pub stage_first : {T E : Type 0} (r : Result T E) (gate place : ℕ) (octets : List ℕ) (a b : Content) → IsQuiet gate a → gate + 1 ≤ place → Writes place octets r a b → Leaves (SameFront (gate + 1) a.reads) a b
stage_first r gate place octets a b quiet le write =
    leaves_write (SameFront (gate + 1) a.reads) r place octets a a b
    (leaves_none (SameFront (gate + 1) a.reads) a (λ i at. ap (take (gate + 1)) (quiet.durable i at)))
    write (λ x y same differs. front_stays (gate + 1) place (length octets) (length a.reads) a.reads x y le same differs)

-- and another one
pub stage_more : {T E : Type 0} (r : Result T E) (gate place : ℕ) (octets file : List ℕ) (a b c : Content) → Leaves (SameFront (gate + 1) file) a b → gate + 1 ≤ place → Writes place octets r b c → Leaves (SameFront (gate + 1) file) a c
stage_more r gate place octets file a b c so_far le write =
    leaves_write (SameFront (gate + 1) file) r place octets a b c so_far write
    (λ x y same differs. front_stays (gate + 1) place (length octets) (length b.reads) file x y le same differs)

-- the three writes, one behind the other
pub staged_file : (gate : ℕ) (file head contents : List ℕ) (one two three : List ℕ) → gate < length file → length head ≡ 5
    → Holds file (gate + 1) head one → Holds one (gate + 6) contents two → Holds two (gate + 6 + length contents) (0 ∷ []) three
    → (rest : List ℕ) × (three ≡ take (gate + 1) file ++ (head ++ contents) ++ 0 ∷ rest)
staged_file gate file head contents one two three within five first second third =
    let front = take (gate + 1) file in
    let size : length front ≡ gate + 1 = length-take-le (gate + 1) file (omega (arith, within)) in
    let at_one = after_write front (drop (gate + 1) file) head one (gate + 1) size (subst (λ (l : List ℕ). Holds l (gate + 1) head one) (sym (take-append-drop (gate + 1) file)) first) in
    let size_one : length (front ++ head) ≡ gate + 6 = omega (arith, size, five, length-append front head) in
    let at_two = after_write (front ++ head) at_one.0 contents two (gate + 6) size_one (subst (λ (l : List ℕ). Holds l (gate + 6) contents two) at_one.1 second) in
    let size_two : length ((front ++ head) ++ contents) ≡ gate + 6 + length contents = omega (arith, size_one, length-append (front ++ head) contents) in
    let at_three = after_write ((front ++ head) ++ contents) at_two.0 (0 ∷ []) three (gate + 6 + length contents) size_two (subst (λ (l : List ℕ). Holds l (gate + 6 + length contents) (0 ∷ []) three) at_two.1 third) in (
      at_three.0,
      at_three.1
          ∙ append_assoc ((front ++ head) ++ contents) (0 ∷ []) at_three.0
          ∙ ap (λ (l : List ℕ). l ++ 0 ∷ at_three.0) (append_assoc front head contents),
    )

-- the file itself is one of those
pub gate_same : (gate : ℕ) (file : List ℕ) → gate < length file → GateOnly gate file file
gate_same gate file within = (
  get_or file gate 0,
  [],
  sym (take-append-drop gate file) ∙ ap (λ (l : List ℕ). take gate file ++ l) (drop_more file gate 0 within)
      ∙ sym (append-nil (take gate file ++ get_or file gate 0 ∷ drop (gate + 1) file)),
)

-- what a torn write of the gate leaves
pub torn_gate : (gate : ℕ) (file b : List ℕ) → gate + 1 < length file → DiffersIn gate 1 (length file) file b → GateOnly gate file b
torn_gate gate file b within differs =
    let x = take (length file) b in
    let behind : drop (gate + 1) x ≡ drop (gate + 1) file = differs.after ∙ ap (drop (gate + 1)) (take_all (length file) file (omega arith)) in
    let long : gate < length x = omega (arith, within, ap length behind, length-drop (gate + 1) x, length-drop (gate + 1) file) in
    let front : take gate x ≡ take gate file = take-take gate (length file) b (omega (arith, within)) ∙ differs.before in
    let octet = get_or x gate 0 in
    let whole : x ≡ take gate file ++ octet ∷ drop (gate + 1) file =
    sym (take-append-drop gate x) ∙ ap (λ (l : List ℕ). l ++ drop gate x) front
    ∙ ap (λ (l : List ℕ). take gate file ++ l) (drop_more x gate 0 long ∙ ap (λ (l : List ℕ). octet ∷ l) behind) in
    (octet, drop (length file) b, sym (take-append-drop (length file) b) ∙ ap (λ (l : List ℕ). l ++ drop (length file) b) whole)

pub gate_write : {T E : Type 0} (r : Result T E) (gate octet : ℕ) (a b : Content) → IsQuiet gate a → gate + 1 < length a.reads → Writes gate (octet ∷ []) r a b → Leaves (GateOnly gate a.reads) a b
gate_write r gate octet a b quiet behind write =
    leaves_call (GateOnly gate a.reads) a b write.keeps write.silent
    (λ i at. subst (GateOnly gate a.reads) (sym (quiet.durable i at)) (gate_same gate a.reads quiet.within))
    (λ m lt le i at. let from = write.images m lt le i at in
    torn_gate gate a.reads i behind (subst (λ (l : List ℕ). DiffersIn gate 1 (length a.reads) l i) (quiet.durable from.0 from.1) from.2))

pub gate_written : (gate octet : ℕ) (file new : List ℕ) → Holds file gate (octet ∷ []) new → new ≡ take gate file ++ octet ∷ drop (gate + 1) file
gate_written gate octet file new holds = holds ∙ append_assoc (take gate file) (octet ∷ []) (drop (gate + 1) file)

pub on_ok_then : {T E : Type 0} (P Q : Type 0) (r : Result T E) → OnOk r P → (P → Q) → OnOk r Q
on_ok_then P Q (Ok x) here then = then here
on_ok_then P Q (Err e) here then = tt

module _ (gate : ℕ) (file : List ℕ) (e : Entry) (within : gate < length file) where
  -- the parts of a file before which a record was staged
  staged_front : (c : Content) (s : IsStagedFile gate file e c) → take gate c.reads ≡ take gate file
  staged_front c s =
      ap (take gate) (s.is ∙ append_assoc (take (gate + 1) file) (body_of e) (0 ∷ s.rest))
      ∙ take-append-le gate (take (gate + 1) file) (body_of e ++ 0 ∷ s.rest) (omega (arith, length-take-le (gate + 1) file))
      ∙ take-take gate (gate + 1) file (omega arith)

  staged_back : (c : Content) (s : IsStagedFile gate file e c) → drop (gate + 1) c.reads ≡ body_of e ++ 0 ∷ s.rest
  staged_back c s =
      ap (drop (gate + 1)) (s.is ∙ append_assoc (take (gate + 1) file) (body_of e) (0 ∷ s.rest))
      ∙ drop_at (take (gate + 1) file) (body_of e ++ 0 ∷ s.rest) (gate + 1) (length-take-le (gate + 1) file (omega (arith, within)))

  pub staged_quiet : (c : Content) → IsStagedFile gate file e c → IsQuiet gate c
  staged_quiet c s = record {
    within = let size : length (drop (gate + 1) c.reads) ≡ length (body_of e ++ 0 ∷ s.rest) = ap length (staged_back c s) in
        omega (arith, size, length-drop (gate + 1) c.reads, length-append (body_of e) (0 ∷ s.rest));
    durable = s.durable;
  }

  pub staged_behind : (c : Content) → IsStagedFile gate file e c → gate + 1 < length c.reads
  staged_behind c s =
      let size : length (drop (gate + 1) c.reads) ≡ length (body_of e ++ 0 ∷ s.rest) = ap length (staged_back c s) in
      omega (arith, size, length-drop (gate + 1) c.reads, length-append (body_of e) (0 ∷ s.rest))

  opened_octets : (octet : ℕ) (rest past b : List ℕ) → b ≡ take gate file ++ octet ∷ (body_of e ++ 0 ∷ rest) ++ past → b ≡ take gate file ++ octet ∷ body_of e ++ 0 ∷ (rest ++ past)
  opened_octets octet rest past b is = is ∙ simp append_assoc

  pub gate_after : (c : Content) (s : IsStagedFile gate file e c) (b : List ℕ) → GateOnly gate c.reads b → BeforeOrAfter gate file e b
  gate_after c s b only =
      let octet = only.0 in
      let past = only.1 in
      let is : b ≡ take gate file ++ octet ∷ (body_of e ++ 0 ∷ s.rest) ++ past = only.2
      ∙ ap (λ (l : List ℕ). l ++ octet ∷ drop (gate + 1) c.reads ++ past) (staged_front c s)
      ∙ ap (λ (l : List ℕ). take gate file ++ octet ∷ l ++ past) (staged_back c s) in
      inr (record { octet = octet; rest = s.rest ++ past; is = opened_octets octet s.rest past b is })

  pub opened_after : (a c : Content) → IsStagedFile gate file e a → IsGateSet gate open_gate a.reads c → IsAppended gate file e c
  opened_after a c s opened = record {
    rest = s.rest;
    is = opened.is
        ∙ ap (λ (l : List ℕ). l ++ open_gate ∷ drop (gate + 1) a.reads) (staged_front a s)
        ∙ ap (λ (l : List ℕ). take gate file ++ open_gate ∷ l) (staged_back a s)
        ∙ sym (append_assoc (take gate file) (open_gate ∷ body_of e) (0 ∷ s.rest));
    durable = opened.durable;
  }

pub ok_part : {T E : Type 0} (P : Type 0) (r : Result T E) → is_err r ≡ false → OnOk r P → P
ok_part P (Ok x) is here = here
ok_part P (Err e) is here = absurd (cc)

pub err_part : {T E : Type 0} (P : Type 0) (r : Result T E) → is_err r ≡ true → OnErr r P → P
err_part P (Ok x) is here = absurd (cc)
err_part P (Err e) is here = here
