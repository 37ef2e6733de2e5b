-- What a command answers, by what its steps do.
use Rattle.std.proofs.Common.{◌≡◌, ◌∙◌, inr, ◌≤◌, ◌+◌, ℕ, zero, suc, Bool, IsTrue, List, [], ◌∷◌, Some, Result, Ok, Err, ap, subst, arith}
use Rattle.std.specs.List.{AllByRecursion, slice_get}
use Rattle.dv_outside.specs.Causes.{Rose}
use Rattle.dv_outside.specs.Releases.{Entry}
use Rattle.dv_outside.specs.Station.{Content, Counts, Keeps, Leaves, Looks, Puts}
use Rattle.dv_lms.specs.Identity.{Identity}
use Rattle.dv_register.specs.State.{State, rule_identity}
use Rattle.dv_x509.specs.declared.own.OwnParts.{OwnParts}
use Rattle.dv_cert.specs.Certificates.{certificate_of}
use Rattle.dv_commands.specs.declared.refusals.Reissue.{Reissue}
use Rattle.dv_commands.specs.declared.refusals.Reissue.TheVariants.{Open as NotOpened, Absent, Record, Fault as ReissueFault, Put as ReissuePut, Memory as ReissueMemory}
use Rattle.dv_commands.specs.declared.refusals.Init.{Init}
use Rattle.dv_commands.specs.declared.refusals.Init.TheVariants.{Create, Fault as InitFault, Put as InitPut, Memory as InitMemory}
use Rattle.dv_commands.specs.Runs.{IsRunOn, IsRunOnMade}
use Rattle.dv_commands.specs.Answers.{IsCertificateOf, IsRemade, PutsAgain, Reissues, PutsFirst, Inits, own_entry, own_octets}
use Rattle.dv_session.specs.Sending.{Sends}
use Rattle.dv_commands.proofs.CertificateLemmas.{unreadable}
use Rattle.dv_commands.proofs.SendingLemmas.{cut_after, put_cuts, put_sends, sends_after, sends_nothing}

-- a count that rose after it didn't fall rose
pub rose_before : (a b c : ℕ) → a ≤ b → Rose b c → Rose a c
rose_before a b c le rose = omega (arith, le, rose)

-- what holds of each member holds of the one at an index
pub member : {X : Type 0} (P : X → Type 0) (xs : List X) (index : ℕ) (x : X) → AllByRecursion P xs → slice_get xs index ≡ Some x → P x
member P [] index x all is = absurd (cc)
member P (y ∷ xs) zero x all is = let same : y ≡ x = cc in subst P same all.0
member P (y ∷ xs) (suc index) x all is = member P xs index x all.1 is

-- a station before a silent run and after it
pub record IsQuiet {V : Type 0} (tells : V → Bool) (content : V → Content) (counts : V → Counts) (a b : V) : Type 0 where
  pub tells_same : tells b ≡ tells a
  pub runs : IsTrue (tells a) → Leaves (λ i. Unit {0}) (content a) (content b)
  pub faults : (counts a).faults ≤ (counts b).faults
  pub put_faults : (counts a).put_faults ≤ (counts b).put_faults

module _ {V : Type 0} (tells : V → Bool) (content : V → Content) (counts : V → Counts) (a b c : V) (quiet : IsQuiet tells content counts a b) where
  -- that the station tells its content
  told_later : IsTrue (tells a) → IsTrue (tells b)
  told_later told = quiet.tells_same ∙ told

  puts_again_after : (key : Identity) (first : ℕ) (list : List Entry) (serial : ℕ) (r : Result (Unit {0}) Reissue) → PutsAgain tells content counts key first list serial b c r
      → PutsAgain tells content counts key first list serial a c r
  puts_again_after key first list serial (Ok u) puts =
      (puts.0, puts.1, λ told. let q = quiet.runs told in sends_after puts.0 (content a) (content b) (content c) q.keeps q.silent (puts.2 (told_later told)))
  puts_again_after key first list serial (Err ReissuePut) puts = (
    puts.0,
    puts.1,
    (λ told. let q = quiet.runs told in cut_after [] puts.0 (content a) (content b) (content c) q.keeps q.silent (puts.2 (told_later told))),
    rose_before (counts a).put_faults (counts b).put_faults (counts c).put_faults quiet.put_faults puts.3,
  )
  puts_again_after key first list serial (Err Absent) puts =
      (puts.0, λ told. let q = quiet.runs told in sends_after [] (content a) (content b) (content c) q.keeps q.silent (puts.1 (told_later told)))
  puts_again_after key first list serial (Err (Record d)) puts =
      (puts.0, λ told. let q = quiet.runs told in sends_after [] (content a) (content b) (content c) q.keeps q.silent (puts.1 (told_later told)))
  puts_again_after key first list serial (Err ReissueFault) puts = (
    rose_before (counts a).faults (counts b).faults (counts c).faults quiet.faults puts.0,
    λ told. let q = quiet.runs told in sends_after [] (content a) (content b) (content c) q.keeps q.silent (puts.1 (told_later told)),
  )
  puts_again_after key first list serial (Err ReissueMemory) puts =
      λ told. (let q = quiet.runs told in sends_after [] (content a) (content b) (content c) q.keeps q.silent (puts (told_later told)))
  puts_again_after key first list serial (Err (NotOpened e)) puts = puts

  puts_first_after : (entry : Entry) (octets : List ℕ) (list : List Entry) (r : Result (Unit {0}) Init) → PutsFirst tells content counts entry octets list b c r
      → PutsFirst tells content counts entry octets list a c r
  puts_first_after entry octets list (Ok u) puts =
      (puts.0, λ told. let q = quiet.runs told in sends_after octets (content a) (content b) (content c) q.keeps q.silent (puts.1 (told_later told)))
  puts_first_after entry octets list (Err InitPut) puts = (
    puts.0,
    (λ told. let q = quiet.runs told in cut_after [] octets (content a) (content b) (content c) q.keeps q.silent (puts.1 (told_later told))),
    rose_before (counts a).put_faults (counts b).put_faults (counts c).put_faults quiet.put_faults puts.2,
  )
  puts_first_after entry octets list (Err InitFault) puts = (
    puts.0,
    (λ told. let q = quiet.runs told in sends_after [] (content a) (content b) (content c) q.keeps q.silent (puts.1 (told_later told))),
    rose_before (counts a).faults (counts b).faults (counts c).faults quiet.faults puts.2,
  )
  puts_first_after entry octets list (Err InitMemory) puts =
      (puts.0, λ told. let q = quiet.runs told in sends_after [] (content a) (content b) (content c) q.keeps q.silent (puts.1 (told_later told)))
  puts_first_after entry octets list (Err (Create e)) puts = puts

module _ {V : Type 0} (tells : V → Bool) (content : V → Content) (counts : V → Counts) (key : Identity) (station left : V) where
  reissued_by : (serial : ℕ) (opened closed : State V) (r : Result (Unit {0}) Reissue) → IsRunOn tells content counts key station left opened closed → closed.list ≡ opened.list
      → PutsAgain tells content counts key opened.first opened.list serial station left r → Reissues tells content counts key serial station left r
  reissued_by serial opened closed (Ok u) run list puts = record { opened = opened; closed = closed; run = run; list = list; puts = puts }
  reissued_by serial opened closed (Err Absent) run list puts = record { opened = opened; closed = closed; run = run; list = list; puts = puts }
  reissued_by serial opened closed (Err (Record d)) run list puts = record { opened = opened; closed = closed; run = run; list = list; puts = puts }
  reissued_by serial opened closed (Err ReissueFault) run list puts = record { opened = opened; closed = closed; run = run; list = list; puts = puts }
  reissued_by serial opened closed (Err ReissuePut) run list puts = record { opened = opened; closed = closed; run = run; list = list; puts = puts }
  reissued_by serial opened closed (Err ReissueMemory) run list puts = record { opened = opened; closed = closed; run = run; list = list; puts = puts }
  reissued_by serial opened closed (Err (NotOpened e)) run list puts = absurd puts

  -- a run on a register that it opened, and what it put
  pub reissued : (serial : ℕ) (opened closed : State V) (r : Result (Unit {0}) Reissue) → IsRunOn tells content counts key station left opened closed → closed.list ≡ opened.list
      → PutsAgain tells content counts key opened.first opened.list serial opened.station left r → Reissues tells content counts key serial station left r
  reissued serial opened closed r run list puts =
      let o = run.is_opened in
      let quiet : IsQuiet tells content counts station opened.station = record { tells_same = o.tells_same; runs = o.runs; faults = o.faults; put_faults = omega (arith, o.put_faults) } in
      reissued_by serial opened closed r run list (puts_again_after tells content counts station opened.station left quiet key opened.first opened.list serial r puts)

  -- a run on a register that it made, and what it put
  inited_by : (first : ℕ) (parts : OwnParts) (made closed : State V) (r : Result (Unit {0}) Init) → IsRunOnMade tells content counts key first station left made closed
      → certificate_of (rule_identity key) first 0 (own_entry parts) ≡ Some (own_octets key first parts)
      → PutsFirst tells content counts (own_entry parts) (own_octets key first parts) closed.list station left r → Inits tells content counts key first parts station left r
  inited_by first parts made closed (Ok u) run certificate puts = record { made = made; closed = closed; run = run; certificate = certificate; puts = puts }
  inited_by first parts made closed (Err InitFault) run certificate puts = record { made = made; closed = closed; run = run; certificate = certificate; puts = puts }
  inited_by first parts made closed (Err InitPut) run certificate puts = record { made = made; closed = closed; run = run; certificate = certificate; puts = puts }
  inited_by first parts made closed (Err InitMemory) run certificate puts = inr (record { made = made; closed = closed; run = run; certificate = certificate; puts = puts })
  inited_by first parts made closed (Err (Create e)) run certificate puts = absurd puts

  pub inited : (first : ℕ) (parts : OwnParts) (made closed : State V) (r : Result (Unit {0}) Init) → IsRunOnMade tells content counts key first station left made closed
      → certificate_of (rule_identity key) first 0 (own_entry parts) ≡ Some (own_octets key first parts)
      → PutsFirst tells content counts (own_entry parts) (own_octets key first parts) closed.list made.station left r → Inits tells content counts key first parts station left r
  inited first parts made closed r run certificate puts =
      let m = run.is_made in
      let quiet : IsQuiet tells content counts station made.station = record { tells_same = m.tells_same; runs = m.runs; faults = m.faults; put_faults = omega (arith, m.put_faults) } in
      inited_by first parts made closed r run certificate (puts_first_after tells content counts station made.station left quiet (own_entry parts) (own_octets key first parts) closed.list r puts)

module _ {V : Type 0} (tells : V → Bool) (content : V → Content) (counts : V → Counts) (key : Identity) (first : ℕ) (list : List Entry) (serial index : ℕ) (old new : V)
    (serial_is : serial ≡ first + index) (looks : IsTrue (tells old) → Looks (content old) (content new)) where
  -- nothing was sent yet
  unsent : IsTrue (tells old) → Sends [] (content old) (content new)
  unsent told = let l = looks told in sends_nothing (content old) (content new) l.keeps l.silent

  -- the certificate wasn't made again
  pub not_remade : (e : Reissue) → IsRemade counts key first list index old new (Err e) → PutsAgain tells content counts key first list serial old new (Err e)
  not_remade (Record d) made = (
    record {
      index = index;
      entry = made.0;
      serial_is = serial_is;
      there = made.1;
      refused = made.2;
      certificate = unreadable key first index made.0 d made.2;
    },
    unsent,
  )
  not_remade ReissueFault made = (made, unsent)
  not_remade ReissueMemory made = unsent
  not_remade Absent made = absurd made
  not_remade ReissuePut made = absurd made
  not_remade (NotOpened e) made = absurd made

  -- it was
  certificate_at : (octets : List ℕ) (entry : Entry) → slice_get list index ≡ Some entry → certificate_of (rule_identity key) first index entry ≡ Some octets
      → IsCertificateOf key first list serial octets
  certificate_at octets entry there certificate = record { index = index; entry = entry; serial_is = serial_is; there = there; certificate = certificate }

  pub remade_put : {T E : Type 0} (x : T) (octets : List ℕ) (entry : Entry) (last : V) → slice_get list index ≡ Some entry → certificate_of (rule_identity key) first index entry ≡ Some octets
      → (IsTrue (tells old) → Puts {E = E} octets (Ok x) (content new) (content last)) → PutsAgain tells content counts key first list serial old last (Ok tt)
  remade_put x octets entry last there certificate put = (
    octets,
    certificate_at octets entry there certificate,
    λ told. let l = looks told in sends_after octets (content old) (content new) (content last) l.keeps l.silent (put_sends x octets (content new) (content last) (put told)),
  )

  pub remade_cut : {T E : Type 0} (r : Result T E) (octets : List ℕ) (entry : Entry) (last : V) → slice_get list index ≡ Some entry
      → certificate_of (rule_identity key) first index entry ≡ Some octets → (IsTrue (tells old) → Puts octets r (content new) (content last))
      → Rose (counts old).put_faults (counts last).put_faults → PutsAgain tells content counts key first list serial old last (Err ReissuePut)
  remade_cut r octets entry last there certificate put rose = (
    octets,
    certificate_at octets entry there certificate,
    (λ told. let l = looks told in cut_after [] octets (content old) (content new) (content last) l.keeps l.silent (put_cuts r octets (content new) (content last) (put told))),
    rose,
  )

module _ {V : Type 0} (tells : V → Bool) (content : V → Content) (counts : V → Counts) (old new : V) (told : IsTrue (tells old)) where
  -- whatever is put, what was told stands
  pub puts_again_keep : (key : Identity) (first : ℕ) (list : List Entry) (serial : ℕ) (r : Result (Unit {0}) Reissue) → PutsAgain tells content counts key first list serial old new r
      → Keeps (content old) (content new)
  puts_again_keep key first list serial (Ok u) puts = (puts.2 told).keeps
  puts_again_keep key first list serial (Err ReissuePut) puts = (puts.2 told).keeps
  puts_again_keep key first list serial (Err Absent) puts = (puts.1 told).keeps
  puts_again_keep key first list serial (Err (Record d)) puts = (puts.1 told).keeps
  puts_again_keep key first list serial (Err ReissueFault) puts = (puts.1 told).keeps
  puts_again_keep key first list serial (Err ReissueMemory) puts = (puts told).keeps
  puts_again_keep key first list serial (Err (NotOpened e)) puts = absurd puts

  pub puts_first_keep : (entry : Entry) (octets : List ℕ) (list : List Entry) (r : Result (Unit {0}) Init) → PutsFirst tells content counts entry octets list old new r
      → Keeps (content old) (content new)
  puts_first_keep entry octets list (Ok u) puts = (puts.1 told).keeps
  puts_first_keep entry octets list (Err InitPut) puts = (puts.1 told).keeps
  puts_first_keep entry octets list (Err InitFault) puts = (puts.1 told).keeps
  puts_first_keep entry octets list (Err InitMemory) puts = (puts.1 told).keeps
  puts_first_keep entry octets list (Err (Create e)) puts = absurd puts

-- a run from a station that is the same as another
pub moved_run : {V : Type 0} (tells : V → Bool) (content : V → Content) (P : List ℕ → Type 0) (a b c : V) → b ≡ a → (IsTrue (tells b) → Leaves P (content b) (content c))
    → IsTrue (tells a) → Leaves P (content a) (content c)
moved_run {V} tells content P a b c same run told = subst (λ (s : V). Leaves P (content s) (content c)) same (run (ap tells same ∙ told))
