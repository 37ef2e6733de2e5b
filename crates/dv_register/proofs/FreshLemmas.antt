-- A register that was just made or opened.
use Rattle.std.proofs.Common.{◌≡◌, ◌∙◌, ℕ, ◌+◌, ◌≤◌, Bool, false, IsTrue, List, [], ◌∷◌, ◌++◌, length, take, subst, ap, sym, arith, length-append}
use Rattle.std.proofs.lemmas.List.{append-nil, take_all}
use Rattle.std.specs.List.{AllByRecursion}
use Rattle.dv_lms.specs.Signed.{public_of}
use Rattle.dv_outside.specs.Station.{Content, Counts}
use Rattle.dv_outside.specs.Releases.{Identity as RuleIdentity, Entry}
use Rattle.dv_register.specs.Layout.{IsEntry, records_of, Sound, BeginsWith}
use Rattle.dv_register.specs.Refusals.{IsFirstSerial}
use Rattle.dv_register.specs.Steps.{IsEmptyRegister}
use Rattle.dv_register.specs.Safe.{SentAs, Terms, IsSafe, IsSettled}
use Rattle.dv_register.specs.State.{State, IsHeld, IsInMemory, head_in, limit_in, terms_of, entries_of}
use Rattle.dv_register.specs.declared.place.Place.{Place}
use Rattle.dv_register.proofs.MemoryLemmas.{length-head_of}
use Rattle.dv_register.proofs.SafeLemmas.{sound_closed}

-- Nothing was sent, and each image is the register with this list.
safe_new : (t : Terms) (c : Content) (n : ℕ) (list : List Entry) → t.opened ≡ c.moment → t.base ≡ list → t.put_faults ≡ n → AllByRecursion IsEntry list → length list ≤ t.limit
    → IsSettled c t.head list → IsSafe t c n list
safe_new t c n list opened base faults entries fits settled = record {
  later = omega (arith, opened);
  since = λ m from le. let now : m ≡ c.moment = omega (arith, from, le, opened) in λ b at.
      (list, sound b (subst (λ k. c.image k b) now at), begins, ([], [], nothing m (now ∙ sym opened)));
  present = λ b at. (list, sound b at, ([], sym (append-nil list)));
  begins = begins;
  sent = ([], nothing c.moment (sym opened));
}
  where
    sound : (b : List ℕ) → c.image c.moment b → Sound b t.head t.limit list
    sound b at = sound_closed t.head t.limit list entries fits b settled.rest (settled.durable b at ∙ settled.is)

    begins : BeginsWith list t.base
    begins = ([], sym (append-nil t.base ∙ base))

    nothing : (m : ℕ) → m ≡ t.opened → SentAs c t.opened m (t.allows list) t.put_faults n [] []
    nothing m is = record {
      is = ap c.sent is ∙ sym (append-nil (c.sent t.opened)) ∙ sym (append-nil (c.sent t.opened ++ []));
      allowed = tt;
      going_allowed = tt;
      one = omega arith;
      cut = omega (arith, faults);
    }

pub held_new : {V : Type 0} (tells : V → Bool) (content : V → Content) (counts : V → Counts) (allows : RuleIdentity → ℕ → List Entry → List ℕ → Type 0)
    (s : State V) (limit gate : ℕ) (places : List Place) (octets : List ℕ) → s.base ≡ length s.list → s.shut ≡ false → s.opening ≡ s.station
    → length (public_of s.identity) ≡ 60 → limit ≡ limit_in s → IsFirstSerial s.first → AllByRecursion IsEntry s.list → length s.list ≤ limit_in s
    → IsInMemory s.list (head_in s) gate places octets → (IsTrue (tells s.station) → IsSettled (content s.station) (head_in s) s.list)
    → IsHeld tells content counts allows s limit gate places octets
held_new tells content counts allows s limit gate places octets base open_now opening key leaves serial entries fits memory settled = record {
  kept = record {
    entries = entries;
    fits = fits;
    key = key;
    serial = serial;
    base = omega (arith, base);
    faults = omega (arith, ap (λ v. (counts v).faults) opening);
    shut = λ shut. absurd (cc);
    safe = λ told. safe_new (terms_of content counts allows s) (content s.station) (counts s.station).put_faults s.list
        (ap (λ v. (content v).moment) opening) (ap (λ n. take n s.list) base ∙ take_all (length s.list) s.list (omega arith))
        (ap (λ v. (counts v).put_faults) opening) entries fits (settled told);
  };
  leaves = leaves;
  memory = memory;
  settled = λ told now. settled told;
}

-- An empty register that was just made.
pub held_created : {V : Type 0} (tells : V → Bool) (content : V → Content) (counts : V → Counts) (allows : RuleIdentity → ℕ → List Entry → List ℕ → Type 0)
    (s : State V) (limit : ℕ) (places : List Place) (octets : List ℕ) → s.list ≡ [] → s.base ≡ 0 → s.shut ≡ false → s.opening ≡ s.station → places ≡ []
    → length (public_of s.identity) ≡ 60 → limit ≡ limit_in s → IsFirstSerial s.first → (IsTrue (tells s.station) → IsEmptyRegister (head_in s) (content s.station))
    → IsHeld tells content counts allows s limit 76 places octets
held_created tells content counts allows s limit places octets none base open_now opening no_places key leaves serial empty =
    held_new tells content counts allows s limit 76 places octets (omega (arith, base, ap length none)) open_now opening key leaves serial
    (subst (AllByRecursion IsEntry) (sym none) tt) (omega (arith, ap length none))
    (record {
      place = omega (arith, length-append (head_in s) (records_of s.list), ap (λ (l : List Entry). length (records_of l)) none, length-head_of (public_of s.identity) s.first key);
      within = subst (AllByRecursion (λ p. p.from + p.len ≤ length octets)) (sym no_places) tt;
      list = none ∙ sym (ap (λ (l : List Place). entries_of l octets) no_places);
    })
    (λ told. let e = empty told in record {
      rest = [];
      is = e.is ∙ ap (λ (l : List ℕ). l ++ 0 ∷ []) (sym (append-nil (head_in s)) ∙ ap (λ (l : List Entry). head_in s ++ records_of l) (sym none));
      durable = e.durable;
    })
