-- How a register stays safe.
use Rattle.std.proofs.Common.{◌≡◌, ◌∙◌, inl, inr, ⊎_elim, ℕ, ◌+◌, ◌<◌, ◌≤◌, List, [], ◌∷◌, ◌++◌, length, take, drop, subst, ap, refl, sym, arith, append_assoc, take-append-drop, length-append}
use Rattle.std.proofs.lemmas.List.{take_at, take_all, append-nil}
use Rattle.std.proofs.lemmas.Bool.{cases_eq}
use Rattle.std.specs.List.{AllByRecursion}
use Rattle.std.proofs.lemmas.Bool.Decides.{nat_tests}
use Rattle.std.specs.Prelude.{Result, Ok, Err, min, ◌-◌, ◌^◌}
use Rattle.dv_outside.specs.Causes.{HasCause}
use Rattle.dv_outside.specs.Station.{Content, Keeps, Leaves, Puts, Meanwhile}
use Rattle.dv_outside.specs.Releases.{Entry}
use Rattle.dv_outside.proofs.Moments.{le_or_lt, sent_at_end, now_after, sent_after}
use Rattle.dv_register.specs.Layout.{Sound, IsEntry, body_of, records_of, open_gate, BeginsWith, SoundFor}
use Rattle.dv_register.specs.Steps.{SameFront, BeforeOrAfter}
use Rattle.dv_register.specs.Safe.{Part, joined, cut_count, SentAs, Terms, SafeAt, IsSafe}

pub all_weaker : {X : Type 0} (P Q : X → Type 0) → ((x : X) → P x → Q x) → (xs : List X) → AllByRecursion P xs → AllByRecursion Q xs
all_weaker P Q then [] all = tt
all_weaker P Q then (x ∷ xs) all = (then x all.0, all_weaker P Q then xs all.1)

pub all_push : {X : Type 0} (P : X → Type 0) (xs : List X) (x : X) → AllByRecursion P xs → P x → AllByRecursion P (xs ++ x ∷ [])
all_push P [] x all here = (here, tt)
all_push P (y ∷ xs) x all here = (all.0, all_push P xs x all.1 here)

pub begins_then : (a b c : List Entry) → BeginsWith b a → BeginsWith c b → BeginsWith c a
begins_then a b c one two = (one.0 ++ two.0, two.1 ∙ ap (λ (l : List Entry). l ++ two.0) one.1 ∙ append_assoc a one.0 two.0)

pub records_of-push : (list : List Entry) (e : Entry) → records_of (list ++ e ∷ []) ≡ records_of list ++ open_gate ∷ body_of e
records_of-push [] e = append-nil (open_gate ∷ body_of e)
records_of-push (x ∷ list) e = ap (λ (l : List ℕ). (open_gate ∷ body_of x) ++ l) (records_of-push list e) ∙ sym (append_assoc (open_gate ∷ body_of x) (records_of list) (open_gate ∷ body_of e))

module _ (head : List ℕ) (limit : ℕ) (list : List Entry) (entries : AllByRecursion IsEntry list) (fits : length list ≤ limit) where
  pub sound_closed : (b rest : List ℕ) → b ≡ head ++ records_of list ++ 0 ∷ rest → Sound b head limit list
  sound_closed b rest is = (0, rest, record { is = is; closed = λ e. absurd (omega (arith, e)); entries = entries; fits = fits }, inl refl)

  pub front_sound : (file b rest : List ℕ) (gate : ℕ) → file ≡ head ++ records_of list ++ 0 ∷ rest → length (head ++ records_of list) ≡ gate → SameFront (gate + 1) file b → SoundFor head limit list b
  front_sound file b rest gate is place same =
      let front = head ++ records_of list in
      let split : front ++ 0 ∷ rest ≡ (front ++ 0 ∷ []) ++ rest = sym (append_assoc front (0 ∷ []) rest) in
      let size : length (front ++ 0 ∷ []) ≡ gate + 1 = omega (arith, place, length-append front (0 ∷ [])) in
      let begin : take (gate + 1) b ≡ front ++ 0 ∷ [] = same ∙ ap (take (gate + 1)) (is ∙ split) ∙ take_at (front ++ 0 ∷ []) rest (gate + 1) size in
      let whole : b ≡ front ++ 0 ∷ drop (gate + 1) b = sym (take-append-drop (gate + 1) b) ∙ ap (λ (l : List ℕ). l ++ drop (gate + 1) b) begin ∙ append_assoc front (0 ∷ []) (drop (gate + 1) b) in
      (list, sound_closed b (drop (gate + 1) b) whole, ([], sym (append-nil list)))

  module _ (e : Entry) (entry : IsEntry e) (room : length list < limit) where
    pub pushed_sound : (b rest : List ℕ) → b ≡ head ++ records_of list ++ open_gate ∷ body_of e ++ 0 ∷ rest → Sound b head limit (list ++ e ∷ [])
    pushed_sound b rest is = (
      0,
      rest,
      record {
        is = is ∙ ap (λ (l : List ℕ). l ++ 0 ∷ rest) (append_assoc head (records_of list) (open_gate ∷ body_of e) ∙ ap (λ (l : List ℕ). head ++ l) (sym (records_of-push list e)));
        closed = λ same. absurd (omega (arith, same));
        entries = all_push IsEntry list e entries entry;
        fits = omega (arith, room, length-append list (e ∷ []));
      },
      inl refl,
    )

    pub body_sound : (b rest : List ℕ) (octet : ℕ) → b ≡ head ++ records_of list ++ octet ∷ body_of e ++ 0 ∷ rest → SoundFor head limit list b
    body_sound b rest octet is = ⊎_elim
        (λ open_now. (list ++ e ∷ [], pushed_sound b rest (subst (λ o. b ≡ head ++ records_of list ++ o ∷ body_of e ++ 0 ∷ rest) open_now is), (e ∷ [], refl)))
        (λ shut. (
          list,
          (
            octet,
            body_of e ++ 0 ∷ rest,
            record {
              is = is ∙ append_assoc (head ++ records_of list) (octet ∷ body_of e) (0 ∷ rest);
              closed = shut;
              entries = entries;
              fits = fits;
            },
            inr (e, rest, record { room = room; entry = entry; is = refl }),
          ),
          ([], sym (append-nil list)),
        ))
        (cases_eq octet open_gate)

    pub step_sound : (file b rest : List ℕ) (gate : ℕ) → file ≡ head ++ records_of list ++ 0 ∷ rest → length (head ++ records_of list) ≡ gate → BeforeOrAfter gate file e b → SoundFor head limit list b
    step_sound file b rest gate is place (inl same) = front_sound file b rest gate is place same
    step_sound file b rest gate is place (inr body) =
        let front : take gate file ≡ head ++ records_of list = ap (take gate) is ∙ take_at (head ++ records_of list) (0 ∷ rest) gate place in
        body_sound b body.rest body.octet (body.is ∙ ap (λ (l : List ℕ). l ++ body.octet ∷ body_of e ++ 0 ∷ body.rest) front)

module _ (t : Terms) (grows : (list more : List Entry) (o : List ℕ) → t.allows list o → t.allows (list ++ more) o) where
  under_more : (list more : List Entry) → BeginsWith more list → (parts : List Part) → AllByRecursion (λ p. t.allows list p.piece) parts → AllByRecursion (λ p. t.allows more p.piece) parts
  under_more list more begins = all_weaker (λ p. t.allows list p.piece) (λ p. t.allows more p.piece)
      (λ p here. subst (λ (l : List Entry). t.allows l p.piece) (sym begins.1) (grows list begins.0 p.piece here))

  sent_moves : (a c : Content) (m m' n n' : ℕ) (list more : List Entry) (parts going : List Part) → BeginsWith more list → n ≤ n' → c.sent m' ≡ a.sent m → c.sent t.opened ≡ a.sent t.opened
      → SentAs a t.opened m (t.allows list) t.put_faults n parts going → SentAs c t.opened m' (t.allows more) t.put_faults n' parts going
  sent_moves a c m m' n n' list more parts going begins le same first s = record {
    is = same ∙ s.is ∙ ap (λ (l : List ℕ). l ++ joined parts ++ joined going) (sym first);
    allowed = under_more list more begins parts s.allowed;
    going_allowed = under_more list more begins going s.going_allowed;
    one = s.one;
    cut = omega (arith, s.cut, le);
  }

  -- what held of a moment so far goes on to hold of it
  still_safe : (a c : Content) (n n' m : ℕ) → Keeps a c → t.opened ≤ a.moment → m ≤ a.moment → n ≤ n' → SafeAt t a n m → SafeAt t c n' m
  still_safe a c n n' m keeps later le more safe = λ b at.
      let old = safe b (keeps.images m b le at) in
      let sent = old.3 in
      (old.0, old.1, old.2, (sent.0, sent.1, sent_moves a c m m n n' old.0 old.0 sent.0 sent.1 ([], sym (append-nil old.0)) more (keeps.sent m le) (keeps.sent t.opened later) sent.2))

  -- calls that send nothing, whose images are sound
  pub safe_silent : (Q : List ℕ → Type 0) (a c : Content) (n : ℕ) (list : List Entry) → IsSafe t a n list → Leaves Q a c → ((b : List ℕ) → Q b → SoundFor t.head t.limit list b) → IsSafe t c n list
  safe_silent Q a c n list safe run sound = record {
    later = omega (arith, safe.later, run.keeps.later);
    since = λ m from le. ⊎_elim
        (λ early. still_safe a c n n m run.keeps safe.later early (omega arith) (safe.since m from early))
        (λ late. λ b at.
        let here = sound b (run.images m late le b at) in (
          here.0,
          here.1,
          begins_then t.base list here.0 safe.begins here.2,
          (safe.sent.0, [], sent_moves a c a.moment m n n list here.0 safe.sent.0 [] here.2 (omega arith) (run.silent m late le) (run.keeps.sent t.opened safe.later) safe.sent.1),
        ))
        (le_or_lt m a.moment);
    present = λ b at. sound b (run.now b at);
    begins = safe.begins;
    sent = (safe.sent.0, sent_moves a c a.moment c.moment n n list list safe.sent.0 [] ([], sym (append-nil list)) (omega arith) (sent_at_end a c run.keeps run.silent) (run.keeps.sent t.opened safe.later) safe.sent.1);
  }

  -- the list grows once each image is sound for the longer one
  pub safe_longer : (c : Content) (n : ℕ) (list longer : List Entry) → IsSafe t c n list → BeginsWith longer list → ((b : List ℕ) → c.image c.moment b → SoundFor t.head t.limit longer b) → IsSafe t c n longer
  safe_longer c n list longer safe begins present = record {
    later = safe.later;
    since = safe.since;
    present = present;
    begins = begins_then t.base list longer safe.begins begins;
    sent = (safe.sent.0, sent_moves c c c.moment c.moment n n list longer safe.sent.0 [] begins (omega arith) refl refl safe.sent.1);
  }

joined-push : (parts : List Part) (p : Part) → joined (parts ++ p ∷ []) ≡ joined parts ++ take p.stands p.piece
joined-push [] p = append-nil (take p.stands p.piece)
joined-push (x ∷ parts) p = ap (λ (l : List ℕ). take x.stands x.piece ++ l) (joined-push parts p) ∙ sym (append_assoc (take x.stands x.piece) (joined parts) (take p.stands p.piece))

cut_count-push : (parts : List Part) (p : Part) → cut_count (parts ++ p ∷ []) ≡ cut_count parts + cut_count (p ∷ [])
cut_count-push [] p = omega arith
cut_count-push (x ∷ parts) p = omega (arith, cut_count-push parts p)

cut_one : (p : Part) → cut_count (p ∷ []) ≤ 1
cut_one p = grind (arith, nat_tests)

cut_none : (p : Part) → length p.piece ≤ p.stands → cut_count (p ∷ []) ≡ 0
cut_none p whole = grind (arith, nat_tests)

module _ (t : Terms) (grows : (list more : List Entry) (o : List ℕ) → t.allows list o → t.allows (list ++ more) o) where
  -- one piece more
  sent_piece : (a c : Content) (n n' k : ℕ) (list : List Entry) (parts : List Part) (octets : List ℕ) → t.allows list octets → c.sent c.moment ≡ a.sent a.moment ++ take k octets → c.sent t.opened ≡ a.sent t.opened
      → (min (t.put_faults + cut_count parts) (2 ^ 64 - 1) ≤ n → min (t.put_faults + (cut_count parts + cut_count ((record { piece = octets; stands = k }) ∷ []))) (2 ^ 64 - 1) ≤ n')
      → SentAs a t.opened a.moment (t.allows list) t.put_faults n parts [] → SentAs c t.opened c.moment (t.allows list) t.put_faults n' (parts ++ (record { piece = octets; stands = k }) ∷ []) []
  sent_piece a c n n' k list parts octets allowed same first counts s =
      let p : Part = record { piece = octets; stands = k } in
      record {
        is = same
            ∙ ap (λ (l : List ℕ). l ++ take k octets) (s.is ∙ append-nil (a.sent t.opened ++ joined parts))
            ∙ append_assoc (a.sent t.opened) (joined parts) (take k octets)
            ∙ ap (λ (l : List ℕ). l ++ (joined parts ++ take k octets)) (sym first)
            ∙ ap (λ (l : List ℕ). c.sent t.opened ++ l) (sym (joined-push parts p))
            ∙ sym (append-nil (c.sent t.opened ++ joined (parts ++ p ∷ [])));
        allowed = all_push (λ q. t.allows list q.piece) parts p s.allowed allowed;
        going_allowed = tt;
        one = omega arith;
        cut = omega (arith, cut_count-push parts p, counts s.cut);
      }

  -- a put
  pub safe_put : {T E : Type 0} (r : Result T E) (a c : Content) (n n' : ℕ) (list : List Entry) (octets : List ℕ) → IsSafe t a n list → t.allows list octets → Puts octets r a c → HasCause n n' r → IsSafe t c n' list
  safe_put r a c n n' list octets safe allowed put cause =
      let during : Meanwhile a c (λ m. (b : List ℕ) → c.image m b → SoundFor t.head t.limit list b) = λ m lt le b at. safe.present b ((put.images m lt le b).0 at) in
      let begins_same : BeginsWith list list = ([], sym (append-nil list)) in
      let first : c.sent t.opened ≡ a.sent t.opened = put.keeps.sent t.opened safe.later in
      let parts = safe.sent.0 in
      record {
        later = omega (arith, safe.later, put.keeps.later);
        since = λ m from le. ⊎_elim
            (λ early. still_safe t grows a c n n' m put.keeps safe.later early cause.later (safe.since m from early))
            (λ late. λ b at.
            let here = during m late le b at in
            let sending = put.sending m late le in
            let p : Part = record { piece = octets; stands = sending.0 } in
            let moved = sent_moves t grows a a a.moment a.moment n n' list here.0 parts [] here.2 cause.later refl refl safe.sent.1 in (
              here.0,
              here.1,
              begins_then t.base list here.0 safe.begins here.2,
              (
                parts,
                p ∷ [],
                record {
                  is = sending.2 ∙ ap (λ (l : List ℕ). l ++ take sending.0 octets) (safe.sent.1.is ∙ append-nil (a.sent t.opened ++ joined parts) ∙ ap (λ (l : List ℕ). l ++ joined parts) (sym first))
                      ∙ ap (λ (l : List ℕ). c.sent t.opened ++ joined parts ++ l) (sym (append-nil (take sending.0 octets)));
                  allowed = moved.allowed;
                  going_allowed = under_more t grows list here.0 here.2 (p ∷ []) (allowed, tt);
                  one = omega arith;
                  cut = moved.cut;
                },
              ),
            ))
            (le_or_lt m a.moment);
        present = now_after (SoundFor t.head t.limit list) a c put.keeps safe.present during;
        begins = safe.begins;
        sent = ended r put cause;
      }
    where
      ended : {T E : Type 0} (r : Result T E) → Puts octets r a c → HasCause n n' r → (parts : List Part) × SentAs c t.opened c.moment (t.allows list) t.put_faults n' parts []
      ended (Ok x) put cause =
          let p : Part = record { piece = octets; stands = length octets } in (
            safe.sent.0 ++ p ∷ [],
            sent_piece a c n n' (length octets) list safe.sent.0 octets allowed
                (put.whole ∙ ap (λ (l : List ℕ). a.sent a.moment ++ l) (sym (take_all (length octets) octets (omega arith)))) (put.keeps.sent t.opened safe.later)
                (λ cut. omega (arith, cut, cause.later, cut_none p (omega arith))) safe.sent.1,
          )
      ended (Err e) put cause =
          let end = sent_after (Err e) octets a c put in
          let p : Part = record { piece = octets; stands = end.0 } in (
            safe.sent.0 ++ p ∷ [],
            sent_piece a c n n' end.0 list safe.sent.0 octets allowed end.2 (put.keeps.sent t.opened safe.later)
                (λ cut. omega (arith, cut, cause.failed, cause.later, cut_one p)) safe.sent.1,
          )
