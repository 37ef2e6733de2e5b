-- Runs as lives of a register.
use Rattle.std.proofs.Common.{◌≡◌, ◌∙◌, ⊎_elim, ◌≤◌, ℕ, Bool, IsTrue, List, length, take, Some, None, ap, subst, refl, sym, arith}
use Rattle.std.proofs.lemmas.List.{take_at}
use Rattle.dv_outside.specs.Releases.{Entry}
use Rattle.dv_outside.specs.Station.{Content, Counts, Keeps, Leaves}
use Rattle.dv_outside.proofs.Moments.{le_or_lt}
use Rattle.dv_lms.specs.Height.{leaf_count}
use Rattle.dv_lms.specs.Identity.{Identity}
use Rattle.dv_lms.specs.Signed.{public_of}
use Rattle.dv_register.specs.Layout.{SoundFor, Stands, head_of}
use Rattle.dv_register.specs.Lives.{IsFirstLife, IsLifeWith, IsSafeFrom, line_of}
use Rattle.dv_register.specs.Opening.{KeepsSound}
use Rattle.dv_register.specs.Safe.{SafeAt}
use Rattle.dv_register.specs.State.{State, rule_identity}
use Rattle.dv_cert.specs.Certificates.{MayLeave}
use Rattle.dv_commands.specs.Runs.{GoesOn, IsLasting, IsRunOn, IsRunOnMade, life_of, opening_of}

-- what each image has at each moment of a run that leaves it so
image_in : (P : List ℕ → Type 0) (a b : Content) (m : ℕ) → Leaves P a b → ((i : List ℕ) → a.image a.moment i → P i) → a.moment ≤ m → m ≤ b.moment → (i : List ℕ) → b.image m i → P i
image_in P a b m run here from to i at = ⊎_elim
    (λ early.
    let same : m ≡ a.moment = omega (arith, early, from) in
    here i (run.keeps.images a.moment i (omega arith) (subst (λ n. b.image n i) same at)))
    (λ late. run.images m late to i at)
    (le_or_lt m a.moment)

module _ {V : Type 0} (tells : V → Bool) (content : V → Content) (counts : V → Counts) where
  -- the terms of a register, by what makes them
  abbrev SafeWith : V → Identity → ℕ → List Entry → V → ℕ → Type 0
  SafeWith opening key first base result m = SafeAt
      (record {
        opened = (content opening).moment;
        head = head_of (public_of key) first;
        limit = leaf_count key.height;
        base = base;
        allows = MayLeave (rule_identity key) first;
        put_faults = (counts opening).put_faults;
      })
      (content result) (counts result).put_faults m

  -- from its opening on a register was safe
  pub safe_from : (key : Identity) (first : ℕ) (station result : V) (old new : State V) (last : ℕ) → old.identity ≡ key → old.first ≡ first → old.base ≡ length old.list → old.opening ≡ old.station
      → GoesOn tells content counts result old new → IsTrue (tells old.station) → (content old.station).moment ≤ last → last ≤ (content result).moment
      → IsSafeFrom (line_of content counts MayLeave key first) (life_of content station result last (Some (opening_of content counts old))) (opening_of content counts old)
  safe_from key first station result old new last identity serial base opening goes told from to =
      let start : (content old.opening).moment ≡ (content old.station).moment = ap (λ (s : V). (content s).moment) opening in
      let told_new : IsTrue (tells new.station) = ap tells goes.station ∙ goes.tells_same ∙ told in
      let safe = goes.kept.safe told_new in
      let front : take new.base new.list ≡ old.list =
      ap (λ (l : List Entry). take new.base l) goes.begins.1 ∙ take_at old.list goes.begins.0 new.base (sym base ∙ sym goes.same.base) in
      let ends : (content new.station).moment ≡ (content result).moment = ap (λ (s : V). (content s).moment) goes.station in
      let begins : (content new.opening).moment ≡ (content old.opening).moment = ap (λ (s : V). (content s).moment) goes.same.opening in
      record {
        later = omega (arith, start, from);
        safe = λ m lo hi.
            let at_new : SafeWith new.opening new.identity new.first (take new.base new.list) new.station m = safe.since m (omega (arith, begins, lo)) (omega (arith, ends, hi, to)) in
            subst (λ (s : V). SafeWith old.opening key first old.list s m) goes.station
            (subst (λ (l : List Entry). SafeWith old.opening key first l new.station m) front
            (subst (λ (n : ℕ). SafeWith old.opening key n (take new.base new.list) new.station m) (goes.same.first ∙ serial)
            (subst (λ (k : Identity). SafeWith old.opening k new.first (take new.base new.list) new.station m) (goes.same.identity ∙ identity)
            (subst (λ (s : V). SafeWith s new.identity new.first (take new.base new.list) new.station m) goes.same.opening at_new))));
      }

  -- a run that opened a register is a life with that opening
  pub opened_life : (key : Identity) (station result : V) (opened closed : State V) (last : ℕ) → IsRunOn tells content counts key station result opened closed → IsTrue (tells station)
      → (content opened.station).moment ≤ last → last ≤ (content result).moment
      → IsLifeWith (line_of content counts MayLeave key opened.first) (life_of content station result last (Some (opening_of content counts opened))) (Some (opening_of content counts opened))
  opened_life key station result opened closed last run told from to =
      let o = run.is_opened in (
        safe_from key opened.first station result opened closed last o.identity refl o.base o.opening run.goes_on (o.tells_same ∙ told) from to,
        subst (λ (k : Identity). Stands (content station).reads (head_of (public_of k) opened.first) (leaf_count k.height) opened.list) o.identity (o.stands told),
      )

  -- what a run keeps, each of its moments keeps
  pub kept_life : (key : Identity) (first : ℕ) (station left result : V) (last : ℕ) → KeepsSound (public_of key) (leaf_count key.height) (content station) (content left) → IsLasting (content station)
      → Keeps (content left) (content result) → (content station).moment ≤ last → last ≤ (content left).moment
      → IsLifeWith (line_of content counts MayLeave key first) (life_of content station result last None) None
  kept_life key first station left result last keeps lasting later from to = λ list sound b at.
      let P : List ℕ → Type 0 = SoundFor (head_of (public_of key) first) (leaf_count key.height) list in
      let here : (i : List ℕ) → (content station).image (content station).moment i → P i = λ i is. subst P (sym (lasting i is)) sound in
      image_in P (content station) (content left) last (keeps first list here) here from to b (later.images last b to at)

  -- a run that made a register is its first life
  pub first_life : (key : Identity) (first : ℕ) (station result : V) (made closed : State V) (last : ℕ) → IsRunOnMade tells content counts key first station result made closed → IsTrue (tells station)
      → (content made.station).moment ≤ last → last ≤ (content result).moment
      → IsFirstLife (line_of content counts MayLeave key first) (life_of content station result last (Some (opening_of content counts made)))
  first_life key first station result made closed last run told from to =
      let o = run.is_made in (
        opening_of content counts made,
        refl,
        o.list,
        safe_from key first station result made closed last o.identity o.serial (o.base ∙ sym (ap length o.list)) o.opening run.goes_on (o.tells_same ∙ told) from to,
      )
