-- What lives keep of one another.
use Rattle.std.proofs.Common.{◌≡◌, ℕ, zero, suc, List, [], ◌∷◌, ◌++◌, length, subst, refl, sym, arith}
use Rattle.std.proofs.lemmas.List.{append-nil}
use Rattle.std.specs.Prelude.{Option, Some, None, slice_get}
use Rattle.std.specs.List.{AllByRecursion}
use Rattle.dv_outside.specs.Releases.{Entry}
use Rattle.dv_register.specs.Layout.{BeginsWith, SoundFor}
use Rattle.dv_register.specs.Lives.{Opening, Life, Line, IsSafeFrom, IsLifeWith, GoesOn, IsHistory, Inherits, KeepsOf, EachKeeps}
use Rattle.dv_register.proofs.SafeLemmas.{all_weaker, begins_then}
use Rattle.dv_register.proofs.CloseLemmas.{stands_begins}

-- a record of a front stands in the whole
in_front : (front more : List Entry) (index : ℕ) (e : Entry) → slice_get front index ≡ Some e → slice_get (front ++ more) index ≡ Some e
in_front [] more index e is = absurd (cc)
in_front (x ∷ front) more zero e is = is
in_front (x ∷ front) more (suc index) e is = in_front front more index e is

module _ {V : Type 0} (line : Line V) (size : length line.head ≡ 76) where
  -- what the end of a life leaves is sound for a list that begins with each for which its beginning was
  after_life : (list : List Entry) (life : Life V) (opening : Option Opening) → IsLifeWith line life opening → SoundFor line.head line.limit list life.octets
      → (b : List ℕ) → (line.content life.station).image life.last b → SoundFor line.head line.limit list b
  after_life list life None lived sound b at = lived list sound b at
  after_life list life (Some o) lived sound b at =
      let here = lived.0.safe life.last lived.0.later (omega arith) b at in
      (here.0, here.1, begins_then list o.list here.0 (stands_begins life.octets line.head line.head line.limit o.list list size size lived.1 sound) here.2)

  abbrev Opens : List Entry → Life V → Type 0
  Opens list life = (later : Opening) → life.opening ≡ Some later → BeginsWith later.list list

  opens : (list : List Entry) (life : Life V) (opening : Option Opening) → life.opening ≡ opening → IsLifeWith line life opening → SoundFor line.head line.limit list life.octets → Opens list life
  opens list life None is lived sound = λ later same. absurd (cc)
  opens list life (Some o) is lived sound = λ later same.
      let one : o ≡ later = cc in
      subst (λ (p : Opening). BeginsWith p.list list) one (stands_begins life.octets line.head line.head line.limit o.list list size size lived.1 sound)

  carried : (list : List Entry) (life : Life V) (lives : List (Life V)) → IsLifeWith line life life.opening → GoesOn line life lives → SoundFor line.head line.limit list life.octets
      → AllByRecursion (Opens list) (life ∷ lives)
  carried list life [] lived goes sound = (opens list life life.opening refl lived sound, tt)
  carried list life (next ∷ lives) lived goes sound =
      (opens list life life.opening refl lived sound, carried list next lives goes.1 goes.2 (after_life list life life.opening lived sound next.octets goes.0))

  -- what the later lives keep of one that was opened and safe
  kept : (life : Life V) (o : Opening) (lives : List (Life V)) → life.opening ≡ Some o → IsSafeFrom line life o → GoesOn line life lives → AllByRecursion (KeepsOf line life) lives
  kept life o [] is safe goes = tt
  kept life o (next ∷ lives) is safe goes =
      let here = safe.safe life.last safe.later (omega arith) next.octets goes.0 in
      let later = carried here.0 next lives goes.1 goes.2 (here.0, here.1, ([], sym (append-nil here.0))) in
      all_weaker (Opens here.0) (KeepsOf line life)
      (λ other begins. λ o' after same is_after.
      let one : o ≡ o' = cc in
      subst (λ (p : Opening). Inherits line life p after) one
      (let from = begins after is_after in
      record {
        begins = begins_then o.list here.0 after.list here.2 from;
        records = here.0;
        sent = here.3;
        stand = λ index e at. subst (λ (l : List Entry). slice_get l index ≡ Some e) (sym from.1) (in_front here.0 from.0 index e at);
      }))
      (next ∷ lives) later

  -- a life without an opening gave nothing
  none_kept : (life : Life V) (lives : List (Life V)) → life.opening ≡ None → AllByRecursion (KeepsOf line life) lives
  none_kept life [] is = tt
  none_kept life (next ∷ lives) is = ((λ o later same after. absurd (cc)), none_kept life lives is)

  kept_with : (life : Life V) (opening : Option Opening) (lives : List (Life V)) → life.opening ≡ opening → IsLifeWith line life opening → GoesOn line life lives → AllByRecursion (KeepsOf line life) lives
  kept_with life None lives is lived goes = none_kept life lives is
  kept_with life (Some o) lives is lived goes = kept life o lives is lived.0 goes

  each_later : (life : Life V) (lives : List (Life V)) → GoesOn line life lives → EachKeeps line lives
  each_later life [] goes = tt
  each_later life (next ∷ lives) goes = (kept_with next next.opening lives refl goes.1 goes.2, each_later next lives goes.2)

  pub each_keeps : (lives : List (Life V)) → IsHistory line lives → EachKeeps line lives
  each_keeps [] history = tt
  each_keeps (life ∷ lives) history = (kept life history.0.0 lives history.0.1 history.0.3 history.1, each_later life lives history.1)
