-- What a seat knows after a call.
use Rattle.std.proofs.Common.{◌≡◌, ℕ, ◌+◌, ◌<◌, ◌≤◌, Bool, true, false, List, [], ◌∷◌, ◌++◌, length, refl, ap, sym, ◌∙◌, subst, arith}
use Rattle.std.specs.Prelude.{nat_lt}
use mathlib.Core.List.{IsPrefix}
use Rattle.dv_passes.specs.declared.view.Event.{Event}
use Rattle.dv_passes.specs.declared.view.View.{View}
use Rattle.dv_passes.specs.History.{StandIn, events_of, all_shares}
use Rattle.dv_passes.specs.Known.{Known, known, known_of, Rests}
use Rattle.dv_passes.specs.Plays.{Looked, Checked, Added, longer, shorter, merged, met, taken_in, turn_at, passed}
use Rattle.dv_passes.proofs.Prefixes.{prefix_self, prefix_trans, prefix_length}
use Rattle.dv_passes.proofs.Mines.{stand_snoc}
use Rattle.dv_passes.proofs.Moves.{longer_is}

-- The seat of the turn, with the view v, took in a pass with the view w, and looked. The pass that is parted from it has seen the whole history
pub record Shown (start : List Event) (v w x : View) : Type 0 where
  pub seen : x.seen ≡ v.seen
  pub rests : Rests start false (passed x)
  pub is : known_of x ≡ known v.seen w.mine w.share
  pub before : IsPrefix w.seen v.seen
  pub alone : w.share ≡ all_shares → v.seen ≡ start ++ events_of w.mine

pub shown : (start : List Event) (v w u : View) (n : ℕ) (x : View) → Rests start false w → u ≡ taken_in v w → Looked start u n x → Shown start v w x
shown start v w u n x rest is looked =
    let l = subst (λ (y : View). Looked start y n x) is looked in
    let seen : x.seen ≡ v.seen = l.turn refl in
    let mine : x.mine ≡ w.mine = ap (λ (y : View). y.mine) l.is in
    let share : x.share ≡ w.share = ap (λ (y : View). y.share) l.is in
    record {
      seen = seen;
      rests = record {
        told = refl;
        turn = refl;
        share = omega (arith, rest.share);
        begins = prefix_trans start w.seen x.seen rest.begins l.told;
        stand = subst (λ (m : List (ℕ × Event)). StandIn x.seen (length start) m) (sym mine) l.stand;
      };
      is = λ i. known (seen i) (mine i) (share i);
      before = subst (λ (s : List Event). IsPrefix w.seen s) seen l.told;
      alone = λ h. sym seen ∙ l.alone h;
    }

-- the same with an addition behind the look
pub record Grown (start : List Event) (v w : View) (e : Event) (y : View) : Type 0 where
  pub seen : y.seen ≡ v.seen ++ e ∷ []
  pub rests : Rests start false (passed y)
  pub is : known_of y ≡ known (v.seen ++ e ∷ []) (w.mine ++ (length v.seen, e) ∷ []) w.share
  pub before : IsPrefix w.seen v.seen
  pub alone : w.share ≡ all_shares → v.seen ≡ start ++ events_of w.mine

pub grown : (start : List Event) (v w u : View) (n : ℕ) (x : View) (e : Event) (m : ℕ) (y : View) → Rests start false w → u ≡ taken_in v w → Looked start u n x → Added e x m y → Grown start v w e y
grown start v w u n x e m y rest is looked a =
    let s = shown start v w u n x rest is looked in
    let seen : y.seen ≡ x.seen ++ e ∷ [] = ap (λ (z : View). z.seen) a.is in
    let mine : y.mine ≡ x.mine ++ (length x.seen, e) ∷ [] = ap (λ (z : View). z.mine) a.is in
    let share : y.share ≡ x.share = ap (λ (z : View). z.share) a.is in
    let now : y.seen ≡ v.seen ++ e ∷ [] = seen ∙ ap (λ (l : List Event). l ++ e ∷ []) s.seen in
    let own : y.mine ≡ w.mine ++ (length v.seen, e) ∷ [] = mine ∙ (λ i. (s.is i).mine ++ (length (s.seen i), e) ∷ []) in
    let part : y.share ≡ w.share = share ∙ ap (λ (k : Known). k.share) s.is in
    record {
      seen = now;
      rests = record {
        told = refl;
        turn = refl;
        share = omega (arith, rest.share);
        begins = subst (λ (l : List Event). IsPrefix start l) (sym seen) (prefix_trans start x.seen (x.seen ++ e ∷ []) s.rests.begins (e ∷ [], refl));
        stand = subst (λ (p : List Event × List (ℕ × Event)). StandIn p.0 (length start) p.1) (λ i. (sym seen i, sym mine i)) (stand_snoc x.seen (length start) x.mine e (prefix_length start x.seen s.rests.begins) s.rests.stand);
      };
      is = λ i. known (now i) (own i) (part i);
      before = s.before;
      alone = s.alone;
    }

pub record Met (start : List Event) (v w x : View) : Type 0 where
  pub rests : Rests start false x
  pub is : known_of x ≡ known (longer v.seen w.seen) (merged v.mine w.mine) (v.share + w.share)
  pub one : IsPrefix v.seen (longer v.seen w.seen)
  pub other : IsPrefix w.seen (longer v.seen w.seen)

-- two passes that met, after a load
pub met_is : (start : List Event) (v w x u : View) → Rests start false v → u ≡ met v w → Checked start u x → Met start v w x
met_is start v w x u rest is checked =
    let c = subst (λ (y : View). Checked start y x) is checked in
    let seen : x.seen ≡ longer v.seen w.seen = ap (λ (y : View). y.seen) c.is in
    let mine : x.mine ≡ merged v.mine w.mine = ap (λ (y : View). y.mine) c.is in
    let share : x.share ≡ v.share + w.share = ap (λ (y : View). y.share) c.is in
    let P : List Event → List Event → Type 0 = λ l t. (length t ≤ length l → IsPrefix t l) → IsPrefix v.seen l × IsPrefix w.seen l in
    let both = longer_is P v.seen w.seen (nat_lt (length v.seen) (length w.seen)) refl (λ lt told. (told (omega arith), prefix_self w.seen)) (λ le told. (prefix_self v.seen, told le)) c.told in
    record {
      rests = record {
        told = ap (λ (y : View). y.told) c.is;
        turn = ap (λ (y : View). y.turn) c.is ∙ rest.turn;
        share = omega (arith, rest.share);
        begins = subst (λ (s : List Event). IsPrefix start s) (sym seen) (prefix_trans start v.seen (longer v.seen w.seen) rest.begins both.0);
        stand = subst (λ (p : List Event × List (ℕ × Event)). StandIn p.0 (length start) p.1) (λ i. (sym seen i, sym mine i)) c.stand;
      };
      is = λ i. known (seen i) (mine i) (share i);
      one = both.0;
      other = both.1;
    }
