use Rattle.std.proofs.Common.{◌∙◌, ℕ, Ok, Err, List, ap, subst, sym, inl, inr}
use Rattle.std.specs.Borrow.{Bor}
use Rattle.dv_repeats.specs.Windows.{IsAscending, keys_of}
use Rattle.dv_schema.specs.Octets.{is_one_of}
use Rattle.dv_repeats.proofs.WindowLemmas.{among_more, ascending_more, ascending_at}
use Rattle.dv_repeats.proofs.window.Window.add.Goals.{in-Ok, in-Err}
use Rattle.dv_repeats.proofs.window.Window.add.Goals as goal

pub invariant_of-self : goal.invariant_of-self
invariant_of-self c =
    let keys : List (Bor (List ℕ)) = c.args.self.now.keys.items in
    let place = ascending_at keys c.as_slice.result.now c.args.key c.binary_search.result c.match-binary_search.place c.as_slice.ensures.value c.args.self.now.ascending c.binary_search.ensures.bound c.binary_search.ensures.position (elim c.match-binary_search.branch [
      | in-Ok w ↦ inl (w.in-Ok.is ∙ ap (λ (i : ℕ). Ok i) (sym w.place-is))
      | in-Err w ↦ inr (w.in-Err.is ∙ ap (λ (i : ℕ). Err i) (sym w.place-is))
    ]) in
    record { ascending = subst IsAscending (sym c.insert.ensures.items) (ascending_more keys c.match-binary_search.place c.args.key c.args.self.now.ascending place) }

pub returns-clause-keys : goal.returns-clause-keys
returns-clause-keys c = λ x. ap (λ (ks : List (Bor (List ℕ))). is_one_of (keys_of ks) x) c.insert.ensures.items ∙ among_more c.args.self.now.keys.items c.match-binary_search.place c.args.key x
