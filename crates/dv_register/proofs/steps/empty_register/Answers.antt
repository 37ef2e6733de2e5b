-- The head and a closed gate, laid over zeros.
use Rattle.std.proofs.Common.{◌≡◌, subst, List, ℕ, length, refl, rules}
use Rattle.std.specs.Prelude.{replicate}
use Rattle.dv_outside.specs.Station.{Holds}
use Rattle.dv_register.specs.Layout.{magic}
use Rattle.dv_register.proofs.MemoryLemmas.{head_laid}
use Rattle.dv_register.proofs.steps.empty_register.Goals as goal

pub returns : goal.returns
returns c =
    let sixty : length c.args.key.now ≡ 60 = search rules in
    head_laid (replicate 77 0) magic c.args.key.now _ _ _ c.args.first refl sixty refl refl c.lay.ensures c.lay-2.ensures
    (subst (λ (l : List ℕ). Holds c.lay-2.new.octets 68 l c.lay-3.new.octets) c.to_be_bytes.ensures c.lay-3.ensures)
