use Rattle.std.proofs.Common.{◌<◌, ◌≤◌, refl, sym, ◌∙◌}
use Rattle.std.proofs.Math.Nat.{lt_of_not-le}
use Rattle.std.specs.Option.{option_copied}
use Rattle.dv_request.specs.Materials.{octets_in}
use Rattle.dv_request.proofs.MessageLemmas.{request_longer}
use Rattle.dv_request.proofs.make.make_request.Goals as goal

-- the material is past the limit
long : (c : goal.Then-not-is_short) → 262144 < octets_in c.args.material.now
long c =
    let bad = c.if-not-is_short.true in
    let other : octets_in c.args.material.now ≤ 262144 → ⊥ = λ le. (let good = c.is_short.ensures.1 le in absurd cc) in
    lt_of_not-le other

pub returns-then-not-is_short-clause-too_long : goal.returns-then-not-is_short-clause-too_long
returns-then-not-is_short-clause-too_long c =
    let more = request_longer c.args.service c.args.material.now (option_copied c.args.nonce) c.args.at (long c) in
    (λ _. (sym c.is_good.ensures ∙ c.if-not-is_good.false, more), λ _. refl)
