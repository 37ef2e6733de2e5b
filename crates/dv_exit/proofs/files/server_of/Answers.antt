-- What the file's certificates and the line's policy are makes a server.
use Rattle.std.proofs.Common.{◌≡◌, List, ℕ, false, true, subst, sym}
use Rattle.std.specs.Prelude.{Option}
use Rattle.std.specs.Option.{ForSome}
use Rattle.dv_draft.specs.Servers.{IsPolicyName}
use Rattle.dv_exit.proofs.LineLemmas.{policy_is_named}
use Rattle.dv_exit.proofs.files.server_of.Goals as goal

pub unreachable-requires : goal.unreachable-requires
unreachable-requires c =
    let is : false ≡ true = c.in-None.ensures.exact.1 (record {
      some = c.requires.1.some;
      few = c.requires.1.few;
      decoded = c.requires.1.decoded;
      named = subst (λ (p : Option (List ℕ)). ForSome p IsPolicyName) (sym c.in_ok-policy.ensures) (policy_is_named c.args.policy);
    }) in
    (cc)
