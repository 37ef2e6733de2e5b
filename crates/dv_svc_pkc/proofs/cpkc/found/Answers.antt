use Rattle.std.proofs.Common.{ℕ, List, sym, subst}
use Rattle.dv_parts.specs.Drafts.{AreTargets}
use Rattle.dv_svc_pkc.proofs.Drafted.{entries_are}
use Rattle.dv_svc_pkc.proofs.cpkc.found.Goals as goal

pub returns-clause-targets : goal.returns-clause-targets
returns-clause-targets c =
    subst (λ (l : List ℕ). AreTargets l) (sym c.in_ok-certs_of.ensures) (entries_are c.args.findings.now c.requires.some c.requires.few)
