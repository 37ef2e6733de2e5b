use Rattle.dv_signed.specs.SignerView.{view_signer}
use Rattle.dv_svc_document.specs.Named.{is_named_by}
use Rattle.dv_svc_document.proofs.Positions.{GoesOn}
use Rattle.dv_svc_document.proofs.named.named.Given as goal

abbrev pub invariant-loop-position : goal.invariant-loop-position
invariant-loop-position l = GoesOn (is_named_by (view_signer l.signer)) l.bag l.position
