use Rattle.std.proofs.Common.{◌∙◌, List, ℕ, [], ap, get_or, map}
use Rattle.std.proofs.lemmas.List.{take_all}
use Rattle.dv_signed.specs.Certificates.{certificates_of}
use Rattle.dv_signed.specs.SignedView.{view_signed}
use Rattle.dv_svc_document.proofs.entering.certificates.Goals as goal

pub returns : goal.returns
returns c =
    let cs : List (List ℕ) = certificates_of (view_signed c.args.document.now.signed) in
    c.loop-position.invariant ∙ ap (map (λ p. get_or cs p [])) (take_all c.loop-position.position-index c.args.positions.now c.loop-position-test.false)
