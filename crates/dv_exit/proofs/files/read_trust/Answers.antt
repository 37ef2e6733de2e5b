-- An empty file is no trust file.
use Rattle.std.proofs.Common.{◌≡◌, ◌∙◌, [], Err, refl, sym, ap, subst}
use Rattle.std.specs.Result.{IsErrOf}
use Rattle.dv_path.specs.declared.faults.TrustFile.TheVariants.{Empty}
use Rattle.dv_exit.proofs.FileLemmas.{no_trust_file, none_in_nothing}
use Rattle.dv_exit.proofs.files.read_trust.Goals as goal

pub returns-in-Err-Empty-clause-none : goal.returns-in-Err-Empty-clause-none
returns-in-Err-Empty-clause-none g c = λ _.
    (let err = c.in-Err-Empty.is ∙ ap Err c.in-Err-Empty.field-0-is in
    let none = c.decode.ensures.empty.0 (subst (λ r. IsErrOf r Empty) (sym err) refl) in
    no_trust_file (g.F.Shelf.files c.args.shelf.now) c.args.name.now c.in-Ok.octets.items c.in-Ok.ensures.octets
    (none_in_nothing c.in-Ok.octets.items (sym c.deref.ensures.value ∙ none)))
