-- Where the keys differ there is no desk.
use Rattle.std.proofs.Common.{ℕ, List, subst, sym}
use Rattle.dv_lms.specs.Signed.{public_of}
use Rattle.dv_exit.specs.Files.{another_key, Files, HasCertificates}
use Rattle.dv_exit.proofs.FileLemmas.{other_key}
use Rattle.dv_exit.proofs.files.read_desk.Goals as goal

pub returns-then-not-is_key_of-clause-none : goal.returns-then-not-is_key_of-clause-none
returns-then-not-is_key_of-clause-none g c = λ _.
    another_key c.in_ok-key.key c.in-Ok.server.certificates c.in_ok-key.ensures.key
    (subst (λ (f : Files). HasCertificates f c.args.names.now.certificate.now c.in-Ok.server.certificates) c.in_ok-key.ensures.files
    (subst (λ (l : List (List ℕ)). HasCertificates (g.F.Shelf.files c.read_key.new.shelf) c.args.names.now.certificate.now l) (sym c.in-Ok.ensures.certificates)
    c.in_ok-certificates.ensures.certificates))
    (other_key c.as_slice.result.now c.index-as_slice-0.result c.in-Ok.server.certificates c.as_slice-2.result.now (public_of c.in_ok-key.key) c.is_key_of.result
    c.as_slice.ensures c.in-Ok.server.some c.index-as_slice-0.is c.as_slice-2.ensures.value c.is_key_of.ensures c.if-not-is_key_of.true)
