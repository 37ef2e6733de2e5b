use Rattle.std.proofs.Common.{◌∙◌, length, ap, arith}
use Rattle.dv_schema.specs.Schema.{ValueOf}
use Rattle.dv_schema.specs.Reading.{Spot, taken}
use Rattle.dv_schema.proofs.Moves.{moves}
use Rattle.dv_names.specs.Views.{view_algorithm}
use Rattle.dv_x509.specs.Fields.{view_bits}
use Rattle.dv_x509.specs.TbsView.{view_tbs}
use Rattle.dv_x509.specs.Types.{tbs_certificate}
use Rattle.dv_x509.proofs.WholeLemmas.{contents_are, signed_is}
use Rattle.dv_x509.proofs.whole.Whole.read.Goals as goal

pub up_to-signed-requires : goal.up_to-signed-requires
up_to-signed-requires c =
    let x : ValueOf tbs_certificate × Spot = (view_tbs c.in-Ok.tbs, c.read.new.c) in
    let m = moves tbs_certificate c.in_ok-inside.inside x c.in-Ok.ensures in
    omega (arith, m.less, ap (λ (p : Spot). length p.rest) c.fork-start.ensures.same)

pub returns-clause-body : goal.returns-clause-body
returns-clause-body c =
    c.rest.ensures ∙ ap (λ (p : Spot). p.rest) c.fork-start.ensures.same
    ∙ contents_are c.in_ok-inside.inside c.read.new.c c.read-2.new.c c.read_bits.new.self (view_tbs c.in-Ok.tbs) (view_algorithm c.in_ok-alg.alg) (view_bits c.in_ok-signature.signature)
    c.fork-start.ensures.octets c.in-Ok.ensures c.in_ok-alg.ensures c.in_ok-signature.ensures c.in_ok-finish.ensures

pub returns-clause-signed : goal.returns-clause-signed
returns-clause-signed c =
    c.up_to-signed.ensures ∙ ap (λ (p : Spot). taken p c.read.new.c) c.fork-start.ensures.same
    ∙ signed_is c.in_ok-inside.inside c.read.new.c (view_tbs c.in-Ok.tbs) c.fork-start.ensures.octets c.in-Ok.ensures
