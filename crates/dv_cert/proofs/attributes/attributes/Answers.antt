use Rattle.std.proofs.Common.{◌∙◌, arith}
use Rattle.dv_cert.proofs.AttributeLemmas.{attributes_are}
use Rattle.dv_cert.proofs.attributes.attributes.Goals as goal

pub returns : goal.returns
returns c = c.fill_attributes.ensures ∙ attributes_are c.args.content.now c.args.own.now (omega arith) (omega arith)
