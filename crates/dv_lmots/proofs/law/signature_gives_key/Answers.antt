use Rattle.dv_lmots.proofs.Completed.{HasOtsForm-ots_of, candidate_of-ots_of}
use Rattle.dv_lmots.proofs.law.signature_gives_key.Goals as goal

pub returns : goal.returns
returns c = record {
  form = HasOtsForm-ots_of c.args.id.now c.args.seed.now c.args.q c.args.message.now;
  key = candidate_of-ots_of c.args.id.now c.args.seed.now c.args.q c.args.message.now;
}
