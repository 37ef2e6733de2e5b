use Rattle.dv_draft.proofs.StatusLemmas.{status_view}
use Rattle.dv_draft.proofs.service_status.Status.info.Goals as goal

pub returns : goal.returns
returns c = status_view c.new.result.status c.new.result.text c.new.result.fail c.args.self.now.status c.args.self.now.bit c.new.ensures.status c.new.ensures.text c.new.ensures.fail
