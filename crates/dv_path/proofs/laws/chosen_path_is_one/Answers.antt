use Rattle.dv_path.proofs.OnePath.{one_path}
use Rattle.dv_path.proofs.laws.chosen_path_is_one.Goals as goal

pub returns : goal.returns
returns c = one_path
