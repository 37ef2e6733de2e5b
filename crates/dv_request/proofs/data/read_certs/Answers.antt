use Rattle.std.proofs.Common.{Ok, List, ℕ, length, ap, sym, ◌∙◌, refl, arith}
use Rattle.std.proofs.lemmas.Result.{err_from_is_err_and}
use Rattle.dv_schema.specs.Reading.{read}
use Rattle.dv_schema.proofs.Nodes.{raw_fault}
use Rattle.dv_request.specs.Targets.{targets_in}
use Rattle.dv_request.specs.Types.{target_chains}
use Rattle.dv_request.proofs.DataLemmas.{IsListed, listed}
use Rattle.dv_request.proofs.data.read_certs.Goals as goal

pub returns-in_err-targets-clause-read : goal.returns-in_err-targets-clause-read
returns-in_err-targets-clause-read c =
    let p = err_from_is_err_and c.from_residual.result c.from_residual.ensures.1 in
    let bad = ap (read (target_chains 160)) (sym c.fork-next.ensures.same) ∙ c.in_err-targets.ensures.list.0 in
    rw (p.1, p.2) (raw_fault (target_chains 160) c.args.c.now c.in_err-targets.field-0.0 bad, refl)

pub up_to-raw-requires : goal.up_to-raw-requires
up_to-raw-requires c = (listed c.args.c.now c.read_counted.new.c c.in_ok-targets.field-0-0.now c.fork-next.ensures.octets (ap (read (target_chains 160)) (sym c.fork-next.ensures.same) ∙ c.in_ok-targets.ensures.list)).less

-- the list that was read
list : (c : goal.After-up_to-raw) → IsListed c.args.c.now c.read_counted.new.c c.in_ok-targets.field-0-0.now
list c = listed c.args.c.now c.read_counted.new.c c.in_ok-targets.field-0-0.now c.fork-next.ensures.octets (ap (read (target_chains 160)) (sym c.fork-next.ensures.same) ∙ c.in_ok-targets.ensures.list)

pub overflow_cast-result : goal.overflow_cast-result
overflow_cast-result c = let l = list c in omega (arith, l.shorter, c.in_ok-targets.ensures.few, c.requires)

pub returns-clause-read : goal.returns-clause-read
returns-clause-read c = (list c).whole ∙ ap (λ (o : List ℕ). Ok (o, c.read_counted.new.c)) (sym c.up_to-raw.ensures)

pub returns-clause-counted : goal.returns-clause-counted
returns-clause-counted c =
    c.in_ok-targets.ensures.count ∙ ap length (sym (list c).targets) ∙ ap (λ (o : List ℕ). length (targets_in o)) (sym c.up_to-raw.ensures)
