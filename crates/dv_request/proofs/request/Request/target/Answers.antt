use Rattle.std.proofs.Common.{◌≡◌, length, ap, sym, subst, ◌∙◌, arith}
use Rattle.std.specs.Prelude.{slice_get}
use Rattle.std.specs.Option.{option_copied}
use Rattle.dv_schema.specs.Fits.{Fits}
use Rattle.dv_request.specs.declared.data.Data.{Data}
use Rattle.dv_request.specs.DataView.{count_of, targets_of, view_data}
use Rattle.dv_request.specs.InfoView.{view_info}
use Rattle.dv_request.specs.Targets.{targets_in}
use Rattle.dv_request.specs.TargetView.{view_target}
use Rattle.dv_request.specs.Types.{dvcs_request}
use Rattle.dv_request.proofs.DataLemmas.{certs_spelled}
use Rattle.dv_members.proofs.MemberLemmas.{IsMember, member_is}
use Rattle.dv_request.proofs.request.Request.target.Goals as goal

pub target_at-requires-clause-spelled : goal.target_at-requires-clause-spelled
target_at-requires-clause-spelled c =
    let P : Data → Type 0 = λ d. ∥ Fits dvcs_request 30 (view_info c.args.self.now.info, (view_data d, (option_copied c.args.self.now.transaction, tt))) ∥₁ in
    certs_spelled (view_info c.args.self.now.info) c.in-Certs.raw.now (option_copied c.args.self.now.transaction) (subst P c.in-Certs.is c.args.self.now.spelled)

-- the target that was found
found : (c : goal.After-target_at) → IsMember view_target c.target_at.result (targets_in c.in-Certs.raw.now) c.args.i
found c = member_is view_target c.target_at.result (targets_in c.in-Certs.raw.now) c.args.i c.target_at.ensures.target

-- how many there are
count : (c : goal.After-target_at) → count_of c.args.self.now.matter ≡ length (targets_in c.in-Certs.raw.now)
count c = c.args.self.now.counted ∙ ap (λ (d : Data). length (targets_of d)) c.in-Certs.is

pub returns-in-Certs-clause-none : goal.returns-in-Certs-clause-none
returns-in-Certs-clause-none c =
    let n = count c in
    (λ no. (let past = (found c).past no in omega arith), λ le. (found c).none (omega arith))

pub returns-in-Certs-clause-target : goal.returns-in-Certs-clause-target
returns-in-Certs-clause-target c = (found c).same ∙ ap (λ (d : Data). slice_get (targets_of d) c.args.i) (sym c.in-Certs.is)
