use Rattle.std.proofs.Common.{sym}
use Rattle.std.specs.Coded.{le_prop}
use Rattle.std.proofs.Math.Logic.{∥∥₁_elim, ∥∥₁_map}
use Rattle.dv_request.specs.DataView.{targets_of}
use Rattle.dv_request.specs.TargetView.{view_target}
use Rattle.dv_svc_pkc.specs.Slices.{octets_if}
use Rattle.dv_svc_pkc.proofs.Fitting.{entry_good, few_above, handed_pieces}
use Rattle.dv_svc_pkc.proofs.Requested.{target_fit}
use Rattle.dv_svc_pkc.proofs.Searches.{each_checked, target_good}
use Rattle.dv_svc_pkc.proofs.validation.found.Goals as goal

pub path_above-requires : goal.path_above-requires
path_above-requires g c = each_checked (targets_of c.args.request.now.matter) c.args.i (view_target c.in-Some.target) c.requires.checked (sym c.in-Some.ensures.target)

pub invariant_of-result : goal.invariant_of-result
invariant_of-result g c =
    let r = c.args.request.now in
    let t = view_target c.in-Some.target in
    let o = octets_if c.in_ok-above.above in
    let at = sym c.in-Some.ensures.target in
    let fit = target_fit r c.args.i t at in
    let good = (target_good t (each_checked (targets_of r.matter) c.args.i t c.requires.checked at)).1 in
    record {
      spelled = ∥∥₁_map fit.fits (λ f. (entry_good t o f fit.short (few_above c.args.trust.now c.args.when t o c.in_ok-above.ensures.found (handed_pieces t f good))).fits);
      short = ∥∥₁_elim fit.fits (hlevel le_prop) (λ f. (entry_good t o f fit.short (few_above c.args.trust.now c.args.when t o c.in_ok-above.ensures.found (handed_pieces t f good))).short);
    }
