use Rattle.std.proofs.Common.{◌≡◌, ◌≤◌, ℕ, List, length, ap, sym, ◌∙◌, arith}
use Rattle.std.specs.Prelude.{MatchOption, Some, slice_get}
use Rattle.dv_schema.specs.Reading.{Spot, all_at, first_contents, read}
use Rattle.dv_schema.specs.Types.{primitive}
use Rattle.dv_schema.specs.Rules.{any_octets}
use Rattle.dv_schema.proofs.Tools.{ok_is}
use Rattle.dv_members.specs.Members.{front_of}
use Rattle.dv_request.specs.Targets.{targets_in}
use Rattle.dv_request.specs.TargetView.{view_target}
use Rattle.dv_request.specs.Types.{target_chain}
use Rattle.dv_request.proofs.DataLemmas.{contents_read, targets_read, targets_short}
use Rattle.dv_request.proofs.TargetLemmas.{links_counted}
use Rattle.dv_request.proofs.request.target_at.Goals as goal

pub returns-in-Err-clause-target : goal.returns-in-Err-clause-target
returns-in-Err-clause-target c =
    let good = ap (read (primitive 160 any_octets)) c.new-whole.ensures ∙ contents_read c.args.raw.now c.requires.spelled in
    let bad = c.in-Err.ensures.0 in
    absurd cc

-- the target that was found
found : (c : goal.After-member_at) → MatchOption c.member_at.result (length (targets_in c.args.raw.now) ≤ c.args.i) (λ t. slice_get (targets_in c.args.raw.now) c.args.i ≡ Some (view_target t))
found c =
    let good = ap (read (primitive 160 any_octets)) c.new-whole.ensures ∙ contents_read c.args.raw.now c.requires.spelled in
    let same : c.in-Ok.contents.now ≡ first_contents c.args.raw.now = ap (λ (x : List ℕ × Spot). x.0) (ok_is _ _ (sym c.in-Ok.ensures ∙ good)) in
    let here : c.new.result ≡ front_of (first_contents c.args.raw.now) = c.new.ensures ∙ ap front_of same in
    c.member_at.ensures (targets_in c.args.raw.now) (ap (λ (p : Spot). all_at (read target_chain) (length p.rest) p) here ∙ targets_read c.args.raw.now c.requires.spelled)

pub returns-in-Ok-clause-target : goal.returns-in-Ok-clause-target
returns-in-Ok-clause-target c = found c

pub returns-in-Ok-clause-links : goal.returns-in-Ok-clause-links
returns-in-Ok-clause-links c =
    let short = targets_short c.args.raw.now c.requires.spelled in
    links_counted c.member_at.result (targets_in c.args.raw.now) c.args.i (found c) (omega (arith, short, c.requires.short))
