use Rattle.std.proofs.Common.{◌<◌, ◌∙◌, ℕ, List, Bor, Some, ap, length, sym, subst, arith, map}
use Rattle.std.specs.Prelude.{All}
use Rattle.std.proofs.lemmas.List.{length-map}
use Rattle.dv_request.specs.TargetView.{view_target}
use Rattle.dv_path.specs.Members.{member_of}
use Rattle.dv_path.specs.Paths.{IsChosen, Search}
use Rattle.dv_svc_pkc.specs.Certificates.{certificates_of}
use Rattle.dv_svc_pkc.specs.Entries.{above}
use Rattle.dv_svc_pkc.specs.Slices.{octets_of}
use Rattle.dv_svc_pkc.proofs.Searches.{same_search}
use Rattle.dv_svc_pkc.proofs.validation.path_above.Goals as goal

pub above_of-requires-clause-within : goal.above_of-requires-clause-within
above_of-requires-clause-within g c =
    let found = rw c.in-Some-2.is at c.in_ok-find_path.ensures.chosen in
    let members = found.is.members in
    let slices : List (Bor (List ℕ)) = c.deref.result.now in
    let a = ap length c.in_ok-bag.ensures in
    let b = length-map (octets_of slices) (member_of 160) in
    let d = length-map slices (λ (s : Bor (List ℕ)). s.now) in
    let e = ap length c.deref.ensures.value in
    let f = ap length c.deref-in-Some-2.ensures.value in
    subst (All (λ p. p < length c.deref-in-Some-2.result.now)) (sym c.as_slice.ensures) (λ k x lt. omega (arith, members k x lt, a, b, d, e, f))

pub returns-clause-found : goal.returns-clause-found
returns-clause-found g c =
    let t = c.args.target.now in
    let path = c.in-Some-2.path in
    let found = rw c.in-Some-2.is at c.in_ok-find_path.ensures.chosen in
    let handed = rw c.in-Some.is at c.in_ok-certificates.ensures in
    let bag = c.in_ok-bag.ensures ∙ ap (map (member_of 160)) (ap octets_of c.deref.ensures.value ∙ handed.1) in
    let search = same_search c.args.trust.now c.args.when t c.in_ok-bag.bag c.as_ref.result bag c.as_ref.ensures.value in
    let chosen = subst (λ (s : Search). IsChosen s path.positions path.anchor) search found in
    let certificates = ap octets_of c.deref-in-Some-2.ensures.value ∙ handed.1 in
    record {
      path = Some path.positions;
      right = (path.anchor, chosen);
      is = ap Some (c.in_ok-above_of-in-Some-2.ensures ∙ (ap (λ (cs : List (List ℕ)). above cs c.as_slice.result.now) certificates ∙ ap (above (certificates_of (view_target t))) c.as_slice.ensures));
    }
