use Rattle.std.proofs.Common.{◌≡◌, ◌∙◌, ◌++◌, ◌∷◌, [], ℕ, List, true, false, eqb, length, sym, ap, subst}
use Rattle.std.specs.Borrow.{Bor}
use Rattle.std.proofs.lemmas.List.{map-append}
use Rattle.dv_schema.specs.Reading.{Spot}
use Rattle.dv_schema.specs.Schema.{ValueOf}
use Rattle.dv_schema.proofs.Moves.{moves}
use Rattle.dv_names.specs.Types.{policy_information}
use Rattle.dv_names.specs.Views.{view_policy}
use Rattle.dv_path.specs.Rows.{octets_of}
use Rattle.dv_path.proofs.PolicyLists.{AreNames, all_names, fault_names, next_name}
use Rattle.dv_path.proofs.demand.policies.Goals as goal

pub returns-in-Err : goal.returns-in-Err
returns-in-Err c =
    let some : eqb (length c.loop-next.next.rest) 0 ≡ false = sym c.at_end.ensures ∙ c.loop-next-test.true in
    ap octets_of c.new.ensures.items ∙ fault_names c.args.octets.now (octets_of c.loop-next.policies.items) c.loop-next.next c.in-Err.field-0 c.loop-next.invariant some c.in-Err.ensures.0

pub loop-next-smaller : goal.loop-next-smaller
loop-next-smaller c =
    let x : ValueOf (policy_information 48) × Spot = (view_policy c.in-Ok.policy, c.read.new.c) in
    (moves (policy_information 48) c.loop-next.next x c.in-Ok.ensures).less

pub loop-next-preserved : goal.loop-next-preserved
loop-next-preserved c =
    let some : eqb (length c.loop-next.next.rest) 0 ≡ false = sym c.at_end.ensures ∙ c.loop-next-test.true in
    let v : ValueOf (policy_information 48) = view_policy c.in-Ok.policy in
    let pushed : octets_of c.push.new.self.items ≡ octets_of c.loop-next.policies.items ++ v.0 ∷ [] = ap octets_of c.in_ok-push-in-Ok.ensures.items ∙ map-append (λ (s : Bor (List ℕ)). s.now) c.loop-next.policies.items (c.in-Ok.policy.oid.octets ∷ []) in
    subst (λ (names : List (List ℕ)). AreNames c.args.octets.now names c.read.new.c) (sym pushed)
    (next_name c.args.octets.now (octets_of c.loop-next.policies.items) c.loop-next.next c.read.new.c v c.loop-next.invariant some c.in-Ok.ensures)

pub returns : goal.returns
returns c =
    let none : eqb (length c.loop-next.next.rest) 0 ≡ true = sym c.at_end.ensures ∙ c.loop-next-test.false in
    all_names c.args.octets.now (octets_of c.loop-next.policies.items) c.loop-next.next c.loop-next.invariant none
