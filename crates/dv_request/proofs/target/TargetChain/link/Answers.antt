use Rattle.std.proofs.Common.{◌≡◌, ℕ, Option, Ok, List, length, ap, sym, subst, ◌∙◌, arith}
use Rattle.std.specs.Borrow.{Bor}
use Rattle.std.specs.Prelude.{min, option_map, slice_get}
use Rattle.std.specs.Option.{option_copied}
use Rattle.dv_schema.specs.Schema.{ValueOf}
use Rattle.dv_schema.specs.Reading.{Spot, all_at, read}
use Rattle.dv_schema.specs.Decodes.{HasSpelling}
use Rattle.dv_request.specs.Links.{links_in}
use Rattle.dv_members.specs.Members.{values_in}
use Rattle.dv_request.specs.PartViews.{view_path, view_token}
use Rattle.dv_request.specs.Types.{target_chain, token}
use Rattle.dv_members.proofs.MemberLemmas.{IsMember, member_is}
use Rattle.dv_request.proofs.TargetLemmas.{links_read}
use Rattle.dv_request.proofs.target.TargetChain.link.Goals as goal

-- the links of the chain
values : goal.After-member_at → List (ValueOf token)
values c = values_in token c.in-Some.links.now

-- what was found is the one at the index
found : (c : goal.After-member_at) → IsMember view_token c.member_at.result (values c) c.args.i
unfolding values
found c =
    let octets : List ℕ = c.in-Some.links.now in
    let P : Option (Bor (List ℕ)) → Type 0 = λ o. ∥ HasSpelling target_chain (view_token c.args.self.now.target, (option_copied o, (option_map view_path c.args.self.now.input, tt))) ∥₁ in
    let h = subst P c.in-Some.is c.args.self.now.spelled in
    let all = links_read (view_token c.args.self.now.target) octets (option_map view_path c.args.self.now.input) h in
    let here : all_at (read token) (length c.new.result.rest) c.new.result ≡ Ok (values c) = ap (λ (p : Spot). all_at (read token) (length p.rest) p) c.new.ensures ∙ all in
    member_is view_token c.member_at.result (values c) c.args.i (c.member_at.ensures (values c) here)

-- and the index is below the count
within : (c : goal.After-member_at) → c.args.self.now.chain ≡ min (length (values c)) 4294967295
unfolding values
within c = c.args.self.now.counted ∙ ap (λ (o : Option (Bor (List ℕ))). min (length (links_in (option_copied o))) 4294967295) c.in-Some.is

pub returns-in-Some-clause-none : goal.returns-in-Some-clause-none
returns-in-Some-clause-none c =
    let w = within c in
    (λ no. (let past = (found c).past no in omega arith), λ le. absurd (omega arith))

pub returns-in-Some-clause-link : goal.returns-in-Some-clause-link
unfolding values
returns-in-Some-clause-link c = λ _. (found c).same ∙ ap (λ (o : Option (Bor (List ℕ))). slice_get (links_in (option_copied o)) c.args.i) (sym c.in-Some.is)
