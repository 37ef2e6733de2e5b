-- The links of a target.
use Rattle.std.proofs.Common.{◌≡◌, ◌<◌, ◌≤◌, ◌++◌, ◌∷◌, ℕ, true, Option, Some, None, Ok, List, [], length, refl, arith}
use Rattle.std.specs.Prelude.{IfSome, MatchOption, option_map, slice_get}
use Rattle.std.specs.List.{flat_map}
use Rattle.std.specs.Option.{option_copied}
use Rattle.std.proofs.lemmas.List.{length-append}
use Rattle.std.proofs.Math.Logic.{∥∥₁_map}
use Rattle.dv_schema.specs.Tlv.{length_octets}
use Rattle.dv_schema.specs.Schema.{ValueOf, spelling, spelled_if}
use Rattle.dv_schema.specs.Fits.{Fits}
use Rattle.dv_schema.specs.Types.{list_of}
use Rattle.dv_schema.specs.Reading.{all_at, read}
use Rattle.dv_schema.specs.Decodes.{HasSpelling}
use Rattle.dv_schema.proofs.Lists.{member_short, members_few, members_read}
use Rattle.dv_schema.proofs.Moves.{read_moves}
use Rattle.dv_schema.proofs.Spellings.{fits_more}
use Rattle.dv_request.specs.declared.target.TargetChain.{TargetChain}
use Rattle.dv_request.specs.Links.{links_in}
use Rattle.dv_request.specs.PartViews.{view_path, view_token}
use Rattle.dv_request.specs.TargetView.{links_of, view_target}
use Rattle.dv_members.specs.Members.{front_of, values_in}
use Rattle.dv_request.specs.Types.{path_input, target_chain, token}
use Rattle.dv_members.proofs.MemberLemmas.{list_values}

-- the chain of a target that has a spelling has one
links_spelled : (target : ValueOf token) (octets : List ℕ) (input : Option (ValueOf (path_input 160))) → ∥ HasSpelling target_chain (target, (Some octets, (input, tt))) ∥₁ → ∥ HasSpelling (list_of 48 true token) octets ∥₁
unfolding HasSpelling
links_spelled target octets input h =
    ∥∥₁_map h (λ f. (let own : Fits (list_of 48 true token) 31 octets = f.0.2.1.0 in
    let front : List ℕ = spelling token target in
    let links : List ℕ = spelling (list_of 48 true token) octets in
    let more : List ℕ = spelled_if (spelling (path_input 160)) input ++ [] in
    let short : length (front ++ (links ++ more)) < 18446744073709551616 = f.0.1 in
    (fits_more (list_of 48 true token) 31 32 octets (omega arith) own, omega (arith, short, length-append front (links ++ more), length-append links more))))

-- so its links are read
pub links_read : (target : ValueOf token) (octets : List ℕ) (input : Option (ValueOf (path_input 160))) → ∥ HasSpelling target_chain (target, (Some octets, (input, tt))) ∥₁
    → all_at (read token) (length octets) (front_of octets) ≡ Ok (values_in token octets)
links_read target octets input h =
    members_read token true 0 (front_of octets) (values_in token octets) (list_values token true 48 0 octets refl (links_spelled target octets input h))

-- and there are at most as many as octets
pub links_few : (target : ValueOf token) (links : Option (List ℕ)) (input : Option (ValueOf (path_input 160))) → ∥ HasSpelling target_chain (target, (links, (input, tt))) ∥₁
    → length (links_in links) ≤ length (spelling target_chain (target, (links, (input, tt))))
links_few target None input h = omega arith
links_few target (Some octets) input h =
    let few = members_few (read token) (read_moves token) (length octets) (front_of octets) (values_in token octets) (links_read target octets input h) in
    let front : List ℕ = spelling token target in
    let links : List ℕ = spelling (list_of 48 true token) octets in
    let more : List ℕ = spelled_if (spelling (path_input 160)) input ++ [] in
    let all : List ℕ = front ++ (links ++ more) in
    let own = length-append (48 ∷ length_octets (length octets)) octets in
    let whole = length-append (48 ∷ length_octets (length all)) all in
    omega (arith, few, own, whole, length-append front (links ++ more), length-append links more)

-- a target that is one of those that few octets spell has as many links as it says
pub links_counted : (r : Option TargetChain) (vs : List (ValueOf target_chain)) (i : ℕ) → MatchOption r (length vs ≤ i) (λ t. slice_get vs i ≡ Some (view_target t)) → length (flat_map (spelling target_chain) vs) < 4294967296
    → IfSome r (λ t. t.chain ≡ length (links_of t))
links_counted None vs i h short = tt
links_counted (Some t) vs i h short =
    let m = member_short (spelling target_chain) vs i (view_target t) h in
    let few = links_few (view_token t.target) (option_copied t.links) (option_map view_path t.input) t.spelled in
    let same = t.counted in
    omega (arith, m, few, short, same)
