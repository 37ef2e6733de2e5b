-- Gathering the certificates of a target, link by link.
use Rattle.std.proofs.Common.{◌≡◌, ◌≤◌, ◌<◌, ◌+◌, ◌++◌, ◌∷◌, ◌∙◌, append_assoc, ◌||◌, ℕ, Bool, true, false, eqb, ltb, not, is_some, Option, Some, None, Ok, Err, List, [], length, inl, inr, refl, sym, ap, arith}
use Rattle.std.specs.Borrow.{Bor}
use Rattle.std.specs.Option.{option_copied}
use Rattle.std.specs.Prelude.{if◌then◌else◌, option_to_list, unwrap_or}
use Rattle.std.specs.List.{filter_map, list_all}
use Rattle.std.proofs.lemmas.List.Folds.{list_all-map}
use Rattle.std.proofs.lemmas.Bool.Decides.{nat_tests}
use Rattle.std.proofs.lemmas.List.{append-nil, length-append}
use Rattle.dv_schema.specs.declared.refusal.Der.{Der}
use Rattle.dv_schema.specs.Schema.{ValueOf}
use Rattle.dv_schema.specs.Decodes.{HasSpelling}
use Rattle.dv_schema.specs.Reading.{Spot, all_at, read}
use Rattle.dv_schema.proofs.Counts.{member_fault, member_none, member_turn}
use Rattle.dv_members.specs.Members.{front_of}
use Rattle.dv_request.specs.Links.{links_in}
use Rattle.dv_request.specs.PartViews.{view_token}
use Rattle.dv_request.specs.declared.token.Token.{Token}
use Rattle.dv_request.specs.declared.token.Token.TheVariants.{Certificate, Status, Other}
use Rattle.dv_request.specs.Types.{path_input, target_chain, token}
use Rattle.dv_request.proofs.TargetLemmas.{links_read}
use Rattle.dv_svc_pkc.specs.Certificates.{certificate_of, certificates_of, chain_of, is_certificate, is_refused, target_failure}
use Rattle.dv_svc_pkc.specs.Slices.{octets_of}

-- these were gathered, and with those of the links that are left they are all of the target's
pub record Gathers (t : ValueOf target_chain) (gathered : List (List ℕ)) (p : Spot) : Type 0 where
  pub left : List (ValueOf token)
  pub reads : all_at (read token) (length p.rest) p ≡ Ok left
  pub all : gathered ++ filter_map certificate_of left ≡ certificates_of t

-- the links of a chain are read
left_read : (target : ValueOf token) (links : Option (List ℕ)) (input : Option (ValueOf (path_input 160))) → ∥ HasSpelling target_chain (target, (links, (input, tt))) ∥₁
    → all_at (read token) (length (unwrap_or links [])) (front_of (unwrap_or links [])) ≡ Ok (links_in links)
unfolding all_at
left_read target None input h = refl
left_read target (Some octets) input h = links_read target octets input h

-- before the first link, the target itself
pub gather_first : (target : ValueOf token) (own : List ℕ) (links : Option (List ℕ)) (input : Option (ValueOf (path_input 160))) (p : Spot) → target ≡ inl own → p ≡ front_of (unwrap_or links [])
    → ∥ HasSpelling target_chain (target, (links, (input, tt))) ∥₁ → Gathers (target, (links, (input, tt))) (own ∷ []) p
gather_first target own links input p is at h =
    record {
      left = links_in links;
      reads = ap (λ (q : Spot). all_at (read token) (length q.rest) q) at ∙ left_read target links input h;
      all = ap (λ (x : ValueOf token). option_to_list (certificate_of x) ++ filter_map certificate_of (links_in links)) (sym is);
    }

-- what a token adds
one_more : (gathered : List (List ℕ)) (x : ValueOf token) (more : List (ValueOf token))
    → (gathered ++ option_to_list (certificate_of x)) ++ filter_map certificate_of more ≡ gathered ++ filter_map certificate_of (x ∷ more)
one_more gathered (inl octets) more = append_assoc gathered (octets ∷ []) (filter_map certificate_of more)
one_more gathered (inr other) more = ap (λ (l : List (List ℕ)). l ++ filter_map certificate_of more) (append-nil gathered)

-- a link more
pub gather_next : (t : ValueOf target_chain) (gathered : List (List ℕ)) (p q : Spot) (x : ValueOf token) → eqb (length p.rest) 0 ≡ false → read token p ≡ Ok (x, q) → Gathers t gathered p
    → Gathers t (gathered ++ option_to_list (certificate_of x)) q
gather_next t gathered p q x some e g =
    let turn = member_turn token p (x, q) g.left some e g.reads in
    record {
      left = turn.0;
      reads = turn.1;
      all = one_more gathered x turn.0 ∙ (ap (λ (l : List (ValueOf token)). gathered ++ filter_map certificate_of l) turn.2 ∙ g.all);
    }

-- each link is read
pub gather_fault : (t : ValueOf target_chain) (gathered : List (List ℕ)) (p : Spot) (d : Der) → eqb (length p.rest) 0 ≡ false → read token p ≡ Err d → Gathers t gathered p → ⊥
gather_fault t gathered p d some e g = member_fault token p d g.left some e g.reads

-- behind the last link
pub gather_last : (t : ValueOf target_chain) (gathered : List (List ℕ)) (p : Spot) → eqb (length p.rest) 0 ≡ true → Gathers t gathered p → gathered ≡ certificates_of t
gather_last t gathered p none g =
    let no = member_none token p g.left none g.reads in
    sym (append-nil gathered) ∙ (ap (λ (l : List (ValueOf token)). gathered ++ filter_map certificate_of l) no ∙ g.all)

-- ---- how many

-- beside the target there are those of the chain
all_few : (o : Option (List ℕ)) (chain : List (List ℕ)) → length (option_to_list o ++ chain) ≤ 1 + length chain
all_few None chain = omega arith
all_few (Some octets) chain = omega arith

right_true : (a b : Bool) → b ≡ true → (a || b) ≡ true
right_true true b e = refl
right_true false b e = e

-- there are too many
pub too_many : (t : ValueOf target_chain) (gathered : List (List ℕ)) (p : Spot) → 16 < length gathered → Gathers t gathered p → is_refused t ≡ true
too_many t gathered p many g =
    let size = ap length g.all in
    let few = all_few (certificate_of t.0) (chain_of t) in
    let long : 15 < length (chain_of t) = omega (arith, size, few, length-append gathered (filter_map certificate_of g.left)) in
    let past : ltb 15 (length (chain_of t)) ≡ true = grind (arith, nat_tests) in
    right_true (not (is_some (certificate_of t.0))) (ltb 15 (length (chain_of t))) past

-- or not
pub few_enough : (target : ValueOf token) (own : List ℕ) (links : Option (List ℕ)) (input : Option (ValueOf (path_input 160))) (gathered : List (List ℕ)) → target ≡ inl own → length gathered ≤ 16
    → gathered ≡ certificates_of (target, (links, (input, tt))) → is_refused (target, (links, (input, tt))) ≡ false
few_enough (inl octets) own links input gathered is few same =
    let size = ap length same in
    let short : length (filter_map certificate_of (links_in links)) ≤ 15 = omega (arith, size, few) in
    grind (arith, nat_tests)
few_enough (inr other) own links input gathered is few same = absurd cc

-- the target is no certificate
pub no_target : (target : ValueOf token) (rest : Option (List ℕ) × (Option (ValueOf (path_input 160)) × Unit {0})) → certificate_of target ≡ None → is_refused (target, rest) ≡ true
no_target (inl octets) rest e = absurd cc
no_target (inr other) rest e = refl

-- the contents of a chain, or none
pub or_empty : (o : Option (Bor (List ℕ))) (d r : Bor (List ℕ)) → r ≡ unwrap_or o d → d.now ≡ [] → r.now ≡ unwrap_or (option_copied o) []
or_empty None d r e none = ap (λ (b : Bor (List ℕ)). b.now) e ∙ none
or_empty (Some x) d r e none = ap (λ (b : Bor (List ℕ)). b.now) e

-- a token that is no certificate adds nothing
pub no_more : (t : Token) → ((octets : Bor (List ℕ)) → t ≡ Certificate octets → ⊥) → certificate_of (view_token t) ≡ None
no_more (Certificate octets) h = absurd (h octets refl)
no_more (Status status) h = refl
no_more (Other octets) h = refl

-- the failure of a target that is a certificate, with a chain of few enough
pub judged : (t : ValueOf target_chain) (slices : List (Bor (List ℕ))) (b : Bool) → is_refused t ≡ false → octets_of slices ≡ certificates_of t → list_all (λ s. is_certificate s.now) slices ≡ b
    → target_failure t ≡ (if b then None else Some 5)
judged t slices b taken same are =
    let all : list_all is_certificate (certificates_of t) ≡ b = ap (list_all is_certificate) (sym same) ∙ (list_all-map is_certificate (λ s. s.now) slices ∙ are) in
    rw (taken, all) refl
