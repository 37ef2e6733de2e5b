-- The value that lists targets.
use Rattle.std.proofs.Common.{◌≡◌, ◌<◌, ◌≤◌, ◌+◌, ◌++◌, ℕ, true, Option, Result, Ok, List, [], ◌∷◌, length, refl, sym, ap, subst, ◌∙◌, inr, arith}
use Rattle.std.specs.List.{flat_map}
use Rattle.std.specs.Coded.{le_prop}
use Rattle.std.proofs.Math.Nat.{ℕ_set}
use Rattle.std.proofs.Math.Logic.{∥∥₁_elim, ∥∥₁_map}
use mathlib.Core.Sum.{⊎_set}
use mathlib.Core.List.{is_set as List_set}
use Rattle.std.proofs.lemmas.List.{append-nil, length-append}
use Rattle.dv_schema.specs.declared.refusal.Der.{Der}
use Rattle.dv_schema.specs.Tlv.{tlv, length_octets}
use Rattle.dv_schema.specs.Octets.{IsBytes}
use Rattle.dv_schema.specs.Schema.{raw, ValueOf, spelling, spelled_if}
use Rattle.dv_schema.specs.Rules.{any_octets}
use Rattle.dv_schema.specs.Types.{primitive}
use Rattle.dv_schema.specs.Fits.{Fits}
use Rattle.dv_schema.specs.Decodes.{HasSpelling}
use Rattle.dv_schema.specs.Reading.{Spot, all_at, first_contents, read, taken}
use Rattle.dv_schema.proofs.Again.{spelled}
use Rattle.dv_schema.proofs.Items.{at}
use Rattle.dv_schema.proofs.Lists.{members_read}
use Rattle.dv_schema.proofs.Spellings.{fits_more}
use Rattle.dv_schema.proofs.Distinct.{first_is}
use Rattle.dv_schema.proofs.Moves.{moves}
use Rattle.dv_schema.proofs.Takes.{takes, taken_text}
use Rattle.dv_members.specs.Members.{front_of, values_in}
use Rattle.dv_request.specs.Targets.{targets_in}
use Rattle.dv_request.specs.Types.{dvcs_request, request_information, target_chain, target_chains}
use Rattle.dv_members.proofs.MemberLemmas.{list_values, values_spell}

-- a list of targets that was read, and its octets
pub record IsListed (p q : Spot) (contents : List ℕ) : Type 0 where
  pub whole : read (raw (target_chains 160)) p ≡ Ok (taken p q, q)
  pub targets : targets_in (taken p q) ≡ values_in target_chain contents
  pub shorter : length contents ≤ length p.rest
  pub less : length q.rest ≤ length p.rest

pub listed : (p q : Spot) (contents : List ℕ) → IsBytes p.rest → read (target_chains 160) p ≡ Ok (contents, q) → IsListed p q contents
unfolding read
listed p q contents bytes e =
    let t = takes (target_chains 160) p (contents, q) bytes e in
    let text = taken_text p q (tlv 160 contents) t.0.octets in
    let first : first_contents (tlv 160 contents) ≡ contents = ap first_contents (sym (append-nil (tlv 160 contents))) ∙ first_is 160 contents [] refl t.1.1 in
    let m = moves (target_chains 160) p (contents, q) e in
    let size = ap length t.0.octets in
    record {
      whole = rw e refl;
      targets = ap targets_in text ∙ ap (values_in target_chain) first;
      shorter = omega (arith, size, length-append (tlv 160 contents) q.rest, length-append (160 ∷ length_octets (length contents)) contents);
      less = omega (arith, m.less);
    }

-- what reading a value's contents answers is a set
contents_set : IsSet (Result (List ℕ × Spot) Der)
contents_set = let l : IsSet (List ℕ) = List_set ℕ_set in hlevel (l, ℕ_set, ⊎_set)

-- the octets of a value under this tag, and its contents
alone : (octets w : List ℕ) → octets ≡ tlv 160 w → length w < 18446744073709551616 → (first_contents octets ≡ w) × (read (primitive 160 any_octets) (front_of octets) ≡ Ok (w, at 32 (0 + length (tlv 160 w)) []))
alone octets w is small =
    let whole : octets ≡ tlv 160 w ++ [] = is ∙ sym (append-nil (tlv 160 w)) in
    (ap first_contents whole ∙ first_is 160 w [] refl small, spelled (primitive 160 any_octets) (front_of octets) w [] refl (omega arith, small, refl) whole)

-- the contents of a whole value that lists targets are read
pub contents_read : (octets : List ℕ) → ∥ HasSpelling (raw (target_chains 160)) octets ∥₁ → read (primitive 160 any_octets) (front_of octets) ≡ Ok (first_contents octets, at 32 (0 + length (tlv 160 (first_contents octets))) [])
unfolding HasSpelling
contents_read octets h =
    let end : List ℕ → Result (List ℕ × Spot) Der = λ w. Ok (w, at 32 (0 + length (tlv 160 w)) []) in
    ∥∥₁_elim h (contents_set (read (primitive 160 any_octets) (front_of octets)) (end (first_contents octets)))
    (λ f. (let a = alone octets f.0.0 f.0.1 f.0.2.1 in a.1 ∙ ap end (sym a.0)))

-- and have a spelling
pub contents_spelled : (octets : List ℕ) → ∥ HasSpelling (raw (target_chains 160)) octets ∥₁ → ∥ HasSpelling (target_chains 160) (first_contents octets) ∥₁
unfolding HasSpelling
contents_spelled octets h =
    let P : List ℕ → Type 0 = λ w. Fits (target_chains 160) 32 w × (length (spelling (target_chains 160) w) < 18446744073709551616) in
    ∥∥₁_map h (λ f. (let a = alone octets f.0.0 f.0.1 f.0.2.1 in subst P (sym a.0) (f.0.2, omega (arith, f.1, ap length f.0.1))))

-- the targets of such a value
pub targets_read : (octets : List ℕ) → ∥ HasSpelling (raw (target_chains 160)) octets ∥₁ → all_at (read target_chain) (length (first_contents octets)) (front_of (first_contents octets)) ≡ Ok (targets_in octets)
targets_read octets h =
    let c : List ℕ = first_contents octets in
    members_read target_chain true 0 (front_of c) (values_in target_chain c) (list_values target_chain true 160 0 c refl (contents_spelled octets h))

-- are not longer than it
pub targets_short : (octets : List ℕ) → ∥ HasSpelling (raw (target_chains 160)) octets ∥₁ → length (flat_map (spelling target_chain) (targets_in octets)) ≤ length octets
unfolding HasSpelling
targets_short octets h =
    let c : List ℕ = first_contents octets in
    let size : length c ≤ length octets =
    ∥∥₁_elim h (hlevel le_prop) (λ f. (let a = alone octets f.0.0 f.0.1 f.0.2.1 in omega (arith, ap length a.0, ap length f.0.1, length-append (160 ∷ length_octets (length f.0.0)) f.0.0))) in
    let is = values_spell target_chain true 160 c refl (contents_spelled octets h) in
    omega (arith, size, ap length is)

-- the list of targets in a request that has a spelling has one
pub certs_spelled : (info : ValueOf request_information) (octets : List ℕ) (transaction : Option (List ℕ)) → ∥ Fits dvcs_request 30 (info, (inr (inr octets), (transaction, tt))) ∥₁ → ∥ HasSpelling (raw (target_chains 160)) octets ∥₁
unfolding HasSpelling
certs_spelled info octets transaction h =
    let front : List ℕ = spelling request_information info in
    let more : List ℕ = spelled_if (λ (x : List ℕ). x) transaction ++ [] in
    ∥∥₁_map h (λ f. (let own : Fits (raw (target_chains 160)) 29 octets = f.2.1.0 in
    let short : length (front ++ (octets ++ more)) < 18446744073709551616 = f.1 in
    (fits_more (raw (target_chains 160)) 29 32 octets (omega arith) own, omega (arith, short, length-append front (octets ++ more), length-append octets more))))
