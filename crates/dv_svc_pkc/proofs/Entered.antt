-- The sizes of the parts of an entry.
use Rattle.std.proofs.Common.{◌≡◌, ◌≤◌, ◌+◌, ◌++◌, ◌∷◌, ◌∙◌, ℕ, true, false, Option, Some, None, List, [], length, map, sym, ap, arith}
use Rattle.std.specs.Borrow.{Bor}
use Rattle.std.specs.Prelude.{sum_by}
use Rattle.std.specs.declared.alloc.Global.{Global}
use Rattle.std.specs.declared.vec.Vec.{Vec}
use Rattle.std.specs.List.{flat_map}
use Rattle.std.proofs.lemmas.List.{append-nil, length-append}
use Rattle.dv_schema.specs.Tlv.{length_octets, tlv}
use Rattle.dv_schema.specs.Schema.{ValueOf, contents, sequence_of, spelled_if, spelling}
use Rattle.dv_status.specs.Types.{status_info}
use Rattle.dv_request.specs.Types.{path_input, target_chain, target_fields, token}
use Rattle.dv_svc_pkc.specs.Entries.{certificate_token, entry_with, granted_if, status_token, tokens_with}
use Rattle.dv_svc_pkc.specs.Slices.{octets_if, octets_of}
use Rattle.dv_parts.proofs.Flattened.{flat-append, flat-map, length-flat}

-- the contents octets of the chain of an entry
abbrev pub chain_with : Option (List (List ℕ)) → List ℕ
chain_with certificates = contents (sequence_of true token) (tokens_with certificates)

-- without a path that is the status alone
pub chain_none : chain_with None ≡ spelling (status_info 162) (granted_if false)
chain_none = append-nil (spelling (status_info 162) (granted_if false))

-- and with one it stands behind the certificates
pub chain_some : (slices : List (Bor (List ℕ))) → chain_with (Some (octets_of slices)) ≡ flat_map (λ s. s.now) slices ++ spelling (status_info 162) (granted_if true)
chain_some slices =
    let status : List ℕ = spelling (status_info 162) (granted_if true) in
    flat-append (spelling token) (map certificate_token (octets_of slices)) (status_token (granted_if true) ∷ [])
    ∙ (ap (λ (l : List ℕ). l ++ (status ++ [])) (flat-map (spelling token) certificate_token (octets_of slices) ∙ flat-map (λ (octets : List ℕ). octets) (λ (s : Bor (List ℕ)). s.now) slices)
    ∙ ap (λ (l : List ℕ). flat_map (λ (s : Bor (List ℕ)). s.now) slices ++ l) (append-nil status))

-- the parts of an entry
pub record HasParts (target : ValueOf token) (chain : List ℕ) (input : Option (ValueOf (path_input 160))) : Type 0 where
  pub fields : length (contents target_fields (target, (Some chain, (input, tt)))) ≡ length (spelling token target) + (1 + length (length_octets (length chain)) + length chain) + length (spelled_if (spelling (path_input 160)) input)
  pub whole : length (spelling target_chain (target, (Some chain, (input, tt)))) ≡ 1 + length (length_octets (length (contents target_fields (target, (Some chain, (input, tt)))))) + length (contents target_fields (target, (Some chain, (input, tt))))

pub has_parts : (target : ValueOf token) (chain : List ℕ) (input : Option (ValueOf (path_input 160))) → HasParts target chain input
has_parts target chain input =
    let a : List ℕ = spelling token target in
    let b : List ℕ = tlv 48 chain in
    let c : List ℕ = spelled_if (spelling (path_input 160)) input in
    let all : List ℕ = a ++ (b ++ (c ++ [])) in
    record {
      fields = omega (arith, length-append a (b ++ (c ++ [])), length-append b (c ++ []), length-append c [], length-append (48 ∷ length_octets (length chain)) chain);
      whole = omega (arith, length-append (48 ∷ length_octets (length all)) all);
    }

-- the chain of what was found with a path
pub chain_is : (o : Option (Vec (Bor (List ℕ)) Global)) (v : Vec (Bor (List ℕ)) Global) (slices : List (Bor (List ℕ))) → o ≡ Some v → slices ≡ v.items
    → chain_with (octets_if o) ≡ flat_map (λ s. s.now) slices ++ spelling (status_info 162) (granted_if true)
chain_is o v slices is same =
    let status : List ℕ = spelling (status_info 162) (granted_if true) in
    ap (λ (x : Option (Vec (Bor (List ℕ)) Global)). chain_with (octets_if x)) is ∙ (chain_some v.items ∙ ap (λ (l : List (Bor (List ℕ))). flat_map (λ (s : Bor (List ℕ)). s.now) l ++ status) (sym same))

-- and how many octets it has
pub length-chain : (o : Option (Vec (Bor (List ℕ)) Global)) (v : Vec (Bor (List ℕ)) Global) (slices : List (Bor (List ℕ))) → o ≡ Some v → slices ≡ v.items
    → length (chain_with (octets_if o)) ≡ sum_by (λ s. length s.now) slices + length (spelling (status_info 162) (granted_if true))
length-chain o v slices is same =
    omega (arith, ap length (chain_is o v slices is same), length-append (flat_map (λ (s : Bor (List ℕ)). s.now) slices) (spelling (status_info 162) (granted_if true)), length-flat (λ (s : Bor (List ℕ)). s.now) slices)

-- the chain of an entry isn't longer than the entry
pub chain_short : (t : ValueOf target_chain) (certificates : Option (List (List ℕ))) → length (chain_with certificates) ≤ length (spelling target_chain (entry_with t certificates))
chain_short t certificates = let p = has_parts t.0 (chain_with certificates) t.1.1.0 in omega (arith, p.fields, p.whole)
