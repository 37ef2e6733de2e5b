-- The policies of an input, as far as they were read.
use Rattle.std.proofs.Common.{◌≡◌, ◌∙◌, ◌++◌, ℕ, true, false, eqb, Result, Ok, Err, List, [], ◌∷◌, length, refl, sym, ap, append_assoc}
use Rattle.std.specs.Prelude.{map}
use Rattle.std.proofs.lemmas.Bool.{eqb-true}
use Rattle.std.proofs.lemmas.List.{append-nil, map-append}
use Rattle.dv_schema.specs.declared.refusal.Der.{Der}
use Rattle.dv_schema.specs.Answers.{skipped}
use Rattle.dv_schema.specs.Schema.{Schema, ValueOf}
use Rattle.dv_schema.specs.Reading.{Spot, ◌>>=◌, all_at, read}
use Rattle.dv_schema.proofs.Moves.{read_moves, skip_err}
use Rattle.dv_schema.proofs.Orders.{all_one}
use Rattle.dv_names.specs.Types.{policy_information}
use Rattle.dv_members.specs.Members.{front_of, or_none, values_in}
use Rattle.dv_path.specs.Demands.{policies_in}

-- these values, and then those at the spot
abbrev then_those : {A : Type 0} → List A → Result (List A) Der → Result (List A) Der
then_those seen r = r >>= λ xs. Ok (seen ++ xs)

-- The octets are read as these values and those that are read at the spot.
pub record AreRead (s : Schema) (octets : List ℕ) (seen : List (ValueOf s)) (p : Spot) : Type 0 where
  pub is : all_at (read s) (length octets) (front_of octets) ≡ then_those seen (all_at (read s) (length p.rest) p)

-- before the first one
first_of : {A : Type 0} (r : Result (List A) Der) → r ≡ then_those [] r
first_of (Ok xs) = refl
first_of (Err d) = refl

pub read_none : (s : Schema) (octets : List ℕ) → AreRead s octets [] (front_of octets)
read_none s octets = record { is = first_of (all_at (read s) (length octets) (front_of octets)) }

-- behind the next one
turned : {A : Type 0} (seen : List A) (v : A) (r : Result (List A) Der) → then_those seen (r >>= λ xs. Ok (v ∷ xs)) ≡ then_those (seen ++ v ∷ []) r
turned {A} seen v (Ok xs) = ap (λ (ys : List A). Ok ys) (sym (append_assoc seen (v ∷ []) xs))
turned seen v (Err d) = refl

pub read_next : (s : Schema) (octets : List ℕ) (seen : List (ValueOf s)) (p q : Spot) (v : ValueOf s) → AreRead s octets seen p → eqb (length p.rest) 0 ≡ false → read s p ≡ Ok (v, q) → AreRead s octets (seen ++ v ∷ []) q
read_next s octets seen p q v h some e =
    record { is = h.is ∙ ap (then_those seen) (all_one (read s) p (v, q) (read_moves s) some e) ∙ turned seen v (all_at (read s) (length q.rest) q) }

-- where nothing is left, those are all
pub read_all_of : (s : Schema) (octets : List ℕ) (seen : List (ValueOf s)) (p : Spot) → AreRead s octets seen p → eqb (length p.rest) 0 ≡ true → values_in s octets ≡ seen
unfolding values_in all_at
read_all_of s octets seen p h none =
    ap or_none (h.is ∙ ap (λ (k : ℕ). then_those seen (all_at (read s) k p)) (eqb-true _ _ none)) ∙ append-nil seen

-- where one is refused there are none
refused_is : {A : Type 0} (r : Result (List A) Der) (d : Der) → skipped r ≡ Err d → r ≡ Err d
refused_is (Ok xs) d e = absurd cc
refused_is (Err b) d e = cc

pub read_fault : (s : Schema) (octets : List ℕ) (seen : List (ValueOf s)) (p : Spot) (d : Der) → AreRead s octets seen p → eqb (length p.rest) 0 ≡ false → read s p ≡ Err d → values_in s octets ≡ []
unfolding values_in
read_fault s octets seen p d h some e =
    ap or_none (h.is ∙ ap (then_those seen) (refused_is (all_at (read s) (length p.rest) p) d (skip_err (read s) p d some e)))

-- ---- their identifiers

-- the identifiers of policies
abbrev pub names_of : List (ValueOf (policy_information 48)) → List (List ℕ)
names_of vs = map (λ policy. policy.0) vs

-- These are the identifiers of the policies that were read, and the spot stands behind them.
pub record AreNames (octets : List ℕ) (names : List (List ℕ)) (p : Spot) : Type 0 where
  pub seen : List (ValueOf (policy_information 48))
  pub read : AreRead (policy_information 48) octets seen p
  pub are : names ≡ names_of seen

pub no_names : (octets : List ℕ) → AreNames octets [] (front_of octets)
no_names octets = record { seen = []; read = read_none (policy_information 48) octets; are = refl }

pub next_name : (octets : List ℕ) (names : List (List ℕ)) (p q : Spot) (v : ValueOf (policy_information 48)) → AreNames octets names p → eqb (length p.rest) 0 ≡ false → read (policy_information 48) p ≡ Ok (v, q) → AreNames octets (names ++ v.0 ∷ []) q
next_name octets names p q v h some e =
    record {
      seen = h.seen ++ v ∷ [];
      read = read_next (policy_information 48) octets h.seen p q v h.read some e;
      are = ap (λ (ns : List (List ℕ)). ns ++ v.0 ∷ []) h.are ∙ sym (map-append (λ policy. policy.0) h.seen (v ∷ []));
    }

pub all_names : (octets : List ℕ) (names : List (List ℕ)) (p : Spot) → AreNames octets names p → eqb (length p.rest) 0 ≡ true → names ≡ policies_in octets
all_names octets names p h none = h.are ∙ ap names_of (sym (read_all_of (policy_information 48) octets h.seen p h.read none))

pub fault_names : (octets : List ℕ) (names : List (List ℕ)) (p : Spot) (d : Der) → AreNames octets names p → eqb (length p.rest) 0 ≡ false → read (policy_information 48) p ≡ Err d → [] ≡ policies_in octets
fault_names octets names p d h some e = ap names_of (sym (read_fault (policy_information 48) octets h.seen p d h.read some e))
