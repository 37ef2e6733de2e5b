-- The rows of the certificates that a path may go over.
use Rattle.std.specs.Prelude.{◌≡◌, ◌<◌, ℕ, Bool, true, false, ◌&&◌, List, [], ◌∷◌, length, map, replicate, slice_index_or, Option, Some, None, if◌then◌else◌}
use Rattle.std.specs.Borrow.{Bor}
use Rattle.std.specs.List.{range_with_len}
use Rattle.dv_schema.specs.Schema.{FieldsOf}
use Rattle.dv_walks.specs.Graph.{GraphState}
use Rattle.dv_walks.specs.Walk.{IsWalk}
use Rattle.dv_x509.specs.Types.{certificate_fields}
use Rattle.dv_path.specs.Demands.{Demand, is_asserted, is_explicit}
use Rattle.dv_path.specs.Members.{member}

-- the octets of slices
abbrev pub octets_of : List (Bor (List ℕ)) → List (List ℕ)
octets_of slices = map (λ s. s.now) slices

-- One mark for each node of a graph. From a node without a mark no walk leads to an end.
pub record AreMarks (graph : GraphState) (marks : List Bool) : Type 0 where
  pub all : length marks ≡ graph.size
  pub ended : (node : ℕ) → node < graph.size → slice_index_or marks node false ≡ false → (walk : List ℕ) → ¬ IsWalk graph node walk

-- the certificate at a position is marked and asserts the policy
abbrev pub is_marked : List Bool → Bool → List (FieldsOf certificate_fields) → List ℕ → ℕ → Bool
is_marked marks inhibit_any bag policy position = slice_index_or marks position false && is_asserted inhibit_any policy (member bag position)

-- the positions of a bag
abbrev pub positions_of : List (FieldsOf certificate_fields) → List ℕ
positions_of bag = range_with_len 0 (length bag)

-- for each policy a row that says which of the marked certificates assert it
abbrev pub rows_in : List Bool → Bool → List (List ℕ) → List (FieldsOf certificate_fields) → List (List Bool)
rows_in marks inhibit_any policies bag = map (λ policy. map (is_marked marks inhibit_any bag policy) (positions_of bag)) policies

-- for each certificate a column that says which policies it asserts, if it is marked
abbrev pub columns_in : List Bool → Bool → List (List ℕ) → List (FieldsOf certificate_fields) → List (List Bool)
columns_in marks inhibit_any policies bag = map (λ position. map (λ policy. is_marked marks inhibit_any bag policy position) policies) (positions_of bag)

-- one row, of each certificate
abbrev pub row_of_all : List (FieldsOf certificate_fields) → List (List Bool)
row_of_all bag = replicate (length bag) true ∷ []

-- the rows of a demand, one row of which is true of each member of a path; without one, that of all certificates
abbrev pub rows_of : List Bool → Option Demand → List (FieldsOf certificate_fields) → List (List Bool)
rows_of marks None bag = row_of_all bag
rows_of marks (Some d) bag = if is_explicit d then rows_in marks d.inhibit_any d.policies bag else row_of_all bag
