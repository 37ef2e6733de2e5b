-- What a search knows of who issued whom.
use Rattle.std.specs.Prelude.{◌≡◌, ◌≢◌, ◌<◌, ◌≤◌, ◌↔◌, ℕ, false, List, length, slice_get, slice_index, Some, None, IsTrue, MatchBool}
use Rattle.dv_schema.specs.Schema.{FieldsOf}
use Rattle.dv_walks.specs.Graph.{GraphState, ends_at, leads, limit_of}
use Rattle.dv_x509.specs.Types.{certificate_fields}
use Rattle.dv_path.specs.Anchors.{Anchored}
use Rattle.dv_path.specs.Issuing.{IsIssuedBy, Issues, bound_of}
use Rattle.dv_path.specs.Members.{member}
use Rattle.dv_path.specs.Paths.{IsFirstAnchor}

-- no anchor issued the certificate
abbrev pub HasNoAnchor : List Anchored → FieldsOf certificate_fields → ℕ → Type 0
HasNoAnchor anchors v t = (a : Anchored) (place : ℕ) → slice_get anchors place ≡ Some a → ¬ IsIssuedBy a v t

-- What was entered of the certificates before this position: one leads to those that issued it; walks end at it exactly where an anchor issued it,
-- the first of which stands among these; and its limit is its path length bound. Of the others nothing was entered.
pub record IsTable (bag : List (FieldsOf certificate_fields)) (anchors : List Anchored) (t : ℕ) (graph : GraphState) (firsts : List ℕ) (done : ℕ) : Type 0 where
  pub size : graph.size ≡ length bag
  pub room : length bag ≤ length firsts
  pub issuers : (c j : ℕ) → c < done → j < length bag → IsTrue (leads graph c j) ↔ Issues (member bag j) (member bag c) t
  pub anchored : (c : ℕ) → c < done → MatchBool (ends_at graph c) (IsFirstAnchor anchors (member bag c) t (slice_index firsts c)) (HasNoAnchor anchors (member bag c) t)
  pub bounded : (c : ℕ) → c < done → limit_of graph c ≡ bound_of (member bag c)
  pub no_issuers : (c j : ℕ) → done ≤ c → leads graph c j ≡ false
  pub no_anchors : (c : ℕ) → done ≤ c → ends_at graph c ≡ false
  pub no_bounds : (c : ℕ) → done ≤ c → limit_of graph c ≡ None

-- The position c leads to those of the first n certificates of the bag that issued this one, and the rest is as it was.
pub record AddsIssuers (bag : List (FieldsOf certificate_fields)) (v : FieldsOf certificate_fields) (t : ℕ) (old new : GraphState) (c n : ℕ) : Type 0 where
  pub size : new.size ≡ old.size
  pub issuers : (j : ℕ) → j < n → IsTrue (leads new c j) ↔ Issues (member bag j) v t
  pub left : (j : ℕ) → n ≤ j → leads new c j ≡ false
  pub others : (a j : ℕ) → a ≢ c → leads new a j ≡ leads old a j
  pub ends : (node : ℕ) → ends_at new node ≡ ends_at old node
  pub limits : (node : ℕ) → limit_of new node ≡ limit_of old node

-- Walks end at the position c exactly where an anchor issued this certificate, the first of which stands there; the rest is as it was.
pub record AddsAnchor (anchors : List Anchored) (v : FieldsOf certificate_fields) (t : ℕ) (old new : GraphState) (firsts news : List ℕ) (c : ℕ) : Type 0 where
  pub size : new.size ≡ old.size
  pub room : length news ≡ length firsts
  pub leads : (a b : ℕ) → leads new a b ≡ leads old a b
  pub anchored : MatchBool (ends_at new c) (IsFirstAnchor anchors v t (slice_index news c)) (HasNoAnchor anchors v t)
  pub others : (node : ℕ) → node ≢ c → (ends_at new node ≡ ends_at old node) × (slice_index news node ≡ slice_index firsts node)
  pub limits : (node : ℕ) → limit_of new node ≡ limit_of old node

-- The limit of the position c is the path length bound of this certificate, and the rest is as it was.
pub record AddsBound (v : FieldsOf certificate_fields) (old new : GraphState) (c : ℕ) : Type 0 where
  pub size : new.size ≡ old.size
  pub leads : (a b : ℕ) → leads new a b ≡ leads old a b
  pub ends : (node : ℕ) → ends_at new node ≡ ends_at old node
  pub bounded : limit_of new c ≡ bound_of v
  pub others : (node : ℕ) → node ≢ c → limit_of new node ≡ limit_of old node
