-- Walks through the table of who issued whom are paths.
use Rattle.std.proofs.Common.{◌≡◌, ◌∙◌, ◌<◌, ◌≤◌, ◌+◌, ◌-◌, ℕ, Bool, true, false, cond, drop, inl, inr, List, [], ◌∷◌, ◌++◌, length, get_or, refl, sym, ap, subst, arith}
use Rattle.std.specs.Prelude.{All, Any, IfNone, IfSome, IsTrue, MatchBool, None, Option, Some, is_some, map, replicate, slice_get, slice_index}
use Rattle.std.proofs.lemmas.Bool.{and_from, and_parts, cases_lt}
use Rattle.std.proofs.lemmas.List.{get_or-drop, get_or_append_left, get_or_push, get_or-map, get_or-replicate, length-drop, length-map}
use Rattle.std.proofs.lemmas.List.Elements.{All-drop}
use Rattle.std.proofs.lemmas.List.FromFn.{get_or-map-range_with_len}
use Rattle.std.proofs.lemmas.Option.{get_or_from_slice_get, slice_get-get_or, slice_get_within}
use Rattle.std.specs.declared.alloc.Global.{Global}
use Rattle.std.specs.declared.vec.Vec.{Vec}
use Rattle.dv_schema.specs.Schema.{FieldsOf}
use Rattle.dv_walks.specs.Graph.{GraphState, ends_at, leads, limit_of}
use Rattle.dv_walks.specs.Walk.{Allows, IsAllowed, IsLeastWalk, IsWalk, KeepsLimit}
use Rattle.dv_x509.specs.Types.{certificate_fields}
use Rattle.dv_path.specs.Anchors.{Anchored}
use Rattle.dv_path.specs.Demands.{Demand, HasPolicy, IsAccepted, is_asserted, is_explicit}
use Rattle.dv_path.specs.Issuing.{IsIssuedBy}
use Rattle.dv_path.specs.Members.{member}
use Rattle.dv_path.specs.Paths.{IsChosen, IsFirstAnchor, IsPath, Search}
use Rattle.dv_path.specs.Rows.{AreMarks, is_marked, positions_of, row_of_all, rows_in, rows_of}
use Rattle.dv_path.specs.Tables.{HasNoAnchor, IsTable}

-- ---- the rows

-- a certificate's entry in the row of a policy
entry_is : (marks : List Bool) (inhibit_any : Bool) (policy : List ℕ) (bag : List (FieldsOf certificate_fields)) (node : ℕ) → node < length bag
    → get_or (map (is_marked marks inhibit_any bag policy) (positions_of bag)) node false ≡ is_marked marks inhibit_any bag policy node
entry_is marks inhibit_any policy bag node lt = get_or-map-range_with_len (is_marked marks inhibit_any bag policy) 0 (length bag) node node false lt (omega arith)

-- a policy that each member asserts is the row that allows each, if each is marked
allows_row : (marks : List Bool) (inhibit_any : Bool) (policy : List ℕ) (bag : List (FieldsOf certificate_fields)) (path : List ℕ) → All (λ position. position < length bag) path → All (λ position. IsTrue (get_or marks position false)) path
    → All (λ position. IsTrue (is_asserted inhibit_any policy (member bag position))) path → Allows path (map (is_marked marks inhibit_any bag policy) (positions_of bag))
allows_row marks inhibit_any policy bag path inside marked h k d lt =
    let position : ℕ = get_or path k d in
    entry_is marks inhibit_any policy bag position (inside k d lt) ∙ and_from (get_or marks position false) (is_asserted inhibit_any policy (member bag position)) (marked k d lt) (h k d lt)

row_allows : (marks : List Bool) (inhibit_any : Bool) (policy : List ℕ) (bag : List (FieldsOf certificate_fields)) (path : List ℕ) → All (λ position. position < length bag) path
    → Allows path (map (is_marked marks inhibit_any bag policy) (positions_of bag)) → All (λ position. IsTrue (is_asserted inhibit_any policy (member bag position))) path
row_allows marks inhibit_any policy bag path inside h k d lt =
    let position : ℕ = get_or path k d in
    (and_parts (get_or marks position false) (is_asserted inhibit_any policy (member bag position)) (sym (entry_is marks inhibit_any policy bag position (inside k d lt)) ∙ h k d lt)).1

-- some policy is asserted by each member where some row allows each
has_policy : (marks : List Bool) (d : Demand) (bag : List (FieldsOf certificate_fields)) (path : List ℕ) → All (λ position. position < length bag) path → IsAllowed (rows_in marks d.inhibit_any d.policies bag) path → HasPolicy d bag path
has_policy marks d bag path inside (k, row, lt, is, allows) =
    let f : List ℕ → List Bool = λ policy. map (is_marked marks d.inhibit_any bag policy) (positions_of bag) in
    let within : k < length d.policies = omega (arith, lt, length-map d.policies f) in
    let policy : List ℕ = get_or d.policies k [] in
    let same : row ≡ f policy = sym is ∙ get_or-map f d.policies k [] row within in
    let again : get_or d.policies k policy ≡ policy = get_or_from_slice_get d.policies k policy policy (slice_get-get_or d.policies k [] within) in
    (k, policy, within, again, row_allows marks d.inhibit_any policy bag path inside (subst (Allows path) same allows))

-- and the other way round, if each is marked
has_row : (marks : List Bool) (d : Demand) (bag : List (FieldsOf certificate_fields)) (path : List ℕ) → All (λ position. position < length bag) path → All (λ position. IsTrue (get_or marks position false)) path → HasPolicy d bag path
    → IsAllowed (rows_in marks d.inhibit_any d.policies bag) path
has_row marks d bag path inside marked (k, policy, lt, is, asserted) =
    let f : List ℕ → List Bool = λ p. map (is_marked marks d.inhibit_any bag p) (positions_of bag) in
    let same : get_or (map f d.policies) k (f policy) ≡ f policy = get_or-map f d.policies k policy (f policy) lt ∙ ap f is in
    (k, f policy, omega (arith, lt, length-map d.policies f), same, allows_row marks d.inhibit_any policy bag path inside marked asserted)

-- the row of all allows each path
all_allowed : (n : ℕ) (path : List ℕ) → All (λ position. position < n) path → IsAllowed (replicate n true ∷ []) path
all_allowed n path inside =
    (0, replicate n true, omega arith, refl, λ k d lt. get_or-replicate n (get_or path k d) true false (inside k d lt))

accepted_by : (t : Bool) (marks : List Bool) (d : Demand) (bag : List (FieldsOf certificate_fields)) (path : List ℕ) → All (λ position. position < length bag) path
    → IsAllowed (cond t (rows_in marks d.inhibit_any d.policies bag) (row_of_all bag)) path → IsTrue t → HasPolicy d bag path
accepted_by true marks d bag path inside allowed t = has_policy marks d bag path inside allowed
accepted_by false marks d bag path inside allowed t = absurd cc

allowed_by : (t : Bool) (marks : List Bool) (d : Demand) (bag : List (FieldsOf certificate_fields)) (path : List ℕ) → All (λ position. position < length bag) path → All (λ position. IsTrue (get_or marks position false)) path
    → (IsTrue t → HasPolicy d bag path) → IsAllowed (cond t (rows_in marks d.inhibit_any d.policies bag) (row_of_all bag)) path
allowed_by true marks d bag path inside marked h = has_row marks d bag path inside marked (h refl)
allowed_by false marks d bag path inside marked h = all_allowed (length bag) path inside

-- a path is accepted where some row allows it
accepted : (marks : List Bool) (d : Option Demand) (bag : List (FieldsOf certificate_fields)) (path : List ℕ) → All (λ position. position < length bag) path → IsAllowed (rows_of marks d bag) path → IsAccepted d bag path
accepted marks None bag path inside allowed = tt
accepted marks (Some d) bag path inside allowed = accepted_by (is_explicit d) marks d bag path inside allowed

-- and the other way round, if each member is marked
allowed : (marks : List Bool) (d : Option Demand) (bag : List (FieldsOf certificate_fields)) (path : List ℕ) → All (λ position. position < length bag) path → All (λ position. IsTrue (get_or marks position false)) path → IsAccepted d bag path
    → IsAllowed (rows_of marks d bag) path
allowed marks None bag path inside marked h = all_allowed (length bag) path inside
allowed marks (Some d) bag path inside marked h = allowed_by (is_explicit d) marks d bag path inside marked h

-- ---- the marks

-- a limit that is kept by more is kept by fewer
fewer : (limit : Option ℕ) (a b : ℕ) → a ≤ b → IfSome limit (λ bound. b ≤ bound) → IfSome limit (λ bound. a ≤ bound)
fewer None a b le h = tt
fewer (Some n) a b le h = omega arith

-- what is inside doesn't depend on what stands past the end
get_or_default : (xs : List ℕ) (k d e : ℕ) → k < length xs → get_or xs k d ≡ get_or xs k e
get_or_default xs k d e lt = get_or_from_slice_get xs k (get_or xs k e) d (slice_get-get_or xs k e lt)

-- the rest of a walk is a walk from its first node
rest_is_walk : (g : GraphState) (start : ℕ) (walk : List ℕ) (k : ℕ) → k < length walk → IsWalk g start walk → IsWalk g (slice_index walk k) (drop k walk)
rest_is_walk g start walk k lt w =
    let rest : List ℕ = drop k walk in
    let long : length rest ≡ length walk - k = length-drop k walk in
    let at : (i : ℕ) → slice_index rest i ≡ slice_index walk (k + i) = λ i. get_or-drop k walk i 0 in
    let next : (i : ℕ) → slice_index rest (i + 1) ≡ slice_index walk (k + i + 1) = λ i. at (i + 1) ∙ ap (slice_index walk) (omega arith) in
    record {
      short = omega (arith, long, w.short);
      first = slice_get-get_or rest 0 0 (omega (arith, long, lt)) ∙ ap (λ (n : ℕ). Some n) (at 0 ∙ ap (slice_index walk) (omega arith));
      nodes = All-drop (λ node. node < g.size) k walk w.nodes;
      joined = λ i more.
          (let here : k + i + 1 < length walk = omega (arith, long, more) in
          subst (λ (n : ℕ). IsTrue (leads g n (slice_index rest (i + 1)))) (sym (at i)) (subst (λ (n : ℕ). IsTrue (leads g (slice_index walk (k + i)) n)) (sym (next i)) (w.joined (k + i) here)));
      ended =
          (let last : slice_index rest (length rest - 1) ≡ slice_index walk (length walk - 1) = at (length rest - 1) ∙ ap (slice_index walk) (omega (arith, long, lt)) in
          subst (λ (n : ℕ). IsTrue (ends_at g n)) (sym last) w.ended);
      limited = λ i more.
          (let here : k + i + 1 < length walk = omega (arith, long, more) in
          subst (λ (n : ℕ). KeepsLimit g n i) (sym (next i)) (fewer (limit_of g (slice_index walk (k + i + 1))) i (k + i) (omega arith) (w.limited (k + i) here)));
    }

-- so each node of a walk is marked
node_marked : (b : Bool) (g : GraphState) (marks : List Bool) (node : ℕ) (walk : List ℕ) → get_or marks node false ≡ b → AreMarks g marks → node < g.size → IsWalk g node walk → IsTrue b
node_marked true g marks node walk e m lt w = refl
node_marked false g marks node walk e m lt w = absurd (m.ended node lt e walk w)

nodes_marked : (g : GraphState) (marks : List Bool) (start : ℕ) (walk : List ℕ) → AreMarks g marks → IsWalk g start walk → All (λ node. IsTrue (get_or marks node false)) walk
nodes_marked g marks start walk m w k d lt =
    let node : ℕ = slice_index walk k in
    let same : get_or walk k d ≡ node = get_or_default walk k d 0 lt in
    subst (λ (n : ℕ). IsTrue (get_or marks n false)) (sym same) (node_marked (get_or marks node false) g marks node (drop k walk) refl m (w.nodes k 0 lt) (rest_is_walk g start walk k lt w))

-- where no walk that the row of all allows leads from a node, none does
no_walk_at_all : (g : GraphState) (node : ℕ) → ((walk : List ℕ) → IsWalk g node walk → ¬ IsAllowed (replicate g.size true ∷ []) walk) → (walk : List ℕ) → ¬ IsWalk g node walk
no_walk_at_all g node none walk w = none walk w (all_allowed g.size walk w.nodes)

-- one more mark
pub one_more_mark : (g : GraphState) (marks new : List Bool) (mark : Bool) (n : ℕ) → new ≡ marks ++ mark ∷ [] → length marks ≡ n → ((node : ℕ) → node < n → get_or marks node false ≡ false → (walk : List ℕ) → ¬ IsWalk g node walk)
    → (mark ≡ false → (walk : List ℕ) → ¬ IsWalk g n walk) → (node : ℕ) → node < n + 1 → get_or new node false ≡ false → (walk : List ℕ) → ¬ IsWalk g node walk
one_more_mark g marks new mark n is count before here node lt e walk w =
    let pushed : get_or (marks ++ mark ∷ []) node false ≡ false = sym (ap (λ (ms : List Bool). get_or ms node false) is) ∙ e in
    elim (cases_lt node n) [
      | inl small ↦ before node small (sym (get_or_append_left marks (mark ∷ []) false node (omega (arith, count))) ∙ pushed) walk w
      | inr large ↦
          (let at : node ≡ n = omega arith in
          let no_mark : mark ≡ false = sym (get_or_push marks mark false node (count ∙ sym at)) ∙ pushed in
          here no_mark walk (subst (λ (k : ℕ). IsWalk g k walk) at w))
    ]

-- a node without a walk
pub no_walk : (g : GraphState) (node : ℕ) (found : Option (Vec ℕ Global)) (mark : Bool) (rows : List (List Bool)) → rows ≡ replicate g.size true ∷ [] → mark ≡ is_some found
    → IfNone found ((walk : List ℕ) → IsWalk g node walk → ¬ IsAllowed rows walk) → mark ≡ false → (walk : List ℕ) → ¬ IsWalk g node walk
no_walk g node None mark rows all is none e =
    no_walk_at_all g node (subst (λ (rs : List (List Bool)). (walk : List ℕ) → IsWalk g node walk → ¬ IsAllowed rs walk) all none)
no_walk g node (Some found) mark rows all is none e = absurd (let contradiction : true ≡ false = sym is ∙ e in cc)

-- ---- the ends

-- walks end at a certificate exactly where an anchor issued it
ends_anchored : (b : Bool) (anchors : List Anchored) (v : FieldsOf certificate_fields) (t first : ℕ) → MatchBool b (IsFirstAnchor anchors v t first) (HasNoAnchor anchors v t) → IsTrue b → IsFirstAnchor anchors v t first
ends_anchored true anchors v t first h e = h
ends_anchored false anchors v t first h e = absurd cc

anchored_any : (anchors : List Anchored) (v : FieldsOf certificate_fields) (t first : ℕ) → IsFirstAnchor anchors v t first → Any (λ anchor. IsIssuedBy anchor v t) anchors
anchored_any anchors v t first h = (first, h.anchor, slice_get_within anchors first h.anchor h.is, get_or_from_slice_get anchors first h.anchor h.anchor h.is, h.issues)

ends_there : (b : Bool) (anchors : List Anchored) (v : FieldsOf certificate_fields) (t first : ℕ) → MatchBool b (IsFirstAnchor anchors v t first) (HasNoAnchor anchors v t) → Any (λ anchor. IsIssuedBy anchor v t) anchors → IsTrue b
ends_there true anchors v t first h any = refl
ends_there false anchors v t first none (k, a, lt, is, issued) =
    let got : slice_get anchors k ≡ Some a = slice_get-get_or anchors k a lt ∙ ap (λ (x : Anchored). Some x) is in
    absurd (none a k got issued)

-- ---- walks and paths

-- the node at a place
inside_at : (n : ℕ) (walk : List ℕ) (i : ℕ) → All (λ node. node < n) walk → i < length walk → slice_index walk i < n
inside_at n walk i h lt = h i 0 lt

-- a list with a first member isn't empty
some_of : (walk : List ℕ) (start : ℕ) → slice_get walk 0 ≡ Some start → 0 < length walk
some_of walk start e = slice_get_within walk 0 start e

walk_is_path : (s : Search) (g : GraphState) (firsts : List ℕ) (marks : List Bool) (walk : List ℕ) → IsTable s.bag s.anchors s.when g firsts (length s.bag) → IsWalk g s.target walk → IsAllowed (rows_of marks s.demand s.bag) walk → IsPath s walk
walk_is_path s g firsts marks walk table w rows =
    let inside : All (λ position. position < length s.bag) walk = subst (λ (n : ℕ). All (λ position. position < n) walk) table.size w.nodes in
    let some = some_of walk s.target w.first in
    let last : ℕ = slice_index walk (length walk - 1) in
    let last_inside : last < length s.bag = inside_at (length s.bag) walk (length walk - 1) inside (omega (arith, some)) in
    record {
      short = w.short;
      first = w.first;
      members = inside;
      issued = λ i lt. (table.issuers (slice_index walk i) (slice_index walk (i + 1)) (inside_at (length s.bag) walk i inside (omega (arith, lt))) (inside_at (length s.bag) walk (i + 1) inside lt)).0 (w.joined i lt);
      anchored = anchored_any s.anchors (member s.bag last) s.when (slice_index firsts last)
          (ends_anchored (ends_at g last) s.anchors (member s.bag last) s.when (slice_index firsts last) (table.anchored last last_inside) w.ended);
      bounded = λ i lt. subst (λ (o : Option ℕ). IfSome o (λ bound. i ≤ bound)) (table.bounded (slice_index walk (i + 1)) (inside_at (length s.bag) walk (i + 1) inside lt)) (w.limited i lt);
      accepted = accepted marks s.demand s.bag walk inside rows;
    }

path_is_walk : (s : Search) (g : GraphState) (firsts : List ℕ) (path : List ℕ) → IsTable s.bag s.anchors s.when g firsts (length s.bag) → IsPath s path → IsWalk g s.target path
path_is_walk s g firsts path table p =
    let some = some_of path s.target p.first in
    let last : ℕ = slice_index path (length path - 1) in
    let last_inside : last < length s.bag = inside_at (length s.bag) path (length path - 1) p.members (omega (arith, some)) in
    record {
      short = p.short;
      first = p.first;
      nodes = subst (λ (n : ℕ). All (λ position. position < n) path) (sym table.size) p.members;
      joined = λ i lt. (table.issuers (slice_index path i) (slice_index path (i + 1)) (inside_at (length s.bag) path i p.members (omega (arith, lt))) (inside_at (length s.bag) path (i + 1) p.members lt)).1 (p.issued i lt);
      ended = ends_there (ends_at g last) s.anchors (member s.bag last) s.when (slice_index firsts last) (table.anchored last last_inside) p.anchored;
      limited = λ i lt. subst (λ (o : Option ℕ). IfSome o (λ bound. i ≤ bound)) (sym (table.bounded (slice_index path (i + 1)) (inside_at (length s.bag) path (i + 1) p.members lt))) (p.bounded i lt);
    }

-- and some row allows it
path_is_allowed : (s : Search) (g : GraphState) (firsts : List ℕ) (marks : List Bool) (path : List ℕ) → IsTable s.bag s.anchors s.when g firsts (length s.bag) → AreMarks g marks → IsPath s path → IsAllowed (rows_of marks s.demand s.bag) path
path_is_allowed s g firsts marks path table m p = allowed marks s.demand s.bag path p.members (nodes_marked g marks s.target path m (path_is_walk s g firsts path table p)) p.accepted

-- the least walk is the path that is chosen
pub chosen : (s : Search) (g : GraphState) (firsts : List ℕ) (marks : List Bool) (walk : List ℕ) → IsTable s.bag s.anchors s.when g firsts (length s.bag) → AreMarks g marks → IsLeastWalk g (rows_of marks s.demand s.bag) s.target walk
    → IsChosen s walk (slice_index firsts (slice_index walk (length walk - 1)))
chosen s g firsts marks walk table m least =
    let path = walk_is_path s g firsts marks walk table least.walks least.allowed in
    let some = some_of walk s.target path.first in
    let last : ℕ = slice_index walk (length walk - 1) in
    let last_inside : last < length s.bag = inside_at (length s.bag) walk (length walk - 1) path.members (omega (arith, some)) in
    record {
      is = path;
      least = λ other p. least.least other (path_is_walk s g firsts other table p) (path_is_allowed s g firsts marks other table m p);
      anchored = ends_anchored (ends_at g last) s.anchors (member s.bag last) s.when (slice_index firsts last) (table.anchored last last_inside) least.walks.ended;
    }

-- where there is no walk there is no path
pub no_path : (s : Search) (g : GraphState) (firsts : List ℕ) (marks : List Bool) → IsTable s.bag s.anchors s.when g firsts (length s.bag) → AreMarks g marks → ((walk : List ℕ) → IsWalk g s.target walk → ¬ IsAllowed (rows_of marks s.demand s.bag) walk)
    → (path : List ℕ) → ¬ IsPath s path
no_path s g firsts marks table m none path p = none path (path_is_walk s g firsts path table p) (path_is_allowed s g firsts marks path table m p)
