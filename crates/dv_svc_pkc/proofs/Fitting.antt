-- The entry of a target fits in a certificate of service.
use Rattle.std.proofs.Common.{◌≡◌, ◌<◌, ◌≤◌, ◌+◌, ◌*◌, ◌++◌, ◌∷◌, ◌&&◌, ℕ, zero, suc, Bool, true, false, ltb, Option, Some, None, List, [], length, map, drop, get_or, inl, inr, refl, sym, ap, subst, arith}
use Rattle.std.specs.Prelude.{IfSome, All, option_map, option_to_list}
use Rattle.std.specs.List.{AllByRecursion, filter_map, flat_map, list_all}
use Rattle.std.proofs.lemmas.Bool.Decides.{nat_tests}
use Rattle.std.proofs.lemmas.List.{length-append, length-drop, length-map}
use Rattle.dv_schema.specs.Tlv.{length_octets}
use Rattle.dv_schema.specs.Schema.{ValueOf, contents, sequence_of, spelled_if, spelling}
use Rattle.dv_schema.specs.Fits.{FieldsFit, Fits}
use Rattle.dv_schema.specs.Types.{list_of}
use Rattle.dv_schema.proofs.Spellings.{fields_more, fits_more}
use Rattle.dv_status.specs.Types.{status_info}
use Rattle.dv_request.specs.Links.{links_in}
use Rattle.dv_request.specs.Types.{path_input, target_chain, target_fields, token, whole_certificate}
use Rattle.dv_members.proofs.MemberLemmas.{values_of_octets}
use Rattle.dv_request.proofs.MessageLemmas.{octets_few}
use Rattle.dv_x509.specs.Judged.{certificate_in}
use Rattle.dv_path.specs.Anchors.{Anchored}
use Rattle.dv_path.specs.Members.{member_of}
use Rattle.dv_svc_pkc.specs.Above.{IsAbove}
use Rattle.dv_svc_pkc.specs.Certificates.{certificate_of, certificates_of, is_certificate}
use Rattle.dv_svc_pkc.specs.Entries.{above, certificate_token, entry_with, granted_if, status_token, tokens_with}
use Rattle.dv_svc_pkc.specs.Outcomes.{IsOutcome, search_of}
use Rattle.dv_svc_pkc.proofs.Entered.{chain_with, has_parts}
use Rattle.dv_parts.proofs.Flattened.{flat-append}

-- ---- the certificates that are handed in

-- octets of a certificate token, of at most 8,192 octets
abbrev pub IsPiece : List ℕ → Type 0
IsPiece octets = Fits (whole_certificate 160) 28 octets × (length octets ≤ 8192)

-- those among tokens fit
among_fit : (n : ℕ) (ts : List (ValueOf token)) → AllByRecursion (Fits token n) ts → AllByRecursion (Fits (whole_certificate 160) n) (filter_map certificate_of ts)
among_fit n [] all = tt
among_fit n (inl octets ∷ ts) all = (all.0, among_fit n ts all.1)
among_fit n (inr other ∷ ts) all = among_fit n ts all.1

more_levels : (m n : ℕ) (cs : List (List ℕ)) → m ≤ n → AllByRecursion (Fits (whole_certificate 160) m) cs → AllByRecursion (Fits (whole_certificate 160) n) cs
more_levels m n [] le all = tt
more_levels m n (c ∷ cs) le all = (fits_more (whole_certificate 160) m n c le all.0, more_levels m n cs le all.1)

-- those of a chain
links_fit : (links : Option (List ℕ)) → IfSome links (Fits (list_of 48 true token) 27) → AllByRecursion (Fits (whole_certificate 160) 28) (filter_map certificate_of (links_in links))
links_fit None f = tt
links_fit (Some octets) f =
    let ts : List (ValueOf token) = f.2.0 in
    let fits : FieldsFit (sequence_of true token) 26 ts = f.2.2 in
    let again = (values_of_octets token true 0 octets ts refl f.2.1 (fields_more (sequence_of true token) 26 32 ts (omega arith) fits)).1 in
    subst (λ (l : List (ValueOf token)). AllByRecursion (Fits (whole_certificate 160) 28) (filter_map certificate_of l)) (sym again)
    (more_levels 26 28 (filter_map certificate_of ts) (omega arith) (among_fit 26 ts fits.1))

-- the target beside them
own_fit : (target : ValueOf token) (cs : List (List ℕ)) → Fits token 27 target → AllByRecursion (Fits (whole_certificate 160) 28) cs → AllByRecursion (Fits (whole_certificate 160) 28) (option_to_list (certificate_of target) ++ cs)
own_fit (inl octets) cs f all = (fits_more (whole_certificate 160) 27 28 octets (omega arith) f, all)
own_fit (inr other) cs f all = all

-- a certificate has at most 8,192 octets
certificate_short : (octets : List ℕ) → is_certificate octets ≡ true → length octets ≤ 8192
unfolding certificate_in
certificate_short octets e = go (ltb 8192 (length octets)) refl
  where
    go : (b : Bool) → ltb 8192 (length octets) ≡ b → length octets ≤ 8192
    go true long = let no : is_certificate octets ≡ false = rw long refl in absurd cc
    go false long = grind (arith, nat_tests)

pub and_parts : (a b : Bool) → (a && b) ≡ true → (a ≡ true) × (b ≡ true)
and_parts true b e = (refl, e)
and_parts false b e = absurd cc

-- so each of them is a piece
pieces : (cs : List (List ℕ)) → AllByRecursion (Fits (whole_certificate 160) 28) cs → list_all is_certificate cs ≡ true → AllByRecursion IsPiece cs
pieces [] all good = tt
pieces (c ∷ cs) all good =
    let p = and_parts (is_certificate c) (list_all is_certificate cs) good in
    ((all.0, certificate_short c p.0), pieces cs all.1 p.1)

pub handed_pieces : (t : ValueOf target_chain) → Fits target_chain 28 t → list_all is_certificate (certificates_of t) ≡ true → AllByRecursion IsPiece (certificates_of t)
handed_pieces t f good = pieces (certificates_of t) (own_fit t.0 (filter_map certificate_of (links_in t.1.0)) f.2.0 (links_fit t.1.0 f.2.1.0)) good

-- ---- those of a path

piece_at : (cs : List (List ℕ)) (i : ℕ) → AllByRecursion IsPiece cs → i < length cs → IsPiece (get_or cs i [])
piece_at [] i all lt = absurd (omega arith)
piece_at (c ∷ cs) zero all lt = all.0
piece_at (c ∷ cs) (suc i) all lt = piece_at cs i all.1 (omega arith)

-- all positions but the first
others : (n : ℕ) (path : List ℕ) → All (λ p. p < n) path → All (λ p. p < n) (drop 1 path)
others n [] all = all
others n (p ∷ ps) all = λ k d lt. all (suc k) d (omega arith)

taken_pieces : (cs : List (List ℕ)) (path : List ℕ) → AllByRecursion IsPiece cs → All (λ p. p < length cs) path → AllByRecursion IsPiece (map (λ p. get_or cs p []) path)
taken_pieces cs [] all within = tt
taken_pieces cs (p ∷ ps) all within =
    (piece_at cs p all (within 0 0 (omega arith)), taken_pieces cs ps all (λ k d lt. within (suc k) d (omega arith)))

pub above_pieces : (cs : List (List ℕ)) (path : List ℕ) → AllByRecursion IsPiece cs → All (λ p. p < length cs) path → AllByRecursion IsPiece (above cs path)
above_pieces cs path all within = taken_pieces cs (drop 1 path) all (others (length cs) path within)

pub length-above : (cs : List (List ℕ)) (path : List ℕ) → length path ≤ 6 → length (above cs path) ≤ 5
length-above cs path few = omega (arith, length-map (drop 1 path) (λ p. get_or cs p []), length-drop 1 path)

-- ---- the chain of an entry

-- a status token
status_fits : (granted : Bool) → Fits (status_info 162) 28 (granted_if granted) × (length (spelling (status_info 162) (granted_if granted)) ≤ 20)
status_fits true = ((omega arith, omega arith, ((omega arith, omega arith, refl), (tt, (tt, tt)))), omega arith)
status_fits false = ((omega arith, omega arith, ((omega arith, omega arith, refl), (tt, ((omega arith, omega arith, refl), tt)))), omega arith)

some_tokens_fit : (cs : List (List ℕ)) → AllByRecursion IsPiece cs → AllByRecursion (Fits token 28) (map certificate_token cs ++ status_token (granted_if true) ∷ [])
some_tokens_fit [] all = ((status_fits true).0, tt)
some_tokens_fit (c ∷ cs) all = (all.0.0, some_tokens_fit cs all.1)

-- pieces have so many octets
pieces_short : (cs : List (List ℕ)) → AllByRecursion IsPiece cs → length (flat_map (spelling token) (map certificate_token cs)) ≤ 8192 * length cs
pieces_short [] all = omega arith
pieces_short (c ∷ cs) all = omega (arith, all.0.1, pieces_short cs all.1, length-append c (flat_map (spelling token) (map certificate_token cs)))

-- the certificates of a chain are pieces, and at most five
abbrev pub AreFew : Option (List (List ℕ)) → Type 0
AreFew o = IfSome o (λ cs. AllByRecursion IsPiece cs × (length cs ≤ 5))

pub chain_fits : (o : Option (List (List ℕ))) → AreFew o → FieldsFit (sequence_of true token) 28 (tokens_with o) × (length (chain_with o) ≤ 41000)
chain_fits None h =
    let s = status_fits false in
    ((λ _ e. cc, (s.0, tt)), omega (arith, s.1, length-append (spelling (status_info 162) (granted_if false)) []))
chain_fits (Some cs) h =
    let s = status_fits true in
    let status : List ℕ = spelling (status_info 162) (granted_if true) in
    let front : List ℕ = flat_map (spelling token) (map certificate_token cs) in
    let size = ap length (flat-append (spelling token) (map certificate_token cs) (status_token (granted_if true) ∷ [])) in
    ((λ _ e. none_behind (map certificate_token cs) e, some_tokens_fit cs h.0), omega (arith, size, length-append front (status ++ []), length-append status [], s.1, pieces_short cs h.0, h.1))
  where
    none_behind : (ts : List (ValueOf token)) → ts ++ status_token (granted_if true) ∷ [] ≡ [] → ⊥
    none_behind [] e = cc
    none_behind (x ∷ xs) e = cc

-- ---- the entry

input_fits : (o : Option (ValueOf (path_input 160))) → IfSome o (Fits (path_input 160) 27) → IfSome o (Fits (path_input 160) 29)
input_fits None f = tt
input_fits (Some v) f = fits_more (path_input 160) 27 29 v (omega arith) f

-- an entry fits, and is short
pub record IsGood (t : ValueOf target_chain) : Type 0 where
  pub fits : Fits target_chain 30 t
  pub short : length (spelling target_chain t) < 1099511627776

pub entry_good : (t : ValueOf target_chain) (o : Option (List (List ℕ))) → Fits target_chain 28 t → length (spelling target_chain t) < 4294967296 → AreFew o → IsGood (entry_with t o)
entry_good t o f short few =
    let c = chain_fits o few in
    let parts = has_parts t.0 (chain_with o) t.1.1.0 in
    let a : List ℕ = spelling token t.0 in
    let b : List ℕ = spelled_if (spelling (list_of 48 true token)) t.1.0 in
    let d : List ℕ = spelled_if (spelling (path_input 160)) t.1.1.0 in
    let all : List ℕ = a ++ (b ++ (d ++ [])) in
    let whole = length-append (48 ∷ length_octets (length all)) all in
    let sides : length a + length d < 4294967296 = omega (arith, short, whole, length-append a (b ++ (d ++ [])), length-append b (d ++ []), length-append d []) in
    let inner = octets_few (length (chain_with o)) (omega (arith, c.1)) in
    let fields : length (contents target_fields (entry_with t o)) < 4294967296 + 42000 = omega (arith, parts.fields, sides, inner, c.1) in
    let outer = octets_few (length (contents target_fields (entry_with t o))) (omega (arith, fields)) in
    let target : Fits token 29 t.0 = fits_more token 27 29 t.0 (omega arith) f.2.0 in
    let chain : Fits (list_of 48 true token) 29 (chain_with o) = (omega arith, omega (arith, c.1), (tokens_with o, refl, c.0)) in
    record {
      fits = (omega arith, omega (arith, fields), (target, (chain, (input_fits t.1.1.0 f.2.1.1.0, tt))));
      short = omega (arith, parts.whole, fields, outer);
    }

-- the certificates of a path above a target that is checked
pub few_above : (anchors : List Anchored) (when : ℕ) (t : ValueOf target_chain) (o : Option (List (List ℕ))) → IsAbove anchors when t o → AllByRecursion IsPiece (certificates_of t) → AreFew o
few_above anchors when t o a all = go a.path a.right a.is
  where
    go : (path : Option (List ℕ)) → IsOutcome (search_of anchors when t) path → o ≡ option_map (above (certificates_of t)) path → AreFew o
    go None right is = subst AreFew (sym is) tt
    go (Some path) right is =
        let size = length-map (certificates_of t) (member_of 160) in
        let path_is = right.1.is in
        let within : All (λ p. p < length (certificates_of t)) path = λ k d lt. omega (arith, path_is.members k d lt, size) in
        subst AreFew (sym is) (above_pieces (certificates_of t) path all within, length-above (certificates_of t) path path_is.short)
