-- Answers to requests, one after another.
use Rattle.std.proofs.Common.{◌≡◌, ◌∙◌, ℕ, ◌+◌, zero, suc, ◌<◌, List, [], ◌∷◌, ◌++◌, length, map, take, drop, refl, sym, ap, subst, arith}
use Rattle.std.specs.List.{concat, AllByRecursion}
use Rattle.std.proofs.lemmas.List.{map-append}
use Rattle.std.proofs.lemmas.List.Folds.{concat-append}
use Rattle.dv_session.specs.Issuing.{Book, Notary}
use Rattle.dv_session.specs.Serving.{Answered, Answers, IsAnswer, pieces_of, told_for}

-- ---- lists of requests

-- what holds of each member holds of the one at an index
pub holds_at : (P : List ℕ → Type 0) (ys : List (List ℕ)) (i : ℕ) (y : List ℕ) (rest : List (List ℕ)) → AllByRecursion P ys → drop i ys ≡ y ∷ rest → P y
holds_at P [] zero y rest all is = absurd cc
holds_at P [] (suc i) y rest all is = absurd cc
holds_at P (x ∷ ys) zero y rest all is = let same : x ≡ y = cc in subst P same all.0
holds_at P (x ∷ ys) (suc i) y rest all is = holds_at P ys i y rest all.1 is

-- the members before an index, the one there, and those behind it
pub split_item : (ys : List (List ℕ)) (i : ℕ) (y : List ℕ) (rest : List (List ℕ)) → drop i ys ≡ y ∷ rest → ys ≡ take i ys ++ ((y ∷ []) ++ rest)
split_item ys zero y rest is = is
split_item [] (suc i) y rest is = absurd cc
split_item (x ∷ ys) (suc i) y rest is = ap (λ (l : List (List ℕ)). x ∷ l) (split_item ys i y rest is)

take_item : (ys : List (List ℕ)) (i : ℕ) (y : List ℕ) (rest : List (List ℕ)) → drop i ys ≡ y ∷ rest → take (suc i) ys ≡ take i ys ++ y ∷ []
take_item [] zero y rest is = absurd cc
take_item [] (suc i) y rest is = absurd cc
take_item (x ∷ ys) zero y rest is = let same : x ≡ y = cc in ap (λ (z : List ℕ). z ∷ []) same
take_item (x ∷ ys) (suc i) y rest is = ap (λ (l : List (List ℕ)). x ∷ l) (take_item ys i y rest is)

pub take_next : (ys : List (List ℕ)) (i : ℕ) (y : List ℕ) (rest : List (List ℕ)) → drop i ys ≡ y ∷ rest → take (i + 1) ys ≡ take i ys ++ y ∷ []
take_next ys i y rest is = let next : i + 1 ≡ suc i = omega arith in ap (λ (k : ℕ). take k ys) next ∙ take_item ys i y rest is

-- ---- answers

-- the same answers where there are more requests
pub answers_more : (n : Notary) (requests behind : List (List ℕ)) (answers : List Answered) (old new : Book) → Answers n requests answers old new
    → Answers n (requests ++ behind) answers old new
answers_more n requests behind [] old new is = is
answers_more n [] behind (a ∷ answers) old new is = absurd is
answers_more n (r ∷ requests) behind (a ∷ answers) old new is = (is.0, is.1, answers_more n requests behind answers is.0 new is.2)

-- answers to requests, and then to more of them
pub answers_then : (n : Notary) (requests more : List (List ℕ)) (xs ys : List Answered) (old mid new : Book) → length xs ≡ length requests
    → Answers n requests xs old mid → Answers n more ys mid new → Answers n (requests ++ more) (xs ++ ys) old new
answers_then n [] more [] ys old mid new same one two = subst (λ (b : Book). Answers n more ys b new) one two
answers_then n [] more (x ∷ xs) ys old mid new same one two = absurd one
answers_then n (r ∷ requests) more [] ys old mid new same one two = absurd (omega arith)
answers_then n (r ∷ requests) more (x ∷ xs) ys old mid new same one two =
    (one.0, one.1, answers_then n requests more xs ys one.0 mid new (omega arith) one.2 two)

pub told_then : (xs ys : List Answered) → told_for (xs ++ ys) ≡ told_for xs ++ told_for ys
told_then xs ys = map-append (λ (a : Answered). a.told) xs ys

pub pieces_then : (xs ys : List Answered) → pieces_of (xs ++ ys) ≡ pieces_of xs ++ pieces_of ys
pieces_then xs ys = ap concat (map-append (λ (a : Answered). a.piece) xs ys) ∙ concat-append (map (λ (a : Answered). a.piece) xs) (map (λ (a : Answered). a.piece) ys)

-- the requests behind those that were answered, where there are more requests before them and behind them
pub behind_then : (requests more behind : List (List ℕ)) (xs ys : List Answered) (next : List ℕ) (rest : List (List ℕ)) → length xs ≡ length requests
    → drop (length ys) more ≡ next ∷ rest → drop (length (xs ++ ys)) (requests ++ (more ++ behind)) ≡ next ∷ (rest ++ behind)
behind_then [] more behind [] ys next rest same is = dropped more (length ys) is
  where
    dropped : (more : List (List ℕ)) (i : ℕ) → drop i more ≡ next ∷ rest → drop i (more ++ behind) ≡ next ∷ (rest ++ behind)
    dropped more zero is = ap (λ (l : List (List ℕ)). l ++ behind) is
    dropped [] (suc i) is = absurd cc
    dropped (m ∷ more) (suc i) is = dropped more i is
behind_then [] more behind (x ∷ xs) ys next rest same is = absurd (omega arith)
behind_then (r ∷ requests) more behind [] ys next rest same is = absurd (omega arith)
behind_then (r ∷ requests) more behind (x ∷ xs) ys next rest same is = behind_then requests more behind xs ys next rest (omega arith) is
