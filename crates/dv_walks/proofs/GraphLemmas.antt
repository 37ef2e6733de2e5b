-- Entries of lists.
use Rattle.std.proofs.Common.{◌≡◌, ℕ, zero, suc, ◌<◌, Bool, true, false, List, [], get_or, set, replicate, length, refl, arith, cond, ◌&&◌, eqb, ap, ◌∙◌}
use Rattle.dv_walks.specs.Graph.{AddsLead, GraphState}
use Rattle.std.proofs.lemmas.Bool.{cases_eq}
use Rattle.std.proofs.lemmas.Grind.{common_steps}
use Rattle.std.proofs.lemmas.List.{get_or-set_same, get_or-set_other}

-- each entry of a list of one value, and what stands for those past its end, where that is the same
pub get_or-replicate : {A : Type 0} (n k : ℕ) (x : A) → get_or (replicate n x) k x ≡ x
get_or-replicate zero k x = refl
get_or-replicate (suc n) zero x = refl
get_or-replicate (suc n) (suc k) x = get_or-replicate n k x

-- nothing stands in rows of which each is such a list
pub get_or-rows : (n m from to : ℕ) → get_or (get_or (replicate n (replicate m false)) from []) to false ≡ false
get_or-rows zero m from to = refl
get_or-rows (suc n) m zero to = get_or-replicate m to false
get_or-rows (suc n) m (suc from) to = get_or-rows n m from to

-- one entry of one row is set
pub get_or-set_in_row : (rows : List (List Bool)) (from to a b : ℕ) → from < length rows → to < length (get_or rows from []) →
    get_or (get_or (set rows from (set (get_or rows from []) to true)) a []) b false ≡ cond (eqb a from && eqb b to) true (get_or (get_or rows a []) b false)
get_or-set_in_row rows from to a b in_rows in_row = grind (arith, common_steps, get_or-set_same, get_or-set_other, cases_eq a from, cases_eq b to)

-- A graph one of whose rows was written at one place.
pub adds_lead : (old : GraphState) (row : List Bool) (from to : ℕ) → row ≡ set (get_or old.leads from []) to true → from < length old.leads
    → to < length (get_or old.leads from []) → AddsLead old (record old { leads = set old.leads from row }) from to
adds_lead old row from to is in_rows in_row = record {
  size = refl;
  leads = λ a b. ap (λ (r : List Bool). get_or (get_or (set old.leads from r) a []) b false) is ∙ get_or-set_in_row old.leads from to a b in_rows in_row;
  ends = λ _. refl;
  limits = λ _. refl;
}
