use Rattle.std.proofs.Common.{◌≡◌, ◌∙◌, ℕ, ◌<◌, ◌≤◌, List, true, false, sym, ap, subst}
use Rattle.std.specs.Prelude.{MatchOption}
use Rattle.dv_time.specs.Text.{last_second, is_civil, second_of, civil_in}
use Rattle.dv_time.proofs.TextLemmas.{parsed_none, parsed_at, formless, timeless, timely}
use Rattle.dv_time.proofs.texts.parse.Goals as goal

-- no form
pub returns-then-not-has_form : goal.returns-then-not-has_form
returns-then-not-has_form c =
    let p = parsed_none c.args.text.now (formless c.args.text.now (sym c.has_form.ensures ∙ c.if-not-has_form.true)) in
    record { says = p.says; test = p.test; only = p.only }

pub returns-in-None : goal.returns-in-None
returns-in-None c =
    let x : List ℕ = c.args.text.now in
    let none : is_civil (civil_in x) ≡ false = ap is_civil (sym c.civil_in.ensures.value) ∙ c.in-None.ensures in
    let p = parsed_none x (timeless x none) in
    record { says = p.says; test = p.test; only = p.only }

pub returns-in-Some : goal.returns-in-Some
returns-in-Some c =
    let x : List ℕ = c.args.text.now in
    let there : is_civil (civil_in x) ≡ true = ap is_civil (sym c.civil_in.ensures.value) ∙ c.in-Some.ensures.0 in
    let same : c.in-Some.second ≡ second_of (civil_in x) = c.in-Some.ensures.1 ∙ ap second_of c.civil_in.ensures.value in
    let f = subst (λ (n : ℕ). MatchOption c.at.result (last_second < n) (λ m. (m ≡ n) × (n ≤ last_second))) same c.at.ensures in
    let p = parsed_at x c.at.result (timely x (sym c.has_form.ensures ∙ c.if-not-has_form.false) there) f in
    record { says = p.says; test = p.test; only = p.only }
