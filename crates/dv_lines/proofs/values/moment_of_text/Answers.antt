use Rattle.std.proofs.Common.{◌≡◌, ◌∙◌, true, false, cond, sym, ap, ℕ, List, Option, Some, None}
use Rattle.std.specs.Prelude.{MatchOption}
use Rattle.dv_time.specs.Text.{civil_in, is_generalized, second_of, Text, text_of}
use Rattle.dv_time.proofs.TextLemmas.{text_there}
use Rattle.dv_lines.specs.Values.{moment_of}
use Rattle.dv_lines.proofs.values.moment_of_text.Goals as goal

-- the second that a text has, and what is parsed of it
parsed : (text : List ℕ) (result : Option ℕ) → MatchOption result (is_generalized text ≡ false) (λ m. (is_generalized text ≡ true) × (text_of m ≡ text))
    → ((s : ℕ) → Text s text → result ≡ Some s) → result ≡ moment_of text
unfolding moment_of
parsed text None test only = sym (ap (λ b. cond b (Some (second_of (civil_in text))) None) test)
parsed text (Some m) test only =
    only (second_of (civil_in text)) (text_there text test.0) ∙ sym (ap (λ b. cond b (Some (second_of (civil_in text))) None) test.0)

pub returns : goal.returns
returns c = parsed c.as_bytes.result.now c.parse.result c.parse.ensures.test c.parse.ensures.only ∙ ap moment_of c.as_bytes.ensures.value
