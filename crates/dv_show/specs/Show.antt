-- What `show` says of a file.
use Rattle.std.specs.Prelude.{◌≡◌, ◌≢◌, ◌⊎◌, ◌<◌, ℕ, List, [], map, length, Option, IsSomeAnd}
use Rattle.std.specs.List.{AllByRecursion, concat}
use Rattle.dv_show.specs.declared.shown.Shown.{Shown}
use Rattle.dv_show.specs.Lines.{line_for}
use Rattle.dv_show.specs.Values.{IsShown}

-- values, each with its octets
abbrev pub Values : Type 0
Values = List (Shown × List ℕ)

abbrev pub AreShown : Values → Type 0
AreShown values = AllByRecursion (λ v. IsShown v.0 v.1) values

abbrev pub octets_of_all : Values → List ℕ
octets_of_all values = concat (map (λ v. v.1) values)

abbrev pub text_of_all : Values → List ℕ
text_of_all values = concat (map (λ v. line_for v.0) values)

-- The text for a file: the file is values one after another, at least one, each a request, a notice or a certificate of service; the text
-- has a line for each of them, in their order.
pub record ShowOf (file text : List ℕ) : Type 0 where
  pub values : Values
  pub some : values ≢ []
  pub shown : AreShown values
  pub octets : file ≡ octets_of_all values
  pub lines : text ≡ text_of_all values

-- The file isn't shown: it is longer than 16,777,216 octets, or no text is that of its octets.
abbrev pub IsNotShown : Option (List ℕ) → Type 0
IsNotShown file = IsSomeAnd file (λ octets. (16777216 < length octets) ⊎ ((text : List ℕ) → ¬ ShowOf octets text))
