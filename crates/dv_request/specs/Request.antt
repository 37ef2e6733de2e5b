-- The content type of a request.
use Rattle.std.specs.Prelude.{ℕ, List, [], ◌∷◌}

-- the contents octets of id-ct-DVCSRequestData, 1.2.840.113549.1.9.16.1.7
abbrev pub request_data_type : List ℕ
request_data_type = 42 ∷ 134 ∷ 72 ∷ 134 ∷ 247 ∷ 13 ∷ 1 ∷ 9 ∷ 16 ∷ 1 ∷ 7 ∷ []
