use Rattle.std.proofs.Common.{◌≡◌, map, drop}
use Rattle.std.specs.String.{string_bytes}
use Rattle.dv_words.specs.Uses.{has_short}
use Rattle.dv_words.proofs.words.one_dash_word.Given as goal

abbrev pub invariant-loop-word : goal.invariant-loop-word
invariant-loop-word l = has_short (map (λ w. string_bytes w) l.words) ≡ has_short (map (λ w. string_bytes w) (drop l.word-index l.words))
