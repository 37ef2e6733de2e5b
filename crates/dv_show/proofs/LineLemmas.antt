-- Lines and their parts.
use Rattle.std.proofs.Common.{◌≡◌, ◌∙◌, ◌++◌, ◌∷◌, [], ℕ, List, append_assoc, sym, ap}
use Rattle.std.specs.Prelude.{Option, Some, None, codes, unwrap_or}
use Rattle.std.specs.Fmt.{decimal}
use Rattle.dv_show.specs.Lines.{line_for_notice, name_of_failure}

-- the line for a notice whose least failure bit has no name
pub line_of_bit : (least : Option ℕ) (bit : ℕ) → least ≡ Some bit → None ≡ name_of_failure bit → line_for_notice least ≡ codes "notice bit " ++ decimal bit ++ 10 ∷ []
line_of_bit least bit some none =
    ap line_for_notice some
    ∙ ap (λ (o : Option (List ℕ)). codes "notice " ++ unwrap_or o (codes "bit " ++ decimal bit) ++ 10 ∷ []) (sym none)

-- a text to which five parts were put, one after another
pub five_parts : (text a b c d e t u v w x : List ℕ) → t ≡ text ++ a → u ≡ t ++ b → v ≡ u ++ c → w ≡ v ++ d → x ≡ w ++ e → x ≡ text ++ (a ++ b ++ c ++ d ++ e)
five_parts text a b c d e t u v w x h i j k l =
    l ∙ ap (λ (o : List ℕ). o ++ e) (k ∙ ap (λ (o : List ℕ). o ++ d) (j ∙ ap (λ (o : List ℕ). o ++ c) (i ∙ ap (λ (o : List ℕ). o ++ b) h))) ∙ simp append_assoc
