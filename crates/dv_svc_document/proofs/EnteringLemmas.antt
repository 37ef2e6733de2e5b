-- The certificates above the first of a path.
use Rattle.std.proofs.Common.{◌≡◌, ◌-◌, ◌<◌, ◌∙◌, ℕ, Option, Some, List, drop, length, map, take, get_or, [], sym, ap, subst}
use Rattle.std.specs.Borrow.{Bor}
use Rattle.std.specs.Option.{option_copied}
use Rattle.std.specs.Prelude.{All}
use Rattle.std.proofs.lemmas.List.{take_rest}
use Rattle.dv_path.specs.declared.path.Path.{Path}
use Rattle.dv_svc_document.specs.Entries.{above, positions_of}
use Rattle.dv_svc_document.proofs.EntryFits.{others}

-- the positions of a path behind its first, as a slice of them
rest_is : (o : Option (Bor Path)) (path : Bor Path) (slice : List ℕ) → o ≡ Some path → slice ≡ path.now.positions → take (length slice - 1) (drop 1 slice) ≡ drop 1 (positions_of (option_copied o))
rest_is o path slice is same =
    take_rest slice 1 ∙ (ap (drop 1) same ∙ ap (λ (x : Option (Bor Path)). drop 1 (positions_of (option_copied x))) (sym is))

-- are within
pub rest_within : (n : ℕ) (o : Option (Bor Path)) (path : Bor Path) (slice : List ℕ) → o ≡ Some path → slice ≡ path.now.positions → All (λ p. p < n) (positions_of (option_copied o)) → All (λ p. p < n) (take (length slice - 1) (drop 1 slice))
rest_within n o path slice is same all = subst (All (λ p. p < n)) (sym (rest_is o path slice is same)) (others n (positions_of (option_copied o)) all)

-- and the certificates there are those above
pub rest_above : (certificates : List (List ℕ)) (o : Option (Bor Path)) (path : Bor Path) (slice : List ℕ) → o ≡ Some path → slice ≡ path.now.positions
    → map (λ p. get_or certificates p []) (take (length slice - 1) (drop 1 slice)) ≡ above certificates (positions_of (option_copied o))
rest_above certificates o path slice is same = ap (map (λ p. get_or certificates p [])) (rest_is o path slice is same)
