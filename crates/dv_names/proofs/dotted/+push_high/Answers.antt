use Rattle.std.proofs.Common.{◌≡◌, ℕ, ◌+◌, List, [], ◌∷◌, ◌++◌, ◌/◌, ◌%◌, map, arith, sym, ap, ◌∙◌, append_assoc}
use Rattle.std.proofs.lemmas.List.{map-append}
use Rattle.std.specs.Int.Digits.{digits_of}
use Rattle.std.proofs.lemmas.Int.Digits.{digits_of_step}
use Rattle.dv_names.proofs.dotted.+push_high.Goals as goal

pub returns-in_ok-push : goal.returns-in_ok-push
returns-in_ok-push t c =
    let n : ℕ = c.args.number in
    let before : List ℕ = c.args.octets.now.items in
    let high : List ℕ = map (λ d. 128 + d) (digits_of 128 (n / 128)) in
    let step : digits_of 128 n ≡ digits_of 128 (n / 128) ++ n % 128 ∷ [] = digits_of_step 128 n (omega arith) c.if-number-gt0.true in
    let all : map (λ d. 128 + d) (digits_of 128 n) ≡ high ++ (128 + n % 128) ∷ [] = ap (map (λ d. 128 + d)) step ∙ map-append (λ d. 128 + d) (digits_of 128 (n / 128)) (n % 128 ∷ []) in
    c.in_ok-push.ensures.items ∙ ap (λ (l : List ℕ). l ++ (128 + n % 128) ∷ []) c.in_ok-push_high.ensures
    ∙ append_assoc before high ((128 + n % 128) ∷ []) ∙ ap (λ (l : List ℕ). before ++ l) (sym all)
