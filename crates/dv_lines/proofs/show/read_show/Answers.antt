use Rattle.std.proofs.Common.{rules, ◌≡◌, List, [], drop, map, subst}
use Rattle.std.specs.Prelude.{option_map, IsSomeAnd}
use Rattle.dv_words.specs.Uses.{Text, uses_of}
use Rattle.dv_words.specs.Commands.{IsParsed, names_of}
use Rattle.dv_lines.specs.Line.{IsRead, show_by, show_of, texts_of, told_by}
use Rattle.dv_lines.proofs.Lines.{line_of_parsed, words_are}
use Rattle.dv_lines.proofs.show.read_show.Goals as goal

pub returns-in-Ok : goal.returns-in-Ok
returns-in-Ok c =
    let names_are : names_of c.as_slice.result.now ≡ [] = search rules in
    let rest = drop 1 (texts_of c.args.words.now) in
    line_of_parsed (uses_of [] rest) c.in-Ok.parsed show_of c.show_with.result
    (subst (λ (names : List Text). IsSomeAnd (uses_of names rest) (λ us. IsParsed us c.in-Ok.parsed)) names_are c.in-Ok.ensures.reading)
    (λ us says.
    let others_are = words_are (option_map (λ s. map (λ w. w.now) s.now) c.others.result) us (c.others.ensures us says) in
    subst (λ o. IsRead told_by o c.show_with.result) (λ i. show_by (others_are i)) c.show_with.ensures)
