use Rattle.std.proofs.Common.{rules, ◌≡◌, map, subst, []}
use Rattle.std.specs.Prelude.{option_map}
use Rattle.dv_words.specs.Commands.{names_of}
use Rattle.dv_lines.specs.Line.{IsRead, reissue_by, reissue_of, told_by}
use Rattle.dv_lines.proofs.Lines.{line_of_register, words_are}
use Rattle.dv_lines.proofs.reissue.read_reissue.Goals as goal

pub returns-in-Ok : goal.returns-in-Ok
returns-in-Ok c =
    let names_are : names_of c.as_slice.result.now ≡ [] = search rules in
    let register = c.in_ok-register.register.now in
    line_of_register [] (names_of c.as_slice.result.now) reissue_of c.args.words.now register c.in-Ok.parsed c.reissue_with.result names_are
    c.in_ok-register.ensures.register c.in-Ok.ensures.reading
    (λ us says.
    let others_are = words_are (option_map (λ s. map (λ w. w.now) s.now) c.others.result) us (c.others.ensures us says) in
    subst (λ o. IsRead told_by o c.reissue_with.result) (λ i. reissue_by register (others_are i)) c.reissue_with.ensures)
