use Rattle.std.proofs.Common.{rules, ◌≡◌, map, subst, refl}
use Rattle.std.specs.Prelude.{option_map}
use Rattle.dv_words.specs.Commands.{names_of}
use Rattle.dv_lines.specs.Line.{IsRead, serve_by, serve_of, serve_options, told_by}
use Rattle.dv_lines.proofs.Lines.{line_of_register, words_are}
use Rattle.dv_lines.proofs.serve.read_serve.Goals as goal

pub returns-in-Ok : goal.returns-in-Ok
returns-in-Ok c =
    let names_are : names_of c.as_slice.result.now ≡ serve_options = search rules in
    let register = c.in_ok-register.register.now in
    line_of_register serve_options (names_of c.as_slice.result.now) serve_of c.args.words.now register c.in-Ok.parsed c.serve_with.result names_are
    c.in_ok-register.ensures.register c.in-Ok.ensures.reading
    (λ us says.
    let others_are = words_are (option_map (λ s. map (λ w. w.now) s.now) c.others.result) us (c.others.ensures us says) in
    let policy_is = c.value.ensures us says refl in
    subst (λ o. IsRead told_by o c.serve_with.result) (λ i. serve_by register (others_are i) (policy_is i)) c.serve_with.ensures)
