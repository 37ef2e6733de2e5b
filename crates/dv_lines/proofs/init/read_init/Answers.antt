use Rattle.std.proofs.Common.{rules, ◌≡◌, map, subst, refl}
use Rattle.std.specs.Prelude.{option_map}
use Rattle.dv_words.specs.Commands.{names_of}
use Rattle.dv_lines.specs.Line.{init_by, init_of, init_options, IsRead, told_by}
use Rattle.dv_lines.proofs.Lines.{line_of_register, no_line_of_register, words_are}
use Rattle.dv_lines.proofs.init.read_init.Goals as goal

pub returns-in-Ok : goal.returns-in-Ok
returns-in-Ok c =
    let names_are : names_of c.as_slice.result.now ≡ init_options = search rules in
    let register = c.in_ok-register.register.now in
    line_of_register init_options (names_of c.as_slice.result.now) init_of c.args.words.now register c.in-Ok.parsed c.init_with.result names_are
    c.in_ok-register.ensures.register c.in-Ok.ensures.reading
    (λ us says.
    let others_are = words_are (option_map (λ s. map (λ w. w.now) s.now) c.others.result) us (c.others.ensures us says) in
    let from_is = c.value.ensures us says refl in
    let days_is = c.value-in-Ok.ensures us says refl in
    let first_is = c.value-in-Ok-2.ensures us says refl in
    subst (λ o. IsRead told_by o c.init_with.result) (λ i. init_by register (others_are i) (from_is i) (days_is i) (first_is i)) c.init_with.ensures)

pub returns-in-Err : goal.returns-in-Err
returns-in-Err c =
    let names_are : names_of c.as_slice.result.now ≡ init_options = search rules in
    no_line_of_register init_options (names_of c.as_slice.result.now) init_of c.args.words.now c.in_ok-register.register.now c.in-Err.fault c.no_line.result names_are
    c.in_ok-register.ensures.register c.in-Err.ensures.reading c.no_line.ensures.1
