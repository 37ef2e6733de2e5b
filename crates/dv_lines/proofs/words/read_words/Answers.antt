use Rattle.std.proofs.Common.{drop}
use Rattle.std.specs.Prelude.{option_and_then}
use Rattle.dv_words.specs.Uses.{uses_of}
use Rattle.dv_lines.specs.Line.{init_of, init_options, line_at, request_of, request_options, texts_of}
use Rattle.dv_lines.proofs.Limits.{init_line_keeps, read_limits, request_line_keeps}
use Rattle.dv_lines.proofs.Lines.{no_command}
use Rattle.dv_lines.proofs.words.read_words.Goals as goal

pub returns-in_default-as_str-clause-line : goal.returns-in_default-as_str-clause-line
returns-in_default-as_str-clause-line c = λ _. no_command c.args.words.now c.in-Some.command.now c.as_str.result.now c.in-Some.ensures.item.3.0 c.in-Some.ensures.item.1
    c.as_str.ensures.value c.in_default-as_str.not-request c.in_default-as_str.not-show c.in_default-as_str.not-init c.in_default-as_str.not-serve c.in_default-as_str.not-reissue

pub returns-in-init-clause-limits : goal.returns-in-init-clause-limits
returns-in-init-clause-limits c =
    let rest = drop 1 (texts_of c.args.words.now) in
    read_limits (line_at init_options init_of rest) c.read_init.result (init_line_keeps rest) c.read_init.ensures

pub returns-in-request-clause-limits : goal.returns-in-request-clause-limits
returns-in-request-clause-limits c =
    let rest = drop 1 (texts_of c.args.words.now) in
    read_limits (option_and_then request_of (uses_of request_options rest)) c.read_request.result (request_line_keeps rest) c.read_request.ensures
