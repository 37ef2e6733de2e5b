-- Words that are a line aren't read for want of memory alone.
use Rattle.std.proofs.Common.{◌≡◌, ◌∙◌, ℕ, ap, subst, sym}
use Rattle.dv_lines.specs.Line.{line_of, texts_of}
use Rattle.dv_exit.specs.declared.status.Status.TheVariants.{Memory}
use Rattle.dv_exit.specs.Status.{number_of}
use Rattle.dv_tool.specs.Tool.{Ends}
use Rattle.dv_tool.proofs.LineLemmas.{memory_ends, tool_is_line}
use Rattle.dv_exit.proofs.LineLemmas.{memory_fault}
use Rattle.dv_tool.proofs.run.run_tool.Goals as goal

pub returns-in-Err-clause-ends : goal.returns-in-Err-clause-ends
returns-in-Err-clause-ends g c = λ told is.
    let memory : c.say_no_line-status.result ≡ Memory =
    c.say_no_line-status.ensures.memory.1 (memory_fault c.in-Err.fault _ c.in-Err.ensures.line told (tool_is_line (line_of (texts_of c.args.words.now)) told is)) in
    subst (λ (n : ℕ). Ends g.V.Station.tells g.V.Station.content g.V.Station.counts (g.F.Shelf.files c.args.shelf.now) told n c.args.station c.args.station)
    (sym (c.number.ensures ∙ ap number_of memory))
    (memory_ends g.V.Station.tells g.V.Station.content g.V.Station.counts (g.F.Shelf.files c.args.shelf.now) (line_of (texts_of c.args.words.now)) told c.args.station is)
