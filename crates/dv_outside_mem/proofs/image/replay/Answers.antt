-- One call more.
use Rattle.std.proofs.Common.{◌∙◌, get_or, take, ap, sym, arith}
use Rattle.std.proofs.lemmas.List.{take_more}
use Rattle.dv_outside_mem.specs.declared.made.Made.TheVariants.{Look}
use Rattle.dv_outside_mem.specs.Replay.{State, start, after}
use Rattle.dv_outside_mem.proofs.JournalLemmas.{after-push}
use Rattle.dv_outside_mem.proofs.ImageLemmas.{all_within-at, step_reads_only}
use Rattle.dv_outside_mem.proofs.image.replay.Goals as goal

pub replay_call-requires : goal.replay_call-requires
replay_call-requires c = all_within-at _ c.args.log.now c.loop-call.call-index c.requires

pub loop-call-preserved : goal.loop-call-preserved
loop-call-preserved c =
    let tape = c.args.tape.now in
    let first = start c.args.file.now.items in
    let log = c.args.log.now in
    let i = c.loop-call.call-index in
    c.in_ok-replay_call.ensures
    ∙ step_reads_only tape (start c.loop-call.file.items) (after tape first (take i log)) (get_or log i Look) c.loop-call.invariant
    ∙ ap (λ (s : State). s.reads) (sym (after-push tape first (take i log) (get_or log i Look)))
    ∙ ap (λ l. (after tape first l).reads) (sym (take_more log i Look (omega arith)))
