-- Each pick, by the file that the last sync made sure of.
use Rattle.std.proofs.Common.{◌≡◌, ◌∙◌, ◌++◌, ◌-◌, List, ℕ, length, drop, replicate, ap}
use Rattle.dv_outside_mem.proofs.JournalLemmas.{all_within-take}
use Rattle.dv_outside_mem.proofs.ImageLemmas.{all_within-drop, old_picked, new_picked, torn_picked}
use Rattle.dv_outside_mem.proofs.image.after_crash.Goals as goal

pub replay-requires : goal.replay-requires
replay-requires c = all_within-take _ c.last_sync-sure.result c.args.log.now c.requires

pub replay-requires-in-New : goal.replay-requires-in-New
replay-requires-in-New c =
    let sure = c.last_sync-sure.result in
    let log = c.args.log.now in
    let size = length c.args.tape.now in
    all_within-take size (length log - sure) (drop sure log) (all_within-drop size sure log c.requires)

pub replay-requires-in-Torn : goal.replay-requires-in-Torn
replay-requires-in-Torn c =
    let sure = c.last_sync-sure.result in
    let log = c.args.log.now in
    let size = length c.args.tape.now in
    rw (c.deref.ensures.len, c.in_ok-same-in-Torn.ensures.len)
    (all_within-take size (length log - sure) (drop sure log) (all_within-drop size sure log c.requires))

pub returns-in-Old : goal.returns-in-Old
returns-in-Old c =
    rw c.in-Old.is (old_picked c.args.tape.now c.args.base.now c.extend_from_slice.new.self.items c.replay.new.file.items c.args.log.now c.last_sync-sure.result c.last_sync-sure.ensures
    (c.in_ok-extend_from_slice.ensures.items ∙ ap (λ (l : List ℕ). l ++ c.args.base.now) c.new-file.ensures.items) c.in_ok-replay.ensures)

pub returns-in_ok-replay-in-New : goal.returns-in_ok-replay-in-New
returns-in_ok-replay-in-New c =
    rw c.in-New.is (c.in_ok-replay-in-New.ensures ∙ new_picked c.args.tape.now c.args.base.now c.extend_from_slice.new.self.items c.replay.new.file.items c.args.log.now c.last_sync-sure.result c.last_sync-sure.ensures
    (c.in_ok-extend_from_slice.ensures.items ∙ ap (λ (l : List ℕ). l ++ c.args.base.now) c.new-file.ensures.items) c.in_ok-replay.ensures)

pub returns-in_ok-replay-in-Torn : goal.returns-in_ok-replay-in-Torn
returns-in_ok-replay-in-Torn c =
    let same : c.deref.result.now ≡ replicate (length c.args.tape.now) c.in-Torn.octet = c.deref.ensures.value ∙ c.in_ok-same-in-Torn.ensures.items_if_clones_equal (λ y is. is) in
    rw c.in-Torn.is (c.in_ok-replay-in-Torn.ensures ∙ torn_picked c.args.tape.now c.args.base.now c.extend_from_slice.new.self.items c.replay.new.file.items c.args.log.now c.last_sync-sure.result c.last_sync-sure.ensures
    (c.in_ok-extend_from_slice.ensures.items ∙ ap (λ (l : List ℕ). l ++ c.args.base.now) c.new-file.ensures.items) c.in_ok-replay.ensures
    c.in-Torn.octet c.deref.result.now same c.requires)
