use Rattle.std.proofs.Common.{◌≡◌, ◌∙◌, ◌+◌, ◌<◌, ℕ, List, length, sym, subst, rules}
use Rattle.dv_outside.specs.Station.{Leaves}
use Rattle.dv_outside.proofs.Looking.{leaves_looking}
use Rattle.dv_register.specs.Layout.{head_of, SoundFor}
use Rattle.dv_register.specs.Steps.{GateOnly, IsGateSet}
use Rattle.dv_register.proofs.MemoryLemmas.{length-head_of}
use Rattle.dv_register.proofs.CloseLemmas.{closing_keeps, read_stands, found_all, gate_room}
use Rattle.dv_register.proofs.opening.read_register.Goals as goal

pub close-requires-clause-room : goal.close-requires-clause-room
close-requires-clause-room g c =
    let sixty : length c.args.key.now ≡ 60 = search rules in
    gate_room _ _ c.args.key.now c.args.limit c.in_ok-first.first c.in_ok-first.records.gate c.in_ok-first.octet _ _ c.in_ok-first.ensures.read c.in_ok-first.ensures.closed c.in_ok-first.ensures.gate sixty c.requires

pub returns-in_err-close-clause-keeps : goal.returns-in_err-close-clause-keeps
returns-in_err-close-clause-keeps g c = λ told first list here.
    let sixty : length c.args.key.now ≡ 60 = search rules in
    let t1 = c.find_records.ensures.tells ∙ told in
    let looks = c.find_records.ensures.looks told in
    let b = g.V.Station.content c.find_records.new.station in
    closing_keeps _ (head_of c.args.key.now c.in_ok-first.first) c.args.limit c.in_ok-first.records.gate c.in_ok-first.octet _ c.in_ok-first.ensures.read.memory.place
    (length-head_of c.args.key.now c.in_ok-first.first sixty)
    (read_stands _ _ c.args.key.now c.args.limit c.in_ok-first.first c.in_ok-first.records.gate c.in_ok-first.octet _ _ c.in_ok-first.ensures.read c.in_ok-first.ensures.closed c.in_ok-first.ensures.gate sixty told)
    first c.args.key.now list _ _ _ (length-head_of c.args.key.now first sixty) looks.reads (g.met.V.Station.reads_is_image c.find_records.new.station t1)
    (leaves_looking (SoundFor (head_of c.args.key.now first) c.args.limit list) _ _ looks here)
    (λ none. c.close.ensures.looks none t1)
    (λ behind. subst (λ (l : List ℕ). Leaves (GateOnly c.in_ok-first.records.gate l) (g.V.Station.content c.find_records.new.station) (g.V.Station.content c.close.new.station)) looks.reads
    (c.close.ensures.images t1 (subst (λ (l : List ℕ). c.in_ok-first.records.gate + 1 < length l) (sym looks.reads) behind)))

pub returns-clause-found : goal.returns-clause-found
returns-clause-found g c =
    let sixty : length c.args.key.now ≡ 60 = search rules in
    found_all _ _ c.args.key.now c.args.limit c.in_ok-first.first c.in_ok-first.records.gate c.in_ok-first.octet _ _ c.in_ok-first.ensures.read c.in_ok-first.ensures.closed c.in_ok-first.ensures.gate sixty
    _ c.in_ok-first.ensures.serial
    (λ told. subst (λ (l : List ℕ). IsGateSet c.in_ok-first.records.gate 0 l (g.V.Station.content c.close.new.station)) (c.find_records.ensures.looks told).reads
    (c.in_ok-close.ensures.closed (c.find_records.ensures.tells ∙ told)))

pub returns-clause-keeps : goal.returns-clause-keeps
returns-clause-keeps g c = λ told first list here.
    let sixty : length c.args.key.now ≡ 60 = search rules in
    let t1 = c.find_records.ensures.tells ∙ told in
    let looks = c.find_records.ensures.looks told in
    closing_keeps _ (head_of c.args.key.now c.in_ok-first.first) c.args.limit c.in_ok-first.records.gate c.in_ok-first.octet _ c.in_ok-first.ensures.read.memory.place
    (length-head_of c.args.key.now c.in_ok-first.first sixty)
    (read_stands _ _ c.args.key.now c.args.limit c.in_ok-first.first c.in_ok-first.records.gate c.in_ok-first.octet _ _ c.in_ok-first.ensures.read c.in_ok-first.ensures.closed c.in_ok-first.ensures.gate sixty told)
    first c.args.key.now list _ _ _ (length-head_of c.args.key.now first sixty) looks.reads (g.met.V.Station.reads_is_image c.find_records.new.station t1)
    (leaves_looking (SoundFor (head_of c.args.key.now first) c.args.limit list) _ _ looks here)
    (λ none. c.close.ensures.looks none t1)
    (λ behind. subst (λ (l : List ℕ). Leaves (GateOnly c.in_ok-first.records.gate l) (g.V.Station.content c.find_records.new.station) (g.V.Station.content c.close.new.station)) looks.reads
    (c.close.ensures.images t1 (subst (λ (l : List ℕ). c.in_ok-first.records.gate + 1 < length l) (sym looks.reads) behind)))
