use Rattle.std.proofs.Common.{◌∙◌, ◌+◌, ◌*◌, ℕ, List, length, arith, sym, subst, IsTrue}
use Rattle.dv_register.specs.Opening.{HasAt}
use Rattle.dv_register.proofs.OpeningLemmas.{read_moves}
use Rattle.dv_outside.proofs.Looking.{looks_then}
use Rattle.dv_outside.proofs.Counting.{spends_then, spends_less}
use Rattle.dv_register.proofs.opening.read_records.Goals as goal

pub returns-in_err-octet-2-clause-spends : goal.returns-in_err-octet-2-clause-spends
returns-in_err-octet-2-clause-spends g c =
    spends_less _ _ (3 * c.args.limit + 3) 0 _ _ (omega (arith, c.in_ok-read_record.ensures.count, c.in_ok-read_record.ensures.room)) (omega arith)
    (spends_then _ _ _ _ _ _ _ (spends_then _ _ _ _ _ _ _ c.loop-octet.invariant.spends c.read_record.ensures.spends) c.gate_at-in-loop-octet.ensures.spends)

pub loop-octet-preserved : goal.loop-octet-preserved
loop-octet-preserved g c =
    let told_1 = λ (told : IsTrue (g.V.Station.tells c.args.station.now)). c.loop-octet.invariant.tells ∙ told in
    let told_0 = λ (told : IsTrue (g.V.Station.tells c.loop-octet.station)). sym c.loop-octet.invariant.tells ∙ told in
    record {
      tells = c.gate_at-in-loop-octet.ensures.tells ∙ c.read_record.ensures.tells ∙ c.loop-octet.invariant.tells;
      looks = λ told. looks_then _ _ _ (looks_then _ _ _ (c.loop-octet.invariant.looks told) (c.read_record.ensures.looks (told_1 told)))
          (c.gate_at-in-loop-octet.ensures.looks (c.read_record.ensures.tells ∙ told_1 told));
      puts = c.gate_at-in-loop-octet.ensures.puts ∙ c.read_record.ensures.puts ∙ c.loop-octet.invariant.puts;
      spends =
          spends_less _ _ (3 * length c.read_record.new.records.places.items + 1) 0 _ _ (omega (arith, c.in_ok-read_record.ensures.count)) (omega arith)
          (spends_then _ _ _ _ _ _ _ (spends_then _ _ _ _ _ _ _ c.loop-octet.invariant.spends c.read_record.ensures.spends) c.gate_at-in-loop-octet.ensures.spends);
      fits = c.in_ok-read_record.ensures.room;
      within = c.in_ok-read_record.ensures.gate;
      gate = λ told. subst (λ (l : List ℕ). HasAt l c.read_record.new.records.gate c.in_ok-octet-2.octet)
          ((c.read_record.ensures.looks (told_1 told)).reads ∙ (c.loop-octet.invariant.looks told).reads)
          (c.in_ok-octet-2.ensures.octet (c.read_record.ensures.tells ∙ told_1 told));
      read = λ head size is.
          let before = read_moves _ (IsTrue (g.V.Station.tells c.loop-octet.station)) _ (g.V.Station.content c.loop-octet.station).reads head _ _ _ _ told_0
          (λ told. sym (c.loop-octet.invariant.looks (told_0 told)).reads) (c.loop-octet.invariant.read head size is) in
          read_moves _ _ _ _ head _ _ _ _ told_1 (λ told. (c.loop-octet.invariant.looks told).reads) (c.in_ok-read_record.ensures.read head before);
    }
