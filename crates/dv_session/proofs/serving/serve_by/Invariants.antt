use Rattle.std.proofs.Common.{◌≡◌, ◌≤◌, ◌<◌, ◌-◌, ◌^◌, false}
use Rattle.dv_cert.specs.Certificates.{MayLeave}
use Rattle.dv_register.specs.State.{IsKept, IsSameRegister}
use Rattle.dv_session.specs.Issuing.{book_of, notary_of}
use Rattle.dv_session.proofs.RunLemmas.{Going}
use Rattle.dv_session.proofs.serving.serve_by.Given as goal

-- All that was taken was read, and all requests in it were answered.
abbrev pub invariant-loop-taken : goal.invariant-loop-taken
invariant-loop-taken g l = record {
  bound : l.taken ≤ 2 ^ 40;
  on : l.framer.stopped ≡ false;
  not_end : 0 < l.taken → g.S.Source.ended l.source ≡ false;
  going : Going (notary_of l.fn.desk.server l.fn.desk.trust l.fn.register) (g.S.Source.left l.fn.source) (g.S.Source.left l.source) l.framer (g.C.Clock.told l.fn.clock)
      (g.C.Clock.told l.clock) (book_of l.fn.register) (book_of l.register) (g.V.Station.tells l.fn.register.station)
      (g.V.Station.content l.fn.register.station) (g.V.Station.content l.register.station) l.taken;
  is_open : l.register.shut ≡ false;
  kept : IsKept g.V.Station.tells g.V.Station.content g.V.Station.counts MayLeave l.register;
  same : IsSameRegister l.fn.register l.register;
  tells : g.V.Station.tells l.register.station ≡ g.V.Station.tells l.fn.register.station;
  source_later : g.S.Source.faults l.fn.source ≤ g.S.Source.faults l.source;
  clock_later : g.C.Clock.faults l.fn.clock ≤ g.C.Clock.faults l.clock;
  put_later : (g.V.Station.counts l.fn.register.station).put_faults ≤ (g.V.Station.counts l.register.station).put_faults;
  later : (g.V.Station.counts l.fn.register.station).faults ≤ (g.V.Station.counts l.register.station).faults;
}

abbrev pub decreases-loop-taken : goal.decreases-loop-taken
decreases-loop-taken g l = 2 ^ 40 - l.taken
