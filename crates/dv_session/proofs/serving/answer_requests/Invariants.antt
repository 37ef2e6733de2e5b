use Rattle.std.proofs.Common.{◌≡◌, ◌≤◌, take, false}
use Rattle.std.specs.Prelude.{Ok}
use Rattle.dv_asn1.specs.Lists.{lists_of}
use Rattle.dv_cert.specs.Certificates.{MayLeave}
use Rattle.dv_register.specs.State.{IsKept, IsSameRegister}
use Rattle.dv_session.specs.Issuing.{book_of, notary_of}
use Rattle.dv_session.specs.Serving.{AnswersRequests}
use Rattle.dv_session.proofs.serving.answer_requests.Given as goal

-- The requests so far were answered.
abbrev pub invariant-loop-request : goal.invariant-loop-request
invariant-loop-request g l = record {
  answering : AnswersRequests (notary_of l.fn.desk.server l.fn.desk.trust l.fn.register) (take l.request-index (lists_of l.requests)) (Ok tt)
      (g.C.Clock.told l.fn.clock) (g.C.Clock.told l.clock) (book_of l.fn.register) (book_of l.register) (g.V.Station.tells l.fn.register.station)
      (g.V.Station.content l.fn.register.station) (g.V.Station.content l.register.station);
  is_open : l.register.shut ≡ false;
  kept : IsKept g.V.Station.tells g.V.Station.content g.V.Station.counts MayLeave l.register;
  same : IsSameRegister l.fn.register l.register;
  tells : g.V.Station.tells l.register.station ≡ g.V.Station.tells l.fn.register.station;
  clock_later : g.C.Clock.faults l.fn.clock ≤ g.C.Clock.faults l.clock;
  put_later : (g.V.Station.counts l.fn.register.station).put_faults ≤ (g.V.Station.counts l.register.station).put_faults;
  later : (g.V.Station.counts l.fn.register.station).faults ≤ (g.V.Station.counts l.register.station).faults;
}
