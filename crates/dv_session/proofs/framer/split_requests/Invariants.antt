use Rattle.std.proofs.Common.{◌++◌, length}
use Rattle.dv_asn1.specs.Lists.{lists_of}
use Rattle.dv_session.proofs.FramerLemmas.{IsCut}
use Rattle.dv_session.proofs.framer.split_requests.Given as goal

-- the requests so far, and then what is left of the octets
abbrev pub invariant-loop-end : goal.invariant-loop-end
invariant-loop-end l = IsCut (l.fn.begun ++ l.fn.piece) l.fn.begun (lists_of l.requests.items) l.begun l.ahead

-- each request takes some of the piece
abbrev pub decreases-loop-end : goal.decreases-loop-end
decreases-loop-end l = length l.ahead
