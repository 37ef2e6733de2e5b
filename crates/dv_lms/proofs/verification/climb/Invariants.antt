use Rattle.std.proofs.Common.{◌≡◌}
use Rattle.dv_lms.specs.Verifies.{ancestor, sibling_in}
use Rattle.dv_lms.proofs.verification.climb.Given as goal

abbrev pub invariant-loop-level : goal.invariant-loop-level
invariant-loop-level l = l.hash ≡ ancestor l.id (sibling_in l.signature) l.r l.initial.hash l.level
