use Rattle.std.proofs.Common.{ℕ, List, sym, arith, subst}
use Rattle.dv_session.specs.Splitting.{IsBegun, Splits}
use Rattle.dv_session.proofs.FramerLemmas.{octets_after, after_counted, after_kept, after_feeds, kept_same}
use Rattle.dv_session.proofs.framer.Framer.feed.Goals as goal

pub split_requests-requires : goal.split_requests-requires
split_requests-requires c = subst IsBegun (sym c.deref.ensures.value) (c.self.invariant.reads c.if-self.false).0

pub invariant_of-self-in_err-keep : goal.invariant_of-self-in_err-keep
invariant_of-self-in_err-keep c = kept_same c.self.inside c.keep.new.rest c.self.invariant c.in_err-keep.ensures.err

pub overflow_sub-self : goal.overflow_sub-self
overflow_sub-self c =
    let splits = subst (λ (octets : List ℕ). Splits octets c.args.piece.now c.in_ok-split.split) c.deref.ensures.value c.in_ok-split.ensures in
    omega (arith, octets_after c.self.inside c.args.piece.now c.in_ok-split.split c.self.invariant c.if-self.false splits)

pub invariant_of-self-2 : goal.invariant_of-self-2
invariant_of-self-2 c =
    let splits = subst (λ (octets : List ℕ). Splits octets c.args.piece.now c.in_ok-split.split) c.deref.ensures.value c.in_ok-split.ensures in
    after_kept c.self.inside c.args.piece.now c.in_ok-split.split c.keep.new.rest splits c.in_ok-keep.ensures.ok

pub returns-clause-ok : goal.returns-clause-ok
returns-clause-ok c =
    let splits = subst (λ (octets : List ℕ). Splits octets c.args.piece.now c.in_ok-split.split) c.deref.ensures.value c.in_ok-split.ensures in
    after_feeds c.self.inside c.args.self.now c.args.piece.now c.in_ok-split.split c.keep.new.rest c.stop-2.result c.self.view_is c.self.invariant
    c.if-self.false splits c.in_ok-keep.ensures.ok c.stop-2.ensures c.new-2.result c.new-2.ensures

pub returns-clause-counted : goal.returns-clause-counted
returns-clause-counted c =
    let splits = subst (λ (octets : List ℕ). Splits octets c.args.piece.now c.in_ok-split.split) c.deref.ensures.value c.in_ok-split.ensures in
    after_counted c.self.inside c.args.self.now c.args.piece.now c.in_ok-split.split c.self.view_is c.self.invariant c.if-self.false splits
