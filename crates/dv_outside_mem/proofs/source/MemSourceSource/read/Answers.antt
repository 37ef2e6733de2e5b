-- A read that works takes a piece off the front of what is left.
use Rattle.std.proofs.Common.{◌+◌, ap, length, arith, drop, sym, subst, List, ℕ, Some, Ok}
use Rattle.std.proofs.lemmas.List.{drop-drop}
use Rattle.dv_outside.specs.Source.{Takes}
use Rattle.dv_outside_mem.specs.Source.{SourceState}
use Rattle.dv_outside_mem.proofs.SourceLemmas.{positive_later, next_positive, takes_front}
use Rattle.dv_outside_mem.proofs.source.MemSourceSource.read.Goals as goal

pub invariant_of-self-2 : goal.invariant_of-self-2
invariant_of-self-2 c =
    let s = c.self.inside in (
      omega (arith, c.copy_piece-n.ensures.within, ap length c.deref-2.ensures.value),
      (
        omega (arith, c.piece_after-self-inside.ensures.within, ap length c.deref-3.ensures.value),
        positive_later s.cuts.items s.piece c.piece_after-self-inside.result c.piece_after-self-inside.ensures.later c.self.invariant.1.1,
      ),
    )

pub returns-clause-content : goal.returns-clause-content
returns-clause-content c =
    let s = c.self.inside in
    subst (λ (l : List ℕ). Takes (Some l) (Some (drop (s.at + c.copy_piece-n.result) s.octets.items)) c.copy_piece-n.new.into (Ok c.copy_piece-n.result))
    (ap (λ (v : SourceState). v.left) c.self.view_is)
    (takes_front (drop s.at s.octets.items) (drop (s.at + c.copy_piece-n.result) s.octets.items) c.copy_piece-n.new.into c.args.into.now c.size_at-size.result c.copy_piece-n.result
    (rw (c.size_at-size.ensures, c.deref.ensures.value) (next_positive (drop s.piece s.cuts.items) c.self.invariant.1.1))
    c.requires (rw c.deref-2.ensures.value at c.copy_piece-n.ensures.count) (rw c.deref-2.ensures.value at c.copy_piece-n.ensures.octets)
    (sym (drop-drop c.copy_piece-n.result s.at s.octets.items)))
