use Rattle.std.proofs.Common.{◌≡◌, ◌∙◌, ◌<◌, List, ◌∷◌, [], ◌++◌, length, sym, ap, subst, refl, arith, IsTrue}
use Rattle.dv_lms.specs.Height.{leaf_count}
use Rattle.dv_outside.specs.Station.{Leaves}
use Rattle.dv_outside.specs.Releases.{Entry}
use Rattle.dv_register.specs.Layout.{SoundFor, IsEntry}
use Rattle.dv_register.specs.State.{State, IsKept, head_in, limit_in, slot_at, entries_of}
use Rattle.dv_register.proofs.StepLemmas.{ok_part, err_part}
use Rattle.dv_register.proofs.MemoryLemmas.{length-entries_of}
use Rattle.dv_register.proofs.LimitLemmas.{leaf_count-le, gate_small}
use Rattle.dv_register.proofs.ReserveLemmas.{none_used, call_images, held_shut, held_longer, memory_longer}
use Rattle.dv_register.proofs.register.Register.reserve.Goals as goal

pub returns-then-self-clause-images : goal.returns-then-self-clause-images
returns-then-self-clause-images g c =
    none_used g.V.Station.tells g.V.Station.content g.V.Station.counts g.P.Releases.allows g.P.Releases.grows _
    (subst (λ (s : State _). IsKept g.V.Station.tells g.V.Station.content g.V.Station.counts g.P.Releases.allows s) c.self.view_is c.self.invariant.kept)

pub overflow_cast-index : goal.overflow_cast-index
overflow_cast-index g c = omega (arith, c.self.invariant.kept.fits, leaf_count-le c.self.inside.key.value.height, length-entries_of c.self.inside.places.items c.self.inside.octets.items)

pub returns-then-index-self-clause-full : goal.returns-then-index-self-clause-full
returns-then-index-self-clause-full g c = (
  λ _. (
    sym (ap (λ s. s.shut) c.self.view_is) ∙ c.if-self.false,
    omega (arith, c.len-index.ensures, length-entries_of c.self.inside.places.items c.self.inside.octets.items, ap (λ s. length s.list) c.self.view_is, ap (λ s. limit_in s) c.self.view_is, c.self.invariant.leaves, c.self.invariant.kept.fits, c.if-index-self.true),
  ),
  λ _. refl,
)

pub returns-then-index-self-clause-images : goal.returns-then-index-self-clause-images
returns-then-index-self-clause-images g c =
    none_used g.V.Station.tells g.V.Station.content g.V.Station.counts g.P.Releases.allows g.P.Releases.grows _
    (subst (λ (s : State _). IsKept g.V.Station.tells g.V.Station.content g.V.Station.counts g.P.Releases.allows s) c.self.view_is c.self.invariant.kept)

pub append-requires-clause-room : goal.append-requires-clause-room
append-requires-clause-room g c =
    let k = c.self.invariant.kept in
    omega (arith, c.requires.short, gate_small _ _ _ _ _ k.key k.entries k.fits c.self.invariant.memory.place)

pub invariant_of-self : goal.invariant_of-self
invariant_of-self g c =
    let room : length (entries_of c.self.inside.places.items c.self.inside.octets.items) < leaf_count c.self.inside.key.value.height = omega (arith, c.self.invariant.leaves, c.len-index.ensures, length-entries_of c.self.inside.places.items c.self.inside.octets.items, c.if-index-self.false) in
    let e : Entry = record { kind = c.args.kind; contents = c.args.contents.now } in
    let entry : IsEntry e = record { kind = c.requires.kind; short = c.requires.short } in
    held_shut g.V.Station.tells g.V.Station.content g.V.Station.counts g.P.Releases.allows g.P.Releases.grows _ _ _ _ _ c.self.invariant c.if-self.false e entry room c.append.new.station
    c.append.ensures.tells c.append.ensures.images c.append.ensures.puts c.append.ensures.cause.later (err_part _ c.append.result (sym c.is_err.ensures.value ∙ c.if-is_err.true) c.append.ensures.cause.failed)

pub returns-then-is_err-clause-full : goal.returns-then-is_err-clause-full
returns-then-is_err-clause-full g c =
    (λ e. absurd (cc), λ full. absurd (omega (arith, full.1, c.len-index.ensures, length-entries_of c.self.inside.places.items c.self.inside.octets.items, ap (λ s. length s.list) c.self.view_is, ap (λ s. limit_in s) c.self.view_is, c.self.invariant.leaves, c.if-index-self.false)))

pub returns-then-is_err-clause-images : goal.returns-then-is_err-clause-images
returns-then-is_err-clause-images g c =
    let room : length (entries_of c.self.inside.places.items c.self.inside.octets.items) < leaf_count c.self.inside.key.value.height = omega (arith, c.self.invariant.leaves, c.len-index.ensures, length-entries_of c.self.inside.places.items c.self.inside.octets.items, c.if-index-self.false) in
    let e : Entry = record { kind = c.args.kind; contents = c.args.contents.now } in
    let entry : IsEntry e = record { kind = c.requires.kind; short = c.requires.short } in
    subst (λ (s : State _). IsTrue (g.V.Station.tells s.station) → Leaves (SoundFor (head_in s) (limit_in s) s.list) (g.V.Station.content s.station) (g.V.Station.content c.append.new.station)) c.self.view_is
    (call_images g.V.Station.tells g.V.Station.content g.V.Station.counts g.P.Releases.allows g.P.Releases.grows _ _ _ _ _ c.self.invariant c.if-self.false e entry room c.append.new.station
    c.append.ensures.tells c.append.ensures.images c.append.ensures.puts)

pub returns-then-is_err-clause-kept : goal.returns-then-is_err-clause-kept
returns-then-is_err-clause-kept g c =
    let room : length (entries_of c.self.inside.places.items c.self.inside.octets.items) < leaf_count c.self.inside.key.value.height = omega (arith, c.self.invariant.leaves, c.len-index.ensures, length-entries_of c.self.inside.places.items c.self.inside.octets.items, c.if-index-self.false) in
    let e : Entry = record { kind = c.args.kind; contents = c.args.contents.now } in
    let entry : IsEntry e = record { kind = c.requires.kind; short = c.requires.short } in
    (held_shut g.V.Station.tells g.V.Station.content g.V.Station.counts g.P.Releases.allows g.P.Releases.grows _ _ _ _ _ c.self.invariant c.if-self.false e entry room c.append.new.station
    c.append.ensures.tells c.append.ensures.images c.append.ensures.puts c.append.ensures.cause.later (err_part _ c.append.result (sym c.is_err.ensures.value ∙ c.if-is_err.true) c.append.ensures.cause.failed)).kept

pub overflow_add-self-2 : goal.overflow_add-self-2
overflow_add-self-2 g c =
    let k = c.self.invariant.kept in
    omega (arith, c.requires.short, gate_small _ _ _ _ _ k.key k.entries k.fits c.self.invariant.memory.place)

pub invariant_of-self-2 : goal.invariant_of-self-2
invariant_of-self-2 g c =
    let room : length (entries_of c.self.inside.places.items c.self.inside.octets.items) < leaf_count c.self.inside.key.value.height = omega (arith, c.self.invariant.leaves, c.len-index.ensures, length-entries_of c.self.inside.places.items c.self.inside.octets.items, c.if-index-self.false) in
    let e : Entry = record { kind = c.args.kind; contents = c.args.contents.now } in
    let entry : IsEntry e = record { kind = c.requires.kind; short = c.requires.short } in
    let memory = memory_longer _ _ _ _ _ e c.self.invariant.memory _ _ c.note.ensures.places c.note.ensures.octets in
    held_longer g.V.Station.tells g.V.Station.content g.V.Station.counts g.P.Releases.allows g.P.Releases.grows _ _ _ _ _ c.self.invariant c.if-self.false e entry room c.append.new.station
    c.append.ensures.tells c.append.ensures.images c.append.ensures.puts _ _ _ _ _ c.append.ensures.cause.later memory.0 memory.1
    (λ told. ok_part _ c.append.result (sym c.is_err.ensures.value ∙ c.if-is_err.false) (c.append.ensures.appended told))

pub returns-clause-reserved : goal.returns-clause-reserved
returns-clause-reserved g c =
    let e : Entry = record { kind = c.args.kind; contents = c.args.contents.now } in
    (memory_longer _ _ _ _ _ e c.self.invariant.memory _ _ c.note.ensures.places c.note.ensures.octets).0
    ∙ ap (λ (l : List Entry). l ++ e ∷ []) (ap (λ s. s.list) c.self.view_is)

pub returns-clause-slot : goal.returns-clause-slot
returns-clause-slot g c =
    let index : c.len-index.result ≡ length c.args.self.now.list = omega (arith, c.len-index.ensures, length-entries_of c.self.inside.places.items c.self.inside.octets.items, ap (λ s. length s.list) c.self.view_is) in
    c.new.ensures ∙ ap (λ (s : State _). slot_at s c.len-index.result) c.self.view_is ∙ ap (slot_at c.args.self.now) index

pub returns-clause-full : goal.returns-clause-full
returns-clause-full g c =
    (λ e. absurd (cc), λ full. absurd (omega (arith, full.1, c.len-index.ensures, length-entries_of c.self.inside.places.items c.self.inside.octets.items, ap (λ s. length s.list) c.self.view_is, ap (λ s. limit_in s) c.self.view_is, c.self.invariant.leaves, c.if-index-self.false)))

pub returns-clause-images : goal.returns-clause-images
returns-clause-images g c =
    let room : length (entries_of c.self.inside.places.items c.self.inside.octets.items) < leaf_count c.self.inside.key.value.height = omega (arith, c.self.invariant.leaves, c.len-index.ensures, length-entries_of c.self.inside.places.items c.self.inside.octets.items, c.if-index-self.false) in
    let e : Entry = record { kind = c.args.kind; contents = c.args.contents.now } in
    let entry : IsEntry e = record { kind = c.requires.kind; short = c.requires.short } in
    subst (λ (s : State _). IsTrue (g.V.Station.tells s.station) → Leaves (SoundFor (head_in s) (limit_in s) s.list) (g.V.Station.content s.station) (g.V.Station.content c.append.new.station)) c.self.view_is
    (call_images g.V.Station.tells g.V.Station.content g.V.Station.counts g.P.Releases.allows g.P.Releases.grows _ _ _ _ _ c.self.invariant c.if-self.false e entry room c.append.new.station
    c.append.ensures.tells c.append.ensures.images c.append.ensures.puts)

pub returns-clause-kept : goal.returns-clause-kept
returns-clause-kept g c = (invariant_of-self-2 g c).kept
