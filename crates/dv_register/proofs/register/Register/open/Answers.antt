use Rattle.std.proofs.Common.{◌≡◌, ◌∙◌, ap, refl, sym, subst, ℕ, List, length, rules, arith, IsTrue}
use Rattle.dv_lms.specs.Height.{leaf_count}
use Rattle.dv_lms.specs.Identity.{Identity}
use Rattle.dv_lms.specs.Signed.{public_of}
use Rattle.dv_register.specs.Layout.{Stands, head_of}
use Rattle.dv_register.specs.Opening.{IsCause, IsFound, KeepsSound}
use Rattle.dv_register.specs.Refusals.{IsNoRegister, IsOtherKey}
use Rattle.dv_register.specs.State.{entries_of}
use Rattle.dv_register.proofs.CloseLemmas.{held_found, stands_begins}
use Rattle.dv_register.proofs.LimitLemmas.{leaf_count-le}
use Rattle.dv_register.proofs.MemoryLemmas.{length-entries_of, length-head_of}
use Rattle.dv_register.proofs.RefusalLemmas.{good_cause}
use Rattle.dv_register.proofs.register.Register.open.Goals as goal

pub read_register-requires : goal.read_register-requires
read_register-requires g c = omega (arith, c.leaves-limit.ensures, leaf_count-le c.height.result)

pub invariant_of-result : goal.invariant_of-result
invariant_of-result g c =
    let sixty : length c.public.result ≡ 60 = search rules in
    let same : c.public.result ≡ public_of c.of.result.value = c.public.ensures ∙ sym (ap public_of c.of.ensures) in
    held_found g.V.Station.tells g.V.Station.content g.V.Station.counts g.P.Releases.allows _ c.leaves-limit.result c.in-Ok.records.gate c.in-Ok.records.places.items c.in-Ok.records.octets.items
    (IsTrue (g.V.Station.tells c.args.station)) (g.V.Station.content c.args.station).reads (λ told. sym c.read_register.ensures.tells ∙ told)
    (subst (λ (k : List ℕ). IsFound (IsTrue (g.V.Station.tells c.args.station)) (g.V.Station.content c.args.station).reads k c.leaves-limit.result c.in-Ok.first c.in-Ok.records.gate
    c.in-Ok.records.places.items c.in-Ok.records.octets.items (g.V.Station.content c.read_register.new.station)) same c.in-Ok.ensures.found)
    refl (omega (arith, c.len.ensures)) refl c.of-opening.ensures (ap length (sym same) ∙ sixty)
    (c.leaves-limit.ensures ∙ ap leaf_count c.height.ensures ∙ sym (ap (λ (i : Identity). leaf_count i.height) c.of.ensures))

pub returns-in-Ok-clause-kept : goal.returns-in-Ok-clause-kept
returns-in-Ok-clause-kept g c = (invariant_of-result g c).kept

pub returns-in-Ok-clause-base : goal.returns-in-Ok-clause-base
returns-in-Ok-clause-base g c = omega (arith, c.len.ensures, length-entries_of c.in-Ok.records.places.items c.in-Ok.records.octets.items)

pub returns-in-Ok-clause-stands : goal.returns-in-Ok-clause-stands
returns-in-Ok-clause-stands g c = λ told.
    let file = (g.V.Station.content c.args.station).reads in
    let list = entries_of c.in-Ok.records.places.items c.in-Ok.records.octets.items in
    let same : c.public.result ≡ public_of c.of.result.value = c.public.ensures ∙ sym (ap public_of c.of.ensures) in
    let limit : c.leaves-limit.result ≡ leaf_count c.of.result.value.height = c.leaves-limit.ensures ∙ ap leaf_count c.height.ensures ∙ sym (ap (λ (i : Identity). leaf_count i.height) c.of.ensures) in
    subst (λ n. Stands file (head_of (public_of c.of.result.value) c.in-Ok.first) n list) limit
    (subst (λ (k : List ℕ). Stands file (head_of k c.in-Ok.first) c.leaves-limit.result list) same (c.in-Ok.ensures.found.stands told))

pub returns-in-Ok-clause-begins : goal.returns-in-Ok-clause-begins
returns-in-Ok-clause-begins g c = λ told first begun here.
    let file = (g.V.Station.content c.args.station).reads in
    let list = entries_of c.in-Ok.records.places.items c.in-Ok.records.octets.items in
    let sixty : length c.public.result ≡ 60 = search rules in
    let size : length (public_of c.args.key.now) ≡ 60 = ap length (sym c.public.ensures) ∙ sixty in
    let limit : c.leaves-limit.result ≡ leaf_count c.args.key.now.height = c.leaves-limit.ensures ∙ ap leaf_count c.height.ensures in
    stands_begins file (head_of (public_of c.args.key.now) c.in-Ok.first) (head_of (public_of c.args.key.now) first) (leaf_count c.args.key.now.height) list begun
    (length-head_of (public_of c.args.key.now) c.in-Ok.first size) (length-head_of (public_of c.args.key.now) first size)
    (subst (λ n. Stands file (head_of (public_of c.args.key.now) c.in-Ok.first) n list) limit
    (subst (λ (k : List ℕ). Stands file (head_of k c.in-Ok.first) c.leaves-limit.result list) c.public.ensures (c.in-Ok.ensures.found.stands told)))
    (here file (g.met.V.Station.reads_is_image c.args.station told))

pub returns-in-Ok-clause-keeps : goal.returns-in-Ok-clause-keeps
returns-in-Ok-clause-keeps g c = λ told.
    let old = g.V.Station.content c.args.station in
    let new = g.V.Station.content c.read_register.new.station in
    let limit : c.leaves-limit.result ≡ leaf_count c.args.key.now.height = c.leaves-limit.ensures ∙ ap leaf_count c.height.ensures in
    subst (λ n. KeepsSound (public_of c.args.key.now) n old new) limit
    (subst (λ (k : List ℕ). KeepsSound k c.leaves-limit.result old new) c.public.ensures (c.read_register.ensures.keeps told))

pub returns-in-Err-clause-keeps : goal.returns-in-Err-clause-keeps
returns-in-Err-clause-keeps g c = λ told.
    let old = g.V.Station.content c.args.station in
    let new = g.V.Station.content c.read_register.new.station in
    let limit : c.leaves-limit.result ≡ leaf_count c.args.key.now.height = c.leaves-limit.ensures ∙ ap leaf_count c.height.ensures in
    subst (λ n. KeepsSound (public_of c.args.key.now) n old new) limit
    (subst (λ (k : List ℕ). KeepsSound k c.leaves-limit.result old new) c.public.ensures (c.read_register.ensures.keeps told))

pub returns-in-Err-clause-refused : goal.returns-in-Err-clause-refused
returns-in-Err-clause-refused g c =
    let told = IsTrue (g.V.Station.tells c.args.station) in
    let file = (g.V.Station.content c.args.station).reads in
    let before = (g.V.Station.counts c.args.station).faults in
    let now = (g.V.Station.counts c.read_register.new.station).faults in
    let limit : c.leaves-limit.result ≡ leaf_count c.args.key.now.height = c.leaves-limit.ensures ∙ ap leaf_count c.height.ensures in
    subst (λ n. IsCause (λ place. told → IsNoRegister file (public_of c.args.key.now) n place) (told → IsOtherKey file (public_of c.args.key.now)) before now c.in-Err.refusal) limit
    (subst (λ (k : List ℕ). IsCause (λ place. told → IsNoRegister file k c.leaves-limit.result place) (told → IsOtherKey file k) before now c.in-Err.refusal) c.public.ensures c.in-Err.ensures.refused)

pub returns-in-Err-clause-good : goal.returns-in-Err-clause-good
returns-in-Err-clause-good g c = λ told first list serial stands.
    let sixty : length c.public.result ≡ 60 = search rules in
    let size : length (public_of c.args.key.now) ≡ 60 = ap length (sym c.public.ensures) ∙ sixty in
    good_cause (g.V.Station.content c.args.station).reads (public_of c.args.key.now) (leaf_count c.args.key.now.height) first list size serial stands
    (IsTrue (g.V.Station.tells c.args.station)) _ _ c.in-Err.refusal told (returns-in-Err-clause-refused g c)
