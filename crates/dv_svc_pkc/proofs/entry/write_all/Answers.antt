use Rattle.std.proofs.Common.{List, [], ℕ, Bor, arith, get_or}
use Rattle.std.proofs.lemmas.List.{get_or_default}
use Rattle.dv_parts.proofs.Flattened.{flat_room}
use Rattle.dv_svc_pkc.proofs.entry.write_all.Goals as goal

pub bytes-requires : goal.bytes-requires
bytes-requires c =
    let slices : List (Bor (List ℕ)) = c.args.slices.now in
    let i : ℕ = c.loop-octets.octets-index in
    let none : Bor (List ℕ) = record { ref_ptr = (0, 0); now = [] } in
    let s : Bor (List ℕ) = get_or slices i none in
    let room = flat_room (λ (x : Bor (List ℕ)). x.now) slices i s c.loop-octets-test.true (get_or_default slices i none s c.loop-octets-test.true) in
    omega (arith, room, c.loop-octets.invariant.room, c.requires)
