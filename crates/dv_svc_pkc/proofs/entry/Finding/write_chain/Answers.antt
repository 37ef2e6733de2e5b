use Rattle.std.proofs.Common.{List, ℕ, Bor, true, arith, ap, length, subst, sym}
use Rattle.std.specs.List.{flat_map}
use Rattle.std.proofs.lemmas.List.{length-append}
use Rattle.dv_schema.specs.Schema.{spelling}
use Rattle.dv_status.specs.Types.{status_info}
use Rattle.dv_asn1.specs.Writing.{Writes}
use Rattle.dv_asn1.proofs.Written.{written_more}
use Rattle.dv_svc_pkc.specs.Entries.{granted_if}
use Rattle.dv_svc_pkc.proofs.Entered.{chain_is}
use Rattle.dv_svc_pkc.proofs.entry.Finding.write_chain.Goals as goal

pub write_all-requires : goal.write_all-requires
write_all-requires c =
    let f = c.args.self.now in
    let slices : List (Bor (List ℕ)) = c.deref.result.now in
    let is = chain_is f.above c.in-Some.above slices c.in-Some.is c.deref.ensures.value in
    omega (arith, ap length is, length-append (flat_map (λ (s : Bor (List ℕ)). s.now) slices) (spelling (status_info 162) (granted_if true)), c.requires)

pub write_status-requires-in-Some : goal.write_status-requires-in-Some
write_status-requires-in-Some c =
    let f = c.args.self.now in
    let slices : List (Bor (List ℕ)) = c.deref.result.now in
    let is = chain_is f.above c.in-Some.above slices c.in-Some.is c.deref.ensures.value in
    omega (arith, ap length is, length-append (flat_map (λ (s : Bor (List ℕ)). s.now) slices) (spelling (status_info 162) (granted_if true)), c.requires, c.write_all.ensures.room)

pub returns-in-Some : goal.returns-in-Some
returns-in-Some c =
    let f = c.args.self.now in
    let slices : List (Bor (List ℕ)) = c.deref.result.now in
    let status : List ℕ = spelling (status_info 162) (granted_if true) in
    let is = chain_is f.above c.in-Some.above slices c.in-Some.is c.deref.ensures.value in
    let w = written_more c.args.out.now c.write_all.new.out c.write_status-in-Some.new.out (flat_map (λ (s : Bor (List ℕ)). s.now) slices) status c.write_all.ensures c.write_status-in-Some.ensures in
    subst (Writes c.args.out.now c.write_status-in-Some.new.out) (sym is) w
