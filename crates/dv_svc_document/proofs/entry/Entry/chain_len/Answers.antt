use Rattle.std.proofs.Common.{◌+◌, ◌≡◌, List, ℕ, Bor, ap, arith, length, sum_by}
use Rattle.dv_path.specs.Rows.{octets_of}
use Rattle.dv_svc_document.proofs.EntryLemmas.{length-chain, sum-slices}
use Rattle.dv_svc_document.proofs.entry.Entry.chain_len.Goals as goal

pub overflow_add-result : goal.overflow_add-result
overflow_add-result c =
    let e = c.args.self.now in
    let same = ap (λ (l : List (Bor (List ℕ))). sum_by length (octets_of l)) c.deref.ensures.value in
    omega (arith, sum-slices c.deref.result.now, same, e.short.others, c.octets_len.ensures, c.status_len.ensures.few)

pub returns-clause-octets : goal.returns-clause-octets
returns-clause-octets c =
    let e = c.args.self.now in
    let same = ap (λ (l : List (Bor (List ℕ))). sum_by length (octets_of l)) c.deref.ensures.value in
    omega (arith, sum-slices c.deref.result.now, same, length-chain (octets_of e.above.items) e.bit, c.octets_len.ensures, c.status_len.ensures.octets)

pub returns-clause-few : goal.returns-clause-few
returns-clause-few c =
    let e = c.args.self.now in
    let same = ap (λ (l : List (Bor (List ℕ))). sum_by length (octets_of l)) c.deref.ensures.value in
    omega (arith, sum-slices c.deref.result.now, same, e.short.others, c.octets_len.ensures, c.status_len.ensures.few)
