use Rattle.std.proofs.Common.{ℕ, List, Option, length, ap, arith}
use Rattle.std.specs.Prelude.{option_map}
use Rattle.dv_schema.specs.Tlv.{tlv}
use Rattle.dv_schema.specs.Schema.{spelled_if}
use Rattle.dv_draft.specs.Parts.{view_status}
use Rattle.dv_draft.specs.Views.{view_draft}
use Rattle.dv_draft.proofs.DraftLemmas.{draft_size, later_size}
use Rattle.dv_draft.proofs.draft.Draft.after_serial_len.Goals as goal

pub overflow_add-result-2 : goal.overflow_add-result-2
overflow_add-result-2 c =
    let d = c.args.self.now in
    let e = later_size d.time (option_map view_status d.status) d.policy d.req_signature d.certs in
    let p = ap (λ (o : Option (List ℕ)). length (spelled_if (tlv 161) o)) c.as_ref.ensures.value in
    omega (arith, e, p, c.part_len.ensures 161, c.status_len.ensures, draft_size (view_draft d), d.short)

pub overflow_add-result-3 : goal.overflow_add-result-3
overflow_add-result-3 c =
    let d = c.args.self.now in
    let e = later_size d.time (option_map view_status d.status) d.policy d.req_signature d.certs in
    let p = ap (λ (o : Option (List ℕ)). length (spelled_if (tlv 161) o)) c.as_ref.ensures.value in
    let q = ap (λ (o : Option (List ℕ)). length (spelled_if (tlv 162) o)) c.as_ref-2.ensures.value in
    omega (arith, e, p, q, c.part_len.ensures 161, c.part_len-2.ensures 162, c.status_len.ensures, draft_size (view_draft d), d.short)

pub overflow_add-result-4 : goal.overflow_add-result-4
overflow_add-result-4 c =
    let d = c.args.self.now in
    let e = later_size d.time (option_map view_status d.status) d.policy d.req_signature d.certs in
    let p = ap (λ (o : Option (List ℕ)). length (spelled_if (tlv 161) o)) c.as_ref.ensures.value in
    let q = ap (λ (o : Option (List ℕ)). length (spelled_if (tlv 162) o)) c.as_ref-2.ensures.value in
    let r = ap (λ (o : Option (List ℕ)). length (spelled_if (tlv 163) o)) c.as_ref-3.ensures.value in
    omega (arith, e, p, q, r, c.part_len.ensures 161, c.part_len-2.ensures 162, c.part_len-3.ensures 163, c.status_len.ensures, draft_size (view_draft d), d.short)

pub returns : goal.returns
returns c =
    let d = c.args.self.now in
    let e = later_size d.time (option_map view_status d.status) d.policy d.req_signature d.certs in
    let p = ap (λ (o : Option (List ℕ)). length (spelled_if (tlv 161) o)) c.as_ref.ensures.value in
    let q = ap (λ (o : Option (List ℕ)). length (spelled_if (tlv 162) o)) c.as_ref-2.ensures.value in
    let r = ap (λ (o : Option (List ℕ)). length (spelled_if (tlv 163) o)) c.as_ref-3.ensures.value in
    omega (arith, e, p, q, r, c.part_len.ensures 161, c.part_len-2.ensures 162, c.part_len-3.ensures 163, c.status_len.ensures)
