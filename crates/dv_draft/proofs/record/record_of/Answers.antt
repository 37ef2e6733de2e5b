use Rattle.std.proofs.Common.{◌≡◌, ◌∙◌, ℕ, List, length, ap, sym, arith}
use Rattle.std.specs.List.{concat}
use Rattle.std.proofs.lemmas.List.{length-append}
use Rattle.dv_schema.specs.Schema.{spelling}
use Rattle.dv_schema.specs.Tlv.{tlv}
use Rattle.dv_asn1.specs.Lists.{lists_of}
use Rattle.dv_x509.proofs.OwnLemmas.{value_size, whole_front}
use Rattle.dv_draft.specs.Records.{record_of as record_octets}
use Rattle.dv_draft.specs.Types.{draft as draft_type}
use Rattle.dv_draft.specs.Views.{view_draft}
use Rattle.dv_draft.proofs.ListLemmas.{length-lists, record_is}
use Rattle.dv_draft.proofs.record.record_of.Goals as goal

pub fill-requires-clause-listed : goal.fill-requires-clause-listed
fill-requires-clause-listed c = omega (arith, c.in-Some.ensures, length-lists c.as_slice-certificates.result.now)

pub fill-requires-clause-size : goal.fill-requires-clause-size
fill-requires-clause-size c =
    let vs = c.as_slice-certificates.result.now in
    let all : List ℕ = concat (lists_of vs) in
    let drafted : List ℕ = spelling draft_type (view_draft c.args.draft.now) in
    let n : ℕ = c.in-Some.listed in
    let e : n ≡ length all = omega (arith, c.in-Some.ensures, length-lists vs) in
    let size = value_size 48 c.value_len.result n all e c.value_len.ensures.octets in
    omega (arith, size, c.encoded_len-drafted.ensures.octets, length-append (tlv 48 all) drafted, c.deref_mut.ensures.len, c.in_ok-octets.ensures.len)

pub returns : goal.returns
returns c =
    let into : List ℕ = c.fill.new.into in
    let d = view_draft c.args.draft.now in
    let n : c.in_ok-octets.octets.len ≡ length into = omega (arith, c.fill.auto.into, c.deref_mut.ensures.len, c.in_ok-octets.ensures.len) in
    let same = ap (λ (cs : List (List ℕ)). record_octets cs d) c.as_slice-certificates.ensures in
    whole_front c.in_ok-octets.octets.len into _ n ∙ (c.fill.ensures ∙ (sym (record_is (lists_of c.as_slice-certificates.result.now) d) ∙ same))
