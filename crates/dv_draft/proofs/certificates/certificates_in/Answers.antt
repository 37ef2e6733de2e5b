use Rattle.std.proofs.Common.{◌≡◌, ◌≢◌, ◌∙◌, ℕ, true, false, eqb, List, length, sym, subst, arith}
use Rattle.std.specs.declared.alloc.Global.{Global}
use Rattle.std.specs.declared.vec.Vec.{Vec}
use Rattle.dv_asn1.specs.Lists.{lists_of}
use Rattle.dv_draft.proofs.CertificateLists.{IsSoFar, ended, goes_on, lists_length, refused}
use Rattle.dv_draft.proofs.Told.{told_refusal}
use Rattle.dv_draft.proofs.certificates.certificates_in.Goals as goal

pub returns-in_err-octets : goal.returns-in_err-octets
returns-in_err-octets c =
    let seen : List (List ℕ) = lists_of c.loop-next.certificates.items in
    let room : length seen ≢ 6 = λ e. omega (arith, lists_length c.loop-next.certificates.items, c.loop-next.certificates.ok.0, c.len.ensures, c.if-len-eq-CERTIFICATES_LIMIT.false) in
    let some : eqb (length c.loop-next.next.rest) 0 ≡ false = sym c.at_end.ensures ∙ c.loop-next-test.true in
    let h = refused c.args.own c.args.contents c.loop-next.next seen c.in_err-octets.field-0.0 c.loop-next.invariant room some c.in_err-octets.ensures.0 in
    told_refusal (λ (cs : Vec (Vec ℕ Global) Global). lists_of cs.items) c.from_residual.result c.in_err-octets.field-0.0 _ c.from_residual.ensures h

pub loop-next-preserved : goal.loop-next-preserved
loop-next-preserved c =
    let seen : List (List ℕ) = lists_of c.loop-next.certificates.items in
    let room : length seen ≢ 6 = λ e. omega (arith, lists_length c.loop-next.certificates.items, c.loop-next.certificates.ok.0, c.len.ensures, c.if-len-eq-CERTIFICATES_LIMIT.false) in
    let some : eqb (length c.loop-next.next.rest) 0 ≡ false = sym c.at_end.ensures ∙ c.loop-next-test.true in
    let h = goes_on c.args.own c.args.contents c.loop-next.next c.read_certificate.new.c seen c.in_ok-octets.octets.now c.loop-next.invariant room some c.in_ok-octets.ensures in
    subst (λ (cs : List (List ℕ)). IsSoFar c.args.own c.args.contents cs c.read_certificate.new.c) (sym c.in_ok-keep.ensures) h

pub returns : goal.returns
returns c =
    let seen : List (List ℕ) = lists_of c.loop-next.certificates.items in
    let none : eqb (length c.loop-next.next.rest) 0 ≡ true = sym c.at_end.ensures ∙ c.loop-next-test.false in
    ended c.args.own c.args.contents c.loop-next.next seen c.loop-next.invariant none
