use Rattle.std.proofs.Common.{◌≡◌, ◌∙◌, ◌<◌, ◌≤◌, ℕ, true, false, eqb, List, [], length, sym, ap, subst, arith}
use Rattle.dv_asn1.specs.Lists.{lists_of}
use Rattle.dv_schema.specs.Reading.{Spot}
use Rattle.dv_files.specs.Certificates.{AreCertificates, AreSoFar}
use Rattle.dv_files.specs.Causes.{IsCertificateFault}
use Rattle.dv_files.proofs.CertificateLists.{at_end, before_end, begun, complete, fault_more, fault_next, full, goes_on, length-lists_of, refused}
use Rattle.dv_files.proofs.certificates.read_certificates.Goals as goal

pub loop-alloc-init : goal.loop-alloc-init
loop-alloc-init c =
    let octets : List ℕ = c.args.octets.now in
    subst (λ (cs : List (List ℕ)). AreSoFar 6 octets cs c.new-next.result) (sym (ap lists_of c.new-certificates.ensures.items))
    (subst (λ (q : Spot). AreSoFar 6 octets [] q) (sym c.new-next.ensures) (begun 6 octets))

pub returns-in-Err-clause-refused : goal.returns-in-Err-clause-refused
returns-in-Err-clause-refused c =
    let octets : List ℕ = c.args.octets.now in
    let seen : List (List ℕ) = lists_of c.loop-alloc.certificates.items in
    let room : length seen < 6 = omega (arith, length-lists_of c.loop-alloc.certificates.items, c.loop-alloc.certificates.ok.0, c.len.ensures, c.loop-alloc-test.true) in
    fault_next octets c.in-Err.field-0.place (refused 6 octets seen c.loop-alloc.next c.in-Err.field-0.place c.loop-alloc.invariant room c.in-Err.ensures.refused c.in-Err.ensures.none)

pub returns-clause-refused : goal.returns-clause-refused
returns-clause-refused c =
    let octets : List ℕ = c.args.octets.now in
    let seen : List (List ℕ) = lists_of c.loop-alloc.certificates.items in
    let many : 6 ≤ length seen = omega (arith, length-lists_of c.loop-alloc.certificates.items, c.loop-alloc.certificates.ok.0, c.len.ensures, c.loop-alloc-test.false) in
    subst (IsCertificateFault octets) (sym c.place.ensures) (fault_more octets c.loop-alloc.next.place (full 6 octets seen c.loop-alloc.next (omega arith) c.loop-alloc.invariant many))

pub returns-then-at_end-clause-found : goal.returns-then-at_end-clause-found
returns-then-at_end-clause-found c =
    let octets : List ℕ = c.args.octets.now in
    let seen : List (List ℕ) = lists_of c.loop-alloc.certificates.items in
    let room : length seen < 6 = omega (arith, length-lists_of c.loop-alloc.certificates.items, c.loop-alloc.certificates.ok.0, c.len.ensures, c.loop-alloc-test.true) in
    let none : eqb (length c.next_certificate.new.c.rest) 0 ≡ true = sym c.at_end.ensures ∙ c.if-at_end.true in
    subst (AreCertificates octets) (sym c.in_ok-keep.ensures)
    (complete 6 octets seen c.loop-alloc.next c.next_certificate.new.c c.in-Ok.octets.now c.loop-alloc.invariant room c.in-Ok.ensures.found (at_end _ none))

pub loop-alloc-preserved : goal.loop-alloc-preserved
loop-alloc-preserved c =
    let octets : List ℕ = c.args.octets.now in
    let seen : List (List ℕ) = lists_of c.loop-alloc.certificates.items in
    let room : length seen < 6 = omega (arith, length-lists_of c.loop-alloc.certificates.items, c.loop-alloc.certificates.ok.0, c.len.ensures, c.loop-alloc-test.true) in
    let left : eqb (length c.next_certificate.new.c.rest) 0 ≡ false = sym c.at_end.ensures ∙ c.if-at_end.false in
    subst (λ (cs : List (List ℕ)). AreSoFar 6 octets cs c.next_certificate.new.c) (sym c.in_ok-keep.ensures)
    (goes_on 6 octets seen c.loop-alloc.next c.next_certificate.new.c c.in-Ok.octets.now c.loop-alloc.invariant room c.in-Ok.ensures.found (before_end _ left))
