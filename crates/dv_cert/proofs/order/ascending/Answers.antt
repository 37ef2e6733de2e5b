use Rattle.std.proofs.Common.{◌≡◌, Bor, List, ℕ, subst}
use Rattle.std.specs.List.{insert}
use Rattle.dv_cert.specs.Sealed.{inserted}
use Rattle.dv_cert.specs.Slices.{octets_of}
use Rattle.dv_cert.proofs.OrderLemmas.{one_more_at}
use Rattle.dv_cert.proofs.order.ascending.Goals as goal

pub loop-certificate-preserved : goal.loop-certificate-preserved
loop-certificate-preserved c =
    let place : ℕ = c.place_in-place.result in
    let octets : Bor (List ℕ) = c.as_slice-octets.result in
    let order = subst (λ (s : List (Bor (List ℕ))). insert (octets_of s) place octets.now ≡ inserted octets.now (octets_of s)) c.deref.ensures.value c.place_in-place.ensures.order in
    one_more_at c.loop-certificate.sorted.items c.insert.new.self.items c.args.certificates.now c.loop-certificate.certificate-index place c.certificate-item.result octets
    c.loop-certificate-test.true c.certificate-item.is c.as_slice-octets.ensures.value c.in_ok-insert.ensures.items order c.loop-certificate.invariant
