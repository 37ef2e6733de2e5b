use Rattle.std.proofs.Common.{◌≡◌, ◌<◌, ◌∙◌, ℕ, drop, length, refl, sym, ap, arith}
use Rattle.std.proofs.Common.{Vec}
use Rattle.std.specs.declared.alloc.Global.{Global}
use Rattle.std.proofs.lemmas.List.{length-map}
use Rattle.dv_asn1.specs.Lists.{lists_of}
use Rattle.dv_x509.specs.Judged.{certificate_in}
use Rattle.dv_x509.specs.View.{view_certificate}
use Rattle.dv_answer.proofs.ListLemmas.{drop_item}
use Rattle.dv_answer.proofs.office.Office.of.Goals as goal

pub returns : goal.returns
returns c =
    let list = c.as_slice.result.now in
    let size : length list ≡ length (lists_of list) = sym (length-map list (λ (v : Vec ℕ Global). v.items)) in
    let some : 0 < length list = omega (arith, size, ap length c.as_slice.ensures, c.args.server.now.some) in
    let own = c.index-as_slice-0.result in
    record {
      own = own.items;
      others = drop 1 (lists_of list);
      first = sym c.as_slice.ensures ∙ drop_item list 0 own some c.index-as_slice-0.is;
      certificate = view_certificate c.in-Ok.own;
      decoded = ap (certificate_in 48) (sym c.as_slice-2.ensures.value) ∙ c.in-Ok.ensures.exact;
      subject = refl;
      validity = refl;
      real_from = omega (arith, c.seconds-from.ensures.value, c.seconds-from.ensures.within);
      real_until = omega (arith, c.seconds-until.ensures.value, c.seconds-until.ensures.within);
      policy = c.policy_of-policy.ensures;
    }
