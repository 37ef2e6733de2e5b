use Rattle.std.proofs.Common.{refl, ap, sym, ◌∙◌, true}
use Rattle.dv_signed.specs.SignedView.{view_signed}
use Rattle.dv_show.specs.Values.{identifier_of}
use Rattle.dv_show.proofs.value.signed_in.Goals as goal

pub returns-in-Ok-clause-found : goal.returns-in-Ok-clause-found
returns-in-Ok-clause-found c = record {
  signed = true;
  octets = c.in-Some-Some.octets.now;
  held = (
    refl,
    record {
      signed = view_signed c.in_ok-signed.signed;
      fits = c.in_ok-signed.ensures.found.0;
      spelled = c.in_ok-signed.ensures.found.1;
      names = sym (ap identifier_of c.in-Ok.ensures.found.0 ∙ c.in-Some.ensures);
      holds = rw c.in-Some-Some.is-0 refl;
    },
  );
  is = c.in-Ok.ensures.found.1;
}
