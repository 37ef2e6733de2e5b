use Rattle.std.proofs.Common.{◌∙◌, Ok, ap, arith}
use Rattle.std.specs.Option.{option_copied}
use Rattle.dv_signed.proofs.CertificateLemmas.{IsSet, set_read}
use Rattle.dv_signed.proofs.certificates.read_certificates.Goals as goal

-- the set that was read
set : (c : goal.In-Some) → IsSet c.args.c.now c.in-Some.set.now
set c =
    let f = c.fork-octets.ensures in
    set_read _ c.args.c.now c.read_optional_list.new.c c.in-Some.set.now f.octets f.levels f.room
    (c.in_ok-read_optional_list.ensures ∙ ap (λ o. Ok (option_copied o, c.read_optional_list.new.c)) c.in-Some.is)

pub count_certificates-requires-clause-spelled : goal.count_certificates-requires-clause-spelled
count_certificates-requires-clause-spelled c = (set c).spelled

pub count_certificates-requires-clause-short : goal.count_certificates-requires-clause-short
count_certificates-requires-clause-short c = omega (arith, (set c).shorter, c.requires)
