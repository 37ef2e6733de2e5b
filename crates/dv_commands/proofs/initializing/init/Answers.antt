use Rattle.std.proofs.Common.{◌∙◌, ℕ, List, ◌++◌, length, Some, ap, arith, subst, sym}
use Rattle.dv_outside.specs.Releases.{Entry}
use Rattle.dv_register.specs.State.{rule_identity}
use Rattle.dv_x509.specs.Own.{OwnTbs}
use Rattle.dv_cert.specs.Certificates.{certificate_of, own_signed}
use Rattle.dv_commands.specs.Answers.{PutsFirst, own_entry, own_octets}
use Rattle.dv_commands.proofs.AnswerLemmas.{inited, puts_first_keep}
use Rattle.dv_commands.proofs.CertificateLemmas.{first_certificate, own_short}
use Rattle.dv_commands.proofs.initializing.init.Goals as goal

pub put_first-answer-requires-clause-short : goal.put_first-answer-requires-clause-short
put_first-answer-requires-clause-short g c = omega (arith, own_short c.args.parts.now c.requires.short, ap length (c.deref.ensures.value ∙ c.in-Ok.ensures))

pub put_first-answer-requires-clause-certificate : goal.put_first-answer-requires-clause-certificate
put_first-answer-requires-clause-certificate g c =
    let key = c.args.key.now in
    let parts = c.args.parts.now in
    let first = c.args.first in
    let tbs = c.deref-in-Ok-create.ensures.value ∙ c.in-Ok-own_tbs.ensures ∙ ap (λ (k : List ℕ). OwnTbs parts.name.now parts.from parts.until k first) c.public.ensures in
    ap (λ (n : ℕ). certificate_of (rule_identity key) n 0 (record { kind = 1; contents = c.deref.result.now })) c.in-Ok-create.ensures.first
    ∙ ap (λ (o : List ℕ). certificate_of (rule_identity key) first 0 (record { kind = 1; contents = o })) (c.deref.ensures.value ∙ c.in-Ok.ensures)
    ∙ first_certificate key first parts c.requires.utf8 c.requires.short
    (omega (arith, c.seconds-from.ensures.value, c.seconds-from.ensures.within)) (omega (arith, c.seconds-until.ensures.value, c.seconds-until.ensures.within))
    ∙ ap (λ (t : List ℕ). Some (own_signed key 0 t)) (sym tbs)

pub returns-clause-answer : goal.returns-clause-answer
returns-clause-answer g c =
    let tells = g.V.Station.tells in
    let content = g.V.Station.content in
    let counts = g.V.Station.counts in
    let key = c.args.key.now in
    let parts = c.args.parts.now in
    let first = c.args.first in
    let made = c.in-Ok-create.register in
    let closed = c.put_first-answer.new.register in
    let left = c.into_station.result in
    let r = c.put_first-answer.result in
    let station = sym c.into_station.ensures.station in
    let tbs = c.deref-in-Ok-create.ensures.value ∙ c.in-Ok-own_tbs.ensures ∙ ap (λ (k : List ℕ). OwnTbs parts.name.now parts.from parts.until k first) c.public.ensures in
    let puts = subst (λ (s : _). PutsFirst tells content counts (own_entry parts) (own_octets key first parts) closed.list made.station s r) station
    (subst (λ (t : List ℕ). PutsFirst tells content counts (own_entry parts) (own_signed key 0 t) closed.list made.station closed.station r) tbs
    (subst (λ (o : List ℕ). PutsFirst tells content counts (record { kind = 1; contents = o }) (own_signed key 0 c.deref-in-Ok-create.result.now) closed.list made.station closed.station r)
    (c.deref.ensures.value ∙ c.in-Ok.ensures) c.put_first-answer.ensures.puts)) in
    inited tells content counts key c.args.station left first parts made closed r
    (record {
      is_made = record {
        identity = c.in-Ok-create.ensures.identity;
        serial = c.in-Ok-create.ensures.first;
        list = c.in-Ok-create.ensures.list;
        base = c.in-Ok-create.ensures.base;
        shut = c.in-Ok-create.ensures.shut;
        opening = c.in-Ok-create.ensures.opening;
        empty = c.in-Ok-create.ensures.empty;
        kept = c.in-Ok-create.ensures.kept;
        runs = c.in-Ok-create.ensures.runs;
        tells_same = c.in-Ok-create.ensures.tells;
        faults = c.in-Ok-create.ensures.spends.later;
        put_faults = c.in-Ok-create.ensures.puts;
      };
      goes_on = record {
        kept = c.put_first-answer.ensures.kept;
        same = c.put_first-answer.ensures.same;
        begins = (closed.list, sym (ap (λ (l : List Entry). l ++ closed.list) c.in-Ok-create.ensures.list));
        station = station;
        tells_same = ap tells c.into_station.ensures.station ∙ c.put_first-answer.ensures.tells;
        later = λ told. puts_first_keep tells content counts made.station left told (own_entry parts) (own_octets key first parts) closed.list r puts;
      };
    })
    (first_certificate key first parts c.requires.utf8 c.requires.short
    (omega (arith, c.seconds-from.ensures.value, c.seconds-from.ensures.within)) (omega (arith, c.seconds-until.ensures.value, c.seconds-until.ensures.within)))
    puts
