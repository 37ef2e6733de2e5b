use Rattle.std.proofs.Common.{◌∙◌, inr, ℕ, List, [], ◌∷◌, ◌++◌, length, Result, Err, ap, subst, sym}
use Rattle.std.proofs.lemmas.Result.{err_from_is_err_and}
use Rattle.dv_outside.specs.Causes.{Rose}
use Rattle.dv_outside.specs.Releases.{Entry}
use Rattle.dv_register.specs.SigningKey.{LeafState, SlotState}
use Rattle.dv_cert.specs.Certificates.{own_signed}
use Rattle.dv_commands.specs.Answers.{PutsFirst}
use Rattle.dv_commands.specs.declared.refusals.Init.{Init}
use Rattle.dv_commands.proofs.AnswerLemmas.{moved_run}
use Rattle.dv_commands.proofs.CertificateLemmas.{first_may_leave, first_signed}
use Rattle.dv_commands.proofs.SendingLemmas.{sends_nothing, then_cuts, then_sends}
use Rattle.dv_commands.proofs.initializing.put_first.Goals as goal

pub returns-in_err-octets-clause-puts : goal.returns-in_err-octets-clause-puts
returns-in_err-octets-clause-puts g c =
    let tells = g.V.Station.tells in
    let content = g.V.Station.content in
    let entry : Entry = record { kind = 1; contents = c.args.contents.now } in
    let list = c.in-Ok.ensures.reserved ∙ ap (λ (l : List Entry). l ++ entry ∷ []) (c.prepare.ensures.list ∙ c.requires.empty) in
    let run = moved_run tells content _ c.args.register.now.station c.prepare.new.self.station c.reserve.new.self.station c.prepare.ensures.station c.reserve.ensures.images in
    let p = err_from_is_err_and c.from_residual-in_err-octets.result c.from_residual-in_err-octets.ensures.1 in
    subst (λ (r : Result (Unit {0}) Init). PutsFirst tells content g.V.Station.counts entry (own_signed c.args.key.now 0 c.args.tbs.now) c.reserve.new.self.list c.args.register.now.station c.reserve.new.self.station r)
    (sym (p.1 ∙ ap (λ (e : Init). Err e) p.2))
    (inr list, λ told. let l = run told in sends_nothing _ _ l.keeps l.silent)

pub emit-requires : goal.emit-requires
emit-requires g c =
    let entry : Entry = record { kind = 1; contents = c.args.contents.now } in
    let list = c.in-Ok.ensures.reserved ∙ ap (λ (l : List Entry). l ++ entry ∷ []) (c.prepare.ensures.list ∙ c.requires.empty) in
    let number = ap (λ (l : LeafState). l.number) c.into_leaf.ensures ∙ ap (λ (s : SlotState). s.leaf.number) c.in-Ok.ensures.slot ∙ ap length (c.prepare.ensures.list ∙ c.requires.empty) in
    let octets = first_signed c.args.key.now c.into_leaf.result.number c.args.tbs.now c.as_slice.result.now c.deref.result.now number
    (c.as_slice.ensures ∙ c.sign-signature.ensures.octets) (c.deref.ensures.value ∙ c.in_ok-octets.ensures) in
    record {
      allowed = λ told. first_may_leave c.args.key.now c.reserve.new.self.identity c.args.register.now.first c.reserve.new.self.first c.reserve.new.self.list entry c.deref.result.now
          (own_signed c.args.key.now 0 c.args.tbs.now)
          (c.reserve.ensures.same.identity ∙ c.prepare.ensures.same.identity ∙ c.requires.identity)
          (c.reserve.ensures.same.first ∙ c.prepare.ensures.same.first) list c.requires.certificate octets;
    }

pub returns-in-Ok-emit-clause-puts : goal.returns-in-Ok-emit-clause-puts
returns-in-Ok-emit-clause-puts g c =
    let tells = g.V.Station.tells in
    let content = g.V.Station.content in
    let entry : Entry = record { kind = 1; contents = c.args.contents.now } in
    let list = c.in-Ok.ensures.reserved ∙ ap (λ (l : List Entry). l ++ entry ∷ []) (c.prepare.ensures.list ∙ c.requires.empty) in
    let run = moved_run tells content _ c.args.register.now.station c.prepare.new.self.station c.reserve.new.self.station c.prepare.ensures.station c.reserve.ensures.images in
    let number = ap (λ (l : LeafState). l.number) c.into_leaf.ensures ∙ ap (λ (s : SlotState). s.leaf.number) c.in-Ok.ensures.slot ∙ ap length (c.prepare.ensures.list ∙ c.requires.empty) in
    let octets = first_signed c.args.key.now c.into_leaf.result.number c.args.tbs.now c.as_slice.result.now c.deref.result.now number
    (c.as_slice.ensures ∙ c.sign-signature.ensures.octets) (c.deref.ensures.value ∙ c.in_ok-octets.ensures) in (
      c.emit.ensures.list ∙ list,
      λ told. then_sends _ c.deref.result.now _ _ _ _ (run told) octets _ (c.in-Ok-emit.ensures.sent (c.reserve.ensures.tells ∙ ap tells c.prepare.ensures.station ∙ told)),
    )

pub returns-clause-puts : goal.returns-clause-puts
returns-clause-puts g c =
    let tells = g.V.Station.tells in
    let content = g.V.Station.content in
    let counts = g.V.Station.counts in
    let entry : Entry = record { kind = 1; contents = c.args.contents.now } in
    let list = c.in-Ok.ensures.reserved ∙ ap (λ (l : List Entry). l ++ entry ∷ []) (c.prepare.ensures.list ∙ c.requires.empty) in
    let run = moved_run tells content _ c.args.register.now.station c.prepare.new.self.station c.reserve.new.self.station c.prepare.ensures.station c.reserve.ensures.images in
    let number = ap (λ (l : LeafState). l.number) c.into_leaf.ensures ∙ ap (λ (s : SlotState). s.leaf.number) c.in-Ok.ensures.slot ∙ ap length (c.prepare.ensures.list ∙ c.requires.empty) in
    let octets = first_signed c.args.key.now c.into_leaf.result.number c.args.tbs.now c.as_slice.result.now c.deref.result.now number
    (c.as_slice.ensures ∙ c.sign-signature.ensures.octets) (c.deref.ensures.value ∙ c.in_ok-octets.ensures) in
    let same = c.reserve.ensures.puts ∙ ap (λ (s : _). (counts s).put_faults) c.prepare.ensures.station in (
      c.emit.ensures.list ∙ list,
      (λ told. then_cuts _ c.deref.result.now _ _ _ _ (run told) octets _ (c.in-Err.ensures.sent (c.reserve.ensures.tells ∙ ap tells c.prepare.ensures.station ∙ told))),
      subst (λ (n : ℕ). Rose n (counts c.emit.new.self.station).put_faults) same c.in-Err.ensures.cause.failed,
    )
