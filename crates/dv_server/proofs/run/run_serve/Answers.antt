-- What the server did, at the values of its line.
use Rattle.std.proofs.Common.{◌≡◌, ◌∙◌, ℕ, List, Bool, inr, refl, sym, ap, subst}
use Rattle.std.specs.Prelude.{Option, option_map}
use Rattle.dv_outside.specs.Station.{Content, Counts}
use Rattle.dv_lines.specs.declared.line.Line.{Line}
use Rattle.dv_lines.specs.Line.{Told, policy_octets, serve, told_by}
use Rattle.dv_exit.specs.declared.status.Status.TheVariants.{Memory}
use Rattle.dv_exit.specs.Files.{Files}
use Rattle.dv_exit.specs.Lines.{policy_named}
use Rattle.dv_server.specs.Server.{ServeEnds, unread}
use Rattle.dv_exit.specs.Status.{number_of}
use Rattle.dv_exit.proofs.LineLemmas.{memory_fault}
use Rattle.dv_server.proofs.PolicyLemmas.{named_policy}
use Rattle.dv_server.proofs.run.run_serve.Goals as goal

-- what the server did, of a line that is the server's
EndsAt : {V : Type 0} → (V → Bool) → (V → Content) → (V → Counts) → Files → Option (List ℕ) → Option (List ℕ) → Option (List ℕ) → Option (List ℕ) → Bool → Type 0
    → ℕ → V → V → Told → Type 0
EndsAt tells content counts files left left' told told' ended untouched status station result (serve register seed certificate trust policy) =
    ServeEnds tells content counts files seed certificate trust policy left left' told told' ended untouched status station result
EndsAt tells content counts files left left' told told' ended untouched status station result _ = Unit {0}

pub returns-in-Err-clause-ends : goal.returns-in-Err-clause-ends
returns-in-Err-clause-ends g c = λ register seed certificate trust policy e.
    let memory : c.say_no_line-status.result ≡ Memory =
    c.say_no_line-status.ensures.memory.1 (memory_fault c.in-Err.fault _ c.in-Err.ensures.line _ e) in
    unread Memory (inr (inr refl)) (c.number.ensures ∙ ap number_of memory) refl (refl, refl) (λ is. (cc))

pub returns-clause-ends : goal.returns-clause-ends
unfolding EndsAt
returns-clause-ends g c = λ register seed certificate trust policy e.
    let at : ℕ → Told → Type 0 = λ status told.
    EndsAt g.V.Station.tells g.V.Station.content g.V.Station.counts (g.F.Shelf.files c.args.shelf.now) (g.S.Source.left c.args.source.now)
    (g.S.Source.left c.serve_by_files-status.new.source) (g.C.Clock.told c.args.clock.now) (g.C.Clock.told c.serve_by_files-status.new.clock)
    (g.S.Source.ended c.serve_by_files-status.new.source)
    ((c.serve_by_files-status.new.source ≡ c.args.source.now) × (c.serve_by_files-status.new.clock ≡ c.args.clock.now)) status c.args.station
    c.serve_by_files-status.result.1 told in
    let same : told_by c.in-Ok.line ≡ serve register seed certificate trust policy = (cc (c.in-Ok.ensures.line)) in
    let named : policy_named c.as_ref.result ≡ option_map policy_octets c.in-Serve.policy = named_policy c.as_ref.result c.in-Serve.policy c.as_ref.ensures.value in
    let said : at (number_of c.serve_by_files-status.result.0) (told_by c.in-Ok.line) =
    subst (λ (l : Line). at (number_of c.serve_by_files-status.result.0) (told_by l)) (sym c.in-Serve.is)
    (subst
    (λ (p : Option (List ℕ)).
    at (number_of c.serve_by_files-status.result.0) (serve c.in-Serve.register.now c.in-Serve.seed.now c.in-Serve.certificate.now c.in-Serve.trust.now p))
    named c.serve_by_files-status.ensures.ends) in
    subst (at c.number-2.result) same (subst (λ (n : ℕ). at n (told_by c.in-Ok.line)) (sym c.number-2.ensures) said)
