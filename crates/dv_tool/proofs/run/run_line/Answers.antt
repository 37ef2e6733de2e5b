-- What a line's command ensures, at the line's values.
use Rattle.std.proofs.Common.{◌≡◌, ℕ, List, Option, ap, subst, sym}
use Rattle.std.specs.Prelude.{option_map}
use Rattle.dv_lines.specs.declared.line.Line.{Line}
use Rattle.dv_lines.specs.Line.{nonce_octets, told_by}
use Rattle.dv_exit.specs.Files.{Files}
use Rattle.dv_exit.specs.Status.{number_of}
use Rattle.dv_tool.specs.Tool.{Ends, nonce_in, ValidateEnds}
use Rattle.dv_tool.proofs.ChainLemmas.{names_of}
use Rattle.dv_tool.proofs.Putting.{no_register}
use Rattle.dv_tool.proofs.ValidateLemmas.{lent_nonce, validate_ends}
use Rattle.dv_tool.proofs.run.run_line.Goals as goal

pub returns-in-Request-clause-fault : goal.returns-in-Request-clause-fault
returns-in-Request-clause-fault g c = λ e. absurd (no_register c.put_request-status.result c.put_request-status.ensures.status e)

pub returns-in-Validate-clause-fault : goal.returns-in-Validate-clause-fault
returns-in-Validate-clause-fault g c = λ e. absurd (no_register c.put_validation-status.result c.put_validation-status.ensures.status e)

pub returns-in-Show-clause-fault : goal.returns-in-Show-clause-fault
returns-in-Show-clause-fault g c = λ e. absurd (no_register c.put_shown-status.result c.put_shown-status.ensures.status e)

pub returns-in-Validate-clause-ends : goal.returns-in-Validate-clause-ends
returns-in-Validate-clause-ends g c =
    let files : Files = g.F.Shelf.files c.args.shelf.now in
    let ran = c.put_validation-status in
    let status : ℕ = number_of ran.result in
    let E : List (List ℕ) → Option (List ℕ) → Type 0 = λ names nonce.
    ValidateEnds g.V.Station.tells g.V.Station.content g.V.Station.counts files names nonce c.in-Validate.at status c.args.station ran.new.station in
    let P : Line → Type 0 = λ l. Ends g.V.Station.tells g.V.Station.content g.V.Station.counts files (told_by l) status c.args.station ran.new.station in
    let names_are : names_of c.deref.result.now ≡ names_of c.in-Validate.files.items = ap names_of c.deref.ensures.value in
    let nonce_is : nonce_in c.as_ref-in-Validate.result ≡ option_map nonce_octets c.in-Validate.nonce =
    lent_nonce c.as_ref-in-Validate.result c.in-Validate.nonce c.as_ref-in-Validate.ensures.value in
    let ends : E (names_of c.deref.result.now) (nonce_in c.as_ref-in-Validate.result) =
    validate_ends g.V.Station.tells g.V.Station.content g.V.Station.counts files (names_of c.deref.result.now) (nonce_in c.as_ref-in-Validate.result) c.in-Validate.at
    ran.result c.args.station ran.new.station ran.ensures.status ran.ensures.put ran.ensures.bad ran.ensures.quiet ran.ensures.spends in
    subst P (sym c.in-Validate.is) (subst (λ names. E names (option_map nonce_octets c.in-Validate.nonce)) names_are (subst (E (names_of c.deref.result.now)) nonce_is ends))

pub returns-in-Init-clause-ends : goal.returns-in-Init-clause-ends
returns-in-Init-clause-ends g c =
    let P : Line → Type 0 = λ l.
    Ends g.V.Station.tells g.V.Station.content g.V.Station.counts (g.F.Shelf.files c.args.shelf.now) (told_by l) (number_of c.make_register.result.0)
    c.args.station c.make_register.result.1 in
    subst P (sym c.in-Init.is) c.make_register.ensures.ends

pub returns-in-Reissue-clause-ends : goal.returns-in-Reissue-clause-ends
returns-in-Reissue-clause-ends g c =
    let P : Line → Type 0 = λ l.
    Ends g.V.Station.tells g.V.Station.content g.V.Station.counts (g.F.Shelf.files c.args.shelf.now) (told_by l) (number_of c.put_again.result.0)
    c.args.station c.put_again.result.1 in
    subst P (sym c.in-Reissue.is) c.put_again.ensures.ends
