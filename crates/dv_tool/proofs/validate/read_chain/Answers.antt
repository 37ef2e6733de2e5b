-- One certificate more, or the first file that is none.
use Rattle.std.proofs.Common.{rules, ◌≡◌, ◌∷◌, ◌++◌, []}
use Rattle.dv_tool.proofs.ChainLemmas.{bad_file, count_more, fit_more, held_more, short_more}
use Rattle.dv_tool.proofs.validate.read_chain.Goals as goal

pub returns-in_err-certificate-clause-bad : goal.returns-in_err-certificate-clause-bad
returns-in_err-certificate-clause-bad g c = λ e.
    bad_file (g.F.Shelf.files c.args.shelf.now) (g.F.Shelf.files c.loop-name.shelf) c.args.names.now c.loop-name.name-index c.loop-name.certificates.items
    c.loop-name-test.true c.loop-name.invariant.files c.loop-name.invariant.held (c.in_err-certificate.ensures.none (search (rules, e)))

pub loop-name-preserved : goal.loop-name-preserved
loop-name-preserved g c =
    let cs = c.loop-name.certificates.items in
    let new = c.push.new.self.items in
    let v = c.in_ok-certificate.certificate in
    let i = c.loop-name.name-index in
    let is : new ≡ cs ++ v ∷ [] = search rules in
    record {
      held = held_more (g.F.Shelf.files c.args.shelf.now) (g.F.Shelf.files c.loop-name.shelf) c.args.names.now i cs new v c.loop-name-test.true is
          c.loop-name.invariant.files c.loop-name.invariant.held c.in_ok-certificate.ensures.certificate;
      fit = fit_more cs new v is c.loop-name.invariant.fit c.in_ok-certificate.ensures.fits;
      count = count_more cs new v i is c.loop-name.invariant.count;
      short = short_more cs new v i is c.loop-name.invariant.short c.in_ok-certificate.ensures.short;
      files = search rules;
      later = search rules;
    }
