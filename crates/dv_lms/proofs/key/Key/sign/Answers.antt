use Rattle.std.proofs.Common.{rules, ◌≡◌, length, arith, ap, refl, ◌∙◌}
use Rattle.std.proofs.lemmas.Slice.{overwrites}
use Rattle.dv_lmots.proofs.Joined.{joined_none}
use Rattle.dv_lms.specs.Height.{levels}
use Rattle.dv_lms.specs.Tree.{path_node}
use Rattle.dv_lms.specs.Signed.{signature_of}
use Rattle.dv_lms.proofs.Heights.{levels-le, signature_len-is}
use Rattle.dv_lms.proofs.Parts.{path_written, sibling_written}
use Rattle.dv_lms.proofs.key.Key.sign.Goals as goal

pub loop-level-init : goal.loop-level-init
loop-level-init c = (search rules, rw joined_none refl)

pub loop-level-preserved : goal.loop-level-preserved
loop-level-preserved c =
    let most = levels-le c.self.inside.height in (
      search (rules, overwrites),
      sibling_written _ c.loop-level.octets _ _ c.loop-level.level _ c.loop-level.invariant.1 c.loop-level.invariant.0 (omega arith)
          (c.copy_from_slice.ensures.after ∙ c.path_node.ensures) (search rules),
    )

pub returns : goal.returns
returns c =
    let key = c.args.self.now in
    let len = signature_len-is key.height in
    let all : c.loop-level.level ≡ levels key.height = rw (← c.self.view_is) (omega arith) in
    let written = path_written _ c.loop-level.octets (path_node key c.args.q) c.loop-level.level c.loop-level.invariant.1 (omega arith) in
    let octets : c.new.result ≡ signature_of key c.args.q c.args.message.now =
    c.new.ensures ∙ written ∙ rw (all, c.signature_start-octets.ensures, c.sign_ots-ots.ensures, ← c.self.view_is) refl in
    record { octets = octets; len = ap length c.new.ensures ∙ omega arith }
