use Rattle.std.proofs.Common.{rules, ◌≡◌, length, replicate, refl, ◌∙◌}
use Rattle.std.specs.Int.{w32, to_be_bytes}
use Rattle.dv_lms.proofs.Parts.{start_written}
use Rattle.dv_lms.proofs.key.Key.signature_start.Goals as goal

pub returns : goal.returns
returns c =
    let number : length c.write_u32.new.buf ≡ 4 = search rules in
    let ots : length c.args.ots.now ≡ 1124 = search rules in
    let written = start_written (replicate 1296 0) c.write_u32.new.buf (to_be_bytes w32 c.args.q) _ c.args.ots.now c.write_u32-2.new.buf (to_be_bytes w32 c.lms_type.result) _
    refl refl c.write_u32.ensures refl number ots c.write_u32-2.ensures refl in
    rw (c.copy_from_slice.ensures.after) (written ∙ rw (c.lms_type.ensures, ← c.self.view_is) refl)
