use Rattle.std.proofs.Common.{rules, ◌≡◌, ◌++◌, List, ℕ, length, refl, ◌∙◌}
use Rattle.std.specs.Int.{w16, to_be_bytes}
use Rattle.dv_lmots.specs.Lmots.{digits}
use Rattle.dv_lmots.proofs.Messages.{two_more}
use Rattle.dv_lmots.proofs.hashes.digits.Goals as goal

pub returns : goal.returns
unfolding digits
returns c =
    let hash : List ℕ = c.copy_from_slice.new.self in
    let sum : List ℕ = to_be_bytes w16 c.checksum.result in
    let both : length c.write_u16.new.buf ≡ 2 = search rules in
    let written = two_more hash _ c.write_u16.new.buf sum _ (search rules) refl c.write_u16.ensures refl both in
    let value : hash ++ sum ≡ digits c.args.id.now c.args.q c.args.c.now (c.args.front.now ++ c.args.rest.now) =
    rw (c.copy_from_slice.ensures.after, c.checksum.ensures, c.message_hash-hash.ensures) refl in
    written ∙ value
