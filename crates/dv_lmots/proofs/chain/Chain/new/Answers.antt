use Rattle.std.proofs.Common.{rules, ◌≡◌, length, replicate, refl}
use Rattle.dv_lmots.proofs.Messages.{new_message}
use Rattle.dv_lmots.proofs.chain.Chain.new.Goals as goal

pub returns : goal.returns
returns c =
    let id : length c.args.id.now ≡ 16 = search rules in
    let value : length c.args.value.now ≡ 32 = search rules in
    let e = new_message c.args.id.now (replicate 39 0) c.write_u32.new.buf c.write_u16.new.buf c.args.value.now _ _ _ _ id refl value c.write_u32.ensures refl (search rules) c.write_u16.ensures refl (search rules) in
    rw (c.copy_from_slice.ensures.after, c.copy_from_slice-2.ensures.after) (λ i. record { prefix = e.0 i; value = e.1 i })
