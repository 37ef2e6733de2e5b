use Rattle.std.proofs.Common.{Ok, Err, arith, refl, subst, sym}
use Rattle.dv_show.specs.declared.shown.Shown.{Shown}
use Rattle.dv_show.specs.Values.{IsValueOf}
use Rattle.dv_show.proofs.ValueLemmas.{from_start, held_in, is_shown, message_read, placed_behind, shorter_read, value_held}
use Rattle.dv_show.proofs.value.next_value.Goals as goal

pub returns-in-Err : goal.returns-in-Err
returns-in-Err c =
    let d = from_start (Err c.in-Err.refusal) c.fork-next.result c.args.c.now c.decode_next.new.c c.fork-next.ensures.same c.in-Err.ensures in record {
      found = tt;
      only = λ value octets rest q e. absurd (message_read q (Err c.in-Err.refusal) c.args.c.now c.decode_next.new.c rest d c.requires.levels e).0;
      levels = refl;
      shorter = tt;
    }

pub value_in-requires : goal.value_in-requires
value_in-requires c =
    let d = from_start (Ok c.in-Ok.message) c.fork-next.result c.args.c.now c.decode_next.new.c c.fork-next.ensures.same c.in-Ok.ensures in
    omega (arith, shorter_read c.in-Ok.message c.args.c.now c.decode_next.new.c d, c.requires.short)

pub returns-in-Ok-Some : goal.returns-in-Ok-Some
returns-in-Ok-Some c =
    let d = from_start (Ok c.in-Ok.message) c.fork-next.result c.args.c.now c.decode_next.new.c c.fork-next.ensures.same c.in-Ok.ensures in
    let held = held_in c.in-Ok-Some.field-0 c.in-Ok-Some.value c.in-Ok.message.oid.now c.in-Ok.message.content.now c.in-Ok-Some.field-0-is c.in-Ok-Some.ensures.found in record {
      found = is_shown c.in-Ok.message c.args.c.now c.decode_next.new.c d _ c.requires.levels
          (subst (λ (v : Shown). IsValueOf v c.in-Ok.message.oid.now c.in-Ok.message.content.now) (sym c.in-Ok-Some.value-is) held);
      only = λ value octets rest q e. (refl, (message_read q (Ok c.in-Ok.message) c.args.c.now c.decode_next.new.c rest d c.requires.levels e).1);
      levels = d.found.3;
      shorter = omega (arith, shorter_read c.in-Ok.message c.args.c.now c.decode_next.new.c d);
    }

pub returns-in-Ok-None : goal.returns-in-Ok-None
returns-in-Ok-None c =
    let d = from_start (Ok c.in-Ok.message) c.fork-next.result c.args.c.now c.decode_next.new.c c.fork-next.ensures.same c.in-Ok.ensures in record {
      found = tt;
      only = λ value octets rest q e.
          let h = message_read q (Ok c.in-Ok.message) c.args.c.now c.decode_next.new.c rest d c.requires.levels e in
          absurd (c.in-Ok-None.ensures.only value (value_held q c.in-Ok.message h.0) c.in-Ok-None.field-0-is);
      levels = refl;
      shorter = tt;
    }

pub refusal_in-requires : goal.refusal_in-requires
refusal_in-requires c =
    placed_behind c.in-Ok.message c.args.c.now c.decode_next.new.c
    (from_start (Ok c.in-Ok.message) c.fork-next.result c.args.c.now c.decode_next.new.c c.fork-next.ensures.same c.in-Ok.ensures)

pub returns-in-Err-value_in : goal.returns-in-Err-value_in
returns-in-Err-value_in c =
    let d = from_start (Ok c.in-Ok.message) c.fork-next.result c.args.c.now c.decode_next.new.c c.fork-next.ensures.same c.in-Ok.ensures in record {
      found = tt;
      only = λ value octets rest q e.
          let h = message_read q (Ok c.in-Ok.message) c.args.c.now c.decode_next.new.c rest d c.requires.levels e in
          absurd (c.in-Err-value_in.ensures.only value (value_held q c.in-Ok.message h.0));
      levels = refl;
      shorter = tt;
    }
