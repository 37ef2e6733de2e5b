-- The octets that were put are the lines for those that the shelf gave.
use Rattle.std.proofs.Common.{ℕ, List, length, sym, ap, subst, inr, arith}
use Rattle.std.specs.Prelude.{IfSome, Option, Some, None}
use Rattle.std.specs.String.{string_bytes}
use Rattle.dv_outside.proofs.Counting.{spends_less}
use Rattle.dv_show.specs.Show.{IsNotShown, ShowOf}
use Rattle.dv_exit.specs.Files.{HasOctets}
use Rattle.dv_tool.proofs.Putting.{put_done, put_cut}
use Rattle.dv_tool.proofs.show.put_shown.Goals as goal

not_shown : (files : Option (List ℕ → Option (List ℕ))) (name octets : List ℕ) → HasOctets files name octets → ((text : List ℕ) → ShowOf octets text → ⊥) → IfSome files (λ file. IsNotShown (file name))
not_shown None name octets has none = tt
not_shown (Some file) name octets has none = subst IsNotShown (sym has) (inr none)

pub returns-in-Err-Refused-clause-not_shown : goal.returns-in-Err-Refused-clause-not_shown
returns-in-Err-Refused-clause-not_shown g c = λ _. not_shown (g.F.Shelf.files c.args.shelf.now) c.args.file.now c.in-Ok.octets.items c.in-Ok.ensures.octets
    (subst (λ (o : List ℕ). (text : List ℕ) → ShowOf o text → ⊥) c.deref.ensures.value (c.in-Err-Refused.ensures.refused (λ e. let is = c.in-Err-Refused.field-0-is in cc)))

pub returns-in-Ok-put-clause-put : goal.returns-in-Ok-put-clause-put
returns-in-Ok-put-clause-put g c = λ _. (
  c.in-Ok.octets.items,
  string_bytes c.in-Ok-show_values.text,
  c.in-Ok.ensures.short,
  c.in-Ok.ensures.octets,
  subst (λ (o : List ℕ). ShowOf o (string_bytes c.in-Ok-show_values.text)) c.deref.ensures.value c.in-Ok-show_values.ensures.shown,
  λ told. put_done _ _ _ _ _ c.as_bytes.ensures.value (c.in-Ok-put.ensures.content told),
)

pub returns-clause-put : goal.returns-clause-put
returns-clause-put g c = λ _. (
  c.in-Ok.octets.items,
  string_bytes c.in-Ok-show_values.text,
  c.in-Ok.ensures.short,
  c.in-Ok.ensures.octets,
  subst (λ (o : List ℕ). ShowOf o (string_bytes c.in-Ok-show_values.text)) c.deref.ensures.value c.in-Ok-show_values.ensures.shown,
  λ told. put_cut _ _ _ _ _ c.as_bytes.ensures.value (c.in-Err-put.ensures.content told),
)

pub returns-in-Ok-put-clause-spends : goal.returns-in-Ok-put-clause-spends
returns-in-Ok-put-clause-spends g c =
    let a = c.in-Ok-show_values.ensures.short in
    spends_less 1 _ 1 67108864 _ _ (omega arith) (omega (arith, a, ap length c.as_bytes.ensures.value, ap length c.deref.ensures.value, c.in-Ok.ensures.short)) c.in-Ok-put.ensures.spends

pub returns-clause-spends : goal.returns-clause-spends
returns-clause-spends g c =
    let a = c.in-Ok-show_values.ensures.short in
    spends_less 1 _ 1 67108864 _ _ (omega arith) (omega (arith, a, ap length c.as_bytes.ensures.value, ap length c.deref.ensures.value, c.in-Ok.ensures.short)) c.in-Err-put.ensures.spends
