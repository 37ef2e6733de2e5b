use Rattle.std.proofs.Common.{◌≡◌, ◌∙◌, ℕ, ◌-◌, true, false, List, eqb, eq-eqb, get_or, length, take, drop, refl, sym, ap}
use Rattle.std.proofs.lemmas.Bool.{ne_eqb}
use Rattle.std.proofs.lemmas.List.{length-drop}
use Rattle.std.proofs.Math.Seq.{take-length}
use Rattle.dv_schema.specs.Octets.{same_octets}
use Rattle.dv_names.specs.Digest.{length_of}
use Rattle.dv_signed.specs.Kinds.{digest_by}
use Rattle.dv_repeats.proofs.ApartLemmas.{same_swap}
use Rattle.dv_signed.proofs.Sameness.{holds, holds_not}
use Rattle.dv_signed.proofs.digest.holds_digest.Goals as goal
use Rattle.dv_signed.proofs.digest.holds_digest.Goals.{then-tag-ne-OCTET_STRING-via-then-tag-ne-OCTET_STRING, then-tag-ne-OCTET_STRING-via-else-tag-ne-OCTET_STRING+then-len-digest_len}

pub returns-in_default : goal.returns-in_default
returns-in_default c = holds_not c.args.kind c.args.octets.now c.args.value.now c.in_default.len_below

pub returns-then-tag-ne-OCTET_STRING : goal.returns-then-tag-ne-OCTET_STRING
returns-then-tag-ne-OCTET_STRING c =
    let value : List ℕ = c.args.value.now in
    let h = holds c.args.kind c.args.octets.now value c.in-len2-up.len_at_least in
    elim c.then-tag-ne-OCTET_STRING.branch [
      | then-tag-ne-OCTET_STRING-via-then-tag-ne-OCTET_STRING w ↦
          let tag : eqb (get_or value 0 0) 4 ≡ false = ne_eqb _ _ w.if-tag-ne-OCTET_STRING.true in
          sym (h ∙ (rw tag refl))
      | then-tag-ne-OCTET_STRING-via-else-tag-ne-OCTET_STRING+then-len-digest_len w ↦
          let tag : eqb (get_or value 0 0) 4 ≡ true = eq-eqb _ _ w.if-tag-ne-OCTET_STRING.false in
          let size : eqb (get_or value 1 0) (length_of c.args.kind) ≡ false = ap (eqb (get_or value 1 0)) (sym w.digest_len.ensures) ∙ ne_eqb _ _ w.if-len-digest_len.true in
          sym (h ∙ (rw (tag, size) refl))
    ]

pub returns : goal.returns
returns c =
    let value : List ℕ = c.args.value.now in
    let rest : List ℕ = drop 2 value in
    let tag : eqb (get_or value 0 0) 4 ≡ true = eq-eqb _ _ c.if-tag-ne-OCTET_STRING.false in
    let size : eqb (get_or value 1 0) (length_of c.args.kind) ≡ true = ap (eqb (get_or value 1 0)) (sym c.digest_len.ensures) ∙ eq-eqb _ _ c.if-len-digest_len.false in
    let all : take (length value - 2) rest ≡ rest = ap (λ (n : ℕ). take n rest) (sym (length-drop 2 value)) ∙ take-length rest in
    let h = holds c.args.kind c.args.octets.now value c.in-len2-up.len_at_least in
    c.is_digest.ensures ∙ ap (same_octets (digest_by c.args.kind c.args.octets.now)) all ∙ same_swap (digest_by c.args.kind c.args.octets.now) rest ∙ sym (h ∙ (rw (tag, size) refl))
