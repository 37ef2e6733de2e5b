-- The contents of extensions that go by their identifiers.
use Rattle.std.proofs.Common.{◌≡◌, ◌≢◌, ℕ, eqb, false, Option, List, length, Ok, Err, inl, inr, refl, sym, ap, ◌∙◌}
use Rattle.std.specs.Prelude.{Result}
use Rattle.std.proofs.lemmas.Bool.{cases_Bool, ne_eqb}
use Rattle.dv_schema.specs.declared.refusal.Der.{Der}
use Rattle.dv_schema.specs.Schema.{done, key_place}
use Rattle.dv_schema.specs.Types.{oid, flag}
use Rattle.dv_schema.specs.Reading.{Spot, Item, item_at, is_tag_of, within, maybe_at, starts_list, read, read_fields}
use Rattle.dv_schema.specs.Answers.{skipped}
use Rattle.dv_schema.proofs.Nodes.{skipped_value, skipped_fault}
use Rattle.dv_x509.specs.Types.{known_contents, known_extension, known_identifiers}

-- past the known ones any octets stand
pub any_contents : (k place : ℕ) (p : Spot) → k ≢ 0 → k ≢ 1 → k ≢ 2 → k ≢ 3 → k ≢ 4 → k ≢ 5 → skipped (read_fields (known_contents k) place p) ≡ Ok tt
unfolding read_fields
any_contents k place p n0 n1 n2 n3 n4 n5 =
    let e0 : eqb k 0 ≡ false = ne_eqb k 0 n0 in
    let e1 : eqb k 1 ≡ false = ne_eqb k 1 n1 in
    let e2 : eqb k 2 ≡ false = ne_eqb k 2 n2 in
    let e3 : eqb k 3 ≡ false = ne_eqb k 3 n3 in
    let e4 : eqb k 4 ≡ false = ne_eqb k 4 n4 in
    let e5 : eqb k 5 ≡ false = ne_eqb k 5 n5 in
    rw (e0, e1, e2, e3, e4, e5) refl

-- the place of an identifier among the known ones
abbrev pub known_at : List ℕ → ℕ
known_at id = key_place known_identifiers id

-- the steps over an extension's fields, to the contents of its value
pub record IsRead (p : Spot) (id : List ℕ) (q : Spot) (critical : Option (List ℕ)) (r : Spot) (j : Item) : Type 0 where
  pub identifier : read oid p ≡ Ok (id, q)
  pub flagged : maybe_at (starts_list (is_tag_of 1) q.rest) q (read (flag 1) q) ≡ Ok (critical, r)
  pub value : item_at (is_tag_of 4) r ≡ Ok j

-- contents that are refused
pub known_fault : (own : ℕ) (p : Spot) (id : List ℕ) (q : Spot) (critical : Option (List ℕ)) (r : Spot) (j : Item) (d : Der) → IsRead p id q critical r j
    → skipped (read_fields (known_contents (known_at id)) r.place (within j)) ≡ Err d → skipped (read_fields known_extension own p) ≡ Err d
unfolding read
known_fault own p id q critical r j d h known =
    let k = skipped_fault (read_fields (known_contents (known_at id)) r.place (within j)) d known in
    rw (h.identifier, h.flagged, h.value, k) refl

-- contents that are passed, and what comes behind them
pub known_value : (own : ℕ) (p : Spot) (id : List ℕ) (q : Spot) (critical : Option (List ℕ)) (r : Spot) (j : Item) → IsRead p id q critical r j
    → skipped (read_fields (known_contents (known_at id)) r.place (within j)) ≡ Ok tt → skipped (read_fields known_extension own p) ≡ read_fields done 0 j.after
unfolding read
known_value own p id q critical r j h known =
    let k = skipped_value (read_fields (known_contents (known_at id)) r.place (within j)) known in
    elim (cases_Bool (eqb (length j.after.rest) 0)) [
      | inl t ↦ rw (h.identifier, h.flagged, h.value, k.1, t) refl
      | inr f ↦ rw (h.identifier, h.flagged, h.value, k.1, f) refl
    ]

-- the same contents, by the identifier's place and under the octets' own depth
pub known_here : (id : List ℕ) (k place r : ℕ) (inside opened : Spot) (g : Result (Unit {0}) Der) → k ≡ known_at id → place ≡ r → inside ≡ opened
    → skipped (read_fields (known_contents k) place inside) ≡ g → skipped (read_fields (known_contents (known_at id)) r opened) ≡ g
known_here id k place r inside opened g e f h known =
    ap (λ (s : Spot). skipped (read_fields (known_contents (known_at id)) r s)) (sym h)
    ∙ ap (λ (n : ℕ). skipped (read_fields (known_contents (known_at id)) n inside)) (sym f)
    ∙ ap (λ (n : ℕ). skipped (read_fields (known_contents n) place inside)) (sym e) ∙ known
