-- One turn over extensions.
use Rattle.std.proofs.Common.{◌≡◌, ◌++◌, ℕ, Bool, true, false, Option, None, Some, Result, Ok, Err, List, [], ◌∷◌, length, eqb, not, refl, sym, ap, ◌∙◌, inl, inr, arith}
use Rattle.std.specs.Prelude.{IsOkAnd, nat_eq}
use Rattle.std.specs.Option.{option_eq}
use Rattle.std.proofs.lemmas.Bool.{cases_Bool, eqb-true, eqb-false}
use Rattle.std.proofs.lemmas.List.{length-append}
use Rattle.dv_schema.specs.declared.refusal.Der.{Der}
use Rattle.dv_schema.specs.Octets.{are_apart, is_one_of, IsBytes}
use Rattle.dv_schema.specs.Schema.{Schema, Body, node, kept, done}
use Rattle.dv_schema.specs.Types.{oid, flag, octet_string}
use Rattle.dv_schema.specs.Reading.{Spot, Item, item_at, within, is_tag_of, maybe_at, starts_list, read, read_fields, first_contents}
use Rattle.dv_schema.specs.Answers.{skipped}
use Rattle.dv_schema.proofs.Tools.{ok_is}
use Rattle.dv_schema.proofs.Takes.{takes}
use Rattle.dv_schema.specs.Answers.{Keys}
use Rattle.dv_schema.proofs.Distinct.{first_is}
use Rattle.dv_repeats.specs.Lists.{AreApartUpTo, AreKeys}
use Rattle.dv_repeats.proofs.ApartLemmas.{apart_end}
use Rattle.dv_names.specs.Turns.{extension_turn, first_read}
use Rattle.dv_names.specs.Types.{extension_fields}

-- an extension, passed by its own fields
abbrev pub member : Schema
member = node 48 (kept extension_fields)

-- what was answered, where it is known to be Ok
pub told : {A : Type 0} {P : A → Type 0} (r : Result A Der) → IsOkAnd r P → (y : A) × (r ≡ Ok y) × P y
told (Ok y) h = (y, refl, h)
told (Err d) h = absurd h

-- an extension that was passed by its fields, and its key
pub extension_passes : (p inside after : Spot) (id : List ℕ) (q : Spot) (critical : Option (List ℕ)) (r : Spot) (value : List ℕ) (s : Spot) → IsBytes inside.rest
    → item_at (is_tag_of 48) p ≡ Ok (record { tag = 48; inside = inside; after = after }) → read oid inside ≡ Ok (id, q)
    → maybe_at (starts_list (is_tag_of 1) q.rest) q (read (flag 1) q) ≡ Ok (critical, r) → read octet_string r ≡ Ok (value, s) → read_fields done 0 s ≡ Ok tt
    → IsOkAnd (read member p) (λ y. (y.1 ≡ after) × (first_contents y.0 ≡ id))
unfolding read
extension_passes p inside after id q critical r value s bytes outer a b d end =
    let t = takes oid inside (id, q) bytes a in
    let first : first_contents inside.rest ≡ id = ap first_contents t.0.octets ∙ first_is 6 id q.rest refl t.1.1 in
    rw (outer, a, b, d, end) (refl, first)

-- the identifiers between two spots, as they are passed one after another
pub keys_turn : (ks : List (List ℕ)) (p q : Spot) → Keys first_contents 48 extension_fields ks p q → AreKeys extension_turn ks p q
keys_turn [] p q h = h
keys_turn (k ∷ ks) p q h = (h.1, ap first_read h.2 ∙ ap (λ (i : List ℕ). Some (i, h.1)) h.3, keys_turn ks h.1 q h.4)

-- the extension that is told to repeat an identifier is the first that does
pub repeats_here : (ks : List (List ℕ)) (k : List ℕ) (repeated : Option ℕ) (number : ℕ) → length ks ≡ number → are_apart [] ks ≡ true → AreApartUpTo ks repeated → AreApartUpTo (ks ++ k ∷ []) repeated
    → is_one_of ks k ≡ option_eq nat_eq repeated (Some number)
repeats_here ks k repeated number size apart few more = go repeated few more (is_one_of ks k) refl
  where
    -- the keys with the next one are apart where it isn't one of them
    next : (b : Bool) → is_one_of ks k ≡ b → are_apart [] (ks ++ k ∷ []) ≡ not b
    next b e = apart_end [] ks k ∙ rw (apart, e) refl

    go : (r : Option ℕ) → AreApartUpTo ks r → AreApartUpTo (ks ++ k ∷ []) r → (b : Bool) → is_one_of ks k ≡ b → b ≡ option_eq nat_eq r (Some number)
    go None few more true e = absurd (let bad : false ≡ true = sym (next true e) ∙ more in cc)
    go None few more false e = refl
    go (Some r) few more true e =
        elim (cases_Bool (eqb r number)) [
          | inl t ↦ sym t
          | inr f ↦ absurd (let ne = eqb-false r number f in
              let least = few.0 apart in
              let long = length-append ks (k ∷ []) in
              let bad : false ≡ true = sym (next true e) ∙ more.1 (omega (arith, ne, least, size, long)) in cc)
        ]
    go (Some r) few more false e =
        elim (cases_Bool (eqb r number)) [
          | inl t ↦ absurd (let is = eqb-true r number t in
              let long = length-append ks (k ∷ []) in
              let least = more.0 (next false e) in omega (arith, is, size, long, least))
          | inr f ↦ sym f
        ]

-- the contents of a member that go by its identifier, from a cursor over its fields
pub checked : (known : Body) (p start fields after : Spot) (i : Item) (place : ℕ) (r : Result (Unit {0}) Der) → item_at (is_tag_of 48) p ≡ Ok i
    → item_at (is_tag_of 48) p ≡ Ok (record { tag = 48; inside = fields; after = after }) → start ≡ p → place ≡ start.place → skipped (read_fields known place fields) ≡ r
    → skipped (read_fields known p.place (within i)) ≡ r
checked known p start fields after i place r e f s at h =
    let made : Item = record { tag = 48; inside = fields; after = after } in
    let is : i ≡ made = ok_is i made (sym e ∙ f) in
    let here : place ≡ p.place = at ∙ ap (λ (q : Spot). q.place) s in
    ap (λ (j : Item). skipped (read_fields known p.place (within j))) is ∙ ap (λ (k : ℕ). skipped (read_fields known k fields)) (sym here) ∙ h
