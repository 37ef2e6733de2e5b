-- Where the contents of values stand.
use Rattle.std.proofs.Common.{◌≡◌, ◌+◌, ◌++◌, ℕ, false, Ok, List, length, refl, sym, ap, ◌∙◌, arith}
use Rattle.std.proofs.lemmas.List.{append-nil}
use Rattle.dv_schema.specs.Octets.{IsBytes}
use Rattle.dv_schema.specs.Tlv.{tlv}
use Rattle.dv_schema.specs.Schema.{Body, FieldsOf, ValueOf, contents, done, node}
use Rattle.dv_schema.specs.Types.{list_of}
use Rattle.dv_schema.specs.Reading.{Spot, Item, ◌>>=◌, is_tag_of, item_at, read, read_fields, within}
use Rattle.dv_schema.proofs.Items.{item_takes}
use Rattle.dv_schema.proofs.Takes.{fields_take, takes}
use Rattle.dv_schema.proofs.Tools.{bind_ok, ok_is}
use Rattle.dv_names.specs.Types.{algorithm_identifier}
use Rattle.dv_cms.specs.Types.{signed_data, signed_fields, signed_version}
use Rattle.dv_signed.specs.Places.{encap_place_of, header_size}

-- a value was entered that was read: its contents are those that its fields spell, and stand behind its header
pub record IsInside (b : Body) (p : Spot) (i : Item) (v : FieldsOf b) : Type 0 where
  pub place : i.inside.place ≡ p.place + header_size (length (contents b v))
  pub octets : i.inside.rest ≡ contents b v
  pub fits : IsBytes i.inside.rest

pub inside_is : (tag : ℕ) (b : Body) (p : Spot) (i : Item) (x : FieldsOf b × Spot) → IsBytes p.rest → item_at (is_tag_of tag) p ≡ Ok i → read (node tag b) p ≡ Ok x → IsInside b p i x.0
unfolding read
inside_is tag b p i x bytes item e =
    let h = item_takes (is_tag_of tag) p i bytes item in
    let a = bind_ok (item_at (is_tag_of tag) p) (λ i. read_fields b p.place (within i) >>= λ v. Ok (v, i.after)) x e in
    let same : a.0 ≡ i = ok_is a.0 i (sym a.1 ∙ item) in
    let c = bind_ok (read_fields b p.place (within a.0)) (λ v. Ok (v, a.0.after)) x a.2 in
    let fields = ap (λ (j : Item). read_fields b p.place (within j)) (sym same) ∙ c.1 in
    let t = fields_take b (within i).levels p.place (within i) c.0 refl h.inside_fits fields in
    let value : c.0 ≡ x.0 = ap (λ (y : FieldsOf b × Spot). y.0) (ok_is (c.0, a.0.after) x c.2) in
    let octets : i.inside.rest ≡ contents b x.0 = t.0 ∙ ap (contents b) value in
    record {
      place = omega (arith, h.inside_place, ap (λ (l : List ℕ). header_size (length l)) octets);
      octets = octets;
      fits = h.inside_fits;
    }

-- an OCTET STRING alone under an explicit tag
pub content_place : (p explicit after octets last : Spot) → IsBytes p.rest → item_at (is_tag_of 160) p ≡ Ok (record { tag = 160; inside = explicit; after = after })
    → item_at (is_tag_of 4) explicit ≡ Ok (record { tag = 4; inside = octets; after = last }) → read_fields done 0 last ≡ Ok tt
    → octets.place ≡ p.place + header_size (length (tlv 4 octets.rest)) + header_size (length octets.rest)
content_place p explicit after octets last bytes item string end =
    let h = item_takes (is_tag_of 160) p (record { tag = 160; inside = explicit; after = after }) bytes item in
    let k = item_takes (is_tag_of 4) explicit (record { tag = 4; inside = octets; after = last }) h.inside_fits string in
    let none = (fields_take done last.levels 0 last tt refl k.after_fits end).0 in
    let whole : explicit.rest ≡ tlv 4 octets.rest = k.octets ∙ ap (λ (l : List ℕ). tlv 4 octets.rest ++ l) none ∙ append-nil (tlv 4 octets.rest) in
    omega (arith, h.inside_place, k.inside_place, ap (λ (l : List ℕ). header_size (length l)) whole)

-- the encapContentInfo of signed data at the front stands behind the version and the digest algorithms
pub encap_placed : (p inside after a b : Spot) (v : ValueOf signed_data) → p.place ≡ 0 → IsBytes p.rest → item_at (is_tag_of 48) p ≡ Ok (record { tag = 48; inside = inside; after = after })
    → read signed_data p ≡ Ok (v, after) → read signed_version inside ≡ Ok (v.0, a) → read (list_of 49 false algorithm_identifier) a ≡ Ok (v.1.0, b) → b.place ≡ encap_place_of v
encap_placed p inside after a b v front bytes item e first second =
    let i = inside_is 48 signed_fields p (record { tag = 48; inside = inside; after = after }) (v, after) bytes item e in
    let one = (takes signed_version inside (v.0, a) i.fits first).0 in
    let two = (takes (list_of 49 false algorithm_identifier) a (v.1.0, b) one.fits second).0 in
    omega (arith, i.place, one.place, two.place, front)
