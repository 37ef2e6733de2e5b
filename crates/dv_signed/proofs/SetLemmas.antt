-- The sets of signed data.
use Rattle.std.proofs.Common.{◌≡◌, ◌≤◌, ◌<◌, ◌++◌, ◌∷◌, ℕ, Bool, true, false, Option, Some, None, Ok, List, [], length, refl, ap, arith}
use Rattle.std.specs.Prelude.{option_map}
use Rattle.std.proofs.Math.Logic.{∥∥₁_map}
use Rattle.std.proofs.lemmas.List.{length-append}
use Rattle.dv_schema.specs.Octets.{IsBytes}
use Rattle.dv_schema.specs.Tlv.{length_octets, tlv}
use Rattle.dv_schema.specs.Schema.{Schema, ValueOf, spelling, spelled_if}
use Rattle.dv_schema.specs.Fits.{Fits}
use Rattle.dv_schema.specs.Types.{any, explicit, list_of, octet_string}
use Rattle.dv_schema.specs.Reading.{Item, Spot, all_at, is_tag_of, item_at, maybe_at, read}
use Rattle.dv_schema.specs.Decodes.{HasSpelling}
use Rattle.dv_schema.proofs.Lists.{members_read}
use Rattle.dv_schema.proofs.Moves.{item_opens, moves}
use Rattle.dv_schema.proofs.Spellings.{fits_more}
use Rattle.dv_schema.proofs.Takes.{takes}
use Rattle.dv_schema.proofs.Tools.{bind_ok, ok_is}
use Rattle.dv_members.specs.Members.{front_of, values_in}
use Rattle.dv_members.proofs.MemberLemmas.{list_values}
use Rattle.dv_names.specs.Types.{algorithm_identifier}
use Rattle.dv_cms.specs.Types.{certificate_choice, encapsulated, signed_data, signed_version, signer_info}
use Rattle.dv_signed.specs.Certificates.{signers_in}
use Rattle.dv_signed.specs.Fields.{encapsulated_with, signed_with}

-- the contents of a list that was read are no more octets than were left
pub list_shorter : (tag : ℕ) (some : Bool) (s : Schema) (p q : Spot) (octets : List ℕ) → IsBytes p.rest → read (list_of tag some s) p ≡ Ok (octets, q) → length octets ≤ length p.rest
list_shorter tag some s p q octets bytes e =
    let t = takes (list_of tag some s) p (octets, q) bytes e in
    omega (arith, ap length t.0.octets, length-append (tlv tag octets) q.rest, length-append (tag ∷ length_octets (length octets)) octets)

-- a field that may be absent leaves no more than was left
pub maybe_less : (s : Schema) (b : Bool) (p : Spot) (x : Option (ValueOf s) × Spot) → maybe_at b p (read s p) ≡ Ok x → length x.1.rest ≤ length p.rest
maybe_less s false p x e =
    let none : Option (ValueOf s) × Spot = (None, p) in
    omega (arith, ap (λ (y : Option (ValueOf s) × Spot). length y.1.rest) (ok_is none x e))
maybe_less s true p x e =
    let a = bind_ok (read s p) (λ y. Ok (Some y.0, y.1)) x e in
    let made : Option (ValueOf s) × Spot = (Some a.0.0, a.0.1) in
    let m = moves s p a.0 a.1 in
    omega (arith, m.less, ap (λ (y : Option (ValueOf s) × Spot). length y.1.rest) (ok_is made x a.2))

-- behind the first three fields of signed data no more is left than was
pub fields_less : (p inside after a b d : Spot) (version : ℕ) (digests : List ℕ) (e : ValueOf encapsulated) → item_at (is_tag_of 48) p ≡ Ok (record { tag = 48; inside = inside; after = after }) → read signed_version inside ≡ Ok (version, a)
    → read (list_of 49 false algorithm_identifier) a ≡ Ok (digests, b) → read encapsulated b ≡ Ok (e, d) → length d.rest ≤ length p.rest
fields_less p inside after a b d version digests e item first second third =
    let i : Item = record { tag = 48; inside = inside; after = after } in
    let o = item_opens (is_tag_of 48) p i item in
    let one = moves signed_version inside (version, a) first in
    let two = moves (list_of 49 false algorithm_identifier) a (digests, b) second in
    let three = moves encapsulated b (e, d) third in
    omega (arith, o.less, one.less, two.less, three.less)

-- a content and the fields that stand for it
pub content_again : (o : Option (List ℕ)) → option_map (λ (c : ValueOf (explicit 160 octet_string)). c.0) (option_map (λ c. (c, tt)) o) ≡ o
content_again None = refl
content_again (Some octets) = refl

-- the set of certificates of signed data that have a spelling has one
pub certificates_spelled : (version : ℕ) (digests type : List ℕ) (content : Option (List ℕ)) (set : List ℕ) (lists : Option (List ℕ)) (signers : List ℕ) → ∥ HasSpelling signed_data (signed_with version digests type content (Some set) lists signers) ∥₁
    → ∥ HasSpelling (list_of 160 false certificate_choice) set ∥₁
unfolding HasSpelling
certificates_spelled version digests type content set lists signers h =
    let first : List ℕ = spelling signed_version version in
    let second : List ℕ = spelling (list_of 49 false algorithm_identifier) digests in
    let third : List ℕ = spelling encapsulated (encapsulated_with type content) in
    let own : List ℕ = spelling (list_of 160 false certificate_choice) set in
    let more : List ℕ = spelled_if (spelling (list_of 161 false any)) lists ++ (spelling (list_of 49 false signer_info) signers ++ []) in
    ∥∥₁_map h (λ f. (let fits : Fits (list_of 160 false certificate_choice) 31 set = f.0.2.1.1.1.0 in
    let short : length (first ++ (second ++ (third ++ (own ++ more)))) < 18446744073709551616 = f.0.1 in (
      fits_more (list_of 160 false certificate_choice) 31 32 set (omega arith) fits,
      omega (arith, short, length-append first (second ++ (third ++ (own ++ more))), length-append second (third ++ (own ++ more)), length-append third (own ++ more), length-append own more),
    )))

-- and so has the set of signers
signers_spelled : (version : ℕ) (digests type : List ℕ) (content set lists : Option (List ℕ)) (signers : List ℕ) → ∥ HasSpelling signed_data (signed_with version digests type content set lists signers) ∥₁
    → ∥ HasSpelling (list_of 49 false signer_info) signers ∥₁
unfolding HasSpelling
signers_spelled version digests type content set lists signers h =
    let first : List ℕ = spelling signed_version version in
    let second : List ℕ = spelling (list_of 49 false algorithm_identifier) digests in
    let third : List ℕ = spelling encapsulated (encapsulated_with type content) in
    let fourth : List ℕ = spelled_if (spelling (list_of 160 false certificate_choice)) set in
    let fifth : List ℕ = spelled_if (spelling (list_of 161 false any)) lists in
    let own : List ℕ = spelling (list_of 49 false signer_info) signers in
    ∥∥₁_map h (λ f. (let fits : Fits (list_of 49 false signer_info) 31 signers = f.0.2.1.1.1.1.1.0 in
    let short : length (first ++ (second ++ (third ++ (fourth ++ (fifth ++ (own ++ [])))))) < 18446744073709551616 = f.0.1 in (
      fits_more (list_of 49 false signer_info) 31 32 signers (omega arith) fits,
      omega (
        arith,
        short,
        length-append first (second ++ (third ++ (fourth ++ (fifth ++ (own ++ []))))),
        length-append second (third ++ (fourth ++ (fifth ++ (own ++ [])))),
        length-append third (fourth ++ (fifth ++ (own ++ []))),
        length-append fourth (fifth ++ (own ++ [])),
        length-append fifth (own ++ []),
        length-append own [],
      ),
    )))

-- so the signers are read
pub signers_read : (version : ℕ) (digests type : List ℕ) (content set lists : Option (List ℕ)) (signers : List ℕ) → ∥ HasSpelling signed_data (signed_with version digests type content set lists signers) ∥₁
    → all_at (read signer_info) (length signers) (front_of signers) ≡ Ok (signers_in signers)
signers_read version digests type content set lists signers h =
    members_read signer_info false 0 (front_of signers) (values_in signer_info signers) (list_values signer_info false 49 0 signers refl (signers_spelled version digests type content set lists signers h))
