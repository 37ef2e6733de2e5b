-- The anchors of a trust file, as far as they were read.
use Rattle.std.proofs.Common.{◌≡◌, ◌∙◌, ℕ, List, [], ◌∷◌, ◌++◌, length, refl, sym, ap}
use Rattle.std.specs.Prelude.{map, Some, Ok}
use Rattle.std.proofs.lemmas.List.{length-map, map-append}
use Rattle.dv_schema.specs.Reading.{Spot}
use Rattle.dv_schema.specs.Schema.{FieldsOf}
use Rattle.dv_x509.specs.Judged.{certificate_in}
use Rattle.dv_x509.specs.Types.{certificate_fields}
use Rattle.dv_files.specs.Certificates.{AreSoFar}
use Rattle.dv_path.specs.Anchors.{Anchored, anchor_in, anchor_of}

-- These anchors are those of the certificates that were read, and the spot q stands behind them.
pub record AreAnchors (octets : List ℕ) (anchors : List Anchored) (q : Spot) : Type 0 where
  pub seen : List (List ℕ)
  pub so_far : AreSoFar 16 octets seen q
  pub anchors_of : map Some anchors ≡ map anchor_in seen

-- as many anchors as certificates
pub same_count : (anchors : List Anchored) (seen : List (List ℕ)) → map Some anchors ≡ map anchor_in seen → length anchors ≡ length seen
same_count anchors seen e = sym (length-map anchors Some) ∙ ap length e ∙ length-map seen anchor_in

-- one more of both
pub one_more : (anchors : List Anchored) (seen : List (List ℕ)) (octets : List ℕ) (v : FieldsOf certificate_fields) → map Some anchors ≡ map anchor_in seen → certificate_in 48 octets ≡ Ok v
    → map Some (anchors ++ anchor_of v ∷ []) ≡ map anchor_in (seen ++ octets ∷ [])
one_more anchors seen octets v e decoded =
    let last : anchor_in octets ≡ Some (anchor_of v) = rw decoded refl in
    map-append Some anchors (anchor_of v ∷ []) ∙ rw (e, map-append anchor_in seen (octets ∷ []), last) refl
