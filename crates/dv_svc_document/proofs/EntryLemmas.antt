-- The sizes of the entries of signers.
use Rattle.std.proofs.Common.{◌≡◌, ◌≤◌, ◌<◌, ◌+◌, ◌++◌, ◌∷◌, ◌∙◌, ℕ, true, Option, Some, None, List, [], length, map, refl, sym, ap, subst, arith}
use Rattle.std.specs.Borrow.{Bor}
use Rattle.std.specs.Prelude.{sum_by, unwrap_or}
use Rattle.std.specs.List.{flat_map}
use Rattle.std.specs.Option.{option_copied}
use Rattle.std.proofs.lemmas.List.{append-nil, length-append}
use Rattle.std.proofs.lemmas.List.Sums.{sum_by-cons}
use Rattle.dv_schema.specs.Schema.{ValueOf, contents, spelling}
use Rattle.dv_schema.specs.Tlv.{length_octets, tlv}
use Rattle.dv_asn1.specs.declared.writer.Writer.{Writer}
use Rattle.dv_asn1.specs.Writing.{Writes}
use Rattle.dv_asn1.proofs.Written.{written_more}
use Rattle.dv_status.specs.Types.{status_info}
use Rattle.dv_request.specs.Made.{certificate_token, retagged}
use Rattle.dv_request.specs.Types.{target_chain, target_fields, token}
use Rattle.dv_request.proofs.MessageLemmas.{octets_few}
use Rattle.dv_path.specs.Rows.{octets_of}
use Rattle.dv_parts.proofs.DraftLemmas.{status_few}
use Rattle.dv_parts.proofs.Flattened.{flat-append, flat-map}
use Rattle.dv_svc_document.specs.Entries.{AreShort, chain_with, entry_with, status_token, status_with}

-- ---- the chain

-- a status as a token
abbrev pub status_octets : Option ℕ → List ℕ
status_octets bit = spelling (status_info 162) (status_with bit)

-- has few octets
pub token_few : (bit : Option ℕ) → length (status_octets bit) ≤ 44
token_few None = status_few 0 None (omega arith)
token_few (Some b) = status_few 2 (Some b) (omega arith)

-- a certificate as a token has as many as under its own tag
pub length-retagged : (octets : List ℕ) → length (retagged 160 octets) ≡ length octets
length-retagged [] = refl
length-retagged (t ∷ ts) = refl

pub length-retagged_all : (cs : List (List ℕ)) → length (flat_map (retagged 160) cs) ≡ sum_by length cs
length-retagged_all [] = refl
length-retagged_all (c ∷ cs) = omega (arith, length-append (retagged 160 c) (flat_map (retagged 160) cs), length-retagged c, length-retagged_all cs, sum_by-cons length c cs)

-- the certificates stand before the status
pub chain_is : (cs : List (List ℕ)) (bit : Option ℕ) → chain_with cs bit ≡ flat_map (retagged 160) cs ++ status_octets bit
chain_is cs bit =
    flat-append (spelling token) (map certificate_token cs) (status_token (status_with bit) ∷ [])
    ∙ (ap (λ (l : List ℕ). l ++ (status_octets bit ++ [])) (flat-map (spelling token) certificate_token cs)
    ∙ ap (λ (l : List ℕ). flat_map (retagged 160) cs ++ l) (append-nil (status_octets bit)))

pub length-chain : (cs : List (List ℕ)) (bit : Option ℕ) → length (chain_with cs bit) ≡ sum_by length cs + length (status_octets bit)
length-chain cs bit = omega (arith, ap length (chain_is cs bit), length-append (flat_map (retagged 160) cs) (status_octets bit), length-retagged_all cs)

-- ---- slices

-- the same of slices
pub flat-slices : (slices : List (Bor (List ℕ))) → flat_map (retagged 160) (octets_of slices) ≡ flat_map (λ s. retagged 160 s.now) slices
flat-slices slices = flat-map (retagged 160) (λ (s : Bor (List ℕ)). s.now) slices

pub sum-slices : (slices : List (Bor (List ℕ))) → sum_by length (octets_of slices) ≡ sum_by (λ s. length s.now) slices
sum-slices [] = refl
sum-slices (s ∷ ss) = omega (arith, sum-slices ss, sum_by-cons length s.now (octets_of ss), sum_by-cons (λ (x : Bor (List ℕ)). length x.now) s ss)

-- ---- a chain that is written

-- the parts of a chain, of so many octets, whose certificates are in these slices
module _ (n : ℕ) (own slices : List (Bor (List ℕ))) (bit : Option ℕ) (size : n ≡ length (chain_with (octets_of own) bit)) (same : slices ≡ own) where
  -- its octets
  chain_octets : tlv 48 (chain_with (octets_of own) bit) ≡ (48 ∷ length_octets n) ++ (flat_map (λ s. retagged 160 s.now) slices ++ status_octets bit)
  chain_octets =
      let front : List ℕ = 48 ∷ length_octets n in
      let parts = chain_is (octets_of own) bit ∙ ap (λ (l : List ℕ). l ++ status_octets bit) (flat-slices own ∙ ap (λ (l : List (Bor (List ℕ))). flat_map (λ s. retagged 160 s.now) l) (sym same)) in
      ap (λ (k : ℕ). (48 ∷ length_octets k) ++ chain_with (octets_of own) bit) (sym size) ∙ ap (λ (l : List ℕ). front ++ l) parts

  -- how many they are
  pub length-chain_octets : length (tlv 48 (chain_with (octets_of own) bit)) ≡ length (48 ∷ length_octets n) + (length (flat_map (λ (s : Bor (List ℕ)). retagged 160 s.now) slices) + length (status_octets bit))
  length-chain_octets =
      let certificates : List ℕ = flat_map (λ (s : Bor (List ℕ)). retagged 160 s.now) slices in
      omega (arith, ap length chain_octets, length-append (48 ∷ length_octets n) (certificates ++ status_octets bit), length-append certificates (status_octets bit))

  -- they are written part by part
  pub chain_written : (a b d e : Writer) → Writes a b (48 ∷ length_octets n) → Writes b d (flat_map (λ s. retagged 160 s.now) slices) → Writes d e (status_octets bit) → Writes a e (tlv 48 (chain_with (octets_of own) bit))
  chain_written a b d e first second third =
      let certificates : List ℕ = flat_map (λ (s : Bor (List ℕ)). retagged 160 s.now) slices in
      subst (Writes a e) (sym chain_octets) (written_more a b e (48 ∷ length_octets n) (certificates ++ status_octets bit) first (written_more b d e certificates (status_octets bit) second third))
