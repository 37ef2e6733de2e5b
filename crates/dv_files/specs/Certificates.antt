-- Octets that are certificates, one after another.
use Rattle.std.specs.Prelude.{◌≡◌, ◌≢◌, ◌+◌, ◌<◌, ◌≤◌, ◌^◌, ◌⊎◌, ℕ, List, [], ◌++◌, length, All, Result, Err}
use Rattle.std.specs.List.{concat}
use Rattle.dv_schema.specs.declared.refusal.Der.{Der}
use Rattle.dv_schema.specs.Reading.{Spot}
use Rattle.dv_draft.specs.Records.{IsCertificate, certificate_at}

-- The octets are 1 to so many certificates (RFC 5280 4.1), each under tag 30, one after another.
pub record AreCertificatesUpTo (limit : ℕ) (octets : List ℕ) (certificates : List (List ℕ)) : Type 0 where
  pub some : 1 ≤ length certificates
  pub few : length certificates ≤ limit
  pub decoded : All IsCertificate certificates
  pub joined : octets ≡ concat certificates

-- the octets are a certificate file: 1 to 6 of them
abbrev pub AreCertificates : List ℕ → List (List ℕ) → Type 0
AreCertificates octets certificates = AreCertificatesUpTo 6 octets certificates

-- the spot behind the certificates at the front of a file
abbrev pub behind_of : List (List ℕ) → List ℕ → Spot
behind_of front behind = record { levels = 32; place = length (concat front); rest = behind }

-- reading was refused at this place, as far as 64 bits count places
abbrev pub IsPlaceOf : {A : Type 0} → Result A Der → ℕ → Type 0
IsPlaceOf r place = (d : Der) × (r ≡ Err d) × (d.place < 2 ^ 64 → place ≡ d.place)

-- The octets are certificates, fewer than so many, and behind them no certificate, by the check that fails at this place.
pub record HasNoNext (limit : ℕ) (octets : List ℕ) (place : ℕ) : Type 0 where
  pub front : List (List ℕ)
  pub behind : List ℕ
  pub few : length front < limit
  pub decoded : All IsCertificate front
  pub is : octets ≡ concat front ++ behind
  pub refused : IsPlaceOf (certificate_at (behind_of front behind)) place

-- The octets are so many certificates, and behind them, at this place, more octets.
pub record HasMore (limit : ℕ) (octets : List ℕ) (at : ℕ) : Type 0 where
  pub front : List (List ℕ)
  pub behind : List ℕ
  pub many : length front ≡ limit
  pub decoded : All IsCertificate front
  pub is : octets ≡ concat front ++ behind
  pub more : behind ≢ []
  pub place : at ≡ length (concat front)

-- The octets aren't 1 to so many certificates, by this.
pub record AreNone (limit : ℕ) (octets : List ℕ) (Cause : Type 0) : Type 0 where
  pub none : (certificates : List (List ℕ)) → AreCertificatesUpTo limit octets certificates → ⊥
  pub cause : Cause

-- ---- reading them

-- A certificate stands at the spot p, no other one does, and the spot q stands behind it.
pub record IsNext (p : Spot) (octets : List ℕ) (q : Spot) : Type 0 where
  pub decoded : IsCertificate octets
  pub is : p.rest ≡ octets ++ q.rest
  pub place : q.place ≡ p.place + length octets
  pub levels : q.levels ≡ p.levels
  pub only : (other rest : List ℕ) → IsCertificate other → p.rest ≡ other ++ rest → other ≡ octets

-- no certificate stands at the spot
abbrev pub HasNone : Spot → Type 0
HasNone p = (octets rest : List ℕ) → IsCertificate octets → p.rest ≡ octets ++ rest → ⊥

-- These certificates were read from the front of the octets, at most so many, and the spot q stands behind them: each list of
-- certificates that the octets are begins with them.
pub record AreSoFar (limit : ℕ) (octets : List ℕ) (seen : List (List ℕ)) (q : Spot) : Type 0 where
  pub few : length seen ≤ limit
  pub decoded : All IsCertificate seen
  pub is : octets ≡ concat seen ++ q.rest
  pub place : q.place ≡ length (concat seen)
  pub levels : q.levels ≡ 32
  pub goes_on : (seen ≡ []) ⊎ (q.rest ≢ [])
  pub only : (certificates : List (List ℕ)) → AreCertificatesUpTo limit octets certificates → (more : List (List ℕ)) × (certificates ≡ seen ++ more)
