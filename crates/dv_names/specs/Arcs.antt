-- Object identifiers as arcs, as the contents octets of an OBJECT IDENTIFIER (X.690 8.19), and as dotted decimals.
use Rattle.std.specs.Prelude.{◌≡◌, ℕ, ◌+◌, ◌-◌, ◌*◌, ◌/◌, ◌%◌, ◌<◌, Bool, false, ◌&&◌, ◌||◌, ◌==◌, nat_lt, nat_le, IsTrue, if◌then◌else◌, List, [], ◌∷◌, ◌++◌, length, map, take, ◌⊎◌}
use Rattle.std.specs.List.{flat_map, list_all}
use Rattle.std.specs.Int.Digits.{digits_of}
use Rattle.dv_names.specs.declared.shown.DisplayError.{DisplayError}
use Rattle.dv_names.specs.declared.shown.DisplayError.TheVariants.{Wide, Memory as NoRoom}
use Rattle.dv_names.specs.declared.dotted.OidText.{OidText}
use Rattle.dv_names.specs.declared.dotted.OidText.TheVariants.{Text, Memory}

-- ---- octets

-- a number in base 128, the highest digits first; all octets but the last have 80 added (X.690 8.19.2)
abbrev pub number_octets : ℕ → List ℕ
number_octets n = map (λ d. 128 + d) (digits_of 128 (n / 128)) ++ n % 128 ∷ []

-- the numbers of an identifier: the first two arcs are one (X.690 8.19.4)
abbrev pub numbers_of_arcs : List ℕ → List ℕ
numbers_of_arcs (a ∷ b ∷ cs) = (a * 40 + b) ∷ cs
numbers_of_arcs _ = []

-- at least two arcs, the first at most 2, and the second below 40 where the first is 0 or 1 (X.660 7.6)
abbrev pub are_proper : List ℕ → Bool
are_proper (a ∷ b ∷ cs) = nat_le a 2 && (nat_le 2 a || nat_lt b 40)
are_proper _ = false

-- the contents octets of the identifier with these arcs
abbrev pub oid_octets : List ℕ → List ℕ
oid_octets arcs = flat_map number_octets (numbers_of_arcs arcs)

-- the numbers that octets spell, after the digits of n
unfoldable pub numbers_after : ℕ → List ℕ → List ℕ
numbers_after n [] = []
numbers_after n (b ∷ bs) =
    if nat_lt b 128 then (n * 128 + b) ∷ numbers_after 0 bs else
    numbers_after (n * 128 + (b - 128)) bs

-- the arcs of an identifier's numbers: the first arc is 0, 1 or 2, and the second below 40 where the first is 0 or 1
abbrev pub arcs_of_numbers : List ℕ → List ℕ
arcs_of_numbers [] = []
arcs_of_numbers (n ∷ ns) =
    if nat_lt n 40 then 0 ∷ n ∷ ns else
    if nat_lt n 80 then 1 ∷ (n - 40) ∷ ns else
    2 ∷ (n - 80) ∷ ns

-- the arcs of contents octets
abbrev pub arcs_of : List ℕ → List ℕ
arcs_of octets = arcs_of_numbers (numbers_after 0 octets)

-- ---- text

-- an arc in decimal, without leading zeros
abbrev pub arc_text : ℕ → List ℕ
arc_text n = if n == 0 then 48 ∷ [] else map (λ d. 48 + d) (digits_of 10 n)

-- arcs in decimal with dots between them
abbrev pub dotted : List ℕ → List ℕ
dotted [] = []
dotted (a ∷ more) = arc_text a ++ flat_map (λ b. 46 ∷ arc_text b) more

-- each arc is below 2 ^ 64
abbrev pub are_narrow : List ℕ → Bool
are_narrow arcs = list_all (λ a. nat_lt a 18_446_744_073_709_551_616) arcs

-- the most that an arc of a text may be: with 80 added it is below 2 ^ 64
abbrev pub largest_arc : ℕ
largest_arc = 18_446_744_073_709_551_535

-- the most that the second arc may be
abbrev pub second_limit : ℕ → ℕ
second_limit first = if nat_lt first 2 then 39 else largest_arc

-- at least two arcs, of which the first is at most 2, and none is past its limit
abbrev pub are_good : List ℕ → Bool
are_good (a ∷ b ∷ cs) = (nat_le a 2 && nat_le b (second_limit a)) && list_all (λ c. nat_le c largest_arc) cs
are_good _ = false

-- a good text: the dotted decimal of such arcs
abbrev pub IsGood : List ℕ → Type 0
IsGood text = (arcs : List ℕ) × IsTrue (are_good arcs) × (dotted arcs ≡ text)

-- what a good text may begin with
abbrev pub Begins : List ℕ → Type 0
Begins front = (rest : List ℕ) × IsGood (front ++ rest)

-- The text is no good one, and this is the place of its first octet that no good text has there, or its length where it ends too early.
pub record IsBad (text : List ℕ) (place : ℕ) : Type 0 where
  pub bad : IsGood text → ⊥
  pub before : Begins (take place text)
  pub here : (place ≡ length text) ⊎ ((place < length text) × (Begins (take (place + 1) text) → ⊥))

-- ---- what the calls answer

-- why an identifier isn't shown
abbrev pub IsHidden : List ℕ → DisplayError → Type 0
IsHidden arcs Wide = are_narrow arcs ≡ false
IsHidden arcs NoRoom = IsTrue (are_narrow arcs)

-- why a text gives no identifier
abbrev pub IsRefused : List ℕ → OidText → Type 0
IsRefused text (Text place) = IsBad text place
IsRefused text Memory = IsGood text

-- the octets are those of the text
abbrev pub Names : List ℕ → List ℕ → Type 0
Names text octets = (arcs : List ℕ) × IsTrue (are_good arcs) × (dotted arcs ≡ text) × (oid_octets arcs ≡ octets)
