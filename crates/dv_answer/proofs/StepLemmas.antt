-- The lists that a request's information keeps are read, and what the steps find in them.
use Rattle.std.proofs.Common.{◌≡◌, ◌≤◌, ◌∙◌, ℕ, Bool, true, false, eqb, ltb, is_lt, nat_cmp, Option, Some, Result, Ok, List, [], ◌∷◌, length, inl, refl, sym, ap, subst, arith}
use Rattle.std.specs.Prelude.{IfSome}
use Rattle.std.specs.List.{AllByRecursion, list_any}
use Rattle.std.proofs.Math.Nat.{ℕ_set}
use Rattle.std.proofs.Math.Logic.{∥∥₁_elim}
use mathlib.Core.Sum.{⊎_set}
use mathlib.Core.List.{is_set as List_set}
use Rattle.dv_schema.specs.declared.refusal.Der.{Der}
use Rattle.dv_schema.specs.Schema.{Schema, kept, sequence_of, FieldsOf, ValueOf, contents}
use Rattle.dv_schema.specs.Types.{free}
use Rattle.dv_schema.specs.Fits.{Fits, FieldsFit, FitsIn}
use Rattle.dv_schema.specs.Clear.{is_clear}
use Rattle.dv_schema.specs.Decodes.{HasSpelling}
use Rattle.dv_schema.specs.Reading.{all_at, read}
use Rattle.dv_schema.proofs.Kept.{value_set}
use Rattle.dv_schema.proofs.Lists.{members_read}
use Rattle.dv_schema.proofs.Spellings.{fields_more}
use Rattle.dv_time.specs.Text.{civil_in, civil_of, last_second, second_of, text_of}
use Rattle.dv_time.specs.Views.{view_moment}
use Rattle.dv_time.proofs.TextLemmas.{read_back, second_again}
use Rattle.dv_names.specs.Types.{extension, extension_fields, extensions, extensions_under, general_name, general_names}
use Rattle.dv_members.specs.Members.{front_of, values_in}
use Rattle.dv_request.specs.Types.{request_information}
use Rattle.dv_members.proofs.MemberLemmas.{values_of_octets}
use Rattle.dv_answer.specs.Steps.{is_after}

-- the members of a kept list that fits are read
list_read : (s : Schema) (some : Bool) (n : ℕ) (octets : List ℕ) → is_clear s ≡ true → n ≤ 32 → FieldsFit (kept (sequence_of some s)) n octets
    → all_at (read s) (length octets) (front_of octets) ≡ Ok (values_in s octets)
list_read s some n octets clear few f =
    let v = values_of_octets s some 0 octets f.0 clear f.1 (fields_more (sequence_of some s) n 32 f.0 few f.2) in
    members_read s some 0 (front_of octets) f.0 v.0 ∙ ap (λ (l : List (ValueOf s)). Ok l) (sym v.1)

-- what reading answers is a set
list_set : (s : Schema) → IsSet (Result (List (ValueOf s)) Der)
list_set s = let v : IsSet (List (ValueOf s)) = List_set (value_set s) in hlevel (v, ℕ_set, ⊎_set)

-- the names of servers in a request's information are read
pub servers_read : (v : ValueOf request_information) (names : List ℕ) → ∥ HasSpelling request_information v ∥₁ → v.1.1.1.1.1.1.0 ≡ Some names
    → all_at (read general_name) (length names) (front_of names) ≡ Ok (values_in general_name names)
unfolding HasSpelling
servers_read v names h is =
    ∥∥₁_elim h (list_set general_name (all_at (read general_name) (length names) (front_of names)) (Ok (values_in general_name names)))
    (λ f. (let own : Fits (general_names 162) 31 names = subst (λ (o : Option (List ℕ)). IfSome o (Fits (general_names 162) 31)) is f.0.2.1.1.1.1.1.1.0 in
    list_read general_name true 30 names refl (omega arith) own.2))

-- an extension of which nothing more is asked
abbrev IsPlain : ℕ → FieldsOf extension_fields → Type 0
IsPlain n x = FitsIn 48 n (contents extension_fields x) (λ m. FieldsFit extension_fields m x × ((w : FieldsOf free) × (contents extension_fields x ≡ contents free w) × FieldsFit free m w))

-- extensions without repetition are extensions
each_fits : (n : ℕ) (xs : List (FieldsOf extension_fields)) → AllByRecursion (IsPlain n) xs → AllByRecursion (Fits extension n) xs
each_fits n [] all = tt
each_fits n (x ∷ xs) all = ((all.0.0, all.0.1, all.0.2.0), each_fits n xs all.1)

-- the extensions in a request's information are read
pub extensions_read : (v : ValueOf request_information) (octets : List ℕ) → ∥ HasSpelling request_information v ∥₁ → v.1.1.1.1.1.1.1.1.0 ≡ Some octets
    → all_at (read extension) (length octets) (front_of octets) ≡ Ok (values_in extension octets)
unfolding HasSpelling
extensions_read v octets h is =
    ∥∥₁_elim h (list_set extension (all_at (read extension) (length octets) (front_of octets)) (Ok (values_in extension octets)))
    (λ f. (let own : Fits (extensions_under 164 free) 31 octets = subst (λ (o : Option (List ℕ)). IfSome o (Fits (extensions_under 164 free) 31)) is f.0.2.1.1.1.1.1.1.1.1.0 in
    let k : FieldsFit (kept (extensions free)) 30 octets = own.2 in
    list_read extension true 30 octets refl (omega arith) (k.0, k.1, (k.2.0, each_fits 30 k.0 k.2.1))))

-- ---- a loop that looks for a member

-- the first one passes the test
pub any_here : {A : Type 0} (test : A → Bool) (v : A) (vs : List A) → test v ≡ true → true ≡ list_any test (v ∷ vs)
any_here test v vs e = rw e refl

-- or doesn't
pub any_behind : {A : Type 0} (test : A → Bool) (v : A) (vs : List A) → test v ≡ false → list_any test vs ≡ list_any test (v ∷ vs)
any_behind test v vs e = rw e refl

-- ---- the time of a request

-- the text of a second tells it
second_told : (s : ℕ) → s ≤ last_second → second_of (civil_in (text_of s)) ≡ s
unfolding text_of
second_told s le = let h = second_again s le in ap second_of (read_back (civil_of s) h.0) ∙ h.1

-- what a comparison answers is whether the first number is below the second
lt_told : (x y : ℕ) → is_lt (nat_cmp x y) ≡ ltb x y
lt_told x y = go (ltb x y) (eqb x y) refl refl
  where
    go : (a b : Bool) → ltb x y ≡ a → eqb x y ≡ b → is_lt (nat_cmp x y) ≡ ltb x y
    go true b e f = rw e refl
    go false true e f = rw (e, f) refl
    go false false e f = rw (e, f) refl

pub after_told : (moment when : ℕ) → when ≤ last_second → is_after moment (Some (inl (view_moment when))) ≡ is_lt (nat_cmp moment when)
after_told moment when le = ap (ltb moment) (second_told when le) ∙ sym (lt_told moment when)
