-- The extensions of a certificate that was read.
use Rattle.std.proofs.Common.{◌≡◌, ℕ, true, Bor, Option, Some, None, Result, Ok, Err, List, [], ◌∷◌, length, refl, sym, ap, ◌∙◌, arith}
use Rattle.std.specs.Prelude.{IfSome, option_map}
use Rattle.std.specs.List.{AllByRecursion}
use Rattle.std.specs.Option.{option_copied}
use Rattle.dv_schema.specs.declared.refusal.Der.{Der}
use Rattle.dv_schema.specs.Schema.{FieldsOf, ValueOf, contents, sequence_of}
use Rattle.dv_schema.specs.Fits.{Fits, FieldsFit, FitsIn}
use Rattle.dv_schema.specs.Reading.{all_at, read}
use Rattle.dv_names.specs.declared.extension.Extension.{Extension}
use Rattle.dv_names.specs.Views.{view_extension}
use Rattle.dv_names.specs.Types.{extension, extension_fields, extensions}
use Rattle.dv_x509.specs.Extensions.{are_read, was_read}
use Rattle.dv_x509.specs.Fields.{view_extensions}
use Rattle.dv_x509.specs.Members.{front_of, or_none, values_in}
use Rattle.dv_x509.specs.Uses.{extensions_in, first_named, name_of_extension}
use Rattle.dv_x509.specs.Types.{certificate_extensions, known_extension}
use Rattle.dv_x509.proofs.MemberLists.{values_read}

-- an extension, and that its value goes by its identifier
abbrev pub IsKnown : ℕ → FieldsOf extension_fields → Type 0
IsKnown n x = FitsIn 48 n (contents extension_fields x) (λ m. FieldsFit extension_fields m x × ((w : FieldsOf known_extension) × (contents extension_fields x ≡ contents known_extension w) × FieldsFit known_extension m w))

-- extensions without repetition are extensions
pub each_fits : (n : ℕ) (xs : List (FieldsOf extension_fields)) → AllByRecursion (IsKnown n) xs → AllByRecursion (Fits extension n) xs
each_fits n [] all = tt
each_fits n (x ∷ xs) all = ((all.0.0, all.0.1, all.0.2.0), each_fits n xs all.1)

-- contents of Extensions are extensions, one after another
pub list_fits : (n : ℕ) (xs : List (FieldsOf extension_fields)) → FieldsFit (extensions known_extension) n xs → FieldsFit (sequence_of true extension) n xs
list_fits n xs fits = (fits.0, each_fits n xs fits.1)

-- so they are read
pub extensions_are_read : (octets : Option (List ℕ)) → IfSome (option_map (λ (o : List ℕ). (o, tt)) octets) (Fits certificate_extensions 24) → are_read octets ≡ true
extensions_are_read None fits = refl
extensions_are_read (Some octets) fits =
    let k = fits.2.0.2 in
    ap was_read (values_read extension true 22 octets k.0 refl (omega arith) k.1 (list_fits 22 k.0 k.2))

-- what was read, where it is known that it was
pub told_read : {A : Type 0} (r : Result (List A) Der) → was_read r ≡ true → r ≡ Ok (or_none r)
told_read (Ok xs) e = refl
told_read (Err d) e = absurd cc

-- the extensions that a certificate keeps are read
pub kept_extensions : (octets : List ℕ) → are_read (Some octets) ≡ true → all_at (read extension) (length octets) (front_of octets) ≡ Ok (values_in extension octets)
unfolding values_in
kept_extensions octets e = told_read (all_at (read extension) (length octets) (front_of octets)) e

-- the value of an extension
abbrev value_in : ValueOf extension → List ℕ
value_in v = v.1.1.0

seen : (found : Option Extension) → option_copied (option_map (λ x. x.value) found) ≡ option_map value_in (option_map view_extension found)
seen None = refl
seen (Some x) = refl

-- the value of the extension that was found
pub value_found : (e : Option (Bor (List ℕ))) (octets : Bor (List ℕ)) (id : List ℕ) (found : Option Extension) → e ≡ Some octets
    → option_map view_extension found ≡ first_named name_of_extension id (values_in extension octets.now)
    → option_copied (option_map (λ x. x.value) found) ≡ option_map (λ v. v.1.1.0) (first_named name_of_extension id (extensions_in (view_extensions e)))
value_found e octets id found is h =
    seen found ∙ ap (option_map value_in) h ∙ ap (λ (o : Option (Bor (List ℕ))). option_map value_in (first_named name_of_extension id (extensions_in (view_extensions o)))) (sym is)
