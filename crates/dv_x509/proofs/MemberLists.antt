-- The values that kept octets hold.
use Rattle.std.proofs.Common.{◌≡◌, ◌≤◌, ℕ, Bool, true, Ok, List, length, sym, ap, subst}
use Rattle.dv_schema.specs.Schema.{Schema, sequence_of, ValueOf, contents}
use Rattle.dv_schema.specs.Fits.{FieldsFit}
use Rattle.dv_schema.specs.Clear.{is_clear}
use Rattle.dv_schema.specs.Reading.{all_at, read}
use Rattle.dv_schema.proofs.Again.{fields_again}
use Rattle.dv_schema.proofs.Spellings.{fields_more}
use Rattle.dv_schema.proofs.Lists.{members_read}
use Rattle.dv_x509.specs.Members.{front_of, or_none, values_in}

-- octets that spell values that fit are read
pub values_read : (s : Schema) (some : Bool) (n : ℕ) (octets : List ℕ) (vs : List (ValueOf s)) → is_clear s ≡ true → n ≤ 32 → octets ≡ contents (sequence_of some s) vs → FieldsFit (sequence_of some s) n vs
    → all_at (read s) (length octets) (front_of octets) ≡ Ok vs
values_read s some n octets vs clear few is fits =
    let again = fields_again (sequence_of some s) 32 0 0 vs clear (fields_more (sequence_of some s) n 32 vs few fits) in
    subst (λ (o : List ℕ). all_at (read s) (length o) (front_of o) ≡ Ok vs) (sym is) (members_read s some 0 (front_of (contents (sequence_of some s) vs)) vs again)

-- and are those values
pub values_are : (s : Schema) (some : Bool) (n : ℕ) (octets : List ℕ) (vs : List (ValueOf s)) → is_clear s ≡ true → n ≤ 32 → octets ≡ contents (sequence_of some s) vs → FieldsFit (sequence_of some s) n vs
    → values_in s octets ≡ vs
unfolding values_in
values_are s some n octets vs clear few is fits = ap or_none (values_read s some n octets vs clear few is fits)
