-- A value whose octets are tested by what is read of them is tested as the value that was read.
use Rattle.std.proofs.Common.{◌≡◌, ◌≤◌, Bool, true, false, Result, Ok, Err, refl, ap, subst, ◌∙◌}
use Rattle.dv_schema.specs.declared.refusal.Der.{Der}
use Rattle.dv_schema.specs.declared.refusal.Why.TheVariants.{Value}
use Rattle.dv_schema.specs.Clear.{is_clear}
use Rattle.dv_schema.specs.Octets.{IsBytes}
use Rattle.dv_schema.specs.Schema.{Schema, such, ValueOf, spelling}
use Rattle.dv_schema.specs.Reading.{Spot, refuse, read, read_all}
use Rattle.dv_schema.proofs.Decoding.{slice_spelled}
use Rattle.dv_schema.proofs.Defaults.{such_value, such_fault}
use Rattle.dv_schema.proofs.Spellings.{fits_more}
use Rattle.dv_schema.proofs.Takes.{takes}
use Rattle.dv_members.specs.Members.{front_of}

-- the octets of a value that was read are read as that value
pub read_back : (s : Schema) (p : Spot) (x : ValueOf s × Spot) → is_clear s ≡ true → IsBytes p.rest → p.levels ≤ 32 → read s p ≡ Ok x → read_all s (front_of (spelling s x.0)) ≡ Ok x.0
read_back s p x clear bytes levels e =
    let t = takes s p x bytes e in
    slice_spelled s (front_of (spelling s x.0)) x.0 clear (fits_more s p.levels 32 x.0 levels t.1) refl

-- the schema of the values that pass a test once they were read
abbrev pub tested : (s : Schema) → (Result (ValueOf s) Der → Bool) → Schema
tested s test = such (λ octets. test (read_all s (front_of octets))) s

-- a value that passes
pub such_passes : (s : Schema) (test : Result (ValueOf s) Der → Bool) (p : Spot) (x : ValueOf s × Spot) → is_clear s ≡ true → IsBytes p.rest → p.levels ≤ 32 → read s p ≡ Ok x
    → test (Ok x.0) ≡ true → read (tested s test) p ≡ Ok x
such_passes s test p x clear bytes levels e ok = such_value _ s p x bytes e (ap test (read_back s p x clear bytes levels e) ∙ ok)

-- a value that doesn't
pub such_fails : (s : Schema) (test : Result (ValueOf s) Der → Bool) (p : Spot) (x : ValueOf s × Spot) → is_clear s ≡ true → IsBytes p.rest → p.levels ≤ 32 → read s p ≡ Ok x
    → test (Ok x.0) ≡ false → read (tested s test) p ≡ refuse p.place Value
such_fails s test p x clear bytes levels e bad = such_fault _ s p x bytes e (ap test (read_back s p x clear bytes levels e) ∙ bad)

-- and one that isn't read
pub such_unread : (s : Schema) (test : Result (ValueOf s) Der → Bool) (p : Spot) (d : Der) → read s p ≡ Err d → read (tested s test) p ≡ Err d
unfolding read
such_unread s test p d e = rw e refl

-- what was read from a spot was read from the same spot
pub read_there : (s : Schema) (q p : Spot) (r : Result (ValueOf s × Spot) Der) → q ≡ p → read s q ≡ r → read s p ≡ r
read_there s q p r same e = subst (λ (o : Spot). read s o ≡ r) same e
