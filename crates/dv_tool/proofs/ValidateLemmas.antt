-- What the command for certificates ensures, in the words of its status.
use Rattle.std.proofs.Common.{◌≡◌, ◌≢◌, ◌⊎◌, inl, inr, ℕ, List, None, Option, Some, Bool, refl, ap, arith}
use Rattle.std.specs.Prelude.{option_map}
use Rattle.std.specs.Borrow.{Bor}
use Rattle.std.specs.Option.{option_copied}
use Rattle.dv_lines.specs.declared.nonce.Nonce.{Nonce}
use Rattle.dv_lines.specs.Line.{nonce_octets}
use Rattle.dv_outside.specs.Station.{Content, Counts, Spends}
use Rattle.dv_exit.specs.declared.status.Status.{Status}
use Rattle.dv_exit.specs.declared.status.Status.TheVariants.{Done, File, Put}
use Rattle.dv_exit.specs.Files.{Files}
use Rattle.dv_tool.specs.Certificates.{HasBadFile}
use Rattle.dv_exit.specs.Status.{number_of}
use Rattle.dv_tool.specs.Tool.{IsPutStatus, nonce_in, PutsValidation, ValidateEnds}

-- the status of a number
is_done : (s : Status) → number_of s ≡ 0 → s ≡ Done
is_done Done e = refl
is_done s e = absurd (omega (arith, e))

is_put : (s : Status) → number_of s ≡ 5 → s ≡ Put
is_put Put e = refl
is_put s e = absurd (omega (arith, e))

is_file : (s : Status) → number_of s ≡ 3 → s ≡ File
is_file File e = refl
is_file s e = absurd (omega (arith, e))

-- the nonce of a line, lent
pub lent_nonce : (lent : Option (Bor Nonce)) (nonce : Option Nonce) → option_copied lent ≡ nonce → nonce_in lent ≡ option_map nonce_octets nonce
lent_nonce None own is = ap (option_map nonce_octets) is
lent_nonce (Some n) own is = ap (option_map nonce_octets) is

pub validate_ends : {V : Type 0} (tells : V → Bool) (content : V → Content) (counts : V → Counts) (files : Files) (names : List (List ℕ)) (nonce : Option (List ℕ)) (at : Option ℕ)
    (s : Status) (station result : V) → IsPutStatus (number_of s)
    → ((s ≡ Done) ⊎ (s ≡ Put) → PutsValidation files names nonce at (number_of s) (tells station) (content station) (content result))
    → (s ≡ File → HasBadFile files names) → (s ≢ Done → s ≢ Put → result ≡ station) → Spends 1 262144 (counts station) (counts result)
    → ValidateEnds tells content counts files names nonce at (number_of s) station result
validate_ends tells content counts files names octets at s station result ends put bad quiet spends = record {
  ends = ends;
  put = λ e. put (elim e [ inl done ↦ inl (is_done s done) | inr cut ↦ inr (is_put s cut) ]);
  bad = λ e. bad (is_file s e);
  quiet = λ n m. quiet (λ e. n (ap number_of e)) (λ e. m (ap number_of e));
  spends = spends;
}
