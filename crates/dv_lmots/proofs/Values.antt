-- The values of a signature, written into its octets one after another.
use Rattle.std.proofs.Common.{◌≡◌, ℕ, ◌+◌, ◌*◌, ◌<◌, List, ◌++◌, length, take, sym, ◌∙◌, arith}
use Rattle.std.proofs.lemmas.List.{take_all}
use borrow.Rule.Slice.PartMut.{put_mid}
use Rattle.dv_lmots.specs.Lmots.{joined}
use Rattle.dv_lmots.proofs.Buffers.{filled}
use Rattle.dv_lmots.proofs.Joined.{joined_next}

-- one more value
pub value_written : (start octets value : List ℕ) (y : ℕ → List ℕ) (i k : ℕ) → take (36 + 32 * i) octets ≡ start ++ joined y i → length octets ≡ 1124 → i < 34
    → value ≡ y i → length value ≡ 32 → take (36 + 32 * (i + 1)) (put_mid (36 + 32 * i) k octets value) ≡ start ++ joined y (i + 1)
value_written start octets value y i k held long lt e len =
    filled (start ++ joined y i) octets value (36 + 32 * i) k (36 + 32 * (i + 1)) held (omega arith) (omega arith) ∙ joined_next start y i value e

-- all values
pub values_written : (start octets : List ℕ) (y : ℕ → List ℕ) (i : ℕ) → take (36 + 32 * i) octets ≡ start ++ joined y i → length octets ≡ 1124 → i ≡ 34 → octets ≡ start ++ joined y 34
values_written start octets y i held long e =
    let n : 36 + 32 * i ≡ 1124 = omega arith in
    sym (take_all 1124 octets (omega arith)) ∙ rw (n, e) at held
