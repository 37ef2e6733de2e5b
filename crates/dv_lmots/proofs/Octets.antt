-- Digits are octets.
use Rattle.std.proofs.Common.{ℕ, zero, suc, ◌<◌, ◌≤◌, List, [], ◌∷◌, ◌++◌, get_or, slice_index, arith, lit<}
use Rattle.std.specs.Int.{w16, w32, byte_at, bytes_high_first, to_be_bytes}
use Rattle.sha2.specs.Sha256.{digest_bytes, final_hash, initial_hash_256, sha256}
use Rattle.dv_lmots.specs.Lmots.{checksum, digits, message_hash}

-- each element is an octet
abbrev AreOctets : List ℕ → Type 0
AreOctets xs = (k : ℕ) → get_or xs k 0 < 256

-- two lists of octets, joined
AreOctets-append : (xs ys : List ℕ) → AreOctets xs → AreOctets ys → AreOctets (xs ++ ys)
AreOctets-append [] ys hx hy k = hy k
AreOctets-append (x ∷ xs) ys hx hy zero = hx 0
AreOctets-append (x ∷ xs) ys hx hy (suc k) = AreOctets-append xs ys (λ n. hx (suc n)) hy k

-- an octet of a number
byte_at-lt : (k x : ℕ) → byte_at k x < 256
byte_at-lt zero x = omega arith
byte_at-lt (suc k) x = omega arith

-- the octets of a number
AreOctets-bytes_high_first : (n x : ℕ) → AreOctets (bytes_high_first n x)
AreOctets-bytes_high_first zero x k = lit< tt
AreOctets-bytes_high_first (suc n) x zero = byte_at-lt n x
AreOctets-bytes_high_first (suc n) x (suc k) = AreOctets-bytes_high_first n x k

-- the octets of a hash value
AreOctets-digest_bytes : (h : List ℕ) (n : ℕ) → AreOctets (digest_bytes h n)
unfolding digest_bytes
AreOctets-digest_bytes h zero k = lit< tt
AreOctets-digest_bytes h (suc n) k = AreOctets-append (digest_bytes h n) (to_be_bytes w32 (slice_index h n)) (AreOctets-digest_bytes h n) (AreOctets-bytes_high_first 4 (slice_index h n)) k

-- a digest
AreOctets-sha256 : (m : List ℕ) → AreOctets (sha256 m)
unfolding sha256
AreOctets-sha256 m k = AreOctets-digest_bytes (final_hash initial_hash_256 m) 8 k

-- no digit is past the end of its chain
pub digit_le : (id : List ℕ) (q : ℕ) (c m : List ℕ) (i : ℕ) → slice_index (digits id q c m) i ≤ 255
unfolding digits message_hash
digit_le id q c m i =
    let below : get_or (digits id q c m) i 0 < 256 =
    AreOctets-append (message_hash id q c m) (to_be_bytes w16 (checksum (message_hash id q c m))) (AreOctets-sha256 _) (AreOctets-bytes_high_first 2 _) i in
    omega arith
