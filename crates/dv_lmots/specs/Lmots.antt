-- One-time signatures: LM-OTS of RFC 8554 section 4 with the parameter set LMOTS_SHA256_N32_W8
-- (n = 32, w = 8, p = 34, ls = 0), as lists of octets over SHA-256.
use Rattle.std.specs.Prelude.{◌≡◌, ℕ, zero, suc, ◌+◌, ◌-◌, ◌*◌, List, [], ◌∷◌, ◌++◌, length, slice_index, slice_range, sum_by}
use Rattle.std.specs.Int.{w16, w32, to_be_bytes}
use Rattle.sha2.specs.Sha256.{sha256}

-- f 0, f 1, .., f (n - 1), joined
unfoldable pub joined : (ℕ → List ℕ) → ℕ → List ℕ
joined f zero = []
joined f (suc n) = joined f n ++ f n

-- I || u32str(q): how each message begins that is hashed for the leaf, or the node, of this number
abbrev pub id_and_number : List ℕ → ℕ → List ℕ
id_and_number id q = id ++ to_be_bytes w32 q

-- I || u32str(q) || u16str(i): how each message of the chain at place i begins
abbrev pub chain_prefix : List ℕ → ℕ → ℕ → List ℕ
chain_prefix id q i = id_and_number id q ++ to_be_bytes w16 i

-- the step at j of the chain whose messages begin with the prefix: H(prefix || u8str(j) || x)
unfoldable pub chain_step : List ℕ → ℕ → List ℕ → List ℕ
chain_step prefix j x = sha256 (prefix ++ j ∷ x)

-- n steps from x on, at a, a + 1, .., a + n - 1: the last is outermost
unfoldable pub chain_steps : List ℕ → List ℕ → ℕ → ℕ → List ℕ
chain_steps prefix x a zero = x
chain_steps prefix x a (suc n) = chain_step prefix (a + n) (chain_steps prefix x a n)

-- the chain at place i of the leaf q, from x at a up to b
abbrev pub chain : List ℕ → ℕ → ℕ → List ℕ → ℕ → ℕ → List ℕ
chain id q i x a b = chain_steps (chain_prefix id q i) x a (b - a)

-- x[i], with which the chain at place i begins:
-- H(I || u32str(q) || u16str(i) || u8str(0xFF) || SEED) (Appendix A)
unfoldable pub private_value : List ℕ → List ℕ → ℕ → ℕ → List ℕ
private_value id seed q i = sha256 (chain_prefix id q i ++ 0xFF ∷ seed)

-- C, which the standard leaves to the signer: the private value that the place 0xFFFD would have
abbrev pub randomizer : List ℕ → List ℕ → ℕ → List ℕ
randomizer id seed q = private_value id seed q 0xFFFD

-- the checksum of the digits of a hash: what its octets lack to 255, added up (4.4)
abbrev pub checksum : List ℕ → ℕ
checksum hash = sum_by (λ digit. 255 - digit) hash

-- Q = H(I || u32str(q) || D_MESG || C || message) (4.5)
unfoldable pub message_hash : List ℕ → ℕ → List ℕ → List ℕ → List ℕ
message_hash id q c m = sha256 (id_and_number id q ++ 0x81 ∷ 0x81 ∷ [] ++ c ++ m)

-- the 34 digits of a message: the octets of Q and the two of its checksum
unfoldable pub digits : List ℕ → ℕ → List ℕ → List ℕ → List ℕ
digits id q c m = message_hash id q c m ++ to_be_bytes w16 (checksum (message_hash id q c m))

-- K of the ends y[0], .., y[33] of the chains:
-- H(I || u32str(q) || D_PBLC || y[0] || .. || y[33]) (4.3)
unfoldable pub key_from : List ℕ → ℕ → (ℕ → List ℕ) → List ℕ
key_from id q y = sha256 (id_and_number id q ++ 0x80 ∷ 0x80 ∷ [] ++ joined y 34)

-- the end of the chain at place i, all 255 steps from its private value
abbrev pub chain_end : List ℕ → List ℕ → ℕ → ℕ → List ℕ
chain_end id seed q i = chain id q i (private_value id seed q i) 0 255

-- the public key K of the leaf q (4.3)
abbrev pub key_of : List ℕ → List ℕ → ℕ → List ℕ
key_of id seed q = key_from id q (chain_end id seed q)

-- y[i] of a signature with these digits: as many steps from the private value as digit i says
abbrev pub signed_value : List ℕ → List ℕ → ℕ → List ℕ → ℕ → List ℕ
signed_value id seed q ds i = chain id q i (private_value id seed q i) 0 (slice_index ds i)

-- the signature of a message at the leaf q: u32str(4) || C || y[0] || .. || y[33] (4.5)
abbrev pub ots_of : List ℕ → List ℕ → ℕ → List ℕ → List ℕ
ots_of id seed q m =
    let c = randomizer id seed q in
    0 ∷ 0 ∷ 0 ∷ 4 ∷ [] ++ c ++ joined (signed_value id seed q (digits id q c m)) 34

-- a signature's form: 1,124 octets, of which the first four are the type 4
abbrev pub HasOtsForm : List ℕ → Type 0
HasOtsForm sig = (length sig ≡ 1124) × (slice_range sig 0 4 ≡ 0 ∷ 0 ∷ 0 ∷ 4 ∷ [])

-- C of a signature
abbrev pub randomizer_in : List ℕ → List ℕ
randomizer_in sig = slice_range sig 4 36

-- y[i] of a signature
abbrev pub value_in : List ℕ → ℕ → List ℕ
value_in sig i = slice_range sig (36 + 32 * i) (36 + 32 * i + 32)

-- the end of the chain at place i that goes on from a signature's value, by the digits
abbrev pub completed_value : List ℕ → ℕ → List ℕ → List ℕ → ℕ → List ℕ
completed_value id q ds sig i = chain id q i (value_in sig i) (slice_index ds i) 255

-- Kc, the public key that a signature of a message gives (4.6)
abbrev pub candidate_of : List ℕ → ℕ → List ℕ → List ℕ → List ℕ
candidate_of id q m sig = key_from id q (completed_value id q (digits id q (randomizer_in sig) m) sig)
