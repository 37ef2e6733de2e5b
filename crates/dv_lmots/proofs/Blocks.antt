-- The padded message of a chain step as one block, and its words.
use Rattle.std.proofs.Common.{◌≡◌, ℕ, zero, suc, ◌+◌, ◌*◌, ◌/◌, ◌%◌, ◌^◌, ◌<◌, List, [], ◌∷◌, ◌++◌, length, get_or, set, slice_index, lit<, refl, sym, ap, ◌∙◌, subst, arith, inl, inr, length-append}
use Rattle.std.proofs.lemmas.List.{get_or-set_other, get_or-set_same, take_all}
use Rattle.std.proofs.lemmas.Bool.{cases_eq}
use Rattle.std.proofs.lemmas.Nat.{from_be_bytes-to_be_bytes_4, be_bytes_4}
use Rattle.std.specs.Int.{w32, w64, to_be_bytes, from_be_bytes}
use Rattle.sha2.specs.Sha256.{compress, digest_bytes, hash_after, initial_hash_256, sha256, word_at}
use Rattle.dv_lanes.specs.Lanes.{lane_at, state_lane}
use Rattle.dv_lanes.proofs.LaneLemmas.{below_four}
use Rattle.dv_lmots.specs.Lmots.{chain_prefix}
use Rattle.dv_lmots.proofs.Elements.{elements, whole-elements}

-- what holds of each of the sixteen words
below_sixteen : (P : ℕ → Type 0) → P 0 → P 1 → P 2 → P 3 → P 4 → P 5 → P 6 → P 7
    → P 8 → P 9 → P 10 → P 11 → P 12 → P 13 → P 14 → P 15 → (k : ℕ) → k < 16 → P k
below_sixteen P a0 a1 a2 a3 b0 b1 b2 b3 c0 c1 c2 c3 d0 d1 d2 d3 k h =
    let place : 4 * (k / 4) + k % 4 ≡ k = omega arith in
    subst P place (below_four (λ row. (col : ℕ) → col < 4 → P (4 * row + col))
    (below_four _ a0 a1 a2 a3) (below_four _ b0 b1 b2 b3) (below_four _ c0 c1 c2 c3) (below_four _ d0 d1 d2 d3)
    (k / 4) (omega arith) (k % 4) (omega arith))

-- a message of 55 octets is one block
pub one_block : (m : List ℕ) → length m ≡ 55 → sha256 m ≡ digest_bytes (compress initial_hash_256 (m ++ 0x80 ∷ to_be_bytes w64 440)) 8
unfolding sha256 hash_after
one_block m h =
    let p : List ℕ = m ++ 0x80 ∷ to_be_bytes w64 440 in
    let long : length p ≡ 64 = omega (arith, length-append m (0x80 ∷ to_be_bytes w64 440)) in
    rw (h, long, take_all 64 p (omega arith)) refl

-- the message of the step at j of place i, whose value is the hash value h
abbrev pub message : List ℕ → ℕ → ℕ → ℕ → List ℕ → List ℕ
message id q i j h = chain_prefix id q i ++ j ∷ digest_bytes h 8

-- the one block of that message
abbrev pub block : List ℕ → ℕ → ℕ → ℕ → List ℕ → List ℕ
block id q i j h = message id q i j h ++ 0x80 ∷ to_be_bytes w64 440

-- the word with the place, the step's number and the first octet of the value
place_word : (i j v : ℕ) → i < 2 ^ 16 → j < 256 → (i * 2 ^ 16 + j * 2 ^ 8 + v / 2 ^ 24 % 256) % 2 ^ 32
    ≡ from_be_bytes w32 ((i / 256 % 256) ∷ (i % 256) ∷ j ∷ (v / 2 ^ 24 % 256) ∷ [])
place_word i j v hi hj = omega arith

-- the word with the last three octets of one word of the value and the first octet of the next
across_word : (a b : ℕ) → (a * 2 ^ 8 % 2 ^ 32 + b / 2 ^ 24 % 256) % 2 ^ 32
    ≡ from_be_bytes w32 ((a / 2 ^ 16 % 256) ∷ (a / 2 ^ 8 % 256) ∷ (a % 256) ∷ (b / 2 ^ 24 % 256) ∷ [])
across_word a b = omega arith

-- the word with the last three octets of the value and the octet that the padding begins with
last_word : (a : ℕ) → (a * 2 ^ 8 % 2 ^ 32 + 128) % 2 ^ 32
    ≡ from_be_bytes w32 ((a / 2 ^ 16 % 256) ∷ (a / 2 ^ 8 % 256) ∷ (a % 256) ∷ 128 ∷ [])
last_word a = omega arith

-- a step hashes 55 octets
pub message_len : (id : List ℕ) (q i j v0 v1 v2 v3 v4 v5 v6 v7 : ℕ) → length id ≡ 16 → length (message id q i j (v0 ∷ v1 ∷ v2 ∷ v3 ∷ v4 ∷ v5 ∷ v6 ∷ v7 ∷ [])) ≡ 55
unfolding digest_bytes
message_len id q i j v0 v1 v2 v3 v4 v5 v6 v7 h = rw (whole-elements id 16 h) refl

-- what the lane l of the sixteen words w holds, if it holds what a step says of each, is the block
pub block_words : (w : List (List ℕ)) (l : ℕ) (id : List ℕ) (q i j v0 v1 v2 v3 v4 v5 v6 v7 : ℕ) → length id ≡ 16 → q < 2 ^ 32 → i < 2 ^ 16 → j < 256
    → lane_at w 0 l ≡ word_at id 0
    → lane_at w 1 l ≡ word_at id 4
    → lane_at w 2 l ≡ word_at id 8
    → lane_at w 3 l ≡ word_at id 12
    → lane_at w 4 l ≡ q
    → lane_at w 5 l ≡ (i * 2 ^ 16 + j * 2 ^ 8 + v0 / 2 ^ 24 % 256) % 2 ^ 32
    → lane_at w 6 l ≡ (v0 * 2 ^ 8 % 2 ^ 32 + v1 / 2 ^ 24 % 256) % 2 ^ 32
    → lane_at w 7 l ≡ (v1 * 2 ^ 8 % 2 ^ 32 + v2 / 2 ^ 24 % 256) % 2 ^ 32
    → lane_at w 8 l ≡ (v2 * 2 ^ 8 % 2 ^ 32 + v3 / 2 ^ 24 % 256) % 2 ^ 32
    → lane_at w 9 l ≡ (v3 * 2 ^ 8 % 2 ^ 32 + v4 / 2 ^ 24 % 256) % 2 ^ 32
    → lane_at w 10 l ≡ (v4 * 2 ^ 8 % 2 ^ 32 + v5 / 2 ^ 24 % 256) % 2 ^ 32
    → lane_at w 11 l ≡ (v5 * 2 ^ 8 % 2 ^ 32 + v6 / 2 ^ 24 % 256) % 2 ^ 32
    → lane_at w 12 l ≡ (v6 * 2 ^ 8 % 2 ^ 32 + v7 / 2 ^ 24 % 256) % 2 ^ 32
    → lane_at w 13 l ≡ (v7 * 2 ^ 8 % 2 ^ 32 + 128) % 2 ^ 32
    → lane_at w 14 l ≡ 0
    → lane_at w 15 l ≡ 440
    → (k : ℕ) → k < 16 → lane_at w k l ≡ word_at (block id q i j (v0 ∷ v1 ∷ v2 ∷ v3 ∷ v4 ∷ v5 ∷ v6 ∷ v7 ∷ [])) (4 * k)
unfolding digest_bytes
block_words w l id q i j v0 v1 v2 v3 v4 v5 v6 v7 h hq hi hj e0 e1 e2 e3 e4 e5 e6 e7 e8 e9 e10 e11 e12 e13 e14 e15 =
    let whole = whole-elements id 16 h in
    subst (λ (d : List ℕ). (k : ℕ) → k < 16 → lane_at w k l ≡ word_at (block d q i j (v0 ∷ v1 ∷ v2 ∷ v3 ∷ v4 ∷ v5 ∷ v6 ∷ v7 ∷ [])) (4 * k)) (sym whole)
    (below_sixteen (λ k. lane_at w k l ≡ word_at (block (elements id 0 16) q i j (v0 ∷ v1 ∷ v2 ∷ v3 ∷ v4 ∷ v5 ∷ v6 ∷ v7 ∷ [])) (4 * k))
    (e0 ∙ ap (λ (d : List ℕ). word_at d 0) whole)
    (e1 ∙ ap (λ (d : List ℕ). word_at d 4) whole)
    (e2 ∙ ap (λ (d : List ℕ). word_at d 8) whole)
    (e3 ∙ ap (λ (d : List ℕ). word_at d 12) whole)
    (e4 ∙ sym (from_be_bytes-to_be_bytes_4 q hq))
    (e5 ∙ place_word i j v0 hi hj)
    (e6 ∙ across_word v0 v1)
    (e7 ∙ across_word v1 v2)
    (e8 ∙ across_word v2 v3)
    (e9 ∙ across_word v3 v4)
    (e10 ∙ across_word v4 v5)
    (e11 ∙ across_word v5 v6)
    (e12 ∙ across_word v6 v7)
    (e13 ∙ last_word v7)
    e14
    e15)

-- what holds of each of the eight words
pub below_eight : (P : ℕ → Type 0) → P 0 → P 1 → P 2 → P 3 → P 4 → P 5 → P 6 → P 7 → (k : ℕ) → k < 8 → P k
below_eight P a0 a1 a2 a3 b0 b1 b2 b3 k h =
    let place : 4 * (k / 4) + k % 4 ≡ k = omega arith in
    let u = below_four (λ col. P (4 * 0 + col)) a0 a1 a2 a3 in
    let w = below_four (λ col. P (4 * 1 + col)) b0 b1 b2 b3 in
    let rows = below_four (λ row. row < 2 → (col : ℕ) → col < 4 → P (4 * row + col)) (λ _. u) (λ _. w) (λ bad. absurd (omega arith)) (λ bad. absurd (omega arith)) in
    subst P place (rows (k / 4) (omega arith) (omega arith) (k % 4) (omega arith))

-- a word of the hash value in lane l
pub slice_index-state_lane : (l : ℕ) (v : List (List ℕ)) (k : ℕ) → k < 8 → slice_index (state_lane l v) k ≡ lane_at v k l
slice_index-state_lane l v = below_eight _ refl refl refl refl refl refl refl refl

-- what four octets, each below 256, give at any place is below 256
four_fit : (a b c d : ℕ) → a < 256 → b < 256 → c < 256 → d < 256 → (i : ℕ) → get_or (a ∷ b ∷ c ∷ d ∷ []) i 0 < 256
four_fit a b c d ha hb hc hd zero = ha
four_fit a b c d ha hb hc hd (suc zero) = hb
four_fit a b c d ha hb hc hd (suc (suc zero)) = hc
four_fit a b c d ha hb hc hd (suc (suc (suc zero))) = hd
four_fit a b c d ha hb hc hd (suc (suc (suc (suc n)))) = lit< tt

-- 32 octets are what their words are written as
pub digest-words : (s : List ℕ) → length s ≡ 32 → ((i : ℕ) → get_or s i 0 < 256)
    → digest_bytes (word_at s 0 ∷ word_at s 4 ∷ word_at s 8 ∷ word_at s 12 ∷ word_at s 16 ∷ word_at s 20 ∷ word_at s 24 ∷ word_at s 28 ∷ []) 8 ≡ s
unfolding digest_bytes
digest-words s h fit =
    let b0 = be_bytes_4 (elements s 0 4) (word_at s 0) refl (four_fit (get_or s 0 0) (get_or s 1 0) (get_or s 2 0) (get_or s 3 0) (fit 0) (fit 1) (fit 2) (fit 3)) refl in
    let b1 = be_bytes_4 (elements s 4 4) (word_at s 4) refl (four_fit (get_or s 4 0) (get_or s 5 0) (get_or s 6 0) (get_or s 7 0) (fit 4) (fit 5) (fit 6) (fit 7)) refl in
    let b2 = be_bytes_4 (elements s 8 4) (word_at s 8) refl (four_fit (get_or s 8 0) (get_or s 9 0) (get_or s 10 0) (get_or s 11 0) (fit 8) (fit 9) (fit 10) (fit 11)) refl in
    let b3 = be_bytes_4 (elements s 12 4) (word_at s 12) refl (four_fit (get_or s 12 0) (get_or s 13 0) (get_or s 14 0) (get_or s 15 0) (fit 12) (fit 13) (fit 14) (fit 15)) refl in
    let b4 = be_bytes_4 (elements s 16 4) (word_at s 16) refl (four_fit (get_or s 16 0) (get_or s 17 0) (get_or s 18 0) (get_or s 19 0) (fit 16) (fit 17) (fit 18) (fit 19)) refl in
    let b5 = be_bytes_4 (elements s 20 4) (word_at s 20) refl (four_fit (get_or s 20 0) (get_or s 21 0) (get_or s 22 0) (get_or s 23 0) (fit 20) (fit 21) (fit 22) (fit 23)) refl in
    let b6 = be_bytes_4 (elements s 24 4) (word_at s 24) refl (four_fit (get_or s 24 0) (get_or s 25 0) (get_or s 26 0) (get_or s 27 0) (fit 24) (fit 25) (fit 26) (fit 27)) refl in
    let b7 = be_bytes_4 (elements s 28 4) (word_at s 28) refl (four_fit (get_or s 28 0) (get_or s 29 0) (get_or s 30 0) (get_or s 31 0) (fit 28) (fit 29) (fit 30) (fit 31)) refl in
    let written : digest_bytes (word_at s 0 ∷ word_at s 4 ∷ word_at s 8 ∷ word_at s 12 ∷ word_at s 16 ∷ word_at s 20 ∷ word_at s 24 ∷ word_at s 28 ∷ []) 8 ≡ elements s 0 32 = λ i. b0 i ++ b1 i ++ b2 i ++ b3 i ++ b4 i ++ b5 i ++ b6 i ++ b7 i in
    written ∙ sym (whole-elements s 32 h)

-- the words of the value s stand in lane l
pub digest_bytes-lane : (l : ℕ) (v : List (List ℕ)) (s : List ℕ) → length s ≡ 32 → ((i : ℕ) → get_or s i 0 < 256)
    → ((j : ℕ) → j < 8 → lane_at v j l ≡ word_at s (4 * j)) → digest_bytes (state_lane l v) 8 ≡ s
digest_bytes-lane l v s len fit words =
    let w0 = words 0 (lit< tt) in
    let w1 = words 1 (lit< tt) in
    let w2 = words 2 (lit< tt) in
    let w3 = words 3 (lit< tt) in
    let w4 = words 4 (lit< tt) in
    let w5 = words 5 (lit< tt) in
    let w6 = words 6 (lit< tt) in
    let w7 = words 7 (lit< tt) in
    (λ i. digest_bytes (w0 i ∷ w1 i ∷ w2 i ∷ w3 i ∷ w4 i ∷ w5 i ∷ w6 i ∷ w7 i ∷ []) 8) ∙ digest-words s len fit

-- one more word of each of the values
pub words_more : (v values : List (List ℕ)) (k : ℕ) (ws : List ℕ) → k < length v
    → ((lane : ℕ) → lane < 4 → slice_index ws lane ≡ word_at (get_or values lane []) (4 * k))
    → ((j lane : ℕ) → j < k → lane < 4 → lane_at v j lane ≡ word_at (get_or values lane []) (4 * j))
    → (j lane : ℕ) → j < k + 1 → lane < 4 → lane_at (set v k ws) j lane ≡ word_at (get_or values lane []) (4 * j)
words_more v values k ws long here held j lane lt four = elim (cases_eq j k) [
  | inl same ↦ rw (same, get_or-set_same v k ws [] long) (here lane four)
  | inr other ↦ rw (get_or-set_other v k j ws [] other) (held j lane (omega arith) four)
]
