use Rattle.std.proofs.Common.{◌≡◌, ℕ, ◌+◌, ◌/◌, ◌%◌, ◌^◌, List, [], ◌∷◌, ◌*◌, refl, sym, ◌∙◌, arith}
use Rattle.dv_lanes.specs.Lanes.{lane_at, state_lane}
use Rattle.dv_lmots.specs.Lmots.{chain_step}
use Rattle.dv_lmots.proofs.Blocks.{block, block_words, message, message_len, one_block}
use Rattle.dv_lmots.proofs.four.step.Goals as goal

pub returns : goal.returns
unfolding chain_step
returns c l i j lt hi hj place =
    let id = c.args.id.now in
    let q = c.args.q in
    let h = state_lane l c.args.v in
    let x0 = lane_at c.args.v 0 l in
    let x1 = lane_at c.args.v 1 l in
    let x2 = lane_at c.args.v 2 l in
    let x3 = lane_at c.args.v 3 l in
    let x4 = lane_at c.args.v 4 l in
    let x5 = lane_at c.args.v 5 l in
    let x6 = lane_at c.args.v 6 l in
    let x7 = lane_at c.args.v 7 l in
    let w : List (List ℕ) =
    c.same.result ∷ c.same-2.result ∷ c.same-3.result ∷ c.same-4.result ∷ c.same-5.result ∷ c.add.result ∷ c.across.result ∷ c.across-2.result
    ∷ c.across-3.result ∷ c.across-4.result ∷ c.across-5.result ∷ c.across-6.result ∷ c.across-7.result ∷ c.add-2.result ∷ c.same-7.result ∷ c.same-8.result ∷ [] in
    let fifth : lane_at w 5 l ≡ (i * 2 ^ 16 + j * 2 ^ 8 + x0 / 2 ^ 24 % 256) % 2 ^ 32 = rw (c.add.ensures l lt, place, c.first_octet.ensures l lt) refl in
    let last : lane_at w 13 l ≡ (x7 * 2 ^ 8 % 2 ^ 32 + 128) % 2 ^ 32 = rw (c.add-2.ensures l lt, c.shift_left.ensures l lt, c.same-6.ensures l lt) refl in
    let words = block_words w l id q i j x0 x1 x2 x3 x4 x5 x6 x7 c.told-id (omega arith) hi hj
    (c.same.ensures l lt ∙ c.word.ensures)
    (c.same-2.ensures l lt ∙ c.word-2.ensures)
    (c.same-3.ensures l lt ∙ c.word-3.ensures)
    (c.same-4.ensures l lt ∙ c.word-4.ensures)
    (c.same-5.ensures l lt)
    fifth
    (c.across.ensures l lt)
    (c.across-2.ensures l lt)
    (c.across-3.ensures l lt)
    (c.across-4.ensures l lt)
    (c.across-5.ensures l lt)
    (c.across-6.ensures l lt)
    (c.across-7.ensures l lt)
    last
    (c.same-7.ensures l lt)
    (c.same-8.ensures l lt) in
    let done = c.compress.ensures l (block id q i j h) lt words in
    let hashed = one_block (message id q i j h) (message_len id q i j x0 x1 x2 x3 x4 x5 x6 x7 c.told-id) in
    rw (done, c.initial.ensures l lt) (sym hashed)
