use Rattle.std.proofs.Common.{◌≡◌, ℕ, [], ◌∷◌, ◌*◌, ◌<◌, ◌∙◌, arith}
use Rattle.std.specs.Prelude.{slice_index_or}
use Rattle.std.proofs.lemmas.List.{length-set}
use Rattle.sha2.specs.Sha256.{word_at}
use Rattle.dv_lanes.specs.Lanes.{lane_at}
use Rattle.dv_lanes.proofs.LaneLemmas.{below_four}
use Rattle.dv_lmots.proofs.Blocks.{digest_bytes-lane, words_more}
use Rattle.dv_lmots.proofs.four.gather.Goals as goal

pub loop-k-preserved : goal.loop-k-preserved
loop-k-preserved c = (
  length-set c.loop-k.v c.loop-k.k _ ∙ c.loop-k.invariant.0,
  words_more c.loop-k.v (c.args.a.now ∷ c.args.b.now ∷ c.args.c.now ∷ c.args.d.now ∷ []) c.loop-k.k _ (omega arith)
      (below_four _ c.word.ensures c.word-in-loop-k.ensures c.word-in-loop-k-2.ensures c.word-in-loop-k-3.ensures) c.loop-k.invariant.1,
)

pub returns : goal.returns
returns c =
    let words : (lane j : ℕ) → lane < 4 → j < 8 → lane_at c.loop-k.v j lane ≡ word_at (slice_index_or (c.args.a.now ∷ c.args.b.now ∷ c.args.c.now ∷ c.args.d.now ∷ []) lane []) (4 * j) =
    λ lane j four lt. c.loop-k.invariant.1 j lane (omega arith) four in
    below_four _
    (digest_bytes-lane 0 c.loop-k.v c.args.a.now c.told-a c.fits-a (λ j. words 0 j (omega arith)))
    (digest_bytes-lane 1 c.loop-k.v c.args.b.now c.told-b c.fits-b (λ j. words 1 j (omega arith)))
    (digest_bytes-lane 2 c.loop-k.v c.args.c.now c.told-c c.fits-c (λ j. words 2 j (omega arith)))
    (digest_bytes-lane 3 c.loop-k.v c.args.d.now c.told-d c.fits-d (λ j. words 3 j (omega arith)))
