-- What a run of calls that only look keeps.
use Rattle.std.proofs.Common.{◌≡◌, ◌∙◌, ⊎_elim, ℕ, List, refl, sym, arith}
use Rattle.dv_outside.specs.Station.{Content, Looks, Leaves}
use Rattle.dv_outside.proofs.Moments.{le_or_lt, keeps_none, keeps_then, silent_then, now_after, leaves_none, leaves_look}

pub looks_none : (a : Content) → Looks a a
looks_none a = record {
  keeps = keeps_none a;
  reads = refl;
  images = λ m lt le. absurd (omega (arith, lt, le));
  silent = λ m lt le. absurd (omega (arith, lt, le));
}

-- Each image right after a call that only looks was one before it.
pub image_before : (a b : Content) → Looks a b → (i : List ℕ) → b.image b.moment i → a.image a.moment i
image_before a b look i at = now_after (λ k. a.image a.moment k) a b look.keeps (λ k here. here) look.images i at

pub looks_then : (a b c : Content) → Looks a b → Looks b c → Looks a c
looks_then a b c one two = record {
  keeps = keeps_then a b c one.keeps two.keeps;
  reads = two.reads ∙ one.reads;
  images = λ m lt le i at. ⊎_elim
      (λ early. one.images m lt early i (two.keeps.images m i early at))
      (λ late. image_before a b one i (two.images m late le i at))
      (le_or_lt m b.moment);
  silent = silent_then a b c one.keeps two.keeps one.silent two.silent;
}

-- What a crash leaves stays what the file holds.
pub durable_look : (a b : Content) → Looks a b → ((i : List ℕ) → a.image a.moment i → i ≡ a.reads) → (i : List ℕ) → b.image b.moment i → i ≡ b.reads
durable_look a b look durable i at = durable i (image_before a b look i at) ∙ sym look.reads

-- What each image has before such a call, each has in it.
pub leaves_looking : (P : List ℕ → Type 0) (a b : Content) → Looks a b → ((i : List ℕ) → a.image a.moment i → P i) → Leaves P a b
leaves_looking P a b look here = leaves_look P a a b (leaves_none P a here) look
