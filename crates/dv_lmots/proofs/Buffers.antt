-- A fixed buffer that is filled part by part, here and in the crates above.
use Rattle.std.proofs.Common.{◌≡◌, ℕ, ◌+◌, ◌-◌, ◌≤◌, List, [], ◌++◌, length, take, drop, sym, ap, ◌∙◌, arith, length-append, length-drop}
use Rattle.std.proofs.lemmas.List.{append-nil, append_assoc, drop_all, drop_at, length-take-le, take_at}
use Rattle.std.proofs.lemmas.Slice.{take-put_mid}
use borrow.Rule.Slice.PartMut.{put_mid, post_of}

-- a part written into a buffer, which is `pre` up to there
pub filled : (pre out ys : List ℕ) (at k n : ℕ) → take at out ≡ pre → at ≤ length out → n ≡ at + length ys → take n (put_mid at k out ys) ≡ pre ++ ys
filled pre out ys at k n held long e = take-put_mid at k out ys n e long ∙ ap (λ (p : List ℕ). p ++ ys) held

-- the same where the part is written with what follows it
pub filled_front : (pre out ys rest : List ℕ) (at k n : ℕ) → take at out ≡ pre → at ≤ length out → n ≡ at + length ys → take n (put_mid at k out (ys ++ rest)) ≡ pre ++ ys
filled_front pre out ys rest at k n held long e =
    let all : List ℕ = rest ++ post_of at k out in
    let parts : put_mid at k out (ys ++ rest) ≡ (take at out ++ ys) ++ all =
    ap (λ (p : List ℕ). take at out ++ p) (append_assoc ys rest (post_of at k out)) ∙ sym (append_assoc (take at out) ys all) in
    ap (take n) parts ∙ take_at (take at out ++ ys) all n (omega (arith, length-append (take at out) ys, length-take-le at out long))
    ∙ ap (λ (p : List ℕ). p ++ ys) held

-- a part written up to the end
pub drop-filled : (out ys : List ℕ) (at k : ℕ) → at ≤ length out → length out ≤ at + k → drop at (put_mid at k out ys) ≡ ys
drop-filled out ys at k long fits =
    let rest : post_of at k out ≡ [] = drop_all k (drop at out) (omega (arith, length-drop at out)) in
    drop_at (take at out) (ys ++ post_of at k out) at (length-take-le at out long) ∙ ap (λ (p : List ℕ). ys ++ p) rest ∙ append-nil ys

-- a part written into a buffer leaves its length
pub length-filled : (out ys : List ℕ) (at k : ℕ) → length ys ≡ k → at + k ≤ length out → length (put_mid at k out ys) ≡ length out
length-filled out ys at k e fits =
    let front : length (take at out) ≡ at = length-take-le at out (omega arith) in
    let rest : length (post_of at k out) ≡ length out - at - k = omega (arith, length-drop k (drop at out), length-drop at out) in
    omega (arith, length-append (take at out) (ys ++ post_of at k out), length-append ys (post_of at k out))
