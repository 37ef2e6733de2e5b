-- How far the writing of some octets has come.
use Rattle.std.proofs.Common.{◌≡◌, ◌∙◌, ℕ, ◌+◌, ◌-◌, ◌≤◌, List, ◌++◌, length, take, drop, ap, sym, arith, append_assoc, length-take, length-drop}
use Rattle.std.proofs.lemmas.List.{take_all}
use Rattle.std.proofs.Math.Seq.{take-add}
use Rattle.std.specs.Prelude.{Option, Some, None}
use Rattle.std.specs.Io.KnownBytes.{Keeps, Appends}

-- A writer that says what it holds has taken the first `done` octets.
pub record HasWritten (old new : Option (List ℕ)) (octets : List ℕ) (done : ℕ) : Type 0 where
  pub within : done ≤ length octets
  pub written : Appends old new (take done octets)

-- Two writes append the octets of both.
appends_then : (a b c : Option (List ℕ)) (xs ys all : List ℕ) → Appends a b xs → Appends b c ys → all ≡ xs ++ ys → Appends a c all
appends_then None b c xs ys all one two both = tt
appends_then (Some l) None c xs ys all one two both = absurd one
appends_then (Some l) (Some m) None xs ys all one two both = absurd two
appends_then (Some l) (Some m) (Some n) xs ys all one two both =
    two ∙ ap (λ (k : List ℕ). k ++ ys) one ∙ append_assoc l xs ys ∙ ap (λ (k : List ℕ). l ++ k) (sym both)

-- A write that failed took nothing.
appends_same : (a b c : Option (List ℕ)) (xs : List ℕ) → Appends a b xs → Keeps b c → Appends a c xs
appends_same None b c xs one two = tt
appends_same (Some l) None c xs one two = absurd one
appends_same (Some l) (Some m) None xs one two = absurd two
appends_same (Some l) (Some m) (Some n) xs one two = two ∙ one

-- A write that took n octets of the rest brings the writing on by them.
pub written_more : (a b c : Option (List ℕ)) (octets : List ℕ) (done n : ℕ) → HasWritten a b octets done
    → n ≤ length (take (length octets - done) (drop done octets)) → Appends b c (take n (take (length octets - done) (drop done octets)))
    → HasWritten a c octets (done + n)
written_more a b c octets done n so_far bound took =
    let rest : take (length octets - done) (drop done octets) ≡ drop done octets =
    take_all (length octets - done) (drop done octets) (omega (arith, length-drop done octets)) in
    record {
      within = omega (arith, so_far.within, bound, length-take (length octets - done) (drop done octets), length-drop done octets);
      written = appends_then a b c (take done octets) (take n (take (length octets - done) (drop done octets))) (take (done + n) octets) so_far.written took
          (take-add done n octets ∙ ap (λ (l : List ℕ). take done octets ++ take n l) (sym rest));
    }

-- A write that failed took nothing.
pub written_same : (a b c : Option (List ℕ)) (octets : List ℕ) (done : ℕ) → HasWritten a b octets done → Keeps b c → HasWritten a c octets done
written_same a b c octets done so_far kept = record { within = so_far.within; written = appends_same a b c (take done octets) so_far.written kept }
