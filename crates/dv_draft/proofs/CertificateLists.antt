-- The certificates of a list, as far as they were read.
use Rattle.std.proofs.Common.{◌≡◌, ◌≢◌, ℕ, zero, suc, ◌+◌, ◌-◌, ◌≤◌, not, Bool, true, false, cond, eqb, ltb, Result, Ok, Err, List, [], ◌∷◌, ◌++◌, length, refl, sym, ap, ◌∙◌, arith, append_assoc}
use Rattle.std.proofs.lemmas.List.{append-nil, length-append}
use Rattle.std.specs.declared.alloc.Global.{Global}
use Rattle.std.specs.declared.vec.Vec.{Vec}
use Rattle.dv_asn1.specs.Lists.{lists_of}
use Rattle.dv_schema.specs.declared.refusal.Der.{Der}
use Rattle.dv_schema.specs.declared.refusal.Why.TheVariants.{Value}
use Rattle.dv_schema.specs.Octets.{IsBytes}
use Rattle.dv_schema.specs.Reading.{Spot, Item, ◌>>=◌, item_at, is_tag_of, read_all, refuse, taken}
use Rattle.dv_schema.specs.Schema.{FieldsOf}
use Rattle.dv_x509.specs.declared.fault.X509.{X509}
use Rattle.dv_x509.specs.declared.fault.X509.TheVariants.{Der as Refused, Version, Algorithm, TooLong}
use Rattle.dv_x509.specs.Judged.{certificate_front, certificate_in, is_known_version, judged_if, same_algorithm}
use Rattle.dv_x509.specs.Types.{certificate, certificate_fields}
use Rattle.dv_draft.specs.Records.{certificate_at, certificates_at, kept_at}
use Rattle.dv_draft.proofs.RefusalPlaces.{refused_within}

-- what is read behind certificates that were
abbrev behind : List (List ℕ) → Result (List (List ℕ)) Der → Result (List (List ℕ)) Der
behind seen r = r >>= λ cs. Ok (seen ++ cs)

-- Certificates were read from the spot p on, and the next one is at the spot q.
pub record IsSoFar (own : ℕ) (p : Spot) (seen : List (List ℕ)) (q : Spot) : Type 0 where
  pub few : length seen ≤ 6
  pub whole : certificates_at 6 own p ≡ behind seen (certificates_at (6 - length seen) own q)

-- nothing is added in front
behind-nil : (r : Result (List (List ℕ)) Der) → r ≡ behind [] r
behind-nil (Ok cs) = refl
behind-nil (Err d) = refl

-- one more
behind-cons : (seen : List (List ℕ)) (c : List ℕ) (r : Result (List (List ℕ)) Der) → behind seen (r >>= λ cs. Ok (c ∷ cs)) ≡ behind (seen ++ c ∷ []) r
behind-cons seen c (Ok cs) = ap (λ (l : List (List ℕ)). Ok l) (sym (append_assoc seen (c ∷ []) cs))
behind-cons seen c (Err d) = refl

-- before the first one
pub begun : (own : ℕ) (p : Spot) → IsSoFar own p [] p
begun own p = record { few = omega arith; whole = behind-nil (certificates_at 6 own p) }

-- at the end
pub at_end : (room own : ℕ) (q : Spot) → eqb (length q.rest) 0 ≡ true → certificates_at room own q ≡ Ok []
at_end zero own q e = rw e refl
at_end (suc room) own q e = rw e refl

-- past the last place
at_limit : (own : ℕ) (q : Spot) → eqb (length q.rest) 0 ≡ false → certificates_at 0 own q ≡ refuse own Value
at_limit own q e = rw e refl

-- one that was read
pub at_one : (room own : ℕ) (q r : Spot) (c : List ℕ) → eqb (length q.rest) 0 ≡ false → certificate_at q ≡ Ok (c, r) → certificates_at (suc room) own q ≡ (certificates_at room own r >>= λ cs. Ok (c ∷ cs))
at_one room own q r c e is = rw e (ap (λ (x : Result (List ℕ × Spot) Der). x >>= λ y. certificates_at room own y.1 >>= λ cs. Ok (y.0 ∷ cs)) is)

-- one that was refused
at_fault : (room own : ℕ) (q : Spot) (d : Der) → eqb (length q.rest) 0 ≡ false → certificate_at q ≡ Err d → certificates_at (suc room) own q ≡ Err d
at_fault room own q d e is = rw e (ap (λ (x : Result (List ℕ × Spot) Der). x >>= λ y. certificates_at room own y.1 >>= λ cs. Ok (y.0 ∷ cs)) is)

-- room for one more
room_left : (n : ℕ) → n ≤ 6 → n ≢ 6 → 6 - n ≡ suc (6 - (n + 1))
room_left n le ne = omega arith

-- as many lists as vectors
pub lists_length : (vs : List (Vec ℕ Global)) → length (lists_of vs) ≡ length vs
lists_length [] = refl
lists_length (v ∷ vs) = ap suc (lists_length vs)

-- behind the last one
pub ended : (own : ℕ) (p q : Spot) (seen : List (List ℕ)) → IsSoFar own p seen q → eqb (length q.rest) 0 ≡ true → certificates_at 6 own p ≡ Ok seen
ended own p q seen h e =
    h.whole ∙ ap (behind seen) (at_end (6 - length seen) own q e) ∙ ap (λ (l : List (List ℕ)). Ok l) (append-nil seen)

-- a seventh
pub full : (own : ℕ) (p q : Spot) (seen : List (List ℕ)) → IsSoFar own p seen q → length seen ≡ 6 → eqb (length q.rest) 0 ≡ false → certificates_at 6 own p ≡ refuse own Value
full own p q seen h n e =
    let none : 6 - length seen ≡ 0 = omega arith in
    h.whole ∙ ap (λ (k : ℕ). behind seen (certificates_at k own q)) none ∙ ap (behind seen) (at_limit own q e)

-- the next one is refused
pub refused : (own : ℕ) (p q : Spot) (seen : List (List ℕ)) (d : Der) → IsSoFar own p seen q → length seen ≢ 6 → eqb (length q.rest) 0 ≡ false → certificate_at q ≡ Err d → certificates_at 6 own p ≡ Err d
refused own p q seen d h n e is =
    h.whole ∙ ap (λ (k : ℕ). behind seen (certificates_at k own q)) (room_left (length seen) h.few n) ∙ ap (behind seen) (at_fault (6 - (length seen + 1)) own q d e is)

-- the next one is read
pub goes_on : (own : ℕ) (p q r : Spot) (seen : List (List ℕ)) (c : List ℕ) → IsSoFar own p seen q → length seen ≢ 6 → eqb (length q.rest) 0 ≡ false → certificate_at q ≡ Ok (c, r) → IsSoFar own p (seen ++ c ∷ []) r
goes_on own p q r seen c h n e is =
    let more : length (seen ++ c ∷ []) ≡ length seen + 1 = length-append seen (c ∷ []) in
    let room : ℕ = 6 - (length seen + 1) in
    let step = h.whole ∙ ap (λ (k : ℕ). behind seen (certificates_at k own q)) (room_left (length seen) h.few n) ∙ ap (behind seen) (at_one room own q r c e is) ∙ behind-cons seen c (certificates_at room own r) in
    record {
      few = omega (arith, h.few);
      whole = step ∙ ap (λ (k : ℕ). behind (seen ++ c ∷ []) (certificates_at (6 - k) own r)) (sym more);
    }

-- a certificate that is refused
pub certificate_fault : (p : Spot) (i : Item) (octets : List ℕ) (cause : X509) (d : Der) → item_at (is_tag_of 48) p ≡ Ok i → octets ≡ taken p i.after → certificate_in 48 octets ≡ Err cause
    → ((o : List ℕ) → kept_at p.place o (Err cause) ≡ Err d) → certificate_at p ≡ Err d
certificate_fault p i octets cause d item is bad h =
    let last : List ℕ → Result (List ℕ × Spot) Der = λ c. Ok (c, i.after) in
    ap (λ (x : Result Item Der). x >>= λ j. kept_at p.place (taken p j.after) (certificate_in 48 (taken p j.after)) >>= λ c. Ok (c, j.after)) item
    ∙ ap (λ (o : List ℕ). kept_at p.place (taken p i.after) (certificate_in 48 o) >>= last) (sym is)
    ∙ ap (λ (x : Result (FieldsOf certificate_fields) X509). kept_at p.place (taken p i.after) x >>= last) bad ∙ ap (λ (x : Result (List ℕ) Der). x >>= last) (h (taken p i.after))

-- what was judged was read
judged_refused : (known agreed : Bool) (v : FieldsOf certificate_fields) (d : Der) → cond (not known) (Err Version) (cond (not agreed) (Err Algorithm) (Ok v)) ≡ Err (Refused d) → ⊥
judged_refused false agreed v d e = absurd cc
judged_refused true false v d e = absurd cc
judged_refused true true v d e = absurd cc

unread : (r : Result (FieldsOf certificate_fields) Der) (d : Der) → judged_if r ≡ Err (Refused d) → r ≡ Err d
unread (Ok v) d e = absurd (judged_refused (is_known_version v.0.0) (same_algorithm v.0.1.1.0 v.1.0) v d e)
unread (Err b) d e = cc

not_too_long : (b : Bool) (r : Result (FieldsOf certificate_fields) X509) (d : Der) → cond b (Err TooLong) r ≡ Err (Refused d) → r ≡ Err (Refused d)
not_too_long true r d e = absurd cc
not_too_long false r d e = e

-- the grammar refuses a certificate at a place in its octets, or at their end
pub certificate_place : (octets : List ℕ) (d : Der) → IsBytes octets → certificate_in 48 octets ≡ Err (Refused d) → d.place ≤ length octets
unfolding certificate_in
certificate_place octets d bytes e =
    let r = unread (read_all (certificate 48) (certificate_front octets)) d (not_too_long (ltb 8192 (length octets)) _ d e) in
    let h = refused_within (certificate 48) (certificate_front octets) d bytes r in
    omega (arith, h)
