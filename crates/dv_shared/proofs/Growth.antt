-- Histories that grow at their end.
use Rattle.std.proofs.Common.{◌≡◌, ℕ, ◌+◌, Bool, true, false, List, [], ◌∷◌, ◌++◌, length, refl, ap, sym, ◌∙◌, arith, append_assoc, length-append}
use Rattle.std.proofs.lemmas.List.{append-nil}
use mathlib.Core.List.{IsPrefix}
use Rattle.dv_passes.specs.declared.view.Event.{Event}
use Rattle.dv_passes.specs.declared.view.Event.TheVariants.{Reserved, Put, Stopped}
use Rattle.dv_outside.specs.Releases.{Entry}
use Rattle.dv_shared.specs.Events.{entry, records, put_octets, stop_count, cut_count, EndsAtStop, reserved_all, stopped_if, first_events}

pub records-append : (xs ys : List Event) → records (xs ++ ys) ≡ records xs ++ records ys
records-append [] ys = refl
records-append (Reserved k c ∷ xs) ys = ap (λ (l : List Entry). entry k c ∷ l) (records-append xs ys)
records-append (Put o w ∷ xs) ys = records-append xs ys
records-append (Stopped ∷ xs) ys = records-append xs ys

pub put_octets-append : (xs ys : List Event) → put_octets (xs ++ ys) ≡ put_octets xs ++ put_octets ys
put_octets-append [] ys = refl
put_octets-append (Reserved k c ∷ xs) ys = put_octets-append xs ys
put_octets-append (Put o w ∷ xs) ys = ap (λ (l : List ℕ). o ++ l) (put_octets-append xs ys) ∙ sym (append_assoc o (put_octets xs) (put_octets ys))
put_octets-append (Stopped ∷ xs) ys = put_octets-append xs ys

pub stop_count-append : (xs ys : List Event) → stop_count (xs ++ ys) ≡ stop_count xs + stop_count ys
stop_count-append [] ys = omega arith
stop_count-append (Reserved k c ∷ xs) ys = stop_count-append xs ys
stop_count-append (Put o w ∷ xs) ys = stop_count-append xs ys
stop_count-append (Stopped ∷ xs) ys = let rest = stop_count-append xs ys in omega arith

pub cut_count-append : (xs ys : List Event) → cut_count (xs ++ ys) ≡ cut_count xs + cut_count ys
cut_count-append [] ys = omega arith
cut_count-append (Reserved k c ∷ xs) ys = cut_count-append xs ys
cut_count-append (Put o w ∷ xs) ys = let rest = cut_count-append xs ys in omega arith
cut_count-append (Stopped ∷ xs) ys = cut_count-append xs ys

-- Before a stop anything may follow, where nothing follows a stop that comes
pub ends_running : (xs ys : List Event) → stop_count xs ≡ 0 → EndsAtStop ys → EndsAtStop (xs ++ ys)
ends_running [] ys none e = e
ends_running (Reserved k c ∷ xs) ys none e = ends_running xs ys none e
ends_running (Put o w ∷ xs) ys none e = ends_running xs ys none e
ends_running (Stopped ∷ xs) ys none e = absurd (omega arith)

-- What reserves nothing may follow anywhere
pub ends_put : (xs ys : List Event) → EndsAtStop xs → records ys ≡ [] → EndsAtStop ys → EndsAtStop (xs ++ ys)
ends_put [] ys e none f = f
ends_put (Reserved k c ∷ xs) ys e none f = ends_put xs ys e none f
ends_put (Put o w ∷ xs) ys e none f = ends_put xs ys e none f
ends_put (Stopped ∷ xs) ys e none f = records-append xs ys ∙ (ap (λ (l : List Entry). l ++ records ys) e ∙ none)

-- What a longer history has more of records
pub records_grow : (xs ys : List Event) → IsPrefix xs ys → (more : List Entry) × (records ys ≡ records xs ++ more)
records_grow xs ys p = (records p.0, sym (ap records p.1) ∙ records-append xs p.0)

pub records-reserved_all : (list : List Entry) → records (reserved_all list) ≡ list
records-reserved_all [] = refl
records-reserved_all (e ∷ list) = ap (λ (l : List Entry). e ∷ l) (records-reserved_all list)

pub put_octets-reserved_all : (list : List Entry) → put_octets (reserved_all list) ≡ []
put_octets-reserved_all [] = refl
put_octets-reserved_all (e ∷ list) = put_octets-reserved_all list

pub stop_count-reserved_all : (list : List Entry) → stop_count (reserved_all list) ≡ 0
stop_count-reserved_all [] = refl
stop_count-reserved_all (e ∷ list) = stop_count-reserved_all list

pub cut_count-reserved_all : (list : List Entry) → cut_count (reserved_all list) ≡ 0
cut_count-reserved_all [] = refl
cut_count-reserved_all (e ∷ list) = cut_count-reserved_all list

pub length-reserved_all : (list : List Entry) → length (reserved_all list) ≡ length list
length-reserved_all [] = refl
length-reserved_all (e ∷ list) = let rest = length-reserved_all list in omega arith
