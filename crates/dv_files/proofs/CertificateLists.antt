-- The certificates of a file, as far as they were read.
use Rattle.std.proofs.Common.{◌≡◌, ◌≢◌, ℕ, suc, ◌+◌, ◌<◌, ◌≤◌, true, false, eqb, List, [], ◌∷◌, ◌++◌, drop, length, refl, sym, ap, subst, ◌∙◌, inl, inr, arith, append_assoc}
use Rattle.std.specs.Prelude.{All}
use Rattle.std.specs.List.{concat}
use Rattle.std.proofs.lemmas.Bool.{eqb-true, eqb-false}
use Rattle.std.proofs.lemmas.List.{append-nil, append_cancel_left, drop_at, length-append, nil_from_length}
use Rattle.std.proofs.lemmas.List.Elements.{All-drop, All-head, All-nil, All-push}
use Rattle.std.proofs.lemmas.List.Folds.{concat-append}
use Rattle.std.specs.declared.alloc.Global.{Global}
use Rattle.std.specs.declared.vec.Vec.{Vec}
use Rattle.dv_asn1.specs.Lists.{lists_of}
use Rattle.dv_schema.specs.Reading.{Spot}
use Rattle.dv_draft.specs.Records.{IsCertificate, certificate_at}
use Rattle.dv_files.specs.Certificates.{AreCertificatesUpTo, AreNone, AreSoFar, HasMore, HasNoNext, HasNone, IsNext, IsPlaceOf, behind_of}
use Rattle.dv_files.specs.Causes.{IsCertificateFault}

-- before the first one
pub begun : (limit : ℕ) (octets : List ℕ) → AreSoFar limit octets [] (record { levels = 32; place = 0; rest = octets })
begun limit octets =
    record {
      few = omega arith;
      decoded = All-nil IsCertificate;
      is = refl;
      place = refl;
      levels = refl;
      goes_on = inl refl;
      only = λ certificates h. (certificates, refl);
    }

-- the certificate that a list goes on with
record IsMore (certificates seen : List (List ℕ)) (behind : List ℕ) : Type 0 where
  next : List ℕ
  others : List (List ℕ)
  is : certificates ≡ seen ++ next ∷ others
  decoded : IsCertificate next
  rest : behind ≡ next ++ concat others

-- a list that ends there is none
ended : (limit : ℕ) (octets : List ℕ) (seen : List (List ℕ)) (q : Spot) → AreSoFar limit octets seen q → AreCertificatesUpTo limit octets (seen ++ []) → ⊥
ended limit octets seen q h a =
    let same : seen ++ [] ≡ seen = append-nil seen in
    let none : q.rest ≡ [] = append_cancel_left (concat seen) q.rest [] (sym h.is ∙ a.joined ∙ ap concat same ∙ sym (append-nil (concat seen))) in
    elim h.goes_on [
      | inl e ↦ let empty : length (seen ++ []) ≡ 0 = ap length (same ∙ e) in omega (arith, a.some, empty)
      | inr some ↦ some none
    ]

-- one that goes on has its next certificate there
more_of : (limit : ℕ) (octets : List ℕ) (seen more : List (List ℕ)) (q : Spot) → AreSoFar limit octets seen q → AreCertificatesUpTo limit octets (seen ++ more) → IsMore (seen ++ more) seen q.rest
more_of limit octets seen [] q h a = absurd (ended limit octets seen q h a)
more_of limit octets seen (m ∷ others) q h a =
    let behind : drop (length seen) (seen ++ m ∷ others) ≡ m ∷ others = drop_at seen (m ∷ others) (length seen) refl in
    record {
      next = m;
      others = others;
      is = refl;
      decoded = All-head IsCertificate m others (subst (All IsCertificate) behind (All-drop IsCertificate (length seen) (seen ++ m ∷ others) a.decoded));
      rest = append_cancel_left (concat seen) q.rest (concat (m ∷ others)) (sym h.is ∙ a.joined ∙ concat-append seen (m ∷ others));
    }

more : (limit : ℕ) (octets : List ℕ) (seen : List (List ℕ)) (q : Spot) → AreSoFar limit octets seen q → (certificates : List (List ℕ)) → AreCertificatesUpTo limit octets certificates → IsMore certificates seen q.rest
more limit octets seen q h certificates a =
    let m = h.only certificates a in
    subst (λ (cs : List (List ℕ)). IsMore cs seen q.rest) (sym m.1) (more_of limit octets seen m.0 q h (subst (AreCertificatesUpTo limit octets) m.1 a))

-- so many octets with one more certificate
joined_push : (seen : List (List ℕ)) (c : List ℕ) → concat (seen ++ c ∷ []) ≡ concat seen ++ c
joined_push seen c = concat-append seen (c ∷ []) ∙ ap (λ (o : List ℕ). concat seen ++ o) (append-nil c)

-- the next one was read, and octets are left
pub goes_on : (limit : ℕ) (octets : List ℕ) (seen : List (List ℕ)) (p q : Spot) (c : List ℕ) → AreSoFar limit octets seen p → length seen < limit → IsNext p c q → q.rest ≢ [] → AreSoFar limit octets (seen ++ c ∷ []) q
goes_on limit octets seen p q c h room n left =
    let size : length (seen ++ c ∷ []) ≡ length seen + 1 = length-append seen (c ∷ []) in
    let joined = joined_push seen c in
    record {
      few = omega (arith, size, room);
      decoded = All-push IsCertificate seen c h.decoded n.decoded;
      is = h.is ∙ ap (λ (o : List ℕ). concat seen ++ o) n.is ∙ sym (append_assoc (concat seen) c q.rest) ∙ ap (λ (o : List ℕ). o ++ q.rest) (sym joined);
      place = omega (arith, h.place, n.place, length-append (concat seen) c, ap length joined);
      levels = n.levels ∙ h.levels;
      goes_on = inr left;
      only = λ certificates a.
          (let m = more limit octets seen p h certificates a in
          let same : m.next ≡ c = n.only m.next (concat m.others) m.decoded m.rest in
          (m.others, m.is ∙ ap (λ (o : List ℕ). seen ++ o ∷ m.others) same ∙ sym (append_assoc seen (c ∷ []) m.others)));
    }

-- the next one was read, and nothing is left
pub complete : (limit : ℕ) (octets : List ℕ) (seen : List (List ℕ)) (p q : Spot) (c : List ℕ) → AreSoFar limit octets seen p → length seen < limit → IsNext p c q → q.rest ≡ [] → AreCertificatesUpTo limit octets (seen ++ c ∷ [])
complete limit octets seen p q c h room n empty =
    let size : length (seen ++ c ∷ []) ≡ length seen + 1 = length-append seen (c ∷ []) in
    record {
      some = omega (arith, size);
      few = omega (arith, size, room);
      decoded = All-push IsCertificate seen c h.decoded n.decoded;
      joined = h.is ∙ ap (λ (o : List ℕ). concat seen ++ o) (n.is ∙ ap (λ (o : List ℕ). c ++ o) empty ∙ append-nil c) ∙ sym (joined_push seen c);
    }

-- a spot of a file is the one behind what was read
spot_is : (limit : ℕ) (octets : List ℕ) (seen : List (List ℕ)) (q : Spot) → AreSoFar limit octets seen q → q ≡ behind_of seen q.rest
spot_is limit octets seen q h = rw (← h.levels, ← h.place) refl

-- the next one was refused
pub refused : (limit : ℕ) (octets : List ℕ) (seen : List (List ℕ)) (q : Spot) (place : ℕ) → AreSoFar limit octets seen q → length seen < limit → IsPlaceOf (certificate_at q) place
    → HasNone q → AreNone limit octets (HasNoNext limit octets place)
refused limit octets seen q place h room e none =
    record {
      none = λ certificates a. (let m = more limit octets seen q h certificates a in none m.next (concat m.others) m.decoded m.rest);
      cause = record {
        front = seen;
        behind = q.rest;
        few = room;
        decoded = h.decoded;
        is = h.is;
        refused = subst (λ (p : Spot). IsPlaceOf (certificate_at p) place) (spot_is limit octets seen q h) e;
      };
    }

-- there are so many, and octets are left
pub full : (limit : ℕ) (octets : List ℕ) (seen : List (List ℕ)) (q : Spot) → 1 ≤ limit → AreSoFar limit octets seen q → limit ≤ length seen → AreNone limit octets (HasMore limit octets q.place)
full limit octets seen q some h many =
    record {
      none = λ certificates a.
          (let m = more limit octets seen q h certificates a in
          omega (arith, a.few, many, ap length m.is, length-append seen (m.next ∷ m.others)));
      cause = record {
        front = seen;
        behind = q.rest;
        many = omega (arith, h.few, many);
        decoded = h.decoded;
        is = h.is;
        more = elim h.goes_on [ inl e ↦ absurd (omega (arith, ap length e, many, some)) | inr left ↦ left ];
        place = h.place;
      };
    }

-- either is a fault of a certificate file
pub fault_next : (octets : List ℕ) (place : ℕ) → AreNone 6 octets (HasNoNext 6 octets place) → IsCertificateFault octets place
fault_next octets place h = record { none = h.none; cause = inl h.cause }

pub fault_more : (octets : List ℕ) (place : ℕ) → AreNone 6 octets (HasMore 6 octets place) → IsCertificateFault octets place
fault_more octets place h = record { none = h.none; cause = inr h.cause }

-- as many lists as vectors
pub length-lists_of : (vs : List (Vec ℕ Global)) → length (lists_of vs) ≡ length vs
length-lists_of [] = refl
length-lists_of (v ∷ vs) = ap suc (length-lists_of vs)

-- what a test for the end says
pub at_end : (rest : List ℕ) → eqb (length rest) 0 ≡ true → rest ≡ []
at_end rest e = nil_from_length rest (eqb-true _ _ e)

pub before_end : (rest : List ℕ) → eqb (length rest) 0 ≡ false → rest ≢ []
before_end rest e none = eqb-false _ _ e (ap length none)
