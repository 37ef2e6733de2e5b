-- What each answer says.
use Rattle.std.proofs.Common.{◌≡◌, ◌⊎◌, inl, inr, ℕ, ◌+◌, ◌^◌, ◌<◌, ◌≤◌, Bool, true, false, IsTrue, List, [], ◌∷◌, ◌++◌, length, take, Result, Ok, Err, refl, ap, sym, ◌∙◌, subst, arith, length-append}
use Rattle.std.proofs.lemmas.List.{append-nil}
use mathlib.Core.List.{IsPrefix}
use Rattle.dv_lms.specs.Height.{leaf_count}
use Rattle.dv_lms.specs.Identity.{Identity}
use Rattle.dv_outside.specs.Releases.{Entry, Identity as RuleIdentity}
use Rattle.dv_outside.specs.Station.{Content, Counts}
use Rattle.dv_outside.proofs.Moments.{le_or_lt}
use Rattle.dv_register.specs.SigningKey.{SlotState}
use Rattle.dv_register.specs.State.{State, IsSameRegister, limit_in, rule_identity, slot_at}
use Rattle.dv_passes.specs.declared.view.Event.{Event}
use Rattle.dv_passes.specs.declared.view.Event.TheVariants.{Reserved, Put, Stopped}
use Rattle.dv_passes.specs.Known.{Known}
use Rattle.dv_shared.specs.declared.receipt.SharedReserve.TheVariants.{Full, Shut, Fault, Memory}
use Rattle.dv_shared.specs.declared.receipt.SharedEmit.TheVariants.{Failed, Spent}
use Rattle.dv_shared.specs.Events.{entry, records, stop_count, placed}
use Rattle.dv_shared.specs.Receipts.{ReceiptState, receipt_at, IsReceipt}
use Rattle.dv_shared.specs.Stands.{IsLocked}
use Rattle.dv_shared.specs.Calls.{Adds, Reserves, Emits}
use Rattle.dv_shared.proofs.Growth.{records-append, records_grow}
use Rattle.dv_shared.proofs.Standing.{runs}

-- An addition behind a look.
pub adds_after : (start : List Event) (p q t : Known) (log es : List Event) → Adds start p log [] q → Adds start q log es t → Adds start p log es t
adds_after start p q t log es look add = record {
  begins = look.begins;
  seen = add.seen;
  mine = add.mine ∙ ap (λ (ms : List (ℕ × Event)). ms ++ placed (length log) es) (look.mine ∙ append-nil p.mine);
  share = add.share ∙ look.share;
  alone = look.alone;
}

module _ {V : Type 0} (tells : V → Bool) (content : V → Content) (counts : V → Counts) (origins : List (State V)) (log : List Event) (r : State V) (held : IsLocked tells content counts origins log r) (o : State V) (is : origins ≡ o ∷ []) where
  origin_is : held.origin ≡ o
  origin_is = cc (held.is, is)

  same : IsSameRegister o r
  same = subst (λ (s : State V). IsSameRegister s r) origin_is held.stands.same

  count : length (records log) ≡ length r.list
  count = ap length held.stands.list

  limit : limit_in r ≡ limit_in o
  limit = ap (λ (key : Identity). leaf_count key.height) same.identity

  pub told_is : IsTrue (tells o.station) → IsTrue (tells r.station)
  told_is told = subst IsTrue (ap (λ (s : State V). tells s.station) (sym origin_is) ∙ sym held.stands.telling) told

  slot_is : (index : ℕ) → slot_at r index ≡ slot_at o index
  slot_is index = ap (λ (p : ℕ × Identity). record { serial = p.0 + index; leaf = record { number = index; key = p.1 } }) (λ i. (same.first i, same.identity i))

  receipt_is : (s : State V) (t : ReceiptState) (slot : SlotState) (front : ℕ) → t ≡ record { slot = slot; front = front } → slot ≡ slot_at r (length r.list) → front ≡ length s.list → (e : Entry) → s.list ≡ r.list ++ e ∷ [] → t ≡ receipt_at o (length (records log))
  receipt_is s t slot front made at end e grown =
      let n : length s.list ≡ length r.list + 1 = ap length grown ∙ length-append r.list (e ∷ []) in
      made ∙ ap (λ (p : SlotState × ℕ). record { slot = p.0; front = p.1 })
      (λ i. ((at ∙ slot_is (length r.list) ∙ ap (slot_at o) (sym count)) i, (let f : front ≡ length (records log) + 1 = omega (arith, end, n, count) in f) i))

  module _ (start : List Event) (old new : Known) (kind : ℕ) (contents : List ℕ) where
    pub ok_answer : (s : State V) (t : ReceiptState) (slot : SlotState) (front : ℕ) → Adds start old log (Reserved kind contents ∷ []) new → (r.shut ≡ true → ⊥) → length s.list ≤ limit_in s → limit_in s ≡ limit_in r
        → t ≡ record { slot = slot; front = front } → slot ≡ slot_at r (length r.list) → front ≡ length s.list → s.list ≡ r.list ++ entry kind contents ∷ [] → Reserves start o kind contents old new (Ok t)
    ok_answer s t slot front adds open_ fits end made at last grown =
        let n : length s.list ≡ length r.list + 1 = ap length grown ∙ length-append r.list (entry kind contents ∷ []) in
        (log, Reserved kind contents ∷ [], adds, (refl, runs tells content counts origins log r held open_, omega (arith, n, fits, end, limit, count), receipt_is s t slot front made at last (entry kind contents) grown))

    pub ok_receipt : (s : State V) (t : ReceiptState) (slot : SlotState) (front : ℕ) → Adds start old log (Reserved kind contents ∷ []) new
        → t ≡ record { slot = slot; front = front } → slot ≡ slot_at r (length r.list) → front ≡ length s.list → s.list ≡ r.list ++ entry kind contents ∷ [] → IsReceipt o kind contents new.seen t
    ok_receipt s t slot front adds made at last grown = record {
      others = records log;
      is = ap records adds.seen ∙ records-append log (Reserved kind contents ∷ []);
      receipt = receipt_is s t slot front made at last (entry kind contents) grown;
    }

    pub full_answer : Adds start old log [] new → (r.shut ≡ true → ⊥) → length r.list ≡ limit_in r → Reserves start o kind contents old new (Err Full)
    full_answer adds open_ full = (log, [], adds, (refl, runs tells content counts origins log r held open_, count ∙ full ∙ limit))

    pub shut_answer : Adds start old log [] new → r.shut ≡ true → Reserves start o kind contents old new (Err Shut)
    shut_answer adds shut = (log, [], adds, (refl, held.stands.shut.0 shut))

    pub fault_answer : Adds start old log (Stopped ∷ []) new → (r.shut ≡ true → ⊥) → (length r.list ≡ limit_in r → ⊥) → Reserves start o kind contents old new (Err Fault)
    fault_answer adds open_ room = (log, Stopped ∷ [], adds, (refl, runs tells content counts origins log r held open_, below (le_or_lt (limit_in r) (length r.list))))
      where
        below : (limit_in r ≤ length r.list) ⊎ (length r.list < limit_in r) → length (records log) < limit_in o
        below (inl le) = absurd (room (omega (arith, le, held.short.fits)))
        below (inr lt) = omega (arith, lt, limit, count)

    pub memory_answer : Adds start old log [] new → Reserves start o kind contents old new (Err Memory)
    memory_answer adds = (log, [], adds, refl)

  -- What is allowed under the records that a pass has seen is allowed under the register's list.
  pub allowed_on : (allows : RuleIdentity → ℕ → List Entry → List ℕ → Type 0)
      → ((key : RuleIdentity) (first : ℕ) (list more : List Entry) (octets : List ℕ) → allows key first list octets → allows key first (list ++ more) octets)
      → (seen : List Event) (octets : List ℕ) → IsPrefix seen log → allows (rule_identity o.identity) o.first (records seen) octets → allows (rule_identity r.identity) r.first r.list octets
  allowed_on allows grows seen octets begins may =
      let more = records_grow seen log begins in
      let list : records seen ++ more.0 ≡ r.list = sym more.1 ∙ held.stands.list in
      subst (λ (p : Identity × ℕ × List Entry). allows (rule_identity p.0) p.1 p.2 octets) (λ i. (sym same.identity i, sym same.first i, list i))
      (grows (rule_identity o.identity) o.first (records seen) more.0 octets may)

-- Where a register may be under the lock, it is known which it is.
pub with_origin : {V : Type 0} (tells : V → Bool) (content : V → Content) (counts : V → Counts) (origins : List (State V)) (log : List Event) (r : State V) → IsLocked tells content counts origins log r → (o : State V) × (origins ≡ o ∷ [])
with_origin tells content counts origins log r held = (held.origin, held.is)
