-- What a draft is given, by what its reservation answers.
use Rattle.std.proofs.Common.{◌≡◌, ◌≢◌, ◌≤◌, ◌<◌, ◌+◌, ◌++◌, ◌∷◌, ◌∙◌, ℕ, Bool, true, false, Result, Ok, Err, Option, Some, None, List, [], length, inl, inr, refl, sym, ap, subst, arith}
use Rattle.std.specs.Prelude.{◌⊎◌, ◌↔◌, IfOk}
use Rattle.std.specs.declared.alloc.AllocError.{AllocError}
use Rattle.std.proofs.lemmas.Bool.{cases_Bool}
use Rattle.std.proofs.lemmas.Result.{IfOk-weaker}
use Rattle.dv_schema.specs.Fits.{Fits}
use Rattle.dv_schema.specs.Schema.{ValueOf}
use Rattle.dv_lms.specs.Height.{leaf_count}
use Rattle.dv_lms.specs.Identity.{Identity as Key}
use Rattle.dv_lms.specs.Signed.{public_of}
use Rattle.dv_outside.specs.Releases.{Entry}
use Rattle.dv_outside.specs.Station.{Content, Leaves}
use Rattle.dv_register.specs.Layout.{SoundFor, head_of}
use Rattle.dv_register.specs.declared.refusals.Reserve.{Reserve}
use Rattle.dv_register.specs.declared.refusals.Reserve.TheVariants.{Full, Shut, Fault}
use Rattle.dv_register.specs.SigningKey.{SlotState}
use Rattle.dv_register.specs.State.{IsSameRegister, State, head_in, limit_in, rule_identity, slot_at}
use Rattle.dv_draft.specs.declared.draft.Answer.TheVariants.{Draft as Drafted, Notice}
use Rattle.dv_draft.specs.declared.draft.Draft.{Draft}
use Rattle.dv_draft.specs.declared.server.Server.{Server}
use Rattle.dv_draft.specs.CertInfo.{cert_info_of}
use Rattle.dv_draft.specs.Records.{record_in, record_of}
use Rattle.dv_draft.specs.Types.{draft}
use Rattle.dv_draft.specs.Views.{view_draft}
use Rattle.dv_cert.specs.Certificates.{MayLeave, sealed_with}
use Rattle.dv_path.specs.Anchors.{Anchored}
use Rattle.dv_session.specs.declared.issuing.Issued.{Issued}
use Rattle.dv_answer.specs.declared.reply.Reply.{Reply}
use Rattle.dv_session.specs.Issuing.{Book, Given, IsCertificateOf, IsGiven, bit_of_refusal, book_of, certified, entry_for, failed, full, notary_of, notice_for, refused, view_issued}
use Rattle.dv_answer.specs.Replies.{IsReply}
use Rattle.dv_session.proofs.IssuingLemmas.{last_leaves, record_certificate}

-- a notice, where the reply is one
pub notice_given : {V : Type 0} (request : List ℕ) (moment : ℕ) (server : Server) (anchors : List Anchored) (reply : Reply) (bit : ℕ) (s : State V) (r : Result Issued AllocError) → IsReply request moment server anchors reply → reply.answer ≡ Notice bit
    → IfOk r (λ i. view_issued i ≡ notice_for reply bit) → IfOk r (λ i. IsGiven (notary_of server anchors s) moment request (book_of s) (book_of s) (view_issued i))
notice_given request moment server anchors reply bit s r is notice told = IfOk-weaker r _ _ (λ i same. refused reply bit is notice refl same) told

-- the register is the same before the reservation as it was, and its list has its limit
pub record IsReady {V : Type 0} (old ready : State V) : Type 0 where
  pub same : IsSameRegister old ready
  pub list : ready.list ≡ old.list
  pub shut : ready.shut ≡ old.shut
  pub fits : length old.list ≤ limit_in old

-- what a reservation in it says of its answer
pub record IsReserved {V S : Type 0} (ready new : State V) (result : Result S Reserve) : Type 0 where
  pub shut : (result ≡ Err Shut) ↔ (ready.shut ≡ true)
  pub full : (result ≡ Err Full) ↔ ((ready.shut ≡ false) × (length ready.list ≡ limit_in ready))
  pub shuts : (new.shut ≡ true) ↔ ((ready.shut ≡ true) ⊎ (result ≡ Err Fault))

module _ {V S : Type 0} (request : List ℕ) (moment : ℕ) (server : Server) (anchors : List Anchored) (reply : Reply) (d : Draft) (is : IsReply request moment server anchors reply) (drafts : reply.answer ≡ Drafted d)
    (old ready new : State V) (kept : IsReady old ready) (result : Result S Reserve) (says : IsReserved ready new result) where
  same_limit : limit_in ready ≡ limit_in old
  same_limit = ap (λ (k : Key). leaf_count k.height) kept.same.identity

  -- it isn't shut, where it wasn't and no fault was met
  still_open : ready.shut ≡ false → result ≢ Err Fault → new.shut ≡ false
  still_open open_now fine =
      elim (cases_Bool new.shut) [
        | inl t ↦ elim (says.shuts.0 t) [ inl shut ↦ absurd cc | inr fault ↦ absurd (fine fault) ]
        | inr f ↦ f
      ]

  -- it wasn't full, where a fault was met
  had_room : result ≡ Err Fault → (old.shut ≡ true) ⊎ (length old.list < limit_in old)
  had_room fault =
      elim (cases_Bool old.shut) [
        | inl t ↦ inl t
        | inr f ↦
            let not_full : length old.list ≡ limit_in old → ⊥ = λ e. (let h = says.full.1 (kept.shut ∙ f, ap length kept.list ∙ e ∙ sym same_limit) in absurd cc) in
            inr (omega (arith, kept.fits, not_full))
      ]

  pub refusal_given : (refusal : Reserve) (g : Given) → result ≡ Err refusal → new.list ≡ ready.list → g ≡ notice_for reply (bit_of_refusal refusal)
      → IsGiven (notary_of server anchors old) moment request (book_of old) (book_of new) g
  refusal_given Full g was list told =
      let parts = says.full.0 was in
      let open_now : new.shut ≡ old.shut = still_open parts.0 (λ e. absurd cc) ∙ sym parts.0 ∙ kept.shut in
      let same : book_of new ≡ book_of old = λ j. record { list = (list ∙ kept.list) j; shut = open_now j } in
      full reply d is drafts (sym kept.shut ∙ parts.0) (sym (ap length kept.list) ∙ parts.1 ∙ same_limit) same told
  refusal_given Shut g was list told =
      let shut = says.shut.0 was in
      let now = says.shuts.1 (inl shut) in
      failed reply d is drafts (inl (sym kept.shut ∙ shut)) (λ j. record { list = (list ∙ kept.list) j; shut = now j }) told
  refusal_given Fault g was list told =
      let now = says.shuts.1 (inr was) in
      failed reply d is drafts (had_room was) (λ j. record { list = (list ∙ kept.list) j; shut = now j }) told

  -- it had room, where there is a slot
  slot_room : (slot : S) → result ≡ Ok slot → (old.shut ≡ false) × (length old.list < limit_in old) × (new.shut ≡ false)
  slot_room slot was =
      let open_now : ready.shut ≡ false = elim (cases_Bool ready.shut) [ inl t ↦ (let h = says.shut.1 t in absurd cc) | inr f ↦ f ] in
      let not_full : length old.list ≡ limit_in old → ⊥ = λ e. (let h = says.full.1 (open_now, ap length kept.list ∙ e ∙ sym same_limit) in absurd cc) in
      (sym kept.shut ∙ open_now, omega (arith, kept.fits, not_full), still_open open_now (λ e. absurd cc))

  pub slot_given : (slot : S) (g : Given) → result ≡ Ok slot → new.list ≡ ready.list ++ entry_for server d ∷ []
      → IsCertificateOf (notary_of server anchors old) old.list (entry_for server d) g → IsGiven (notary_of server anchors old) moment request (book_of old) (book_of new) g
  slot_given slot g was list told =
      let room = slot_room slot was in
      let added : new.list ≡ old.list ++ entry_for server d ∷ [] = list ∙ ap (λ (l : List Entry). l ++ entry_for server d ∷ []) kept.list in
      certified reply d is drafts room.0 room.1 (λ j. record { list = added j; shut = room.2 j }) told

-- the slot has the next number and the next serial number
pub next_serial : {V : Type 0} (old ready : State V) → IsReady old ready → (slot : SlotState) → slot ≡ slot_at ready (length ready.list) → slot.serial ≡ old.first + length old.list
next_serial old ready kept slot is =
    ap (λ (s : SlotState). s.serial) is ∙ ap (λ (n : ℕ). n + length ready.list) kept.same.first ∙ ap (λ (l : List Entry). old.first + length l) kept.list

-- what is sealed for the slot of the next record is sealed with the key and the number of the register as it was
pub sealed_so : {V : Type 0} (old ready : State V) (kept : IsReady old ready) (slot : SlotState) (key : Key) (certificates : List (List ℕ)) (d : ValueOf draft) (octets : List ℕ)
    → slot ≡ slot_at ready (length ready.list) → old.identity ≡ key → octets ≡ sealed_with key slot.leaf.number certificates (cert_info_of slot.serial d)
    → octets ≡ sealed_with old.identity (length old.list) certificates (cert_info_of (old.first + length old.list) d)
sealed_so old ready kept slot key certificates d octets is keyed sealed =
    let number : slot.leaf.number ≡ length old.list = ap (λ (s : SlotState). s.leaf.number) is ∙ ap length kept.list in
    let serial = next_serial old ready kept slot is in
    sealed ∙ ap (λ (k : Key). sealed_with k slot.leaf.number certificates (cert_info_of slot.serial d)) (sym keyed)
    ∙ ap (λ (n : ℕ). sealed_with old.identity n certificates (cert_info_of slot.serial d)) number
    ∙ ap (λ (n : ℕ). sealed_with old.identity (length old.list) certificates (cert_info_of n d)) serial

-- so it is the certificate of the record that was added
pub slot_certificate : {V : Type 0} (server : Server) (anchors : List Anchored) (d : Draft) (old ready : State V) → IsReady old ready → (slot : SlotState) (key : Key) (i : Issued) → slot ≡ slot_at ready (length ready.list) → old.identity ≡ key
    → (Fits draft 32 (view_draft d) → record_in (record_of server.certificates (view_draft d)) ≡ Ok (server.certificates, view_draft d))
    → i.octets.items ≡ sealed_with key slot.leaf.number server.certificates (cert_info_of slot.serial (view_draft d)) → i.bit ≡ None → i.serial ≡ Some slot.serial
    → IsCertificateOf (notary_of server anchors old) old.list (entry_for server d) (view_issued i)
slot_certificate server anchors d old ready kept slot key i is keyed read sealed no_bit serial = (
  record_certificate old.identity old.first (length old.list) server.certificates (view_draft d) i.octets.items d.spelled read
      (sealed_so old ready kept slot key server.certificates (view_draft d) i.octets.items is keyed sealed),
  no_bit,
  serial ∙ ap Some (next_serial old ready kept slot is),
)

-- and may leave
pub slot_leaves : {V : Type 0} (server : Server) (anchors : List Anchored) (d : Draft) (old ready new : State V) → IsReady old ready → IsSameRegister ready new → (i : Issued) → new.list ≡ ready.list ++ entry_for server d ∷ []
    → IsCertificateOf (notary_of server anchors old) old.list (entry_for server d) (view_issued i) → MayLeave (rule_identity new.identity) new.first new.list i.octets.items
slot_leaves server anchors d old ready new kept same i list is =
    let added : new.list ≡ old.list ++ entry_for server d ∷ [] = list ∙ ap (λ (l : List Entry). l ++ entry_for server d ∷ []) kept.list in
    subst (λ (k : Key). MayLeave (rule_identity k) new.first new.list i.octets.items) (sym (same.identity ∙ kept.same.identity))
    (subst (λ (n : ℕ). MayLeave (rule_identity old.identity) n new.list i.octets.items) (sym (same.first ∙ kept.same.first))
    (last_leaves (rule_identity old.identity) old.first old.list new.list (entry_for server d) i.octets.items added is.0))

-- what a reservation leaves of the station is said of the register as it was
pub leaves_ready : {V : Type 0} (content : V → Content) (old ready : State V) (after : Content) → IsReady old ready → ready.station ≡ old.station
    → Leaves (SoundFor (head_in ready) (limit_in ready) ready.list) (content ready.station) after → Leaves (SoundFor (head_in old) (limit_in old) old.list) (content old.station) after
leaves_ready {V} content old ready after kept station images =
    subst (λ (s : V). Leaves (SoundFor (head_in old) (limit_in old) old.list) (content s) after) station
    (subst (λ (l : List Entry). Leaves (SoundFor (head_in old) (limit_in old) l) (content ready.station) after) kept.list
    (subst (λ (n : ℕ). Leaves (SoundFor (head_of (public_of old.identity) n) (limit_in old) ready.list) (content ready.station) after) kept.same.first
    (subst (λ (k : Key). Leaves (SoundFor (head_of (public_of k) ready.first) (leaf_count k.height) ready.list) (content ready.station) after) kept.same.identity images)))
