-- What a request gets while a register holds a list of records: a notice, or the certificate of the record that it added.
use Rattle.std.specs.Prelude.{◌≡◌, ◌⊎◌, ◌+◌, ◌<◌, ℕ, Bool, true, false, List, [], ◌∷◌, ◌++◌, length, Option, Some, None, unwrap_or}
use Rattle.dv_outside.specs.Releases.{Entry, Identity as RuleIdentity}
use Rattle.dv_register.specs.State.{State, limit_in, rule_identity}
use Rattle.dv_cert.specs.Certificates.{certificate_of}
use Rattle.dv_cert.specs.Notice.{notice_of}
use Rattle.dv_draft.specs.declared.draft.Answer.TheVariants.{Draft as Drafted, Notice}
use Rattle.dv_draft.specs.declared.draft.Draft.{Draft}
use Rattle.dv_draft.specs.declared.server.Server.{Server}
use Rattle.dv_draft.specs.Records.{record_of}
use Rattle.dv_draft.specs.Views.{view_draft}
use Rattle.dv_path.specs.Anchors.{Anchored}
use Rattle.dv_register.specs.declared.refusals.Reserve.{Reserve}
use Rattle.dv_register.specs.declared.refusals.Reserve.TheVariants.{Full, Shut, Fault}
use Rattle.dv_session.specs.declared.issuing.Issued.{Issued}
use Rattle.dv_answer.specs.declared.reply.Reply.{Reply}
use Rattle.dv_answer.specs.Replies.{IsReply}

-- What stays the same while a notary serves: its certificates and its policy, its trust anchors, its key, the serial number of the first
-- record of its register, and how many records that may hold.
pub record Notary : Type 0 where
  pub server : Server
  pub anchors : List Anchored
  pub key : RuleIdentity
  pub first : ℕ
  pub limit : ℕ

-- What changes: the records of the register, and whether it is shut.
pub record Book : Type 0 where
  pub list : List Entry
  pub shut : Bool

-- a server, its anchors and its register
abbrev pub notary_of : {V : Type 0} → Server → List Anchored → State V → Notary
notary_of server anchors s = record { server = server; anchors = anchors; key = rule_identity s.identity; first = s.first; limit = limit_in s }

abbrev pub book_of : {V : Type 0} → State V → Book
book_of s = record { list = s.list; shut = s.shut }

-- What a request is given: the octets that are sent, the failure bit of a notice (RFC 4210, section 5.2.3), and the serial number of a
-- certificate.
pub record Given : Type 0 where
  pub octets : List ℕ
  pub bit : Option ℕ
  pub serial : Option ℕ

abbrev pub view_issued : Issued → Given
view_issued i = record { octets = i.octets.items; bit = i.bit; serial = i.serial }

-- a notice with this failure bit, with the transactionIdentifier of the reply, where it has one
abbrev pub notice_for : Reply → ℕ → Given
notice_for reply bit = record { octets = notice_of (unwrap_or reply.transaction []) bit; bit = Some bit; serial = None }

-- the failure bit of a draft for which no record is reserved: systemUnavail where each leaf has its record, and else systemFailure
abbrev pub bit_of_refusal : Reserve → ℕ
bit_of_refusal Full = 24
bit_of_refusal Shut = 25
bit_of_refusal Fault = 25

-- the record of a draft
abbrev pub entry_for : Server → Draft → Entry
entry_for server d = record { kind = 2; contents = record_of server.certificates (view_draft d) }

-- the certificate of the record behind a list, and its serial number
abbrev pub IsCertificateOf : Notary → List Entry → Entry → Given → Type 0
IsCertificateOf n list entry g =
    (certificate_of n.key n.first (length list) entry ≡ Some g.octets) × (g.bit ≡ None) × (g.serial ≡ Some (n.first + length list))

-- What a request is given at a moment, in seconds from 1950 on, and what it makes of the book. The reply to it alone decides, or, where that
-- is a draft, the register besides: a draft gets systemFailure, 25, where the register was shut or the reservation met a fault, which
-- shuts it; systemUnavail, 24, where each leaf has its record; and else the certificate of its own record, which is added to the list.
pub data IsGiven (n : Notary) (moment : ℕ) (request : List ℕ) (old new : Book) (g : Given) : Type 0 where
  refused : (reply : Reply) (bit : ℕ) → IsReply request moment n.server n.anchors reply → reply.answer ≡ Notice bit → new ≡ old → g ≡ notice_for reply bit
      → IsGiven n moment request old new g
  certified : (reply : Reply) (d : Draft) → IsReply request moment n.server n.anchors reply → reply.answer ≡ Drafted d
      → old.shut ≡ false → length old.list < n.limit → new ≡ record { list = old.list ++ entry_for n.server d ∷ []; shut = false }
      → IsCertificateOf n old.list (entry_for n.server d) g → IsGiven n moment request old new g
  full : (reply : Reply) (d : Draft) → IsReply request moment n.server n.anchors reply → reply.answer ≡ Drafted d
      → old.shut ≡ false → length old.list ≡ n.limit → new ≡ old → g ≡ notice_for reply 24 → IsGiven n moment request old new g
  failed : (reply : Reply) (d : Draft) → IsReply request moment n.server n.anchors reply → reply.answer ≡ Drafted d
      → (old.shut ≡ true) ⊎ (length old.list < n.limit) → new ≡ record { list = old.list; shut = true } → g ≡ notice_for reply 25
      → IsGiven n moment request old new g
