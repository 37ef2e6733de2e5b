-- What is signed, and what is sent, by the parts that a room holds.
use Rattle.std.proofs.Common.{◌≡◌, ◌∙◌, ℕ, List, ◌++◌, ap, append_assoc}
use Rattle.std.specs.List.{concat}
use Rattle.sha2.specs.Sha256.{sha256}
use Rattle.dv_schema.specs.Schema.{ValueOf, contents, spelling}
use Rattle.dv_schema.specs.Tlv.{integer_octets, tlv}
use Rattle.dv_draft.specs.CertInfo.{after_serial, before_serial, cert_info_of, later_fields}
use Rattle.dv_draft.specs.Types.{draft, imprint}
use Rattle.dv_cert.specs.Rooms.{Held, IsRoomOf}
use Rattle.dv_cert.specs.Sealed.{ascending, attributes_with, info_of, message_with, own_of, sealed, signed_by, signer_info_with, signer_of}

-- a DVCSCertInfo by its parts
pub info_is : (serial : ℕ) (d : ValueOf draft) → info_of (before_serial d) serial (after_serial d) ≡ cert_info_of serial d
unfolding info_of cert_info_of
info_is serial d = ap (tlv 48) (append_assoc d.0 (spelling imprint d.1.0) (tlv 2 (integer_octets serial) ++ contents later_fields d.1.1))

-- the same, by the parts that a room holds
held_info : (r : Held) (d : ValueOf draft) (cs : List (List ℕ)) (serial : ℕ) → IsRoomOf r d cs → info_of r.before serial r.after ≡ cert_info_of serial d
held_info r d cs serial is =
    ap (λ (b : List ℕ). info_of b serial r.after) is.before ∙ ap (λ (a : List ℕ). info_of (before_serial d) serial a) is.after ∙ info_is serial d

-- the attributes, by those parts
held_attributes : (r : Held) (d : ValueOf draft) (cs : List (List ℕ)) (serial : ℕ) → IsRoomOf r d cs
    → attributes_with (sha256 (info_of r.before serial r.after)) r.own_digest ≡ attributes_with (sha256 (cert_info_of serial d)) (sha256 (own_of cs))
held_attributes r d cs serial is =
    ap (λ (i : List ℕ). attributes_with (sha256 i) r.own_digest) (held_info r d cs serial is)
    ∙ ap (λ (o : List ℕ). attributes_with (sha256 (cert_info_of serial d)) o) is.own_digest

-- what is signed
pub signed_is : (r : Held) (d : ValueOf draft) (cs : List (List ℕ)) (serial : ℕ) (signed attributes content before after own : List ℕ)
    → signed ≡ tlv 49 attributes → attributes ≡ attributes_with content own → content ≡ sha256 (info_of before serial after)
    → before ≡ r.before → after ≡ r.after → own ≡ r.own_digest → IsRoomOf r d cs → signed ≡ signed_by (own_of cs) (cert_info_of serial d)
unfolding signed_by
signed_is r d cs serial signed attributes content before after own e0 e1 e2 b a o is =
    let inner : attributes ≡ attributes_with (sha256 (info_of r.before serial r.after)) r.own_digest =
    e1
    ∙ ap (λ (x : List ℕ). attributes_with x own) e2
    ∙ ap (λ (x : List ℕ). attributes_with (sha256 (info_of x serial after)) own) b
    ∙ ap (λ (x : List ℕ). attributes_with (sha256 (info_of r.before serial x)) own) a
    ∙ ap (λ (x : List ℕ). attributes_with (sha256 (info_of r.before serial r.after)) x) o in
    e0 ∙ ap (tlv 49) (inner ∙ held_attributes r d cs serial is)

-- the whole message, by those parts
pub sealed_is : (r : Held) (d : ValueOf draft) (cs : List (List ℕ)) (serial : ℕ) (attributes signature : List ℕ)
    → attributes ≡ attributes_with (sha256 (info_of r.before serial r.after)) r.own_digest → IsRoomOf r d cs
    → message_with r.certificates (info_of r.before serial r.after) (signer_info_with r.signer attributes signature) ≡ sealed cs (cert_info_of serial d) signature
unfolding sealed
sealed_is r d cs serial attributes signature e is =
    ap (λ (x : List ℕ). message_with x (info_of r.before serial r.after) (signer_info_with r.signer attributes signature)) is.certificates_ascend
    ∙ ap (λ (x : List ℕ). message_with (concat (ascending cs)) x (signer_info_with r.signer attributes signature)) (held_info r d cs serial is)
    ∙ ap (λ (x : List ℕ). message_with (concat (ascending cs)) (cert_info_of serial d) (signer_info_with x attributes signature)) is.signer
    ∙ ap (λ (x : List ℕ). message_with (concat (ascending cs)) (cert_info_of serial d) (signer_info_with (signer_of (own_of cs)) x signature)) (e ∙ held_attributes r d cs serial is)

-- what is sent
pub sent_is : (r : Held) (d : ValueOf draft) (cs : List (List ℕ)) (serial given : ℕ) (certificates before after signer attributes signature : List ℕ)
    → certificates ≡ r.certificates → before ≡ r.before → after ≡ r.after → signer ≡ r.signer → given ≡ serial
    → attributes ≡ attributes_with (sha256 (info_of r.before serial r.after)) r.own_digest → IsRoomOf r d cs
    → message_with certificates (info_of before given after) (signer_info_with signer attributes signature) ≡ sealed cs (cert_info_of serial d) signature
sent_is r d cs serial given certificates before after signer attributes signature c b a s g e is =
    ap (λ (x : List ℕ). message_with x (info_of before given after) (signer_info_with signer attributes signature)) c
    ∙ ap (λ (x : List ℕ). message_with r.certificates (info_of x given after) (signer_info_with signer attributes signature)) b
    ∙ ap (λ (x : ℕ). message_with r.certificates (info_of r.before x after) (signer_info_with signer attributes signature)) g
    ∙ ap (λ (x : List ℕ). message_with r.certificates (info_of r.before serial x) (signer_info_with signer attributes signature)) a
    ∙ ap (λ (x : List ℕ). message_with r.certificates (info_of r.before serial r.after) (signer_info_with x attributes signature)) s
    ∙ sealed_is r d cs serial attributes signature e is
