-- The lines of a file have at most four times as many octets as the file.
use Rattle.std.proofs.Common.{◌≡◌, ◌+◌, ◌*◌, ◌≤◌, ◌++◌, ◌∷◌, [], ℕ, length, arith, Bool, true, false, List, refl, sym, ap, subst}
use Rattle.std.specs.Prelude.{Option, Some, None, codes, option_map, IfSome}
use Rattle.std.proofs.lemmas.Bool.{leb-true}
use Rattle.std.proofs.lemmas.List.{length-append}
use Rattle.hex.specs.Hex.{encode_lower, lower_digits}
use Rattle.hex.proofs.HexLemmas.{length-encode_with}
use Rattle.dv_schema.specs.Octets.{IsBytes}
use Rattle.dv_schema.specs.Schema.{spelling}
use Rattle.dv_schema.specs.Fits.{Fits}
use Rattle.dv_time.specs.Text.{text_of}
use Rattle.dv_names.specs.Views.{view_algorithm, view_digest}
use Rattle.dv_status.specs.declared.status.StatusInfo.{StatusInfo}
use Rattle.dv_status.specs.Types.{status_info}
use Rattle.dv_status.specs.Views.{view_status}
use Rattle.dv_request.specs.declared.service.Service.{Service}
use Rattle.dv_response.specs.declared.cert_info.CertInfo.{CertInfo}
use Rattle.dv_response.specs.Types.{cert_info}
use Rattle.dv_response.specs.Views.{view_cert_info}
use Rattle.dv_show.specs.declared.shown.ContentType.{ContentType}
use Rattle.dv_show.specs.declared.shown.ContentType.TheVariants.{RequestData, ResponseData}
use Rattle.dv_show.specs.declared.shown.Shown.{Shown}
use Rattle.dv_show.specs.declared.shown.Shown.TheVariants.{Request, Notice, Certificate}
use Rattle.dv_show.specs.Lines.{line_for, name_of_service, word_of_algorithm, word_of_imprint, word_of_notice, word_of_status}
use Rattle.dv_show.specs.Show.{AreShown, octets_of_all, ShowOf, text_of_all, Values}
use Rattle.dv_show.specs.Values.{Holds, identifier_of, IsContent, IsSet, IsShown, IsValueOf, type_of}
use Rattle.dv_show.proofs.SizeLemmas.{bytes_left, bytes_of_certificate, bytes_of_message, bytes_right, certificate_long, content_inside, message_long}
use Rattle.dv_show.proofs.WordLemmas.{algorithm_short, moment_long, notice_short, service_short, status_short}

-- ---- lines

request_line : (service : Service) (signed : Bool) → length (line_for (Request service signed)) ≤ 20
request_line service true =
    let name : List ℕ = name_of_service service in
    omega (arith, service_short service, length-append (name ++ codes " signed") (10 ∷ []), length-append name (codes " signed"))
request_line service false = let name : List ℕ = name_of_service service in omega (arith, service_short service, length-append name (10 ∷ []))

-- a bit that is set is one of 32
at_most : (fail : Option (List ℕ)) (bit : ℕ) → IsSet fail bit → bit ≤ 31
at_most None bit h = absurd h
at_most (Some c) bit h = h.0

notice_line : (least : Option ℕ) → IfSome least (λ bit. bit ≤ 31) → length (line_for (Notice least)) ≤ 27
notice_line None h = omega arith
notice_line (Some bit) h = let word : List ℕ = word_of_notice (Some bit) in omega (arith, notice_short bit h, length-append word (10 ∷ []))

-- a status that fits is at most 6
status_word : (status : Option StatusInfo) → IfSome (option_map view_status status) (Fits (status_info 160) 31) → length (word_of_status (option_map (λ s. s.status) status)) ≤ 15
status_word None h = omega arith
status_word (Some s) h = status_short s.status (leb-true s.status 6 h.2.0.2)

certificate_line : (info : CertInfo) → Fits cert_info 32 (view_cert_info info) → IsBytes (spelling cert_info (view_cert_info info))
    → length (line_for (Certificate info)) ≤ 60 + 4 * length (spelling cert_info (view_cert_info info))
certificate_line info fits bytes =
    let name : List ℕ = name_of_service info.info.service in
    let serial : List ℕ = encode_lower info.serial.now in
    let time : List ℕ = text_of info.time in
    let algorithm : List ℕ = word_of_algorithm (view_algorithm info.imprint.alg) in
    let digest : List ℕ = encode_lower info.imprint.digest.now in
    let imprint : List ℕ = word_of_imprint (view_digest info.imprint) in
    let status : List ℕ = word_of_status (option_map (λ s. s.status) info.status) in
    let a : List ℕ = codes "certificate " ++ name in
    let b : List ℕ = codes " serial " ++ serial in
    let c : List ℕ = codes " time " ++ time in
    let d : List ℕ = codes " imprint " ++ imprint in
    let e : List ℕ = codes " status " ++ status ++ 10 ∷ [] in
    omega (
      arith,
      certificate_long (view_cert_info info),
      service_short info.info.service,
      length-encode_with lower_digits info.serial.now,
      moment_long info.time,
      algorithm_short (view_algorithm info.imprint.alg) (bytes_of_certificate (view_cert_info info) bytes),
      length-encode_with lower_digits info.imprint.digest.now,
      status_word info.status fits.2.1.1.1.1.1.0,
      length-append (a ++ b ++ c ++ d) e,
      length-append (a ++ b ++ c) d,
      length-append (a ++ b) c,
      length-append a b,
      length-append (codes "certificate ") name,
      length-append (codes " serial ") serial,
      length-append (codes " time ") time,
      length-append (codes " imprint ") imprint,
      length-append (algorithm ++ codes " ") digest,
      length-append algorithm (codes " "),
      length-append (codes " status " ++ status) (10 ∷ []),
      length-append (codes " status ") status,
    )

-- the line for what octets are
content_line : (value : Shown) (signed : Bool) (octets : List ℕ) → IsContent value signed octets → IsBytes octets → length (line_for value) ≤ 60 + 4 * length octets
content_line (Request service in_signed) signed octets h bytes = omega (arith, request_line service in_signed)
content_line (Notice None) signed octets h bytes = omega arith
content_line (Notice (Some bit)) signed octets h bytes = omega (arith, notice_line (Some bit) (at_most h.notice.0.1.1.0 bit h.names.0))
content_line (Certificate info) signed octets h bytes =
    subst (λ (o : List ℕ). length (line_for (Certificate info)) ≤ 60 + 4 * length o) (sym h.1.1) (certificate_line info h.1.0 (subst IsBytes h.1.1 bytes))

-- ---- all values

identifier_long : (t : ContentType) → length (identifier_of t) ≡ 11
identifier_long RequestData = refl
identifier_long ResponseData = refl

-- what a message holds is no longer than its content, and are octets where its content is; its type has at least nine octets
held_inside : (signed : Bool) (t : ContentType) (octets type content : List ℕ) → Holds signed (identifier_of t) octets type content
    → (9 ≤ length type) × (length octets ≤ length content) × (IsBytes content → IsBytes octets)
held_inside true t octets type content h =
    let s = h.1 in
    let inside = content_inside s.signed octets s.holds in (
      omega (arith, ap length h.0),
      omega (arith, inside.0, ap length s.spelled),
      λ bytes. inside.1 (subst IsBytes s.spelled bytes),
    )
held_inside false t octets type content h = (
  omega (arith, ap length h.0, identifier_long t),
  omega (arith, ap length h.1),
  λ bytes. subst IsBytes (sym h.1) bytes,
)

line_is_short : (value : Shown) (octets : List ℕ) → IsShown value octets → IsBytes octets → length (line_for value) ≤ 4 * length octets
line_is_short value octets q bytes =
    let v : IsValueOf value q.type q.content = q.holds in
    let held = held_inside v.signed (type_of value) v.octets q.type q.content v.held in
    let inside = held.2 (bytes_of_message q.type q.content (subst IsBytes q.spelled bytes)) in
    omega (arith, ap length q.spelled, message_long q.type q.content, held.0, held.1, content_line value v.signed v.octets v.is inside)

-- the text of a file has at most four times as many octets as the file
pub text_is_short : (file text : List ℕ) → IsBytes file → ShowOf file text → length text ≤ 4 * length file
text_is_short file text bytes h =
    subst (λ (t : List ℕ). length t ≤ 4 * length file) (sym h.lines)
    (subst (λ (f : List ℕ). length (text_of_all h.values) ≤ 4 * length f) (sym h.octets) (all h.values h.shown (subst IsBytes h.octets bytes)))
  where
    all : (values : Values) → AreShown values → IsBytes (octets_of_all values) → length (text_of_all values) ≤ 4 * length (octets_of_all values)
    all [] are bytes = omega arith
    all (v ∷ values) are bytes =
        let first = line_is_short v.0 v.1 are.0 (bytes_left v.1 (octets_of_all values) bytes) in
        let rest = all values are.1 (bytes_right v.1 (octets_of_all values) bytes) in
        omega (arith, first, rest, length-append (line_for v.0) (text_of_all values), length-append v.1 (octets_of_all values))
