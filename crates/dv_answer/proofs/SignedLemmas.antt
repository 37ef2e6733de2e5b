-- The SignedData of a request: its content and its signers.
use Rattle.std.proofs.Common.{◌≡◌, ◌≤◌, ◌<◌, ◌+◌, ◌++◌, ◌∙◌, ℕ, false, Result, Ok, Err, Option, Some, None, List, [], length, refl, sym, ap, subst, arith}
use Rattle.std.specs.Borrow.{Bor}
use Rattle.std.specs.Option.{option_copied}
use Rattle.std.specs.Prelude.{IfOk, IsSome, MatchOption, option_map}
use Rattle.std.specs.declared.alloc.AllocError.{AllocError}
use Rattle.std.proofs.Math.Logic.{∥∥₁_map}
use Rattle.std.proofs.lemmas.List.{length-append, length-map}
use Rattle.dv_schema.specs.Schema.{ValueOf, contents, spelled_if, spelling}
use Rattle.dv_schema.specs.Types.{any, explicit, list_of, octet_string}
use Rattle.dv_schema.specs.Tlv.{tlv}
use Rattle.dv_schema.specs.Fits.{Fits}
use Rattle.dv_schema.specs.Decodes.{HasSpelling}
use Rattle.dv_cms.specs.Types.{certificate_choice, encapsulated, signed_data, signed_data_type, signed_fields, signed_version, signer_info}
use Rattle.dv_x509.proofs.OwnLemmas.{length-tlv}
use Rattle.dv_draft.specs.Signers.{AreSigners}
use Rattle.dv_path.specs.Members.{member_of}
use Rattle.dv_signed.specs.declared.signed_data.SignedData.{SignedData}
use Rattle.dv_signed.specs.Certificates.{certificates_of}
use Rattle.dv_signed.specs.Fields.{content_of, signer_set_of}
use Rattle.dv_signed.specs.SignedView.{view_signed}
use Rattle.dv_answer.specs.declared.signed.Signatures.{Signatures}
use Rattle.dv_answer.specs.Messages.{IsInfoOf, IsMessageOf, IsSignedContent}
use Rattle.dv_answer.proofs.MessageLemmas.{no_signed_request, signed_request}

-- ---- its content

-- where there are octets, the value has them
pub is_there : (o : Option (Bor (List ℕ))) (held : Bor (List ℕ)) → o ≡ Some held → IsSome (option_map (λ (c : List ℕ × Unit {0}). c.0) (option_map (λ (c : List ℕ). (c, tt)) (option_copied o)))
    × (option_map (λ (c : List ℕ × Unit {0}). c.0) (option_map (λ (c : List ℕ). (c, tt)) (option_copied o)) ≡ Some held.now)
is_there None held is = absurd cc
is_there (Some octets) held is = let same : octets ≡ held = cc in (refl, ap (λ (b : Bor (List ℕ)). Some b.now) same)

-- such octets are no more than those of the value that holds them
content_few : (o : Option (List ℕ × Unit {0})) (octets : List ℕ) → option_map (λ (c : List ℕ × Unit {0}). c.0) o ≡ Some octets → length octets ≤ length (spelled_if (spelling (explicit 160 octet_string)) o)
content_few None octets is = absurd cc
content_few (Some c) octets is =
    let same : c.0 ≡ octets = cc in
    omega (arith, ap length same, length-tlv 4 c.0, length-append (tlv 4 c.0) [], length-tlv 160 (tlv 4 c.0 ++ []))

-- ---- the octets of its parts

-- those of the encapsulated content, and of the signers, are no more than its own
parts_few : (v : ValueOf signed_data) → length (spelling encapsulated v.1.1.0) + length (signer_set_of v) ≤ length (spelling signed_data v)
parts_few v =
    let a : List ℕ = spelling signed_version v.0 in
    let b : List ℕ = tlv 49 v.1.0 in
    let c : List ℕ = spelling encapsulated v.1.1.0 in
    let d : List ℕ = spelled_if (spelling (list_of 160 false certificate_choice)) v.1.1.1.0 in
    let e : List ℕ = spelled_if (spelling (list_of 161 false any)) v.1.1.1.1.0 in
    let f : List ℕ = tlv 49 (signer_set_of v) in
    omega (
      arith,
      length-tlv 48 (contents signed_fields v),
      length-append a (b ++ (c ++ (d ++ (e ++ (f ++ []))))),
      length-append b (c ++ (d ++ (e ++ (f ++ [])))),
      length-append c (d ++ (e ++ (f ++ []))),
      length-append d (e ++ (f ++ [])),
      length-append e (f ++ []),
      length-append f [],
      length-tlv 49 (signer_set_of v),
    )

-- so those of its content and of its signers are fewer than it has
pub content_short : (v : ValueOf signed_data) (octets : List ℕ) → content_of v ≡ Some octets → length octets + length (signer_set_of v) ≤ length (spelling signed_data v)
content_short v octets is =
    let type : List ℕ = tlv 6 v.1.1.0.0 in
    let held : List ℕ = spelled_if (spelling (explicit 160 octet_string)) v.1.1.0.1.0 in
    omega (
      arith,
      parts_few v,
      content_few v.1.1.0.1.0 octets is,
      length-tlv 48 (type ++ (held ++ [])),
      length-append type (held ++ []),
      length-append held [],
    )

-- ---- its signers

signers_fit : (v : ValueOf signed_data) → HasSpelling signed_data v → Fits (list_of 162 false signer_info) 31 (signer_set_of v)
unfolding HasSpelling
signers_fit v h = h.0.2.1.1.1.1.1.0

-- they are those of a draft
pub are_signers : (v : ValueOf signed_data) → ∥ HasSpelling signed_data v ∥₁ → length (spelling signed_data v) < 4294967296 → AreSigners (signer_set_of v)
are_signers v spelled short = (∥∥₁_map spelled (signers_fit v), omega (arith, short, parts_few v))

-- ---- signed requests

-- what is read of a SignedData is read of its message
pub request_in : (octets content : List ℕ) (signed : SignedData) (r : Result (Option Signatures) AllocError) → IsInfoOf signed_data_type content octets → Fits signed_data 32 (view_signed signed)
    → content ≡ spelling signed_data (view_signed signed)
    → IfOk r (λ o. MatchOption o ((inside : List ℕ) → ¬ IsSignedContent (view_signed signed) inside) (λ s. view_signed s.signed ≡ view_signed signed))
    → IfOk r (λ o. MatchOption o ((document : ValueOf signed_data) (inside : List ℕ) → ¬ IsMessageOf (Some document) inside octets) (λ s. IsMessageOf (Some (view_signed s.signed)) s.content.now octets))
request_in octets content signed (Err e) info fits spelled read = tt
request_in octets content signed (Ok None) info fits spelled read = no_signed_request octets content (view_signed signed) info fits spelled read
request_in octets content signed (Ok (Some s)) info fits spelled read =
    let message = signed_request octets content (view_signed signed) info fits spelled s.content.now (subst (λ (d : ValueOf signed_data). IsSignedContent d s.content.now) read s.held) in
    subst (λ (d : ValueOf signed_data). IsMessageOf (Some d) s.content.now octets) (sym read) message

-- the bag has all of their certificates
pub bag_size : (s : Signatures) → length s.bag ≡ length (certificates_of (view_signed s.signed))
bag_size s = ap length s.bagged ∙ length-map (certificates_of (view_signed s.signed)) (member_of 48)
