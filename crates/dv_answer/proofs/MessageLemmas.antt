-- A message has one content.
use Rattle.std.proofs.Common.{◌≡◌, ◌≢◌, ◌∙◌, ℕ, Option, Some, None, List, refl, sym, ap, subst}
use Rattle.dv_schema.specs.Schema.{ValueOf, spelling}
use Rattle.dv_schema.specs.Fits.{Fits}
use Rattle.dv_schema.proofs.Spellings.{one_spelling}
use Rattle.dv_cms.specs.Types.{content_info, signed_data, signed_data_type}
use Rattle.dv_signed.specs.Fields.{content_of}
use Rattle.dv_signed.specs.Messages.{IsSignedMessage}
use Rattle.dv_request.specs.Request.{request_data_type}
use Rattle.dv_request.specs.Types.{dvcs_request}
use Rattle.dv_svc_document.proofs.DocumentLemmas.{one_document}
use Rattle.dv_answer.specs.Messages.{IsInfoOf, IsMessageOf, IsRequestMessage, IsSignedContent}

-- a ContentInfo as the value of its schema
abbrev pub info_of : List ℕ → List ℕ → ValueOf content_info
info_of type content = (type, ((content, tt), tt))

-- octets are a ContentInfo of one type and one content
same_info : (octets type content other inside : List ℕ) → IsInfoOf type content octets → IsInfoOf other inside octets → info_of type content ≡ info_of other inside
same_info octets type content other inside x y = one_spelling content_info 32 32 (info_of type content) (info_of other inside) refl x.0 y.0 (sym x.1 ∙ y.1)

-- what holds a SignedData is of its type
abbrev pub signed_info : (document : ValueOf signed_data) (octets : List ℕ) → IsSignedMessage document octets → IsInfoOf signed_data_type (spelling signed_data document) octets
signed_info document octets is = (is.1, is.2)

-- the type of a message is one of the two
pub other_type : (octets type content : List ℕ) → IsInfoOf type content octets → type ≢ request_data_type → type ≢ signed_data_type → (document : Option (ValueOf signed_data)) (inside : List ℕ) → ¬ IsMessageOf document inside octets
other_type octets type content info not_request not_signed None inside is =
    not_request (ap (λ (i : ValueOf content_info). i.0) (same_info octets type content request_data_type inside info is))
other_type octets type content info not_request not_signed (Some document) inside is =
    not_signed (ap (λ (i : ValueOf content_info). i.0) (same_info octets type content signed_data_type (spelling signed_data document) info (signed_info document octets is.0)))

-- an unsigned message isn't signed
not_both : (octets content : List ℕ) (document : ValueOf signed_data) → IsInfoOf request_data_type content octets → IsSignedMessage document octets → ⊥
not_both octets content document x y =
    let same = ap (λ (i : ValueOf content_info). i.0) (same_info octets request_data_type content signed_data_type (spelling signed_data document) x (signed_info document octets y)) in
    absurd cc

-- a message has one content, and one SignedData where it is signed
pub one_message : (octets : List ℕ) (d e : Option (ValueOf signed_data)) (x y : List ℕ) → IsMessageOf d x octets → IsMessageOf e y octets → (d ≡ e) × (x ≡ y)
one_message octets None None x y p q = (refl, ap (λ (i : ValueOf content_info). i.1.0.0) (same_info octets request_data_type x request_data_type y p q))
one_message octets None (Some e) x y p q = absurd (not_both octets x e p q.0)
one_message octets (Some d) None x y p q = absurd (not_both octets y d q p.0)
one_message octets (Some d) (Some e) x y p q =
    let same : d ≡ e = one_document octets d e p.0 q.0 in
    let held : Some x ≡ Some y = sym p.1.holds ∙ ap content_of same ∙ q.1.holds in
    (ap Some same, cc)

-- and one request
pub one_request : (octets : List ℕ) (d e : Option (ValueOf signed_data)) (v w : ValueOf dvcs_request) → IsRequestMessage d v octets → IsRequestMessage e w octets → (d ≡ e) × (v ≡ w)
one_request octets d e v w p q =
    let same = one_message octets d e (spelling dvcs_request v) (spelling dvcs_request w) p.1 q.1 in
    (same.0, one_spelling dvcs_request 30 30 v w refl p.0 q.0 same.1)

-- ---- signed requests, by what decoding the content answers

-- the content of a signed message is its SignedData
its_content : (octets content : List ℕ) (document : ValueOf signed_data) → IsInfoOf signed_data_type content octets → IsSignedMessage document octets → content ≡ spelling signed_data document
its_content octets content document info is =
    ap (λ (i : ValueOf content_info). i.1.0.0) (same_info octets signed_data_type content signed_data_type (spelling signed_data document) info (signed_info document octets is))

-- it is none where the content is no SignedData
pub no_signed_data : (octets content : List ℕ) → IsInfoOf signed_data_type content octets → ((document : ValueOf signed_data) → Fits signed_data 32 document → content ≡ spelling signed_data document → ⊥)
    → (document : ValueOf signed_data) (inside : List ℕ) → ¬ IsMessageOf (Some document) inside octets
no_signed_data octets content info none document inside is = none document is.0.0 (its_content octets content document info is.0)

module _ (octets content : List ℕ) (signed : ValueOf signed_data) (info : IsInfoOf signed_data_type content octets) (fits : Fits signed_data 32 signed) (spelled : content ≡ spelling signed_data signed) where
  -- the message is that of the SignedData that was decoded
  its_message : IsSignedMessage signed octets
  its_message = let at = subst (λ (c : List ℕ). IsInfoOf signed_data_type c octets) spelled info in (fits, at.0, at.1)

  -- which is that of a request
  pub signed_request : (inside : List ℕ) → IsSignedContent signed inside → IsMessageOf (Some signed) inside octets
  signed_request inside is = (its_message, is)

  -- or isn't
  pub no_signed_request : ((inside : List ℕ) → ¬ IsSignedContent signed inside) → (document : ValueOf signed_data) (inside : List ℕ) → ¬ IsMessageOf (Some document) inside octets
  no_signed_request none document inside is =
      let same : document ≡ signed = one_document octets document signed is.0 its_message in
      none inside (subst (λ (d : ValueOf signed_data). IsSignedContent d inside) same is.1)

-- a message of type id-signedData is no unsigned one
pub signed_alone : (octets content : List ℕ) → IsInfoOf signed_data_type content octets → ((document : ValueOf signed_data) (inside : List ℕ) → ¬ IsMessageOf (Some document) inside octets)
    → (document : Option (ValueOf signed_data)) (inside : List ℕ) → ¬ IsMessageOf document inside octets
signed_alone octets content info none None inside is =
    let same = ap (λ (i : ValueOf content_info). i.0) (same_info octets signed_data_type content request_data_type inside info is) in
    absurd cc
signed_alone octets content info none (Some document) inside is = none document inside is
