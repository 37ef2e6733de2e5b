-- Drafts that are made of parts which have spellings have one.
use Rattle.std.proofs.Common.{◌≡◌, ◌≤◌, ◌<◌, ◌≢◌, ◌+◌, ◌/◌, ◌%◌, ◌++◌, ◌∷◌, ◌∙◌, cond, is_some, ℕ, Bool, true, false, Option, Some, None, List, [], length, inl, refl, sym, ap, subst, eq-eqb, arith}
use Rattle.std.specs.Prelude.{IfSome}
use Rattle.std.specs.Option.{ForSome}
use Rattle.std.proofs.lemmas.List.{append-nil, length-append}
use Rattle.std.proofs.Math.Logic.{∥∥₁_elim, ∥∥₁_prop}
use Rattle.dv_schema.specs.Octets.{same_octets}
use Rattle.dv_schema.specs.Schema.{ValueOf, contents, spelled_if, spelling}
use Rattle.dv_schema.specs.Fits.{Fits}
use Rattle.dv_schema.specs.Reading.{read_all}
use Rattle.dv_schema.specs.Tlv.{tlv}
use Rattle.dv_schema.specs.Types.{any, list_of}
use Rattle.dv_schema.proofs.Decoding.{slice_spelled}
use Rattle.dv_schema.proofs.Spellings.{fits_more}
use Rattle.dv_time.specs.Text.{last_second}
use Rattle.dv_time.specs.Views.{view_moment}
use Rattle.dv_time.proofs.TimeLemmas.{moment_fits}
use Rattle.dv_names.specs.declared.digest.DigestKind.{DigestKind}
use Rattle.dv_names.specs.declared.digest.DigestKind.TheVariants.{Sha256, Sha384, Sha512}
use Rattle.dv_names.specs.declared.identifiers.TheConstants.{SHA_256, SHA_384, SHA_512}
use Rattle.dv_names.specs.Digest.{is_none_or_null, kind_named, kind_of, length_of}
use Rattle.dv_names.specs.Types.{algorithm_identifier, digest_info}
use Rattle.dv_members.specs.Members.{front_of}
use Rattle.dv_request.specs.Types.{request_information, target_chains}
use Rattle.dv_request.proofs.MessageLemmas.{octets_few}
use Rattle.dv_cms.specs.Types.{signer_info}
use Rattle.dv_x509.proofs.Algorithms.{same_is}
use Rattle.dv_x509.proofs.OwnLemmas.{length-tlv, small_size}
use Rattle.dv_draft.specs.declared.imprint.Imprint.{Imprint}
use Rattle.dv_draft.specs.CertInfo.{after_serial, before_serial}
use Rattle.dv_draft.specs.Parts.{draft_of, identifier_of, imprint_of, view_imprint}
use Rattle.dv_draft.specs.Servers.{IsPolicyName}
use Rattle.dv_draft.specs.Types.{draft, draft_fields, has_length, imprint, is_known, kept_policy, plain_status}
use Rattle.dv_draft.proofs.DraftLemmas.{fields_size, later_size}

-- ---- imprints

-- the parameters NULL, or none
abbrev pub null_if : Bool → Option (List ℕ)
null_if b = cond b (Some (5 ∷ 0 ∷ [])) None

parameters_fit : (b : Bool) → IfSome (null_if b) (Fits any 28)
parameters_fit false = tt
parameters_fit true =
    let low : 5 % 32 ≢ 31 = λ e. omega arith in
    let primitive : 5 / 32 % 2 ≢ 1 = λ e. omega arith in
    ((5, [], refl, low, refl, omega arith, inl (primitive, refl)), refl)

algorithm_fits : (k : DigestKind) (b : Bool) → Fits algorithm_identifier 29 (identifier_of k, (null_if b, tt))
algorithm_fits Sha256 false = (omega arith, omega arith, ((omega arith, omega arith, refl), (tt, tt)))
algorithm_fits Sha256 true = (omega arith, omega arith, ((omega arith, omega arith, refl), (parameters_fit true, tt)))
algorithm_fits Sha384 false = (omega arith, omega arith, ((omega arith, omega arith, refl), (tt, tt)))
algorithm_fits Sha384 true = (omega arith, omega arith, ((omega arith, omega arith, refl), (parameters_fit true, tt)))
algorithm_fits Sha512 false = (omega arith, omega arith, ((omega arith, omega arith, refl), (tt, tt)))
algorithm_fits Sha512 true = (omega arith, omega arith, ((omega arith, omega arith, refl), (parameters_fit true, tt)))

algorithm_few : (k : DigestKind) (b : Bool) → length (spelling algorithm_identifier (identifier_of k, (null_if b, tt))) ≤ 15
algorithm_few Sha256 false = omega arith
algorithm_few Sha256 true = omega arith
algorithm_few Sha384 false = omega arith
algorithm_few Sha384 true = omega arith
algorithm_few Sha512 false = omega arith
algorithm_few Sha512 true = omega arith

length_few : (k : DigestKind) → length_of k ≤ 64
length_few Sha256 = omega arith
length_few Sha384 = omega arith
length_few Sha512 = omega arith

-- the algorithm is the one that it names
names_kind : (k : DigestKind) (b : Bool) → kind_of (identifier_of k, (null_if b, tt)) ≡ Some k
names_kind Sha256 false = refl
names_kind Sha256 true = refl
names_kind Sha384 false = refl
names_kind Sha384 true = refl
names_kind Sha512 false = refl
names_kind Sha512 true = refl

-- the DigestInfo of a digest of its algorithm's length
info_few : (k : DigestKind) (b : Bool) (digest : List ℕ) → length digest ≡ length_of k → length (spelling digest_info (imprint_of k b digest)) ≤ 83
info_few k b digest size =
    let few = length_few k in
    let a : List ℕ = spelling algorithm_identifier (identifier_of k, (null_if b, tt)) in
    let s : List ℕ = tlv 4 digest in
    let front = algorithm_few k b in
    let string = small_size 4 (length digest) digest refl (omega arith) in
    let inside : length (a ++ (s ++ [])) ≤ 81 = omega (arith, front, string, few, length-append a (s ++ []), length-append s []) in
    let whole = small_size 48 (length (a ++ (s ++ []))) (a ++ (s ++ [])) refl (omega arith) in
    omega (arith, inside, whole)

info_fits : (k : DigestKind) (b : Bool) (digest : List ℕ) → length digest ≡ length_of k → Fits digest_info 30 (imprint_of k b digest)
info_fits k b digest size =
    let few = length_few k in
    let all = info_few k b digest size in
    let a : List ℕ = spelling algorithm_identifier (identifier_of k, (null_if b, tt)) in
    (omega arith, omega (arith, all, length-tlv 48 (a ++ (tlv 4 digest ++ []))), (algorithm_fits k b, ((omega arith, omega arith, refl), tt)))

-- it is known
pub imprint_fits : (k : DigestKind) (b : Bool) (digest : List ℕ) → length digest ≡ length_of k → Fits imprint 31 (imprint_of k b digest)
imprint_fits k b digest size =
    let v : ValueOf digest_info = imprint_of k b digest in
    let f = info_fits k b digest size in
    let whole = fits_more digest_info 30 32 v (omega arith) f in
    let read = slice_spelled digest_info (front_of (spelling digest_info v)) v refl whole refl in
    let long : has_length (Some k) digest ≡ true = eq-eqb (length digest) (length_of k) size in
    let known : is_known (read_all digest_info (front_of (spelling digest_info v))) ≡ true = ap is_known read ∙ (ap (λ (o : Option DigestKind). has_length o digest) (names_kind k b) ∙ long) in
    (fits_more digest_info 30 31 v (omega arith) f, known)

pub imprint_few : (k : DigestKind) (b : Bool) (digest : List ℕ) → length digest ≡ length_of k → length (spelling imprint (imprint_of k b digest)) ≤ 83
imprint_few = info_few

-- ---- policies

-- an identifier alone is the contents of a policy
pub policy_fits : (c : List ℕ) → IsPolicyName c → ∥ Fits kept_policy 31 c ∥₁
policy_fits c h =
    ∥∥₁_elim h.1 ∥∥₁_prop (λ k.
    let short : length k.0 < 18446744073709551616 = omega (arith, h.0, ap length k.2, length-tlv 6 k.0) in
    ∣ (omega arith, omega (arith, h.0), ((k.0, (None, tt)), k.2 ∙ sym (append-nil (tlv 6 k.0)), ((omega arith, short, k.1), (tt, tt)))) ∣₁)

-- what is there merely fits
pub merely_if : {A : Type 0} (P : A → Type 0) (o : Option A) → ((x : A) → o ≡ Some x → ∥ P x ∥₁) → ∥ IfSome o P ∥₁
merely_if P None h = ∣ tt ∣₁
merely_if P (Some x) h = h x refl

-- ---- drafts

-- a draft whose parts fit
pub draft_fits : (info : ValueOf request_information) (i : ValueOf imprint) (time : ℕ) (status : Option (ValueOf plain_status)) (policy signers certs : Option (List ℕ))
    → Fits request_information 31 info → Fits imprint 31 i → time ≤ last_second → IfSome status (Fits plain_status 31) → IfSome policy (Fits kept_policy 31)
    → IfSome signers (Fits (list_of 162 false signer_info) 31) → IfSome certs (Fits (target_chains 163) 31)
    → length (spelling draft (spelling request_information info, (i, (view_moment time, (status, (policy, (signers, (certs, tt)))))))) < 18446744073709551616
    → Fits draft 32 (spelling request_information info, (i, (view_moment time, (status, (policy, (signers, (certs, tt)))))))
draft_fits info i time status policy signers certs f g t s p r q short =
    let d : ValueOf draft = (spelling request_information info, (i, (view_moment time, (status, (policy, (signers, (certs, tt))))))) in
    (omega arith, omega (arith, short, length-tlv 48 (contents draft_fields d)), ((info, refl, f), (g, (moment_fits time 31 t (omega arith), (s, (p, (r, (q, tt))))))))

-- a value has at most ten octets more than its contents
value_few : (tag : ℕ) (c : List ℕ) → length c < 18446744073709551616 → length (tlv tag c) ≤ length c + 10
value_few tag c lt = omega (arith, octets_few (length c) lt, length-tlv tag c)

policy_few : (o : Option (List ℕ)) → ForSome o IsPolicyName → length (spelled_if (tlv 161) o) ≤ 2058
policy_few None h = omega arith
policy_few (Some c) h = let short : length c ≤ 2048 = (h c refl).0 in omega (arith, short, value_few 161 c (omega arith))

signers_few : (o : Option (List ℕ)) → IfSome o (λ c. ∥ Fits (list_of 162 false signer_info) 31 c ∥₁ × (length c < 4294967296)) → length (spelled_if (tlv 162) o) ≤ 4294967306
signers_few None h = omega arith
signers_few (Some c) h = omega (arith, h.1, value_few 162 c (omega arith))

signers_fit : (o : Option (List ℕ)) → IfSome o (λ c. ∥ Fits (list_of 162 false signer_info) 31 c ∥₁ × (length c < 4294967296)) → ∥ IfSome o (Fits (list_of 162 false signer_info) 31) ∥₁
signers_fit None h = ∣ tt ∣₁
signers_fit (Some c) h = h.0

-- A draft with neither a status nor targets, whose information is the octets of a value that fits, whose policy is a server's, and whose
-- signers are a SET OF SignerInfo.
module _ (info : ValueOf request_information) (octets : List ℕ) (i : Imprint) (time : ℕ) (policy signers : Option (List ℕ)) (same : octets ≡ spelling request_information info) (few : length octets < 4294967296)
    (named : ForSome policy IsPolicyName) (signed : IfSome signers (λ c. ∥ Fits (list_of 162 false signer_info) 31 c ∥₁ × (length c < 4294967296))) where
  pub plain_short : length (spelling draft (draft_of octets i time None policy signers None)) < 9223372036854775808
  plain_short =
      let d : ValueOf draft = draft_of octets i time None policy signers None in
      let fields : ℕ = length (before_serial d) + length (after_serial d) in
      let a = imprint_few i.kind i.with_null i.digest i.sized in
      let b = length-append octets (spelling imprint (view_imprint i)) in
      let e = later_size time None policy signers None in
      let p = policy_few policy named in
      let r = signers_few signers signed in
      let inside : length (contents draft_fields d) < 18446744073709551616 = omega (arith, few, a, b, e, p, r, fields_size d) in
      omega (arith, few, a, b, e, p, r, fields_size d, value_few 48 (contents draft_fields d) inside)

  pub plain_fits : ∥ Fits request_information 31 info ∥₁ → time ≤ last_second → ∥ Fits draft 32 (draft_of octets i time None policy signers None) ∥₁
  plain_fits fits within =
      let short = plain_short in
      let made : Fits request_information 31 info → IfSome policy (Fits kept_policy 31) → IfSome signers (Fits (list_of 162 false signer_info) 31) → Fits draft 32 (draft_of octets i time None policy signers None) = λ f p r.
      (let shorter : length (spelling draft (draft_of (spelling request_information info) i time None policy signers None)) < 18446744073709551616 = subst (λ (o : List ℕ). length (spelling draft (draft_of o i time None policy signers None)) < 18446744073709551616) same (omega (arith, short)) in
      subst (λ (o : List ℕ). Fits draft 32 (draft_of o i time None policy signers None)) (sym same)
      (draft_fits info (view_imprint i) time None policy signers None f (imprint_fits i.kind i.with_null i.digest i.sized) within tt p r tt shorter)) in
      let policies = merely_if (Fits kept_policy 31) policy (λ x e. policy_fits x (named x e)) in
      ∥∥₁_elim fits ∥∥₁_prop (λ f. ∥∥₁_elim policies ∥∥₁_prop (λ p. ∥∥₁_elim (signers_fit signers signed) ∥∥₁_prop (λ r. ∣ made f p r ∣₁)))

-- ---- claims

-- the parameters of a known algorithm are NULL or absent
parameters_are : (o : Option (List ℕ)) → is_none_or_null o ≡ true → o ≡ null_if (is_some o)
parameters_are None e = refl
parameters_are (Some p) e = ap Some (same_is p (5 ∷ 0 ∷ []) e)

-- and its identifier is the kind's
named_so : (id : List ℕ) (k : DigestKind) (a b c : Bool) → same_octets id SHA_256 ≡ a → same_octets id SHA_384 ≡ b → same_octets id SHA_512 ≡ c
    → cond a (Some Sha256) (cond b (Some Sha384) (cond c (Some Sha512) None)) ≡ Some k → id ≡ identifier_of k
named_so id k true b c e f g h = let is : Sha256 ≡ k = cc in same_is id SHA_256 e ∙ ap identifier_of is
named_so id k false true c e f g h = let is : Sha384 ≡ k = cc in same_is id SHA_384 f ∙ ap identifier_of is
named_so id k false false true e f g h = let is : Sha512 ≡ k = cc in same_is id SHA_512 g ∙ ap identifier_of is
named_so id k false false false e f g h = absurd cc

kind_parts : (id : List ℕ) (o : Option (List ℕ)) (k : DigestKind) (t : Bool) → is_none_or_null o ≡ t → cond t (kind_named id) None ≡ Some k → (t ≡ true) × (kind_named id ≡ Some k)
kind_parts id o k true e h = (refl, h)
kind_parts id o k false e h = absurd cc

-- so a DigestInfo of a known algorithm is that of an imprint
pub imprint_is : (id : List ℕ) (o : Option (List ℕ)) (digest : List ℕ) (k : DigestKind) → kind_of (id, (o, tt)) ≡ Some k → ◌≡◌ {A = ValueOf digest_info} (imprint_of k (is_some o) digest) ((id, (o, tt)), (digest, tt))
imprint_is id o digest k e =
    let parts = kind_parts id o k (is_none_or_null o) refl e in
    let p = parameters_are o parts.0 in
    let n = named_so id k _ _ _ refl refl refl parts.1 in
    sym (ap (λ (x : List ℕ). ((x, (o, tt)), (digest, tt))) n ∙ ap (λ (x : Option (List ℕ)). ((identifier_of k, (x, tt)), (digest, tt))) p)
