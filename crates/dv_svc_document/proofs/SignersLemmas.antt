-- Going over the signers of a document.
use Rattle.std.proofs.Common.{◌≡◌, ◌≤◌, ◌<◌, ◌+◌, ◌*◌, ◌++◌, ◌∷◌, ◌∙◌, ℕ, suc, Some, List, [], length, map, take, refl, sym, ap, subst, arith}
use Rattle.std.specs.Prelude.{All, slice_get}
use Rattle.std.specs.List.{zip}
use Rattle.std.proofs.lemmas.List.{length-append, length-map}
use Rattle.std.proofs.lemmas.List.Elements.{All-append}
use Rattle.std.proofs.Math.Nat.{mul-le-mul_right}
use Rattle.dv_schema.specs.Schema.{FieldsOf, ValueOf}
use Rattle.dv_cms.specs.Types.{signed_data, signer_info}
use Rattle.dv_x509.specs.Types.{certificate_fields}
use Rattle.dv_path.specs.Anchors.{Anchored}
use Rattle.dv_path.specs.Members.{member_of}
use Rattle.dv_signed.specs.Certificates.{certificates_of, signers_of}
use Rattle.dv_parts.proofs.Elements.{all_one, take_one}
use Rattle.dv_svc_document.specs.declared.result.SignerResult.{SignerResult}
use Rattle.dv_svc_document.specs.Bags.{bag_of}
use Rattle.dv_svc_document.specs.Results.{HaveResults, IsResult}

-- one pair more
zip-append : {A B : Type 0} (xs : List A) (ys : List B) (x : A) (y : B) → length ys ≡ length xs → zip (xs ++ x ∷ []) (ys ++ y ∷ []) ≡ zip xs ys ++ (x, y) ∷ []
zip-append [] [] x y same = refl
zip-append [] (b ∷ bs) x y same = absurd (omega arith)
zip-append (a ∷ as') [] x y same = absurd (omega arith)
zip-append (a ∷ as') (b ∷ bs) x y same = ap (λ l. (a, b) ∷ l) (zip-append as' bs x y (omega arith))

-- one result more
pub result_more : (document : ValueOf signed_data) (anchors : List Anchored) (when i : ℕ) (signers : List (ValueOf signer_info)) (old new : List SignerResult) (s : ValueOf signer_info) (r : SignerResult) → HaveResults document anchors when (take i signers) old
    → slice_get signers i ≡ Some s → IsResult document anchors when s r → new ≡ old ++ r ∷ [] → HaveResults document anchors when (take (suc i) signers) new
result_more document anchors when i signers old new s r have at is more =
    let IsRight : ValueOf signer_info × SignerResult → Type 0 = λ x. IsResult document anchors when x.0 x.1 in
    let one = take_one signers i s at in
    let pairs = ap (zip (take i signers ++ s ∷ [])) more ∙ zip-append (take i signers) old s r have.one_each in
    let all = All-append IsRight (zip (take i signers) old) ((s, r) ∷ []) have.right (all_one IsRight (s, r) is) in
    record {
      one_each = omega (arith, ap length more, length-append old (r ∷ []), ap length one, length-append (take i signers) (s ∷ []), have.one_each);
      right = subst (All IsRight) (sym (ap (λ l. zip l new) one ∙ pairs)) all;
    }

-- ---- how many signatures are verified

-- those for one signer, by the bag
one_signer : (document : ValueOf signed_data) (bag : List (FieldsOf certificate_fields)) → bag ≡ bag_of document → length bag ≡ length (certificates_of document)
one_signer document bag same = ap length same ∙ length-map (certificates_of document) (member_of 48)

-- for one signer more, where there are so many for each
abbrev pub checks_for : ValueOf signed_data → ℕ → ℕ
checks_for document anchors = let n = length (certificates_of document) in n * (n + anchors) + 1

pub checks_more : (document : ValueOf signed_data) (bag : List (FieldsOf certificate_fields)) (anchors i first old new : ℕ) → bag ≡ bag_of document → old ≤ first + i * checks_for document anchors
    → new ≤ old + (length bag * (length bag + anchors) + 1) → new ≤ first + (i + 1) * checks_for document anchors
checks_more document bag anchors i first old new same before step =
    let n : ℕ = length (certificates_of document) in
    let each : length bag * (length bag + anchors) + 1 ≡ n * (n + anchors) + 1 = ap (λ k. k * (k + anchors) + 1) (one_signer document bag same) in
    let k : ℕ = n * (n + anchors) + 1 in
    let less : new ≤ first + (i + 1) * k = go k (omega (arith, step, each)) before in
    less
  where
    go : (k : ℕ) → new ≤ old + k → old ≤ first + i * k → new ≤ first + (i + 1) * k
    go k a b = omega arith

-- at most for all signers
pub checks_within : (document : ValueOf signed_data) (anchors i first new : ℕ) → i < length (signers_of document) → new ≤ first + (i + 1) * checks_for document anchors → new ≤ first + length (signers_of document) * checks_for document anchors
checks_within document anchors i first new lt less =
    let le : i + 1 ≤ length (signers_of document) = omega arith in
    omega (arith, less, mul-le-mul_right (checks_for document anchors) le)
