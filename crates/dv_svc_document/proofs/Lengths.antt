-- How many octets the parts of a draft have that are found of a document.
use Rattle.std.proofs.Common.{◌≡◌, ◌≤◌, ◌*◌, ℕ, Bool, true, false, cond, Option, Some, None, List, [], ◌∷◌, length, arith}
use Rattle.std.specs.Prelude.{unwrap_or}
use Rattle.std.specs.List.{list_all, list_any}
use Rattle.dv_schema.specs.Schema.{ValueOf, spelling}
use Rattle.dv_cms.specs.Types.{signed_data}
use Rattle.dv_draft.specs.Parts.{status_of}
use Rattle.dv_draft.specs.Types.{plain_status}
use Rattle.dv_path.specs.Anchors.{Anchored}
use Rattle.dv_parts.proofs.DraftLemmas.{status_few}
use Rattle.dv_signed.specs.Certificates.{certificates_of, signers_of}
use Rattle.dv_svc_document.specs.declared.result.SignerResult.{SignerResult}
use Rattle.dv_svc_document.specs.Documents.{IsReadAs}
use Rattle.dv_svc_document.specs.Drafts.{AreResults, entries_in, is_good, status_from, status_in}
use Rattle.dv_svc_document.proofs.FoundLemmas.{all_few, results_fit}

-- ---- the status

chosen_few : (a b : Bool) (bit : Option ℕ) → length (spelling plain_status (cond a (status_of 0 None) (cond b (status_of 1 None) (status_of 2 bit)))) ≤ 44
chosen_few true b bit = status_few 0 None (omega arith)
chosen_few false true bit = status_few 1 None (omega arith)
chosen_few false false bit = status_few 2 bit (omega arith)

from_few : (rs : List SignerResult) → length (spelling plain_status (status_from rs)) ≤ 44
from_few [] = status_few 2 (Some 1) (omega arith)
from_few (r ∷ rs) = chosen_few (list_all is_good (r ∷ rs)) (list_any is_good (r ∷ rs)) r.bit

pub statuses_few : (document : Option (ValueOf signed_data)) (rs : List SignerResult) → length (spelling plain_status (status_in document rs)) ≤ 44
statuses_few None rs = status_few 2 (Some 5) (omega arith)
statuses_few (Some document) rs = from_few rs

-- ---- the entries

-- those of a document with at most 8 signers
pub entries_few : (message : List ℕ) (document : Option (ValueOf signed_data)) (anchors : List Anchored) (when : ℕ) (rs : List SignerResult) → IsReadAs message document → AreResults document anchors when rs
    → length (unwrap_or (entries_in document rs) []) ≤ 393728
entries_few message None anchors when rs read right = omega arith
entries_few message (Some document) anchors when [] read right = omega arith
entries_few message (Some document) anchors when (r ∷ rs) read right =
    let fit = results_fit document anchors when (signers_of document) (r ∷ rs) right in
    let few = all_few (certificates_of document) (r ∷ rs) read.1.certificates.decoded fit in
    omega (arith, few, right.one_each, read.1.signers)
