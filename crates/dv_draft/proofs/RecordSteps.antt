-- The contents of a record, by what was read of them.
use Rattle.std.proofs.Common.{◌≡◌, ℕ, ◌≤◌, Result, Ok, Err, List, length, sym, ap, ◌∙◌}
use Rattle.dv_schema.specs.declared.refusal.Der.{Der}
use Rattle.dv_schema.specs.Fits.{Fits}
use Rattle.dv_schema.specs.Octets.{IsBytes}
use Rattle.dv_schema.specs.Reading.{Spot, ◌>>=◌, read_all}
use Rattle.dv_schema.specs.Schema.{ValueOf, spelling}
use Rattle.dv_schema.proofs.Decoding.{slice_takes}
use Rattle.dv_schema.proofs.Spellings.{fits_more}
use Rattle.dv_members.specs.Members.{front_of}
use Rattle.dv_draft.specs.declared.reading.ReadRecord.{ReadRecord}
use Rattle.dv_draft.specs.declared.reading.ReadRecord.TheVariants.{Der as Refused, Memory}
use Rattle.dv_draft.specs.Read.{TellsRefusal}
use Rattle.dv_draft.specs.Records.{list_at, record_in}
use Rattle.dv_draft.specs.Types.{draft}

-- the draft behind the certificates
then_draft : List (List ℕ) × Spot → Result (List (List ℕ) × ValueOf draft) Der
then_draft x = read_all draft x.1 >>= λ d. Ok (x.0, d)

-- contents, from their list on
from_list : (contents : List ℕ) (p : Spot) (r : Result (List (List ℕ) × Spot) Der) → p ≡ front_of contents → list_at p ≡ r → record_in contents ≡ (r >>= then_draft)
unfolding record_in then_draft
from_list contents p r is e = ap (λ (y : Result (List (List ℕ) × Spot) Der). y >>= then_draft) (ap list_at (sym is) ∙ e)

-- the certificates are refused
pub list_refused : (contents : List ℕ) (p : Spot) (r : ReadRecord) (d : Der) → p ≡ front_of contents → TellsRefusal r (list_at p) → r ≡ Refused d → record_in contents ≡ Err d
list_refused contents p (Refused e) d is told same =
    let one : e ≡ d = cc in
    from_list contents p (Err e) is told ∙ ap (λ (x : Der). Err x) one
list_refused contents p Memory d is told same = absurd cc

-- the draft is refused
pub draft_refused : (contents : List ℕ) (p q : Spot) (cs : List (List ℕ)) (d : Der) → p ≡ front_of contents → list_at p ≡ Ok (cs, q) → read_all draft q ≡ Err d → record_in contents ≡ Err d
unfolding then_draft
draft_refused contents p q cs d is list bad = from_list contents p (Ok (cs, q)) is list ∙ ap (λ (r : Result (ValueOf draft) Der). r >>= λ v. Ok (cs, v)) bad

-- both are read
pub record_found : (contents : List ℕ) (p q : Spot) (cs : List (List ℕ)) (v w : ValueOf draft) → p ≡ front_of contents → list_at p ≡ Ok (cs, q) → read_all draft q ≡ Ok v → w ≡ v → record_in contents ≡ Ok (cs, w)
unfolding then_draft
record_found contents p q cs v w is list good same =
    from_list contents p (Ok (cs, q)) is list ∙ ap (λ (r : Result (ValueOf draft) Der). r >>= λ x. Ok (cs, x)) good ∙ ap (λ (x : ValueOf draft). Ok (cs, x)) (sym same)

-- a draft that was read fits where the most levels are left
pub draft_fits : (q : Spot) (v : ValueOf draft) → IsBytes q.rest → q.levels ≤ 32 → read_all draft q ≡ Ok v → Fits draft 32 v
draft_fits q v bytes levels e = fits_more draft q.levels 32 v levels (slice_takes draft q v bytes e).0

-- and has as many octets as are left
pub draft_length : (q : Spot) (v : ValueOf draft) → IsBytes q.rest → read_all draft q ≡ Ok v → length (spelling draft v) ≡ length q.rest
draft_length q v bytes e = sym (ap length (slice_takes draft q v bytes e).1)
