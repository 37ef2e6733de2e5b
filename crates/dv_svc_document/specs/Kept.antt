-- What the code keeps of the signers of a document and of their entries.
use Rattle.std.specs.Prelude.{◌≤◌, ◌<◌, ℕ, All, List, length}
use Rattle.std.specs.List.{flat_map}
use Rattle.std.specs.Option.{ForSome, option_copied}
use Rattle.dv_schema.specs.Schema.{ValueOf, spelling}
use Rattle.dv_request.specs.Types.{target_chain}
use Rattle.dv_path.specs.Rows.{octets_of}
use Rattle.dv_svc_document.specs.declared.entry.Entry.{Entry}
use Rattle.dv_svc_document.specs.declared.result.SignerResult.{SignerResult}
use Rattle.dv_svc_document.specs.Entries.{entry_with, positions_of}

-- an entry as a value of its schema
abbrev pub entry_in : Entry → ValueOf target_chain
entry_in e = entry_with (option_copied e.certificate) (octets_of e.above.items) e.bit

-- the octets of entries, one behind another
abbrev pub octets_in : List Entry → List ℕ
octets_in entries = flat_map (λ e. spelling target_chain (entry_in e)) entries

-- The result speaks of certificates among the first n, and of at most six on its path; and its bit is a failure bit (RFC 4210 5.2.3).
pub record IsFit (n : ℕ) (r : SignerResult) : Type 0 where
  pub bit : ForSome r.bit (λ b. b ≤ 26)
  pub certificate : ForSome r.certificate (λ position. position < n)
  pub members : All (λ position. position < n) (positions_of r.path)
  pub short : length (positions_of r.path) ≤ 6
