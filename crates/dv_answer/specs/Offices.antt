-- What the steps look at of a server and of its own certificate.
use Rattle.std.specs.Prelude.{◌≡◌, ◌≤◌, ℕ, List, ◌∷◌, Ok}
use Rattle.std.specs.Option.{option_copied}
use Rattle.dv_schema.specs.Schema.{FieldsOf}
use Rattle.dv_time.specs.Text.{last_second}
use Rattle.dv_x509.specs.Fields.{validity_of}
use Rattle.dv_x509.specs.Judged.{certificate_in}
use Rattle.dv_x509.specs.Types.{certificate_fields}
use Rattle.dv_draft.specs.declared.server.Server.{Server}
use Rattle.dv_answer.specs.declared.office.Office.{Office as Looked}
use Rattle.dv_answer.specs.Steps.{Office}

-- The subject and the validity are those of the server's own certificate, which is the first, and the policy is the server's. Both
-- moments are seconds up to the year 9999, of which the certificate's text is that of one alone.
pub record IsOffice (server : Server) (office : Office) : Type 0 where
  pub own : List ℕ
  pub others : List (List ℕ)
  pub first : server.certificates ≡ own ∷ others
  pub certificate : FieldsOf certificate_fields
  pub decoded : certificate_in 48 own ≡ Ok certificate
  pub subject : certificate.0.1.1.1.1.1.0 ≡ office.subject
  pub validity : certificate.0.1.1.1.1.0 ≡ validity_of office.from office.until
  pub real_from : office.from ≤ last_second
  pub real_until : office.until ≤ last_second
  pub policy : office.policy ≡ server.policy

-- those that the code looks at
abbrev pub view_office : Looked → Office
view_office o = record { subject = o.subject.now; from = o.from; until = o.until; policy = option_copied o.policy }
