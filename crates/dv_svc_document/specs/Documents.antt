-- The documents that are read.
use Rattle.std.specs.Prelude.{◌≤◌, ◌+◌, ◌*◌, ℕ, IsSome, List, length, Option, Some, None}
use Rattle.dv_schema.specs.Schema.{ValueOf}
use Rattle.dv_cms.specs.Types.{signed_data}
use Rattle.dv_signed.specs.Certificates.{certificates_of, signers_of}
use Rattle.dv_signed.specs.Fields.{content_of}
use Rattle.dv_signed.specs.Messages.{IsSignedMessage}
use Rattle.dv_svc_document.specs.Bags.{AreRead}

-- A SignedData is read whose content is present, which has at most 8 signers, and whose certificates are read: at most 16, each of which
-- decodes under tag 30.
pub record IsReadable (document : ValueOf signed_data) : Type 0 where
  pub content : IsSome (content_of document)
  pub signers : length (signers_of document) ≤ 8
  pub certificates : AreRead (certificates_of document)

-- the message is a ContentInfo that holds this SignedData, which is read
abbrev pub IsDocument : List ℕ → ValueOf signed_data → Type 0
IsDocument message document = IsSignedMessage document message × IsReadable document

-- the document of a message; none where it holds none that is read
abbrev pub IsReadAs : List ℕ → Option (ValueOf signed_data) → Type 0
IsReadAs message None = (document : ValueOf signed_data) → ¬ IsDocument message document
IsReadAs message (Some document) = IsDocument message document

-- At most how many signatures are verified for a document, where there are so many anchors: for each signer its own, and one for each pair of
-- a certificate and one that may have issued it. None where no document is read.
abbrev pub checks_of : ℕ → Option (ValueOf signed_data) → ℕ
checks_of anchors None = 0
checks_of anchors (Some document) =
    let n = length (certificates_of document) in length (signers_of document) * (n * (n + anchors) + 1)
