-- Messages that hold a SignedData.
use Rattle.std.specs.Prelude.{◌≡◌, ℕ, List}
use Rattle.dv_schema.specs.Schema.{ValueOf, spelling}
use Rattle.dv_schema.specs.Fits.{Fits}
use Rattle.dv_cms.specs.Types.{content_info, signed_data, signed_data_type}

-- the ContentInfo of type id-signedData (RFC 5652 3, 5) that holds this content
abbrev pub signed_message : List ℕ → ValueOf content_info
signed_message content = (signed_data_type, ((content, tt), tt))

-- The octets are a ContentInfo of type id-signedData that holds this SignedData.
abbrev pub IsSignedMessage : ValueOf signed_data → List ℕ → Type 0
IsSignedMessage v octets =
    Fits signed_data 32 v × Fits content_info 32 (signed_message (spelling signed_data v)) × (octets ≡ spelling content_info (signed_message (spelling signed_data v)))
