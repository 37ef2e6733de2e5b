-- The requests that are made: a service, its data, and at most a nonce and a moment.
use Rattle.std.specs.Prelude.{ℕ, Bool, true, List, [], ◌∷◌, Option, Some, None, option_map}
use Rattle.std.specs.List.{flat_map}
use Rattle.std.proofs.Common.{inl, inr}
use Rattle.dv_schema.specs.Rules.{is_integer_within}
use Rattle.dv_schema.specs.Schema.{ValueOf, node, sequence_of, spelling, spelled_if}
use Rattle.dv_schema.specs.Types.{list_of}
use Rattle.dv_time.specs.Views.{view_moment}
use Rattle.dv_names.specs.declared.identifiers.TheConstants.{SHA_256}
use Rattle.dv_cms.specs.Types.{content_info}
use Rattle.dv_request.specs.declared.service.Service.{Service}
use Rattle.dv_request.specs.Information.{number_of}
use Rattle.dv_request.specs.Request.{request_data_type}
use Rattle.dv_request.specs.Types.{data_of_request, dvcs_request, request_information, request_time, target_chain, token}

-- a nonce, where there is one, is an INTEGER of at most 64 octets
abbrev pub is_good_nonce : Option (List ℕ) → Bool
is_good_nonce None = true
is_good_nonce (Some octets) = is_integer_within 64 octets

-- ---- the data

-- the octets themselves
abbrev pub message_data : List ℕ → ValueOf data_of_request
message_data octets = inl octets

-- a SHA-256 digest, its algorithm without parameters
abbrev pub digest_data : List ℕ → ValueOf data_of_request
digest_data digest = inr (inl ((SHA_256, (None, tt)), (digest, tt)))

-- a value under another tag of one octet; its length and its contents stay
abbrev pub retagged : ℕ → List ℕ → List ℕ
retagged tag [] = []
retagged tag (t ∷ more) = tag ∷ more

-- a certificate as a token: its whole octets, under A0
abbrev pub certificate_token : List ℕ → ValueOf token
certificate_token octets = inl (retagged 160 octets)

-- the contents of a chain of these certificates, where there are any
abbrev pub chain_of : List (List ℕ) → Option (List ℕ)
chain_of [] = None
chain_of (c ∷ cs) = Some (flat_map (retagged 160) (c ∷ cs))

-- the octets of such a chain, none where there is none
abbrev pub spelled_chain : List (List ℕ) → List ℕ
spelled_chain cs = spelled_if (spelling (list_of 48 true token)) (chain_of cs)

-- one target: the first certificate, with the others as its chain
abbrev pub targets_from : List (List ℕ) → List (ValueOf target_chain)
targets_from [] = []
targets_from (c ∷ cs) = (certificate_token c, (chain_of cs, (None, tt))) ∷ []

-- the octets of the list that holds it
abbrev pub spelled_certs : List (List ℕ) → List ℕ
spelled_certs cs = spelling (node 160 (sequence_of true target_chain)) (targets_from cs)

-- certificates, the target first
abbrev pub certificates_data : List (List ℕ) → ValueOf data_of_request
certificates_data cs = inr (inr (spelled_certs cs))

-- ---- the request

-- a moment as a DVCSTime
abbrev pub time_of : ℕ → ValueOf request_time
time_of moment = inl (view_moment moment)

-- a DVCSRequestInformation of the default version with just these fields
abbrev pub information_of : Service → Option (List ℕ) → Option ℕ → ValueOf request_information
information_of service nonce at = (None, (number_of service, (nonce, (option_map time_of at, (None, (None, (None, (None, (None, tt)))))))))

-- the DVCSRequest with just these fields
abbrev pub request_from : Service → ValueOf data_of_request → Option (List ℕ) → Option ℕ → ValueOf dvcs_request
request_from service matter nonce at = (information_of service nonce at, (matter, (None, tt)))

-- the ContentInfo of type id-ct-DVCSRequestData that holds it
abbrev pub message_of : Service → ValueOf data_of_request → Option (List ℕ) → Option ℕ → ValueOf content_info
message_of service matter nonce at = (request_data_type, ((spelling dvcs_request (request_from service matter nonce at), tt), tt))

-- and its spelling
unfoldable pub request_of : Service → ValueOf data_of_request → Option (List ℕ) → Option ℕ → List ℕ
request_of service matter nonce at = spelling content_info (message_of service matter nonce at)
