-- The certificates that a request hands in (RFC 3029 7.5), and why a request isn't checked.
use Rattle.std.specs.Prelude.{ℕ, Bool, ◌||◌, nat_lt, is_none, is_ok, List, ◌++◌, length, slice_get, Option, Some, None, if◌then◌else◌}
use Rattle.std.proofs.Common.{inl, inr}
use Rattle.std.specs.List.{filter_map, list_all}
use Rattle.std.specs.Option.{option_to_list}
use Rattle.dv_schema.specs.Schema.{ValueOf}
use Rattle.dv_request.specs.Links.{links_in}
use Rattle.dv_request.specs.Types.{data_of_request, target_chain, token}
use Rattle.dv_x509.specs.Judged.{certificate_in}

-- the whole value that lists targets; none where the data are none
abbrev pub certs_in : ValueOf data_of_request → Option (List ℕ)
certs_in (inl message) = None
certs_in (inr (inl digest)) = None
certs_in (inr (inr certs)) = Some certs

-- the certificate that a token is, as its whole octets under A0
abbrev pub certificate_of : ValueOf token → Option (List ℕ)
certificate_of (inl octets) = Some octets
certificate_of (inr other) = None

-- the certificates of the chain of a target, in order; its other tokens aren't looked at
abbrev pub chain_of : ValueOf target_chain → List (List ℕ)
chain_of t = filter_map certificate_of (links_in t.1.0)

-- the target, where it is a certificate, and then those of its chain
abbrev pub certificates_of : ValueOf target_chain → List (List ℕ)
certificates_of t = option_to_list (certificate_of t.0) ++ chain_of t

-- the target is no certificate, or its chain has more than 15
abbrev pub is_refused : ValueOf target_chain → Bool
is_refused t = is_none (certificate_of t.0) || nat_lt 15 (length (chain_of t))

-- the octets are a certificate (RFC 5280 4.1) under A0
abbrev pub is_certificate : List ℕ → Bool
is_certificate octets = is_ok (certificate_in 160 octets)

-- A target isn't checked for this failure bit (RFC 4210 5.2.3): badRequest, 2, where it is no certificate or its chain has too many of them,
-- and else badDataFormat, 5, where one of its certificates doesn't decode.
abbrev pub target_failure : ValueOf target_chain → Option ℕ
target_failure t = if is_refused t then Some 2 else if list_all is_certificate (certificates_of t) then None else Some 5

-- Targets aren't checked: badRequest, 2, where there are more than 8, and else for the failure of the first that has one.
abbrev pub pkc_failure : List (ValueOf target_chain) → Option ℕ
pkc_failure targets = if nat_lt 8 (length targets) then Some 2 else slice_get (filter_map target_failure targets) 0
