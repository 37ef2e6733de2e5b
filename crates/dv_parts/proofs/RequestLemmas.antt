-- What a request has that its draft takes over.
use Rattle.std.proofs.Common.{◌≡◌, ◌<◌, ◌++◌, ◌∷◌, ℕ, List, [], length, arith}
use Rattle.std.specs.Option.{option_copied}
use Rattle.std.proofs.lemmas.List.{length-append}
use Rattle.std.proofs.Math.Logic.{∥∥₁_elim, ∥∥₁_prop}
use Rattle.dv_schema.specs.Schema.{contents, raw, spelled_if, spelling}
use Rattle.dv_schema.specs.Fits.{Fits}
use Rattle.dv_schema.specs.Tlv.{length_octets}
use Rattle.dv_schema.proofs.Spellings.{fits_more}
use Rattle.dv_names.specs.Types.{general_name}
use Rattle.dv_request.specs.declared.request.Request.{Request}
use Rattle.dv_request.specs.DataView.{view_data}
use Rattle.dv_request.specs.InfoView.{view_info}
use Rattle.dv_request.specs.RequestView.{view_request}
use Rattle.dv_request.specs.Types.{data_of_request, request_fields, request_information}

-- its information fits where a draft has it
pub information_fits : (r : Request) → ∥ Fits request_information 31 (view_info r.info) ∥₁
information_fits r = ∥∥₁_elim r.spelled ∥∥₁_prop (λ f. ∣ fits_more request_information 29 31 (view_info r.info) (omega arith) f.2.0 ∣₁)

-- and is shorter than the request
pub information_short : (r : Request) → length (spelling request_information (view_info r.info)) < 4294967296
information_short r =
    let a : List ℕ = spelling request_information (view_info r.info) in
    let b : List ℕ = spelling data_of_request (view_data r.matter) in
    let d : List ℕ = spelled_if (spelling (raw general_name)) (option_copied r.transaction) in
    let whole : List ℕ = contents request_fields (view_request r) in
    omega (arith, r.short, length-append (48 ∷ length_octets (length whole)) whole, length-append a (b ++ (d ++ [])))

-- the data of a request are shorter than the request
pub data_short : (r : Request) → length (spelling data_of_request (view_data r.matter)) < 4294967296
data_short r =
    let a : List ℕ = spelling request_information (view_info r.info) in
    let b : List ℕ = spelling data_of_request (view_data r.matter) in
    let d : List ℕ = spelled_if (spelling (raw general_name)) (option_copied r.transaction) in
    let whole : List ℕ = contents request_fields (view_request r) in
    omega (arith, r.short, length-append (48 ∷ length_octets (length whole)) whole, length-append a (b ++ (d ++ [])), length-append b (d ++ []))
