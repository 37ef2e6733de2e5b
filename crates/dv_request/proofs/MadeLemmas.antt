-- The parts of a request that is made.
use Rattle.std.proofs.Common.{◌≡◌, ◌≤◌, ◌+◌, ◌∷◌, ◌&&◌, ℕ, Bool, true, false, leb, ltb, Some, List, [], length, refl, arith}
use Rattle.std.proofs.lemmas.Bool.{leb-true, lt-ltb}
use Rattle.std.proofs.lemmas.List.{length-append}
use Rattle.dv_schema.specs.Tlv.{tlv, integer_octets}
use Rattle.dv_schema.specs.Rules.{is_integer}
use Rattle.dv_schema.specs.Schema.{spelling}
use Rattle.dv_request.specs.declared.service.Service.{Service}
use Rattle.dv_request.specs.declared.service.Service.TheVariants.{Cpd, Vsd, Cpkc, Ccpd}
use Rattle.dv_request.specs.Information.{number_of}
use Rattle.dv_request.specs.Made.{is_good_nonce}
use Rattle.dv_request.specs.Types.{nonce}

-- a service has three octets
pub service_size : (s : Service) → length (tlv 10 (integer_octets (number_of s))) ≡ 3
service_size Cpd = refl
service_size Vsd = refl
service_size Cpkc = refl
service_size Ccpd = refl

-- both tests hold
both : (a b : Bool) → (a && b) ≡ true → b ≡ true
both true b e = e
both false b e = absurd cc

-- a good nonce has at most 64 contents octets
pub nonce_short : (octets : List ℕ) → is_good_nonce (Some octets) ≡ true → length octets ≤ 64
nonce_short octets good = leb-true _ _ (both (is_integer octets) (leb (length octets) 64) good)

-- and so many octets
pub nonce_size : (octets : List ℕ) → is_good_nonce (Some octets) ≡ true → length (spelling nonce octets) ≡ 2 + length octets
nonce_size octets good =
    let short = nonce_short octets good in
    let few : ltb (length octets) 128 ≡ true = lt-ltb _ _ (omega arith) in
    rw few (omega (arith, length-append (length octets ∷ []) octets))
