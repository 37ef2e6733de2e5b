-- What reading a file says of the files of a shelf.
use Rattle.std.proofs.Common.{◌≡◌, ◌∙◌, ◌<◌, ◌≤◌, ◌++◌, ◌∷◌, [], inl, inr, ℕ, List, length, refl, sym, ap, subst, arith, length-append}
use Rattle.std.specs.Prelude.{◌↔◌, All, Bool, true, false, IfSome, IsTrue, Option, Some, None, slice_index_or}
use Rattle.std.specs.List.{concat}
use Rattle.std.proofs.lemmas.List.Elements.{All-head}
use Rattle.std.specs.declared.alloc.Global.{Global}
use Rattle.std.specs.declared.vec.Vec.{Vec}
use Rattle.dv_asn1.specs.Lists.{lists_of}
use Rattle.dv_cert.specs.Sealed.{own_of}
use Rattle.dv_files.specs.Keys.{HasKey}
use Rattle.dv_lms.specs.declared.height.Height.{Height}
use Rattle.dv_lms.specs.declared.height.Height.TheVariants.{H5}
use Rattle.dv_lms.specs.Identity.{Identity}
use Rattle.dv_outside.specs.Shelf.{IsLongerThan}
use Rattle.dv_files.specs.Certificates.{AreCertificates}
use Rattle.dv_files.specs.Seed.{IsSeedFile, seed_start}
use Rattle.dv_schema.specs.Reading.{item_at, read}
use Rattle.dv_x509.specs.Judged.{certificate_in}
use Rattle.dv_draft.specs.Records.{IsCertificate}
use Rattle.dv_path.specs.Anchors.{Anchored}
use Rattle.dv_path.specs.TrustFiles.{IsTrustFile}
use Rattle.dv_exit.specs.Files.{Files, HasNoCertificates, HasNoTrust, HasOctets, IsNoSeed}

-- the start of a seed file has 12 octets
start_length : (height : Height) → length (seed_start height) ≡ 12
start_length H5 = refl

-- a seed file has 60 octets
seed_length : (octets : List ℕ) (key : Identity) → IsSeedFile octets key → length octets ≡ 60
seed_length octets key is =
    ap length is.is ∙ omega (arith, length-append (seed_start key.height) (key.id ++ key.seed), length-append key.id key.seed, start_length key.height, is.id, is.seed)

-- a longer file is none
pub long_is_no_seed : (file : Option (List ℕ)) → IsLongerThan 60 file → IsNoSeed file
long_is_no_seed None long = long
long_is_no_seed (Some octets) long = λ key is. omega (arith, long, seed_length octets key is)

-- of the files that a shelf tells, the one whose octets are none
pub no_seed : (files : Files) (name octets : List ℕ) → HasOctets files name octets → ((key : Identity) → ¬ IsSeedFile octets key) → IfSome files (λ file. IsNoSeed (file name))
no_seed None name octets has none = tt
no_seed (Some file) name octets has none = subst IsNoSeed (sym has) none

pub long_seed : (files : Files) (name : List ℕ) → IfSome files (λ file. IsLongerThan 60 (file name)) → IfSome files (λ file. IsNoSeed (file name))
long_seed None name long = tt
long_seed (Some file) name long = long_is_no_seed (file name) long

-- certificates
pub no_certificates : (files : Files) (name octets : List ℕ) → HasOctets files name octets → ((certificates : List (List ℕ)) → ¬ AreCertificates octets certificates)
    → IfSome files (λ file. HasNoCertificates (file name))
no_certificates None name octets has none = tt
no_certificates (Some file) name octets has none = subst HasNoCertificates (sym has) (inr none)

longer : (file : Option (List ℕ)) → IsLongerThan 49152 file → HasNoCertificates file
longer None long = long
longer (Some octets) long = inl long

pub long_certificates : (files : Files) (name : List ℕ) → IfSome files (λ file. IsLongerThan 49152 (file name)) → IfSome files (λ file. HasNoCertificates (file name))
long_certificates None name long = tt
long_certificates (Some file) name long = longer (file name) long

-- trust files
pub no_trust_file : (files : Files) (name octets : List ℕ) → HasOctets files name octets → ((anchors : List Anchored) → ¬ IsTrustFile octets anchors) → IfSome files (λ file. HasNoTrust (file name))
no_trust_file None name octets has none = tt
no_trust_file (Some file) name octets has none = subst HasNoTrust (sym has) (inr none)

longer_trust : (file : Option (List ℕ)) → IsLongerThan 131072 file → HasNoTrust file
longer_trust None long = long
longer_trust (Some octets) long = inl long

pub long_trust_file : (files : Files) (name : List ℕ) → IfSome files (λ file. IsLongerThan 131072 (file name)) → IfSome files (λ file. HasNoTrust (file name))
long_trust_file None name long = tt
long_trust_file (Some file) name long = longer_trust (file name) long

-- a certificate has octets
no_certificate : IsCertificate [] → ⊥
unfolding certificate_in read item_at
no_certificate h = let never : false ≡ true = h in (cc)

some_octets : (certificates : List (List ℕ)) → 1 ≤ length certificates → All IsCertificate certificates → 0 < length (concat certificates)
some_octets [] some all = absurd (omega arith)
some_octets ([] ∷ cs) some all = absurd (no_certificate (All-head IsCertificate [] cs all))
some_octets ((x ∷ c) ∷ cs) some all = omega (arith, length-append (x ∷ c) (concat cs))

-- so a trust file isn't empty
pub none_in_nothing : (octets : List ℕ) → octets ≡ [] → (anchors : List Anchored) → ¬ IsTrustFile octets anchors
none_in_nothing octets none anchors is = omega (arith, ap length none, ap length is.are.joined, some_octets is.certificates is.are.some is.are.decoded)

-- the server's own certificate is the first of its vectors
own_is_first : (vectors : List (Vec ℕ Global)) (v : Vec ℕ Global) (certificates : List (List ℕ)) (octets : List ℕ) → lists_of vectors ≡ certificates
    → 1 ≤ length certificates → v ≡ slice_index_or vectors 0 v → octets ≡ v.items → own_of certificates ≡ octets
own_is_first [] v certificates octets are some first same = absurd (omega (arith, ap length are, some))
own_is_first (x ∷ xs) v certificates octets are some first same = sym (ap own_of are) ∙ ap (λ (w : Vec ℕ Global). w.items) (sym first) ∙ sym same

-- where the first one hasn't the key, the server's own has it not
pub other_key : (vectors : List (Vec ℕ Global)) (v : Vec ℕ Global) (certificates : List (List ℕ)) (octets public : List ℕ) (has : Bool)
    → lists_of vectors ≡ certificates → 1 ≤ length certificates → v ≡ slice_index_or vectors 0 v → octets ≡ v.items
    → (IsTrue has ↔ HasKey octets public) → has ≡ false → ¬ HasKey (own_of certificates) public
other_key vectors v certificates octets public has are some first same answer is = λ key.
    let so : has ≡ true = answer.1 (subst (λ (o : List ℕ). HasKey o public) (own_is_first vectors v certificates octets are some first same) key) in (cc)
