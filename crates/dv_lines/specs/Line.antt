-- Which words are a line of the program, and which values a line has.
use Rattle.std.specs.Prelude.{◌≡◌, ◌≢◌, ◌<◌, ◌≤◌, ◌^◌, List, [], ◌∷◌, ℕ, if◌then◌else◌, true, length, drop, map, Option, Some, None, option_map, option_and_then, unwrap_or, Result, Ok, Err, codes, String, string_bytes}
use Rattle.std.specs.Borrow.{Bor}
use Rattle.std.specs.Option.{ForSome}
use Rattle.std.specs.Str.{bytes_eq}
use Rattle.std.specs.declared.alloc.Global.{Global}
use Rattle.dv_schema.specs.Rules.{is_oid}
use Rattle.dv_schema.specs.Tlv.{tlv}
use Rattle.dv_words.specs.Number.{number_of}
use Rattle.dv_words.specs.Uses.{Text, Use, is_dashed, others_of, uses_of, value_of}
use Rattle.dv_lines.specs.Values.{chain_of, first_of, moment_of, name_of, nonce_of, optional, period_of, policy_of, service_of}
use Rattle.dv_lines.specs.declared.line.Line.{Line}
use Rattle.dv_lines.specs.declared.line.Line.TheVariants.{Request, Validate, Show, Init, Serve, Reissue}
use Rattle.dv_lines.specs.declared.service.Service.{Service}
use Rattle.dv_lines.specs.declared.nonce.Nonce.{Nonce}
use Rattle.dv_lines.specs.declared.policy.Policy.{Policy}
use Rattle.dv_lines.specs.declared.faulty.NoLine.{NoLine}
use Rattle.dv_lines.specs.declared.faulty.NoLine.TheVariants.{Memory}

-- a line with its values; a text is its octets
pub data Told : Type 0 where
  -- `request SERVICE FILE`, with the nonce's octets and the moment's second
  request : (service : Service) (file : Text) (nonce : Option (List ℕ)) (at : Option ℕ) → Told
  -- `request cpkc FILE..`, the target's file and then those of its chain, with the same
  validate : (files : List Text) (nonce : Option (List ℕ)) (at : Option ℕ) → Told
  -- `show FILE`
  show : (file : Text) → Told
  -- `init REGISTER SEED NAME`, with the first and the last second of the key, and the serial of its certificate
  init : (register seed name : Text) (from until first : ℕ) → Told
  -- `serve REGISTER SEED CERTIFICATE TRUST`, with the contents octets of the policy's identifier
  serve : (register seed certificate trust : Text) (policy : Option (List ℕ)) → Told
  -- `reissue REGISTER SEED SERIAL`
  reissue : (register seed : Text) (serial : ℕ) → Told

-- ---- request SERVICE FILE [--nonce HEX] [--at TIME], and request cpkc FILE.. with the same options

abbrev pub request_options : List Text
request_options = codes "nonce" ∷ codes "at" ∷ []

-- request SERVICE FILE, of a service that one file is asked for
abbrev pub single_by : Text → List Text → Option Text → Option Text → Option Told
single_by service (file ∷ []) digits time =
    option_and_then (λ s. option_and_then (λ n. option_map (request s file n) (optional moment_of time)) (optional nonce_of digits))
    (service_of service)
single_by service _ digits time = None

-- request cpkc FILE..
abbrev pub validate_by : List Text → Option Text → Option Text → Option Told
validate_by files digits time =
    option_and_then (λ fs. option_and_then (λ n. option_map (validate fs n) (optional moment_of time)) (optional nonce_of digits))
    (chain_of files)

abbrev pub request_by : List Text → Option Text → Option Text → Option Told
request_by [] digits time = None
request_by (service ∷ files) digits time =
    if bytes_eq service (codes "cpkc") then validate_by files digits time else single_by service files digits time

abbrev pub request_of : List Use → Option Told
request_of said = request_by (others_of said) (value_of (codes "nonce") said) (value_of (codes "at") said)

-- ---- show FILE

abbrev pub show_by : List Text → Option Told
show_by (file ∷ []) = Some (show file)
show_by _ = None

abbrev pub show_of : List Use → Option Told
show_of said = show_by (others_of said)

-- ---- commands of a register: it is the next word, and doesn't begin with `-`

abbrev pub register_of : List Text → Option Text
register_of [] = None
register_of (word ∷ rest) = if is_dashed word then None else Some word

-- The line of a register, where the words behind it say something with these options.
abbrev pub line_at : List Text → (Text → List Use → Option Told) → List Text → Option Told
line_at options line words = option_and_then (λ register. option_and_then (line register) (uses_of options (drop 1 words))) (register_of words)

-- init REGISTER SEED NAME --from TIME --days N [--first N]
abbrev pub init_options : List Text
init_options = codes "from" ∷ codes "days" ∷ codes "first" ∷ []

abbrev pub init_by : Text → List Text → Option Text → Option Text → Option Text → Option Told
init_by register (seed ∷ name ∷ []) from days first =
    option_and_then (λ n. option_and_then (λ p. option_map (init register seed n p.0 p.1) (first_of first)) (period_of from days))
    (name_of name)
init_by register _ from days first = None

abbrev pub init_of : Text → List Use → Option Told
init_of register said =
    init_by register (others_of said) (value_of (codes "from") said) (value_of (codes "days") said) (value_of (codes "first") said)

-- serve REGISTER SEED CERTIFICATE TRUST [--policy OID]
abbrev pub serve_options : List Text
serve_options = codes "policy" ∷ []

abbrev pub serve_by : Text → List Text → Option Text → Option Told
serve_by register (seed ∷ certificate ∷ trust ∷ []) policy =
    option_map (serve register seed certificate trust) (optional policy_of policy)
serve_by register _ policy = None

abbrev pub serve_of : Text → List Use → Option Told
serve_of register said = serve_by register (others_of said) (value_of (codes "policy") said)

-- reissue REGISTER SEED SERIAL
abbrev pub reissue_by : Text → List Text → Option Told
reissue_by register (seed ∷ serial ∷ []) = option_map (reissue register seed) (number_of serial)
reissue_by register _ = None

abbrev pub reissue_of : Text → List Use → Option Told
reissue_of register said = reissue_by register (others_of said)

-- ---- lines

-- The line that the words are, or none. What the words behind a command or a register say is the grammar's of dv_words.
abbrev pub line_of : List Text → Option Told
line_of [] = None
line_of (command ∷ rest) =
    if bytes_eq command (codes "request") then option_and_then request_of (uses_of request_options rest) else
    if bytes_eq command (codes "show") then option_and_then show_of (uses_of [] rest) else
    if bytes_eq command (codes "init") then line_at init_options init_of rest else
    if bytes_eq command (codes "serve") then line_at serve_options serve_of rest else
    if bytes_eq command (codes "reissue") then line_at [] reissue_of rest else None

-- the line of a command that ends by itself, which is every one but `serve`
abbrev pub tool_line : Option Told → Option Told
tool_line None = None
tool_line (Some (request service file nonce at)) = Some (request service file nonce at)
tool_line (Some (validate files nonce at)) = Some (validate files nonce at)
tool_line (Some (show file)) = Some (show file)
tool_line (Some (init register seed name from until first)) = Some (init register seed name from until first)
tool_line (Some (serve register seed certificate trust policy)) = None
tool_line (Some (reissue register seed serial)) = Some (reissue register seed serial)

-- ---- what holds of each line

-- an identifier (X.690 8.19) whose whole value has at most 2,048 octets
abbrev pub IsPolicy : List ℕ → Type 0
IsPolicy id = (is_oid id ≡ true) × (length (tlv 6 id) ≤ 2048)

abbrev pub KeepsLimits : Told → Type 0
KeepsLimits (init register seed name from until first) =
    (1 ≤ length name) × (length name ≤ 64) × (from < until) × (1 ≤ first) × (first ≤ 2 ^ 62)
KeepsLimits (serve register seed certificate trust policy) = ForSome policy IsPolicy
KeepsLimits (validate files _ _) = (1 ≤ length files) × (length files ≤ 16)
KeepsLimits _ = Unit {0}

-- ---- what the program's values say

-- the words as texts
abbrev pub texts_of : List (String Global) → List Text
texts_of words = map (λ w. string_bytes w) words

-- the octets of a nonce
abbrev pub nonce_octets : Nonce → List ℕ
nonce_octets nonce = nonce.octets.items

-- the octets of a policy's identifier
abbrev pub policy_octets : Policy → List ℕ
policy_octets policy = policy.octets.items

-- the values of a line of the code
abbrev pub told_by : Line → Told
told_by (Request service file nonce at) = request service file.now (option_map nonce_octets nonce) at
told_by (Validate files nonce at) = validate (map (λ f. f.now) files.items) (option_map nonce_octets nonce) at
told_by (Show file) = show file.now
told_by (Init register seed name from until first) = init register.now seed.now name.now from until first
told_by (Serve register seed certificate trust policy) =
    serve register.now seed.now certificate.now trust.now (option_map policy_octets policy)
told_by (Reissue register seed serial) = reissue register.now seed.now serial

-- What was read of words is what they mean; an error other than want of memory comes exactly where they mean nothing.
abbrev pub IsRead : {X Y : Type 0} → (Y → X) → Option X → Result Y NoLine → Type 0
IsRead view value (Ok y) = value ≡ Some (view y)
IsRead view value (Err fault) = fault ≢ Memory → value ≡ None

-- the words that were counted
abbrev pub words_in : Option (Bor (List (Bor Text))) → List Text
words_in words = unwrap_or (option_map (λ s. map (λ w. w.now) s.now) words) []
