-- A request, by itself, is a well-formed value, and a message that holds it has a spelling.
use Rattle.std.proofs.Common.{◌≡◌, ◌≢◌, ◌/◌, ◌%◌, ◌^◌, ◌<◌, ◌++◌, ◌⊎◌, ◌||◌, ◌&&◌, ℕ, Bool, true, false, eqb, leb, ltb, Some, None, List, [], ◌∷◌, length, inl, inr, refl, sym, subst, eq-eqb, arith}
use Rattle.std.specs.List.{AllByRecursion}
use Rattle.std.proofs.lemmas.Bool.{cases_Bool, eqb-true, eqb-false}
use Rattle.std.proofs.lemmas.List.{length-append}
use Rattle.dv_schema.specs.Tlv.{tlv, length_octets}
use Rattle.dv_schema.specs.Rules.{is_bits, is_bool, is_integer, is_true}
use Rattle.dv_schema.specs.Schema.{Schema, ValueOf, kept, unsigned, spelling, is_among}
use Rattle.dv_schema.specs.Fits.{Fits, is_tag}
use Rattle.dv_schema.specs.Types.{any, flag, list_of, octet_string, oid}
use Rattle.dv_schema.proofs.Numbers.{number_fits}
use Rattle.dv_names.specs.Types.{algorithm_identifier, digest_info, extensions_under, general_contents, general_name, general_names, general_tags, name, policy_information}
use Rattle.dv_schema.specs.Types.{free}
use Rattle.dv_status.specs.Fail.{ends_so, is_fail, trailing}
use Rattle.dv_status.specs.Types.{fail_info, status_info, utf8_string}
use Rattle.dv_cms.specs.Types.{content_info}
use Rattle.dv_request.specs.Request.{request_data_type}
use Rattle.dv_request.specs.Types.{data_of_request, dvcs_request, nonce, path_input, request_information, request_time, service_type, target_chain, token, version}
use Rattle.dv_request.proofs.MessageLemmas.{octets_few}
use Rattle.dv_request.proofs.WellLemmas.{Allows, AreStrict, IsStrict, IsTag, well}

-- a tag of one octet
low : (tag : ℕ) → eqb (tag % 32) 31 ≡ false → is_tag None tag ≡ true → IsTag tag
low tag e i = (eqb-false _ _ e, i)

-- a primitive one
not_constructed : (tag : ℕ) → eqb (tag / 32 % 2) 1 ≡ false → tag / 32 % 2 ≢ 1
not_constructed tag e = eqb-false _ _ e

-- what holds of each of these tags holds of one that is among them
each : (P : ℕ → Type 0) (ts : List ℕ) → AllByRecursion P ts → (t : ℕ) → is_among (Some ts) t ≡ true → P t
each P [] all t e = absurd cc
each P (u ∷ us) all t e =
    elim (cases_Bool (eqb t u)) [
      | inl h ↦ subst P (sym (eqb-true _ _ h)) all.0
      | inr h ↦ each P us all.1 t (rw h at e)
    ]

list_strict : (tag : ℕ) (some : Bool) (s : Schema) → IsTag tag → tag / 32 % 2 ≡ 1 → IsStrict s → IsStrict (list_of tag some s)
list_strict tag some s t c h = (t, inl (c, h))

-- ---- the types of names

oid_strict : IsStrict oid
oid_strict = (low 6 refl refl, inr (not_constructed 6 refl, λ n v f. f))

octets_strict : IsStrict octet_string
octets_strict = (low 4 refl refl, inr (not_constructed 4 refl, λ n v f. refl))

algorithm_strict : IsStrict algorithm_identifier
algorithm_strict = (low 48 refl refl, inl (refl, (oid_strict, (tt, tt))))

digest_strict : IsStrict digest_info
digest_strict = (low 48 refl refl, inl (refl, (algorithm_strict, (octets_strict, tt))))

name_strict : IsStrict name
name_strict = (low 48 refl refl, inl (refl, (low 49 refl refl, inl (refl, (low 48 refl refl, inl (refl, (oid_strict, (tt, tt))))))))

-- a general name of this tag
abbrev NameOf : ℕ → Type 0
NameOf t = IsTag t × (((t / 32 % 2 ≡ 1) × AreStrict (kept (general_contents t))) ⊎ ((t / 32 % 2 ≢ 1) × Allows t (kept (general_contents t))))

general_strict : IsStrict general_name
general_strict =
    let n160 : NameOf 160 = (low 160 refl refl, inl (refl, tt)) in
    let n129 : NameOf 129 = (low 129 refl refl, inr (not_constructed 129 refl, λ n v f. refl)) in
    let n130 : NameOf 130 = (low 130 refl refl, inr (not_constructed 130 refl, λ n v f. refl)) in
    let n163 : NameOf 163 = (low 163 refl refl, inl (refl, tt)) in
    let n164 : NameOf 164 = (low 164 refl refl, inl (refl, (name_strict, tt))) in
    let n165 : NameOf 165 = (low 165 refl refl, inl (refl, tt)) in
    let n134 : NameOf 134 = (low 134 refl refl, inr (not_constructed 134 refl, λ n v f. refl)) in
    let n135 : NameOf 135 = (low 135 refl refl, inr (not_constructed 135 refl, λ n v f. refl)) in
    let n136 : NameOf 136 = (low 136 refl refl, inr (not_constructed 136 refl, λ n v f. refl)) in
    each NameOf general_tags (n160, (n129, (n130, (n163, (n164, (n165, (n134, (n135, (n136, tt)))))))))

policy_strict : (tag : ℕ) → IsTag tag → tag / 32 % 2 ≡ 1 → IsStrict (policy_information tag)
policy_strict tag t c = (t, inl (c, (oid_strict, (list_strict 48 true any (low 48 refl refl) refl tt, tt))))

-- a TRUE is a BOOLEAN
either : (a b : Bool) → b ≡ true → (a || b) ≡ true
either true b e = refl
either false b e = e

true_bool : (v : List ℕ) → is_true v ≡ true → is_bool v ≡ true
true_bool [] e = absurd cc
true_bool (b ∷ []) e = either (eqb b 0) (eqb b 255) e
true_bool (b ∷ c ∷ cs) e = absurd cc

flag_strict : IsStrict (flag 1)
flag_strict = (low 1 refl refl, inr (not_constructed 1 refl, λ n v f. true_bool v f))

extensions_strict : IsStrict (extensions_under 164 free)
extensions_strict = (low 164 refl refl, inl (refl, (low 48 refl refl, refl, (oid_strict, (flag_strict, (octets_strict, tt))))))

-- ---- statuses

-- so many bits at the end of an octet are zero
trail : (b : ℕ) → (ltb (trailing b) 8 && eqb (b % 2 ^ trailing b) 0) ≡ true
trail b =
    elim (cases_Bool (eqb (b % 2) 1)) [
      | inl t ↦ let z : eqb (b % 1) 0 ≡ true = eq-eqb _ _ (omega arith) in rw (t, z) refl
      | inr t1 ↦ elim (cases_Bool (eqb (b % 4) 2)) [
        | inl t ↦ let e : b % 4 ≡ 2 = eqb-true _ _ t in let z : eqb (b % 2) 0 ≡ true = eq-eqb _ _ (omega arith) in rw (t1, t, z) refl
        | inr t2 ↦ elim (cases_Bool (eqb (b % 8) 4)) [
          | inl t ↦ let e : b % 8 ≡ 4 = eqb-true _ _ t in let z : eqb (b % 4) 0 ≡ true = eq-eqb _ _ (omega arith) in rw (t1, t2, t, z) refl
          | inr t3 ↦ elim (cases_Bool (eqb (b % 16) 8)) [
            | inl t ↦ let e : b % 16 ≡ 8 = eqb-true _ _ t in let z : eqb (b % 8) 0 ≡ true = eq-eqb _ _ (omega arith) in rw (t1, t2, t3, t, z) refl
            | inr t4 ↦ elim (cases_Bool (eqb (b % 32) 16)) [
              | inl t ↦ let e : b % 32 ≡ 16 = eqb-true _ _ t in let z : eqb (b % 16) 0 ≡ true = eq-eqb _ _ (omega arith) in rw (t1, t2, t3, t4, t, z) refl
              | inr t5 ↦ elim (cases_Bool (eqb (b % 64) 32)) [
                | inl t ↦ let e : b % 64 ≡ 32 = eqb-true _ _ t in let z : eqb (b % 32) 0 ≡ true = eq-eqb _ _ (omega arith) in rw (t1, t2, t3, t4, t5, t, z) refl
                | inr t6 ↦ elim (cases_Bool (eqb (b % 128) 64)) [
                  | inl t ↦ let e : b % 128 ≡ 64 = eqb-true _ _ t in let z : eqb (b % 64) 0 ≡ true = eq-eqb _ _ (omega arith) in rw (t1, t2, t3, t4, t5, t6, t, z) refl
                  | inr t7 ↦
                      let n1 : b % 2 ≢ 1 = eqb-false _ _ t1 in
                      let n2 : b % 4 ≢ 2 = eqb-false _ _ t2 in
                      let n3 : b % 8 ≢ 4 = eqb-false _ _ t3 in
                      let n4 : b % 16 ≢ 8 = eqb-false _ _ t4 in
                      let n5 : b % 32 ≢ 16 = eqb-false _ _ t5 in
                      let n6 : b % 64 ≢ 32 = eqb-false _ _ t6 in
                      let n7 : b % 128 ≢ 64 = eqb-false _ _ t7 in
                      let z : eqb (b % 128) 0 ≡ true = eq-eqb _ _ (omega arith) in
                      rw (t1, t2, t3, t4, t5, t6, t7, z) refl
                ]
              ]
            ]
          ]
        ]
      ]
    ]

left : (a b : Bool) → (a && b) ≡ true → a ≡ true
left true b e = refl
left false b e = e

right : (a b : Bool) → (a && b) ≡ true → b ≡ true
right true b e = e
right false b e = absurd cc

ends_bits : (u last : ℕ) → ends_so u last ≡ true → (ltb u 8 && eqb (last % 2 ^ u) 0) ≡ true
ends_bits u last e =
    let is : u ≡ trailing last = eqb-true _ _ (right (ltb 0 last) (eqb u (trailing last)) e) in
    subst (λ (k : ℕ). (ltb k 8 && eqb (last % 2 ^ k) 0) ≡ true) (sym is) (trail last)

-- failure bits are a BIT STRING
fail_bits_allowed : (v : List ℕ) → is_fail v ≡ true → is_bits v ≡ true
fail_bits_allowed [] e = absurd cc
fail_bits_allowed (u ∷ []) e = absurd cc
fail_bits_allowed (u ∷ a ∷ []) e = ends_bits u a e
fail_bits_allowed (u ∷ a ∷ b ∷ []) e = ends_bits u b e
fail_bits_allowed (u ∷ a ∷ b ∷ c ∷ []) e = ends_bits u c e
fail_bits_allowed (u ∷ a ∷ b ∷ c ∷ d ∷ []) e = ends_bits u d (left (ends_so u d) (leb 5 u) e)
fail_bits_allowed (u ∷ a ∷ b ∷ c ∷ d ∷ f ∷ more) e = absurd cc

number_strict : (rule : ℕ → Bool) → Allows 2 (unsigned rule)
number_strict rule n v f = (number_fits v).0

status_strict : (tag : ℕ) → IsTag tag → tag / 32 % 2 ≡ 1 → IsStrict (status_info tag)
status_strict tag t c =
    let texts : IsStrict utf8_string = (low 12 refl refl, inr (not_constructed 12 refl, λ n v f. refl)) in
    let bits : IsStrict fail_info = (low 3 refl refl, inr (not_constructed 3 refl, λ n v f. fail_bits_allowed v f)) in
    (t, inl (c, ((low 2 refl refl, inr (not_constructed 2 refl, number_strict (λ n. leb n 6))), (list_strict 48 true utf8_string (low 48 refl refl) refl texts, (bits, tt)))))

-- ---- requests

path_strict : IsStrict (path_input 160)
path_strict =
    let one : IsStrict (flag 128) = (low 128 refl refl, inr (not_constructed 128 refl, λ n v f. refl)) in
    let two : IsStrict (flag 129) = (low 129 refl refl, inr (not_constructed 129 refl, λ n v f. refl)) in
    (low 160 refl refl, inl (refl, (list_strict 48 true (policy_information 48) (low 48 refl refl) refl (policy_strict 48 (low 48 refl refl) refl), (flag_strict, (one, (two, tt))))))

token_strict : IsStrict token
token_strict = (tt, (status_strict 162 (low 162 refl refl) refl, tt))

target_strict : IsStrict target_chain
target_strict = (low 48 refl refl, inl (refl, (token_strict, (list_strict 48 true token (low 48 refl refl) refl token_strict, (path_strict, tt)))))

data_strict : IsStrict data_of_request
data_strict = (octets_strict, (digest_strict, list_strict 160 true target_chain (low 160 refl refl) refl target_strict))

information_strict : IsStrict request_information
information_strict =
    let first : IsStrict version = (low 2 refl refl, inr (not_constructed 2 refl, number_strict (λ n. leb n 255))) in
    let asked : IsStrict service_type = (low 10 refl refl, inr (not_constructed 10 refl, λ n v f. (number_fits v).0)) in
    let once : IsStrict nonce = (low 2 refl refl, inr (not_constructed 2 refl, λ n v f. left (is_integer v) (leb (length v) 64) f)) in
    let when : IsStrict request_time = ((low 24 refl refl, inr (not_constructed 24 refl, λ n v f. refl)), tt) in
    let names : (tag : ℕ) → IsTag tag → tag / 32 % 2 ≡ 1 → IsStrict (general_names tag) = λ tag t c. list_strict tag true general_name t c general_strict in (
      low 48 refl refl,
      inl (
        refl,
        (
          first,
          (
            asked,
            (
              once,
              (
                when,
                (
                  names 160 (low 160 refl refl) refl,
                  (
                    policy_strict 161 (low 161 refl refl) refl,
                    (names 162 (low 162 refl refl) refl, (names 163 (low 163 refl refl) refl, (extensions_strict, tt))),
                  ),
                ),
              ),
            ),
          ),
        ),
      ),
    )

request_strict : IsStrict dvcs_request
request_strict = (low 48 refl refl, inl (refl, (information_strict, (data_strict, (general_strict, tt)))))

-- a message that holds a request
pub message_has_spelling : (v : ValueOf dvcs_request) → Fits dvcs_request 30 v → length (spelling dvcs_request v) < 4294967296 → Fits content_info 32 (request_data_type, ((spelling dvcs_request v, tt), tt))
message_has_spelling v fits short =
    let content : List ℕ = spelling dvcs_request v in
    let tagged : List ℕ = tlv 160 (content ++ []) in
    let front : List ℕ = tlv 6 request_data_type in
    let size : length (content ++ []) < 4294967296 = omega (arith, short, length-append content []) in
    let head = octets_few (length (content ++ [])) (omega (arith, size)) in
    let whole : length (front ++ (tagged ++ [])) < 18446744073709551616 =
    omega (arith, size, head, length-append front (tagged ++ []), length-append tagged [], length-append (160 ∷ length_octets (length (content ++ []))) (content ++ [])) in
    (omega arith, whole, ((omega arith, omega arith, refl), ((omega arith, omega (arith, size), ((well dvcs_request 30 v request_strict fits, refl), tt)), tt)))
