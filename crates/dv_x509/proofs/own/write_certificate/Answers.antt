use Rattle.std.proofs.Common.{◌≡◌, ◌+◌, ◌++◌, ◌∷◌, [], ℕ, List, length, arith, subst, sym}
use Rattle.std.proofs.lemmas.List.{append-nil}
use Rattle.dv_schema.specs.Tlv.{tlv}
use Rattle.dv_schema.specs.Schema.{spelling}
use Rattle.dv_asn1.specs.Writing.{room_of, Writes}
use Rattle.dv_asn1.proofs.Written.{written_more}
use Rattle.dv_names.specs.Types.{algorithm_identifier}
use Rattle.dv_x509.specs.Own.{OwnCertificate, own_algorithm}
use Rattle.dv_x509.proofs.OwnLemmas.{boxed, certificate_size, first_fits, head_fits, inside_fits, second_fits}
use Rattle.dv_x509.proofs.own.write_certificate.Goals as goal

pub header-requires : goal.header-requires
unfolding OwnCertificate
header-requires c =
    let tbs : List ℕ = c.args.tbs.now in
    let signature : List ℕ = c.args.signature.now in
    let bits : ℕ = length signature + 1 in
    let a : List ℕ = spelling algorithm_identifier own_algorithm in
    let b : List ℕ = tlv 3 (0 ∷ signature) in
    let all : List ℕ = tbs ++ (a ++ (b ++ [])) in
    let e0 : bits ≡ length (0 ∷ signature) = omega arith in
    let n : ℕ = length tbs + 15 + c.value_len.result in
    let e : n ≡ length all = certificate_size tbs signature bits c.value_len.result e0 c.value_len.ensures.octets in
    head_fits (room_of c.args.out.now) 48 n all e c.requires.room

pub bytes-requires : goal.bytes-requires
unfolding OwnCertificate
bytes-requires c =
    let tbs : List ℕ = c.args.tbs.now in
    let signature : List ℕ = c.args.signature.now in
    let bits : ℕ = length signature + 1 in
    let a : List ℕ = spelling algorithm_identifier own_algorithm in
    let b : List ℕ = tlv 3 (0 ∷ signature) in
    let all : List ℕ = tbs ++ (a ++ (b ++ [])) in
    let e0 : bits ≡ length (0 ∷ signature) = omega arith in
    let n : ℕ = length tbs + 15 + c.value_len.result in
    let e : n ≡ length all = certificate_size tbs signature bits c.value_len.result e0 c.value_len.ensures.octets in
    let r0 = inside_fits c.args.out.now c.header.new.self 48 n all e c.requires.room c.header.ensures in
    first_fits (room_of c.header.new.self) tbs (a ++ (b ++ [])) r0

pub write_algorithm-requires : goal.write_algorithm-requires
unfolding OwnCertificate
write_algorithm-requires c =
    let tbs : List ℕ = c.args.tbs.now in
    let signature : List ℕ = c.args.signature.now in
    let bits : ℕ = length signature + 1 in
    let a : List ℕ = spelling algorithm_identifier own_algorithm in
    let b : List ℕ = tlv 3 (0 ∷ signature) in
    let all : List ℕ = tbs ++ (a ++ (b ++ [])) in
    let e0 : bits ≡ length (0 ∷ signature) = omega arith in
    let n : ℕ = length tbs + 15 + c.value_len.result in
    let e : n ≡ length all = certificate_size tbs signature bits c.value_len.result e0 c.value_len.ensures.octets in
    let r0 = inside_fits c.args.out.now c.header.new.self 48 n all e c.requires.room c.header.ensures in
    let r1 = second_fits c.header.new.self c.bytes.new.self tbs (a ++ (b ++ [])) r0 c.bytes.ensures in
    first_fits (room_of c.bytes.new.self) a (b ++ []) r1

pub header-requires-2 : goal.header-requires-2
unfolding OwnCertificate
header-requires-2 c =
    let tbs : List ℕ = c.args.tbs.now in
    let signature : List ℕ = c.args.signature.now in
    let bits : ℕ = length signature + 1 in
    let a : List ℕ = spelling algorithm_identifier own_algorithm in
    let b : List ℕ = tlv 3 (0 ∷ signature) in
    let all : List ℕ = tbs ++ (a ++ (b ++ [])) in
    let e0 : bits ≡ length (0 ∷ signature) = omega arith in
    let n : ℕ = length tbs + 15 + c.value_len.result in
    let e : n ≡ length all = certificate_size tbs signature bits c.value_len.result e0 c.value_len.ensures.octets in
    let r0 = inside_fits c.args.out.now c.header.new.self 48 n all e c.requires.room c.header.ensures in
    let r1 = second_fits c.header.new.self c.bytes.new.self tbs (a ++ (b ++ [])) r0 c.bytes.ensures in
    let r2 = second_fits c.bytes.new.self c.write_algorithm.new.out a (b ++ []) r1 c.write_algorithm.ensures in
    let r3 = first_fits (room_of c.write_algorithm.new.out) b [] r2 in
    head_fits (room_of c.write_algorithm.new.out) 3 bits (0 ∷ signature) e0 r3

pub bytes-requires-2 : goal.bytes-requires-2
unfolding OwnCertificate
bytes-requires-2 c =
    let tbs : List ℕ = c.args.tbs.now in
    let signature : List ℕ = c.args.signature.now in
    let bits : ℕ = length signature + 1 in
    let a : List ℕ = spelling algorithm_identifier own_algorithm in
    let b : List ℕ = tlv 3 (0 ∷ signature) in
    let all : List ℕ = tbs ++ (a ++ (b ++ [])) in
    let e0 : bits ≡ length (0 ∷ signature) = omega arith in
    let n : ℕ = length tbs + 15 + c.value_len.result in
    let e : n ≡ length all = certificate_size tbs signature bits c.value_len.result e0 c.value_len.ensures.octets in
    let r0 = inside_fits c.args.out.now c.header.new.self 48 n all e c.requires.room c.header.ensures in
    let r1 = second_fits c.header.new.self c.bytes.new.self tbs (a ++ (b ++ [])) r0 c.bytes.ensures in
    let r2 = second_fits c.bytes.new.self c.write_algorithm.new.out a (b ++ []) r1 c.write_algorithm.ensures in
    let r3 = first_fits (room_of c.write_algorithm.new.out) b [] r2 in
    let r4 = inside_fits c.write_algorithm.new.out c.header-2.new.self 3 bits (0 ∷ signature) e0 r3 c.header-2.ensures in
    first_fits (room_of c.header-2.new.self) (0 ∷ []) signature r4

pub bytes-requires-3 : goal.bytes-requires-3
unfolding OwnCertificate
bytes-requires-3 c =
    let tbs : List ℕ = c.args.tbs.now in
    let signature : List ℕ = c.args.signature.now in
    let bits : ℕ = length signature + 1 in
    let a : List ℕ = spelling algorithm_identifier own_algorithm in
    let b : List ℕ = tlv 3 (0 ∷ signature) in
    let all : List ℕ = tbs ++ (a ++ (b ++ [])) in
    let e0 : bits ≡ length (0 ∷ signature) = omega arith in
    let n : ℕ = length tbs + 15 + c.value_len.result in
    let e : n ≡ length all = certificate_size tbs signature bits c.value_len.result e0 c.value_len.ensures.octets in
    let r0 = inside_fits c.args.out.now c.header.new.self 48 n all e c.requires.room c.header.ensures in
    let r1 = second_fits c.header.new.self c.bytes.new.self tbs (a ++ (b ++ [])) r0 c.bytes.ensures in
    let r2 = second_fits c.bytes.new.self c.write_algorithm.new.out a (b ++ []) r1 c.write_algorithm.ensures in
    let r3 = first_fits (room_of c.write_algorithm.new.out) b [] r2 in
    let r4 = inside_fits c.write_algorithm.new.out c.header-2.new.self 3 bits (0 ∷ signature) e0 r3 c.header-2.ensures in
    second_fits c.header-2.new.self c.bytes-2.new.self (0 ∷ []) signature r4 c.bytes-2.ensures

pub returns : goal.returns
unfolding OwnCertificate
returns c =
    let tbs : List ℕ = c.args.tbs.now in
    let signature : List ℕ = c.args.signature.now in
    let bits : ℕ = length signature + 1 in
    let a : List ℕ = spelling algorithm_identifier own_algorithm in
    let b : List ℕ = tlv 3 (0 ∷ signature) in
    let all : List ℕ = tbs ++ (a ++ (b ++ [])) in
    let e0 : bits ≡ length (0 ∷ signature) = omega arith in
    let n : ℕ = length tbs + 15 + c.value_len.result in
    let e : n ≡ length all = certificate_size tbs signature bits c.value_len.result e0 c.value_len.ensures.octets in
    let last = c.bytes-3.new.self in
    let inner = boxed c.write_algorithm.new.out c.header-2.new.self last 3 bits (0 ∷ signature) e0 c.header-2.ensures (written_more c.header-2.new.self c.bytes-2.new.self last (0 ∷ []) signature c.bytes-2.ensures c.bytes-3.ensures) in
    let w3 = subst (Writes c.write_algorithm.new.out last) (sym (append-nil b)) inner in
    let w2 = written_more c.bytes.new.self c.write_algorithm.new.out last a (b ++ []) c.write_algorithm.ensures w3 in
    let w1 = written_more c.header.new.self c.bytes.new.self last tbs (a ++ (b ++ [])) c.bytes.ensures w2 in
    boxed c.args.out.now c.header.new.self last 48 n all e c.header.ensures w1
