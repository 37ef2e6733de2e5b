use Rattle.std.proofs.Common.{◌≡◌, ◌++◌, ◌∷◌, [], ℕ, List, length, arith, subst, sym}
use Rattle.std.proofs.lemmas.List.{append-nil}
use Rattle.dv_schema.specs.Tlv.{integer_octets}
use Rattle.dv_schema.specs.Schema.{spelling}
use Rattle.dv_asn1.specs.Writing.{room_of, Writes}
use Rattle.dv_asn1.proofs.Written.{written_more}
use Rattle.dv_names.specs.Types.{algorithm_identifier}
use Rattle.dv_x509.specs.Fields.{validity_of}
use Rattle.dv_x509.specs.Own.{own_algorithm, own_extensions, own_key, own_name}
use Rattle.dv_x509.specs.Types.{certificate_extensions, public_key_info, serial_number, validity, version}
use Rattle.dv_x509.proofs.OwnLemmas.{boxed, first_fits, head_fits, inside_fits, second_fits}
use Rattle.dv_x509.proofs.own.write_tbs.Goals as goal

pub header-requires : goal.header-requires
header-requires c =
    let q = c.args.parts.now in
    let v : List ℕ = spelling version (2 ∷ [], tt) in
    let s : List ℕ = spelling serial_number (integer_octets c.args.serial) in
    let a : List ℕ = spelling algorithm_identifier own_algorithm in
    let n : List ℕ = own_name q.name.now in
    let d : List ℕ = spelling validity (validity_of q.from q.until) in
    let p : List ℕ = spelling public_key_info (own_key c.args.public.now) in
    let x : List ℕ = spelling certificate_extensions (own_extensions c.args.id.now, tt) in
    let sixty : length c.args.public.now ≡ 60 = omega arith in
    let e = c.contents_len.ensures.octets c.args.public.now c.args.id.now sixty c.requires.size in
    let all : List ℕ = v ++ (s ++ (a ++ (n ++ (d ++ (n ++ (p ++ (x ++ []))))))) in
    head_fits (room_of c.args.out.now) 48 c.contents_len.result all e c.requires.room

pub bytes-requires : goal.bytes-requires
bytes-requires c =
    let q = c.args.parts.now in
    let v : List ℕ = spelling version (2 ∷ [], tt) in
    let s : List ℕ = spelling serial_number (integer_octets c.args.serial) in
    let a : List ℕ = spelling algorithm_identifier own_algorithm in
    let n : List ℕ = own_name q.name.now in
    let d : List ℕ = spelling validity (validity_of q.from q.until) in
    let p : List ℕ = spelling public_key_info (own_key c.args.public.now) in
    let x : List ℕ = spelling certificate_extensions (own_extensions c.args.id.now, tt) in
    let sixty : length c.args.public.now ≡ 60 = omega arith in
    let e = c.contents_len.ensures.octets c.args.public.now c.args.id.now sixty c.requires.size in
    let all : List ℕ = v ++ (s ++ (a ++ (n ++ (d ++ (n ++ (p ++ (x ++ []))))))) in
    let r0 = inside_fits c.args.out.now c.header.new.self 48 c.contents_len.result all e c.requires.room c.header.ensures in
    first_fits (room_of c.header.new.self) v (s ++ (a ++ (n ++ (d ++ (n ++ (p ++ (x ++ []))))))) r0

pub number-requires : goal.number-requires
number-requires c =
    let q = c.args.parts.now in
    let v : List ℕ = spelling version (2 ∷ [], tt) in
    let s : List ℕ = spelling serial_number (integer_octets c.args.serial) in
    let a : List ℕ = spelling algorithm_identifier own_algorithm in
    let n : List ℕ = own_name q.name.now in
    let d : List ℕ = spelling validity (validity_of q.from q.until) in
    let p : List ℕ = spelling public_key_info (own_key c.args.public.now) in
    let x : List ℕ = spelling certificate_extensions (own_extensions c.args.id.now, tt) in
    let sixty : length c.args.public.now ≡ 60 = omega arith in
    let e = c.contents_len.ensures.octets c.args.public.now c.args.id.now sixty c.requires.size in
    let all : List ℕ = v ++ (s ++ (a ++ (n ++ (d ++ (n ++ (p ++ (x ++ []))))))) in
    let r0 = inside_fits c.args.out.now c.header.new.self 48 c.contents_len.result all e c.requires.room c.header.ensures in
    let r1 = second_fits c.header.new.self c.bytes.new.self v (s ++ (a ++ (n ++ (d ++ (n ++ (p ++ (x ++ []))))))) r0 c.bytes.ensures in
    first_fits (room_of c.bytes.new.self) s (a ++ (n ++ (d ++ (n ++ (p ++ (x ++ [])))))) r1

pub write_algorithm-requires : goal.write_algorithm-requires
write_algorithm-requires c =
    let q = c.args.parts.now in
    let v : List ℕ = spelling version (2 ∷ [], tt) in
    let s : List ℕ = spelling serial_number (integer_octets c.args.serial) in
    let a : List ℕ = spelling algorithm_identifier own_algorithm in
    let n : List ℕ = own_name q.name.now in
    let d : List ℕ = spelling validity (validity_of q.from q.until) in
    let p : List ℕ = spelling public_key_info (own_key c.args.public.now) in
    let x : List ℕ = spelling certificate_extensions (own_extensions c.args.id.now, tt) in
    let sixty : length c.args.public.now ≡ 60 = omega arith in
    let e = c.contents_len.ensures.octets c.args.public.now c.args.id.now sixty c.requires.size in
    let all : List ℕ = v ++ (s ++ (a ++ (n ++ (d ++ (n ++ (p ++ (x ++ []))))))) in
    let r0 = inside_fits c.args.out.now c.header.new.self 48 c.contents_len.result all e c.requires.room c.header.ensures in
    let r1 = second_fits c.header.new.self c.bytes.new.self v (s ++ (a ++ (n ++ (d ++ (n ++ (p ++ (x ++ []))))))) r0 c.bytes.ensures in
    let r2 = second_fits c.bytes.new.self c.number.new.self s (a ++ (n ++ (d ++ (n ++ (p ++ (x ++ [])))))) r1 c.number.ensures in
    first_fits (room_of c.number.new.self) a (n ++ (d ++ (n ++ (p ++ (x ++ []))))) r2

pub write_name-requires-clause-room : goal.write_name-requires-clause-room
write_name-requires-clause-room c =
    let q = c.args.parts.now in
    let v : List ℕ = spelling version (2 ∷ [], tt) in
    let s : List ℕ = spelling serial_number (integer_octets c.args.serial) in
    let a : List ℕ = spelling algorithm_identifier own_algorithm in
    let n : List ℕ = own_name q.name.now in
    let d : List ℕ = spelling validity (validity_of q.from q.until) in
    let p : List ℕ = spelling public_key_info (own_key c.args.public.now) in
    let x : List ℕ = spelling certificate_extensions (own_extensions c.args.id.now, tt) in
    let sixty : length c.args.public.now ≡ 60 = omega arith in
    let e = c.contents_len.ensures.octets c.args.public.now c.args.id.now sixty c.requires.size in
    let all : List ℕ = v ++ (s ++ (a ++ (n ++ (d ++ (n ++ (p ++ (x ++ []))))))) in
    let r0 = inside_fits c.args.out.now c.header.new.self 48 c.contents_len.result all e c.requires.room c.header.ensures in
    let r1 = second_fits c.header.new.self c.bytes.new.self v (s ++ (a ++ (n ++ (d ++ (n ++ (p ++ (x ++ []))))))) r0 c.bytes.ensures in
    let r2 = second_fits c.bytes.new.self c.number.new.self s (a ++ (n ++ (d ++ (n ++ (p ++ (x ++ [])))))) r1 c.number.ensures in
    let r3 = second_fits c.number.new.self c.write_algorithm.new.out a (n ++ (d ++ (n ++ (p ++ (x ++ []))))) r2 c.write_algorithm.ensures in
    first_fits (room_of c.write_algorithm.new.out) n (d ++ (n ++ (p ++ (x ++ [])))) r3

pub write_validity-requires : goal.write_validity-requires
write_validity-requires c =
    let q = c.args.parts.now in
    let v : List ℕ = spelling version (2 ∷ [], tt) in
    let s : List ℕ = spelling serial_number (integer_octets c.args.serial) in
    let a : List ℕ = spelling algorithm_identifier own_algorithm in
    let n : List ℕ = own_name q.name.now in
    let d : List ℕ = spelling validity (validity_of q.from q.until) in
    let p : List ℕ = spelling public_key_info (own_key c.args.public.now) in
    let x : List ℕ = spelling certificate_extensions (own_extensions c.args.id.now, tt) in
    let sixty : length c.args.public.now ≡ 60 = omega arith in
    let e = c.contents_len.ensures.octets c.args.public.now c.args.id.now sixty c.requires.size in
    let all : List ℕ = v ++ (s ++ (a ++ (n ++ (d ++ (n ++ (p ++ (x ++ []))))))) in
    let r0 = inside_fits c.args.out.now c.header.new.self 48 c.contents_len.result all e c.requires.room c.header.ensures in
    let r1 = second_fits c.header.new.self c.bytes.new.self v (s ++ (a ++ (n ++ (d ++ (n ++ (p ++ (x ++ []))))))) r0 c.bytes.ensures in
    let r2 = second_fits c.bytes.new.self c.number.new.self s (a ++ (n ++ (d ++ (n ++ (p ++ (x ++ [])))))) r1 c.number.ensures in
    let r3 = second_fits c.number.new.self c.write_algorithm.new.out a (n ++ (d ++ (n ++ (p ++ (x ++ []))))) r2 c.write_algorithm.ensures in
    let r4 = second_fits c.write_algorithm.new.out c.write_name.new.out n (d ++ (n ++ (p ++ (x ++ [])))) r3 c.write_name.ensures in
    first_fits (room_of c.write_name.new.out) d (n ++ (p ++ (x ++ []))) r4

pub write_name-requires-2-clause-room : goal.write_name-requires-2-clause-room
write_name-requires-2-clause-room c =
    let q = c.args.parts.now in
    let v : List ℕ = spelling version (2 ∷ [], tt) in
    let s : List ℕ = spelling serial_number (integer_octets c.args.serial) in
    let a : List ℕ = spelling algorithm_identifier own_algorithm in
    let n : List ℕ = own_name q.name.now in
    let d : List ℕ = spelling validity (validity_of q.from q.until) in
    let p : List ℕ = spelling public_key_info (own_key c.args.public.now) in
    let x : List ℕ = spelling certificate_extensions (own_extensions c.args.id.now, tt) in
    let sixty : length c.args.public.now ≡ 60 = omega arith in
    let e = c.contents_len.ensures.octets c.args.public.now c.args.id.now sixty c.requires.size in
    let all : List ℕ = v ++ (s ++ (a ++ (n ++ (d ++ (n ++ (p ++ (x ++ []))))))) in
    let r0 = inside_fits c.args.out.now c.header.new.self 48 c.contents_len.result all e c.requires.room c.header.ensures in
    let r1 = second_fits c.header.new.self c.bytes.new.self v (s ++ (a ++ (n ++ (d ++ (n ++ (p ++ (x ++ []))))))) r0 c.bytes.ensures in
    let r2 = second_fits c.bytes.new.self c.number.new.self s (a ++ (n ++ (d ++ (n ++ (p ++ (x ++ [])))))) r1 c.number.ensures in
    let r3 = second_fits c.number.new.self c.write_algorithm.new.out a (n ++ (d ++ (n ++ (p ++ (x ++ []))))) r2 c.write_algorithm.ensures in
    let r4 = second_fits c.write_algorithm.new.out c.write_name.new.out n (d ++ (n ++ (p ++ (x ++ [])))) r3 c.write_name.ensures in
    let r5 = second_fits c.write_name.new.out c.write_validity.new.out d (n ++ (p ++ (x ++ []))) r4 c.write_validity.ensures in
    first_fits (room_of c.write_validity.new.out) n (p ++ (x ++ [])) r5

pub write_key-requires : goal.write_key-requires
write_key-requires c =
    let q = c.args.parts.now in
    let v : List ℕ = spelling version (2 ∷ [], tt) in
    let s : List ℕ = spelling serial_number (integer_octets c.args.serial) in
    let a : List ℕ = spelling algorithm_identifier own_algorithm in
    let n : List ℕ = own_name q.name.now in
    let d : List ℕ = spelling validity (validity_of q.from q.until) in
    let p : List ℕ = spelling public_key_info (own_key c.args.public.now) in
    let x : List ℕ = spelling certificate_extensions (own_extensions c.args.id.now, tt) in
    let sixty : length c.args.public.now ≡ 60 = omega arith in
    let e = c.contents_len.ensures.octets c.args.public.now c.args.id.now sixty c.requires.size in
    let all : List ℕ = v ++ (s ++ (a ++ (n ++ (d ++ (n ++ (p ++ (x ++ []))))))) in
    let r0 = inside_fits c.args.out.now c.header.new.self 48 c.contents_len.result all e c.requires.room c.header.ensures in
    let r1 = second_fits c.header.new.self c.bytes.new.self v (s ++ (a ++ (n ++ (d ++ (n ++ (p ++ (x ++ []))))))) r0 c.bytes.ensures in
    let r2 = second_fits c.bytes.new.self c.number.new.self s (a ++ (n ++ (d ++ (n ++ (p ++ (x ++ [])))))) r1 c.number.ensures in
    let r3 = second_fits c.number.new.self c.write_algorithm.new.out a (n ++ (d ++ (n ++ (p ++ (x ++ []))))) r2 c.write_algorithm.ensures in
    let r4 = second_fits c.write_algorithm.new.out c.write_name.new.out n (d ++ (n ++ (p ++ (x ++ [])))) r3 c.write_name.ensures in
    let r5 = second_fits c.write_name.new.out c.write_validity.new.out d (n ++ (p ++ (x ++ []))) r4 c.write_validity.ensures in
    let r6 = second_fits c.write_validity.new.out c.write_name-2.new.out n (p ++ (x ++ [])) r5 c.write_name-2.ensures in
    first_fits (room_of c.write_name-2.new.out) p (x ++ []) r6

pub write_extensions-requires-clause-room : goal.write_extensions-requires-clause-room
write_extensions-requires-clause-room c =
    let q = c.args.parts.now in
    let v : List ℕ = spelling version (2 ∷ [], tt) in
    let s : List ℕ = spelling serial_number (integer_octets c.args.serial) in
    let a : List ℕ = spelling algorithm_identifier own_algorithm in
    let n : List ℕ = own_name q.name.now in
    let d : List ℕ = spelling validity (validity_of q.from q.until) in
    let p : List ℕ = spelling public_key_info (own_key c.args.public.now) in
    let x : List ℕ = spelling certificate_extensions (own_extensions c.args.id.now, tt) in
    let sixty : length c.args.public.now ≡ 60 = omega arith in
    let e = c.contents_len.ensures.octets c.args.public.now c.args.id.now sixty c.requires.size in
    let all : List ℕ = v ++ (s ++ (a ++ (n ++ (d ++ (n ++ (p ++ (x ++ []))))))) in
    let r0 = inside_fits c.args.out.now c.header.new.self 48 c.contents_len.result all e c.requires.room c.header.ensures in
    let r1 = second_fits c.header.new.self c.bytes.new.self v (s ++ (a ++ (n ++ (d ++ (n ++ (p ++ (x ++ []))))))) r0 c.bytes.ensures in
    let r2 = second_fits c.bytes.new.self c.number.new.self s (a ++ (n ++ (d ++ (n ++ (p ++ (x ++ [])))))) r1 c.number.ensures in
    let r3 = second_fits c.number.new.self c.write_algorithm.new.out a (n ++ (d ++ (n ++ (p ++ (x ++ []))))) r2 c.write_algorithm.ensures in
    let r4 = second_fits c.write_algorithm.new.out c.write_name.new.out n (d ++ (n ++ (p ++ (x ++ [])))) r3 c.write_name.ensures in
    let r5 = second_fits c.write_name.new.out c.write_validity.new.out d (n ++ (p ++ (x ++ []))) r4 c.write_validity.ensures in
    let r6 = second_fits c.write_validity.new.out c.write_name-2.new.out n (p ++ (x ++ [])) r5 c.write_name-2.ensures in
    let r7 = second_fits c.write_name-2.new.out c.write_key.new.out p (x ++ []) r6 c.write_key.ensures in
    first_fits (room_of c.write_key.new.out) x ([]) r7

pub returns : goal.returns
returns c =
    let q = c.args.parts.now in
    let v : List ℕ = spelling version (2 ∷ [], tt) in
    let s : List ℕ = spelling serial_number (integer_octets c.args.serial) in
    let a : List ℕ = spelling algorithm_identifier own_algorithm in
    let n : List ℕ = own_name q.name.now in
    let d : List ℕ = spelling validity (validity_of q.from q.until) in
    let p : List ℕ = spelling public_key_info (own_key c.args.public.now) in
    let x : List ℕ = spelling certificate_extensions (own_extensions c.args.id.now, tt) in
    let sixty : length c.args.public.now ≡ 60 = omega arith in
    let e = c.contents_len.ensures.octets c.args.public.now c.args.id.now sixty c.requires.size in
    let all : List ℕ = v ++ (s ++ (a ++ (n ++ (d ++ (n ++ (p ++ (x ++ []))))))) in
    let last = c.write_extensions.new.out in
    let w7 = subst (Writes c.write_key.new.out last) (sym (append-nil x)) c.write_extensions.ensures in
    let w6 = written_more c.write_name-2.new.out c.write_key.new.out last p (x ++ []) c.write_key.ensures w7 in
    let w5 = written_more c.write_validity.new.out c.write_name-2.new.out last n (p ++ (x ++ [])) c.write_name-2.ensures w6 in
    let w4 = written_more c.write_name.new.out c.write_validity.new.out last d (n ++ (p ++ (x ++ []))) c.write_validity.ensures w5 in
    let w3 = written_more c.write_algorithm.new.out c.write_name.new.out last n (d ++ (n ++ (p ++ (x ++ [])))) c.write_name.ensures w4 in
    let w2 = written_more c.number.new.self c.write_algorithm.new.out last a (n ++ (d ++ (n ++ (p ++ (x ++ []))))) c.write_algorithm.ensures w3 in
    let w1 = written_more c.bytes.new.self c.number.new.self last s (a ++ (n ++ (d ++ (n ++ (p ++ (x ++ [])))))) c.number.ensures w2 in
    let w0 = written_more c.header.new.self c.bytes.new.self last v (s ++ (a ++ (n ++ (d ++ (n ++ (p ++ (x ++ []))))))) c.bytes.ensures w1 in
    boxed c.args.out.now c.header.new.self last 48 c.contents_len.result all e c.header.ensures w0
