use Rattle.std.proofs.Common.{◌≡◌, ◌+◌, ℕ, List, length}
use Rattle.dv_schema.specs.Tlv.{tlv}
use Rattle.dv_asn1.specs.Writing.{room_of}
use Rattle.dv_asn1.proofs.Written.{written_more}
use Rattle.dv_names.specs.declared.identifiers.TheConstants.{COMMON_NAME}
use Rattle.dv_x509.proofs.OwnLemmas.{boxed, first_fits, head_fits, inside_fits, pair_size, pair_text, second_fits, value_size}
use Rattle.dv_x509.proofs.own.write_name.Goals as goal

pub header-requires-2 : goal.header-requires-2
header-requires-2 c =
    let p : List ℕ = pair_text c.args.name.now in
    let pair : ℕ = 5 + c.value_len-pair.result in
    let e0 : pair ≡ length p = pair_size c.args.name.now c.value_len-pair.result c.value_len-pair.ensures.octets in
    let e1 = value_size 48 c.value_len.result pair p e0 c.value_len.ensures.octets in
    let e2 = value_size 49 c.value_len-2.result c.value_len.result (tlv 48 p) e1 c.value_len-2.ensures.octets in
    let e3 = value_size 48 c.value_len-3.result pair p e0 c.value_len-3.ensures.octets in
    let r1 = inside_fits c.args.out.now c.header.new.self 48 c.value_len-2.result (tlv 49 (tlv 48 p)) e2 c.requires.room c.header.ensures in
    head_fits (room_of c.header.new.self) 49 c.value_len-3.result (tlv 48 p) e3 r1

pub header-requires-3 : goal.header-requires-3
header-requires-3 c =
    let p : List ℕ = pair_text c.args.name.now in
    let pair : ℕ = 5 + c.value_len-pair.result in
    let e0 : pair ≡ length p = pair_size c.args.name.now c.value_len-pair.result c.value_len-pair.ensures.octets in
    let e1 = value_size 48 c.value_len.result pair p e0 c.value_len.ensures.octets in
    let e2 = value_size 49 c.value_len-2.result c.value_len.result (tlv 48 p) e1 c.value_len-2.ensures.octets in
    let e3 = value_size 48 c.value_len-3.result pair p e0 c.value_len-3.ensures.octets in
    let r1 = inside_fits c.args.out.now c.header.new.self 48 c.value_len-2.result (tlv 49 (tlv 48 p)) e2 c.requires.room c.header.ensures in
    let r2 = inside_fits c.header.new.self c.header-2.new.self 49 c.value_len-3.result (tlv 48 p) e3 r1 c.header-2.ensures in
    head_fits (room_of c.header-2.new.self) 48 pair p e0 r2

pub tlv-requires : goal.tlv-requires
tlv-requires c =
    let p : List ℕ = pair_text c.args.name.now in
    let pair : ℕ = 5 + c.value_len-pair.result in
    let e0 : pair ≡ length p = pair_size c.args.name.now c.value_len-pair.result c.value_len-pair.ensures.octets in
    let e1 = value_size 48 c.value_len.result pair p e0 c.value_len.ensures.octets in
    let e2 = value_size 49 c.value_len-2.result c.value_len.result (tlv 48 p) e1 c.value_len-2.ensures.octets in
    let e3 = value_size 48 c.value_len-3.result pair p e0 c.value_len-3.ensures.octets in
    let r1 = inside_fits c.args.out.now c.header.new.self 48 c.value_len-2.result (tlv 49 (tlv 48 p)) e2 c.requires.room c.header.ensures in
    let r2 = inside_fits c.header.new.self c.header-2.new.self 49 c.value_len-3.result (tlv 48 p) e3 r1 c.header-2.ensures in
    let r3 = inside_fits c.header-2.new.self c.header-3.new.self 48 pair p e0 r2 c.header-3.ensures in
    first_fits (room_of c.header-3.new.self) (tlv 6 COMMON_NAME) (tlv 12 c.args.name.now) r3

pub tlv-requires-2 : goal.tlv-requires-2
tlv-requires-2 c =
    let p : List ℕ = pair_text c.args.name.now in
    let pair : ℕ = 5 + c.value_len-pair.result in
    let e0 : pair ≡ length p = pair_size c.args.name.now c.value_len-pair.result c.value_len-pair.ensures.octets in
    let e1 = value_size 48 c.value_len.result pair p e0 c.value_len.ensures.octets in
    let e2 = value_size 49 c.value_len-2.result c.value_len.result (tlv 48 p) e1 c.value_len-2.ensures.octets in
    let e3 = value_size 48 c.value_len-3.result pair p e0 c.value_len-3.ensures.octets in
    let r1 = inside_fits c.args.out.now c.header.new.self 48 c.value_len-2.result (tlv 49 (tlv 48 p)) e2 c.requires.room c.header.ensures in
    let r2 = inside_fits c.header.new.self c.header-2.new.self 49 c.value_len-3.result (tlv 48 p) e3 r1 c.header-2.ensures in
    let r3 = inside_fits c.header-2.new.self c.header-3.new.self 48 pair p e0 r2 c.header-3.ensures in
    second_fits c.header-3.new.self c.tlv.new.self (tlv 6 COMMON_NAME) (tlv 12 c.args.name.now) r3 c.tlv.ensures

pub returns : goal.returns
returns c =
    let p : List ℕ = pair_text c.args.name.now in
    let pair : ℕ = 5 + c.value_len-pair.result in
    let e0 : pair ≡ length p = pair_size c.args.name.now c.value_len-pair.result c.value_len-pair.ensures.octets in
    let e1 = value_size 48 c.value_len.result pair p e0 c.value_len.ensures.octets in
    let e2 = value_size 49 c.value_len-2.result c.value_len.result (tlv 48 p) e1 c.value_len-2.ensures.octets in
    let e3 = value_size 48 c.value_len-3.result pair p e0 c.value_len-3.ensures.octets in
    let last = c.tlv-2.new.self in
    let both = written_more c.header-3.new.self c.tlv.new.self last (tlv 6 COMMON_NAME) (tlv 12 c.args.name.now) c.tlv.ensures c.tlv-2.ensures in
    boxed c.args.out.now c.header.new.self last 48 c.value_len-2.result (tlv 49 (tlv 48 p)) e2 c.header.ensures
    (boxed c.header.new.self c.header-2.new.self last 49 c.value_len-3.result (tlv 48 p) e3 c.header-2.ensures
    (boxed c.header-2.new.self c.header-3.new.self last 48 pair p e0 c.header-3.ensures both))
