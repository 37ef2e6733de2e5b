use Rattle.std.proofs.Common.{◌≤◌, ◌++◌, ℕ, List, length, subst, sym}
use Rattle.dv_schema.specs.Tlv.{tlv}
use Rattle.dv_schema.specs.Schema.{spelling}
use Rattle.dv_asn1.specs.Writing.{room_of, Writes}
use Rattle.dv_asn1.proofs.Written.{written_more}
use Rattle.dv_names.specs.Types.{extension}
use Rattle.dv_x509.specs.Own.{key_id_extension, own_extensions, purpose_extension, usage_extension}
use Rattle.dv_x509.proofs.OwnLemmas.{boxed, extensions_size, first_fits, inside_fits, list_size, second_fits, tagged_is}
use Rattle.dv_x509.proofs.own.write_extensions.Goals as goal

pub write_usage-requires : goal.write_usage-requires
write_usage-requires c =
    let id : List ℕ = c.args.id.now in
    let u : List ℕ = spelling extension usage_extension in
    let p : List ℕ = spelling extension purpose_extension in
    let k : List ℕ = spelling extension (key_id_extension id) in
    let r0 = subst (λ (x : List ℕ). length x ≤ room_of c.args.out.now) (tagged_is id) c.requires.room in
    let r1 = inside_fits c.args.out.now c.header.new.self 163 73 (tlv 48 (own_extensions id)) (sym (list_size id c.requires.size)) r0 c.header.ensures in
    let r2 = inside_fits c.header.new.self c.header-2.new.self 48 71 (own_extensions id) (sym (extensions_size id c.requires.size)) r1 c.header-2.ensures in
    first_fits (room_of c.header-2.new.self) u (p ++ k) r2

pub write_purpose-requires : goal.write_purpose-requires
write_purpose-requires c =
    let id : List ℕ = c.args.id.now in
    let u : List ℕ = spelling extension usage_extension in
    let p : List ℕ = spelling extension purpose_extension in
    let k : List ℕ = spelling extension (key_id_extension id) in
    let r0 = subst (λ (x : List ℕ). length x ≤ room_of c.args.out.now) (tagged_is id) c.requires.room in
    let r1 = inside_fits c.args.out.now c.header.new.self 163 73 (tlv 48 (own_extensions id)) (sym (list_size id c.requires.size)) r0 c.header.ensures in
    let r2 = inside_fits c.header.new.self c.header-2.new.self 48 71 (own_extensions id) (sym (extensions_size id c.requires.size)) r1 c.header-2.ensures in
    let r3 = second_fits c.header-2.new.self c.write_usage.new.out u (p ++ k) r2 c.write_usage.ensures in
    first_fits (room_of c.write_usage.new.out) p k r3

pub write_key_id-requires-clause-room : goal.write_key_id-requires-clause-room
write_key_id-requires-clause-room c =
    let id : List ℕ = c.args.id.now in
    let u : List ℕ = spelling extension usage_extension in
    let p : List ℕ = spelling extension purpose_extension in
    let k : List ℕ = spelling extension (key_id_extension id) in
    let r0 = subst (λ (x : List ℕ). length x ≤ room_of c.args.out.now) (tagged_is id) c.requires.room in
    let r1 = inside_fits c.args.out.now c.header.new.self 163 73 (tlv 48 (own_extensions id)) (sym (list_size id c.requires.size)) r0 c.header.ensures in
    let r2 = inside_fits c.header.new.self c.header-2.new.self 48 71 (own_extensions id) (sym (extensions_size id c.requires.size)) r1 c.header-2.ensures in
    let r3 = second_fits c.header-2.new.self c.write_usage.new.out u (p ++ k) r2 c.write_usage.ensures in
    second_fits c.write_usage.new.out c.write_purpose.new.out p k r3 c.write_purpose.ensures

pub returns : goal.returns
returns c =
    let id : List ℕ = c.args.id.now in
    let u : List ℕ = spelling extension usage_extension in
    let p : List ℕ = spelling extension purpose_extension in
    let k : List ℕ = spelling extension (key_id_extension id) in
    let last = c.write_key_id.new.out in
    let pair = written_more c.write_usage.new.out c.write_purpose.new.out last p k c.write_purpose.ensures c.write_key_id.ensures in
    let all = written_more c.header-2.new.self c.write_usage.new.out last u (p ++ k) c.write_usage.ensures pair in
    subst (Writes c.args.out.now last) (sym (tagged_is id))
    (boxed c.args.out.now c.header.new.self last 163 73 (tlv 48 (own_extensions id)) (sym (list_size id c.requires.size)) c.header.ensures
    (boxed c.header.new.self c.header-2.new.self last 48 71 (own_extensions id) (sym (extensions_size id c.requires.size)) c.header-2.ensures all))
