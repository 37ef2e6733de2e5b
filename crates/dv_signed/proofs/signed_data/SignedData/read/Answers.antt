use Rattle.std.proofs.Common.{rules, arith, ◌≡◌, ◌+◌, ℕ, false, Ok, length, ap, sym, ◌∙◌}
use Rattle.std.proofs.lemmas.Grind.{common_steps}
use Rattle.std.proofs.lemmas.List.{length-append}
use Rattle.std.specs.Option.{option_copied}
use Rattle.dv_schema.specs.Tlv.{tlv}
use Rattle.dv_schema.specs.Schema.{ValueOf, spelling}
use Rattle.dv_schema.specs.Types.{any, list_of}
use Rattle.dv_schema.specs.Reading.{Spot, is_tag_of, item_at, read}
use Rattle.dv_schema.proofs.Kept.{kept_value}
use Rattle.dv_schema.proofs.Takes.{takes}
use Rattle.dv_cms.specs.Types.{certificate_choice, signed_data}
use Rattle.dv_signed.specs.Fields.{encapsulated_with, signed_with}
use Rattle.dv_signed.specs.Places.{octets_place_at, type_place_at, type_place_of}
use Rattle.dv_signed.proofs.PlaceLemmas.{encap_placed}
use Rattle.dv_signed.proofs.SetLemmas.{content_again, fields_less, maybe_less}
use Rattle.dv_signed.proofs.signed_data.SignedData.read.Goals as goal

pub read_certificates-requires : goal.read_certificates-requires
read_certificates-requires c =
    let e = c.in_ok-encapsulated.encapsulated in
    let less = fields_less c.fork-next.result c.in_ok-inside.inside c.enter.new.self c.read_version.new.c c.read_list.new.c c.read.new.c c.in_ok-version.version c.in_ok-digest_algs.digest_algs.now
    (encapsulated_with e.content_type.now (option_copied e.content)) c.in_ok-inside.ensures.item c.in_ok-version.ensures c.in_ok-digest_algs.ensures c.in_ok-encapsulated.ensures.read in
    omega (arith, less, c.requires.short, ap (λ (p : Spot). length p.rest) c.fork-next.ensures.same)

pub read_signers-requires : goal.read_signers-requires
read_signers-requires c =
    let e = c.in_ok-encapsulated.encapsulated in
    let less = fields_less c.fork-next.result c.in_ok-inside.inside c.enter.new.self c.read_version.new.c c.read_list.new.c c.read.new.c c.in_ok-version.version c.in_ok-digest_algs.digest_algs.now
    (encapsulated_with e.content_type.now (option_copied e.content)) c.in_ok-inside.ensures.item c.in_ok-version.ensures c.in_ok-digest_algs.ensures c.in_ok-encapsulated.ensures.read in
    let four = maybe_less (list_of 160 false certificate_choice) _ c.read.new.c (option_copied c.in_ok-certificate_set.certificate_set, c.read_certificates.new.c) c.in_ok-certificate_set.ensures.set in
    let five = maybe_less (list_of 161 false any) _ c.read_certificates.new.c (option_copied c.in_ok-crls.crls, c.read_optional_list.new.c) c.in_ok-crls.ensures in
    omega (arith, less, four, five, c.requires.short, ap (λ (p : Spot). length p.rest) c.fork-next.ensures.same)

pub invariant_of-result : goal.invariant_of-result
unfolding read
invariant_of-result c =
    let p = c.args.c.now in
    let f = c.fork-next.ensures in
    let e = c.in_ok-encapsulated.encapsulated in
    let content = option_copied e.content in
    let v : ValueOf signed_data = signed_with c.in_ok-version.version c.in_ok-digest_algs.digest_algs.now e.content_type.now content (option_copied c.in_ok-certificate_set.certificate_set) (option_copied c.in_ok-crls.crls) c.in_ok-signer_infos.signer_infos.now in
    let x : ValueOf signed_data × Spot = (v, c.enter.new.self) in
    let whole : read signed_data p ≡ Ok x = first_of (search rules, grind (arith, common_steps)) in
    let item = ap (item_at (is_tag_of 48)) (sym f.same) ∙ c.in_ok-inside.ensures.item in
    let encap = encap_placed p c.in_ok-inside.inside c.enter.new.self c.read_version.new.c c.read_list.new.c v c.requires.front f.octets item whole c.in_ok-version.ensures c.in_ok-digest_algs.ensures in
    let type = c.in_ok-encapsulated.ensures.type_place ∙ ap (λ (n : ℕ). type_place_at n (encapsulated_with e.content_type.now content)) encap in
    let t = takes signed_data p x f.octets whole in
    record {
      spelled = kept_value signed_data p x f.octets f.levels f.room whole;
      short = omega (arith, c.requires.short, ap length t.0.octets, length-append (spelling signed_data v) c.enter.new.self.rest);
      certificates_counted = c.in_ok-certificate_set.ensures.count;
      signers_counted = c.in_ok-signer_infos.ensures.count;
      encap_placed = c.place-encap_place.ensures ∙ encap;
      type_placed = type;
      content_placed = c.in_ok-encapsulated.ensures.content_place
          ∙ ap (λ (n : ℕ). octets_place_at (n + length (tlv 6 e.content_type.now)) content) type
          ∙ ap (octets_place_at (type_place_of v + length (tlv 6 e.content_type.now))) (sym (content_again content));
    }
