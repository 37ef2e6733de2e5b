use Rattle.std.proofs.Common.{◌≡◌, ◌++◌, List, ℕ, length, ap, ◌∙◌, append_assoc, arith}
use Rattle.dv_asn1.specs.Writing.{text_of}
use Rattle.dv_cms.specs.Types.{content_header}
use Rattle.dv_cms.proofs.ContentHeader.{content_header-append, length-content_header, content_header_short}
use Rattle.dv_cms.proofs.content_info.ContentInfo.write.Goals as goal

pub write_content_header-requires-clause-total : goal.write_content_header-requires-clause-total
write_content_header-requires-clause-total c = content_header_short c.args.self.now.oid.now c.args.self.now.content.now c.args.self.now.spelled

pub write_content_header-requires-clause-room : goal.write_content_header-requires-clause-room
write_content_header-requires-clause-room c = let a = length-content_header c.args.self.now.oid.now c.args.self.now.content.now in omega (arith, a, c.requires)

pub bytes-requires : goal.bytes-requires
bytes-requires c =
    let a = length-content_header c.args.self.now.oid.now c.args.self.now.content.now in
    omega (arith, a, c.requires, c.write_content_header.ensures.room)

pub returns : goal.returns
returns c =
    let type : List ℕ = c.args.self.now.oid.now in
    let content : List ℕ = c.args.self.now.content.now in
    let a = length-content_header type content in
    record {
      same_reference = c.bytes.ensures.same_reference ∙ c.write_content_header.ensures.same_reference;
      text = c.bytes.ensures.text ∙ ap (λ (x : List ℕ). x ++ content) c.write_content_header.ensures.text
          ∙ append_assoc (text_of c.args.out.now) (content_header type (length content)) content
          ∙ ap (λ (x : List ℕ). text_of c.args.out.now ++ x) (content_header-append type content);
      room = omega (arith, a, c.write_content_header.ensures.room, c.bytes.ensures.room);
    }
