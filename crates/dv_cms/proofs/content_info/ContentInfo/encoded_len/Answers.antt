use Rattle.std.proofs.Common.{◌+◌, ap, ◌∙◌, arith, length}
use Rattle.dv_cms.proofs.ContentHeader.{length-content_header, content_header_short}
use Rattle.dv_cms.proofs.content_info.ContentInfo.encoded_len.Goals as goal

pub content_header_len-requires : goal.content_header_len-requires
content_header_len-requires c = content_header_short c.args.self.now.oid.now c.args.self.now.content.now c.args.self.now.spelled

pub overflow_add-result : goal.overflow_add-result
overflow_add-result c =
    let a = content_header_short c.args.self.now.oid.now c.args.self.now.content.now c.args.self.now.spelled in
    omega (arith, a, c.content_header_len.ensures)

pub returns : goal.returns
returns c = ap (λ n. n + length c.args.self.now.content.now) c.content_header_len.ensures ∙ length-content_header c.args.self.now.oid.now c.args.self.now.content.now
