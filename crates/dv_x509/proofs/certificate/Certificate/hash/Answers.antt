use Rattle.std.proofs.Common.{◌∙◌, ap}
use Rattle.sha2.specs.Sha256.{sha256}
use Rattle.dv_x509.specs.View.{view_certificate}
use Rattle.dv_x509.proofs.UseLemmas.{header_and_body}
use Rattle.dv_x509.proofs.certificate.Certificate.hash.Goals as goal

pub returns : goal.returns
returns c =
    c.finalize.ensures _ (c.update-2.ensures _ (c.update.ensures _ c.new-hasher.ensures))
    ∙ ap sha256 (header_and_body c.header_len-len.result c.write_header.new.into _ c.args.self.now.body.now (view_certificate c.args.self.now) c.header_len-len.ensures.count c.write_header.ensures c.args.self.now.whole)
