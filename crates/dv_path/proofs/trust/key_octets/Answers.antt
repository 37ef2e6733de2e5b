use Rattle.std.proofs.Common.{sym}
use Rattle.dv_x509.specs.View.{view_certificate}
use Rattle.dv_path.proofs.KeyLengths.{key_length}
use Rattle.dv_path.proofs.trust.key_octets.Goals as goal

pub copy_from_slice-requires : goal.copy_from_slice-requires
copy_from_slice-requires c = sym (key_length (view_certificate c.args.certificate.now) c.in-Some.key.now (sym c.in-Some.ensures))
