use Rattle.std.proofs.Common.{◌≡◌, Ok, length, ap, ◌∙◌, arith}
use Rattle.std.specs.Option.{option_copied}
use Rattle.dv_schema.specs.Reading.{Spot, all_at, read}
use Rattle.dv_cms.specs.Types.{signer_info}
use Rattle.dv_members.proofs.MemberLemmas.{IsMember, member_is}
use Rattle.dv_signed.specs.Certificates.{signers_in}
use Rattle.dv_signed.specs.SignerView.{view_signer}
use Rattle.dv_signed.proofs.SetLemmas.{signers_read}
use Rattle.dv_signed.proofs.signed_data.SignedData.signer.Goals as goal

-- the signer that was found
found : (c : goal.After-member_at) → IsMember view_signer c.member_at.result (signers_in c.args.self.now.signer_infos.now) c.args.i
found c =
    let s = c.args.self.now in
    let all = signers_read s.version s.digest_algs.now s.content_type.now (option_copied s.content) (option_copied s.certificate_set) (option_copied s.crls) s.signer_infos.now s.spelled in
    let here : all_at (read signer_info) (length c.new.result.rest) c.new.result ≡ Ok (signers_in s.signer_infos.now) = ap (λ (p : Spot). all_at (read signer_info) (length p.rest) p) c.new.ensures ∙ all in
    member_is view_signer c.member_at.result (signers_in s.signer_infos.now) c.args.i (c.member_at.ensures (signers_in s.signer_infos.now) here)

pub returns-clause-none : goal.returns-clause-none
returns-clause-none c =
    let n = c.args.self.now.signers_counted in
    (λ no. (let past = (found c).past no in omega arith), λ le. (found c).none (omega arith))

pub returns-clause-signer : goal.returns-clause-signer
returns-clause-signer c = (found c).same
