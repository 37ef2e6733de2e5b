-- What octets of a content type were read as.
use Rattle.std.proofs.Common.{◌≡◌, ℕ, Bool, List, Ok, Err, subst, inl, inr}
use Rattle.std.specs.Prelude.{Option, option_map}
use Rattle.dv_schema.specs.declared.refusal.Der.{Der}
use Rattle.dv_schema.specs.Decodes.{DecodesAll}
use Rattle.dv_status.specs.Fail.{fail_octets}
use Rattle.dv_response.specs.declared.cert_info.CertInfo.{CertInfo}
use Rattle.dv_response.specs.declared.response.Notice.{Notice as ReadNotice}
use Rattle.dv_response.specs.declared.response.Response.{Response}
use Rattle.dv_response.specs.declared.response.Response.TheVariants.{Certified, Refused}
use Rattle.dv_response.specs.ResponseView.{view_response}
use Rattle.dv_response.specs.Types.{response}
use Rattle.dv_response.specs.Views.{view_cert_info, view_notice}
use Rattle.dv_show.specs.declared.shown.ContentType.TheVariants.{ResponseData}
use Rattle.dv_show.specs.declared.shown.Shown.{Shown}
use Rattle.dv_show.specs.declared.shown.Shown.TheVariants.{Request, Notice, Certificate}
use Rattle.dv_show.specs.Values.{IsCertificate, IsContent, IsLeast, IsNotice, type_of}

module _ (r : Response) (octets : List ℕ) (d : DecodesAll response view_response (Ok r) (record { levels = 32; place = 0; rest = octets })) where
  -- what was read, where it is this response
  read_as : (s : Response) → r ≡ s → DecodesAll response view_response (Ok s) (record { levels = 32; place = 0; rest = octets })
  read_as s same = subst (λ (x : Response). DecodesAll response view_response (Ok x) (record { levels = 32; place = 0; rest = octets })) same d

  -- a notice with this least failure bit
  pub is_notice : (n : ReadNotice) (least : Option ℕ) → r ≡ Refused n → IsLeast (option_map fail_octets n.status.fail) least → IsNotice least octets
  is_notice n least same names = let e = read_as (Refused n) same in record { notice = view_notice n; fits = e.found.0; spelled = e.found.1; names = names }

  -- a certificate of service
  pub is_certificate : (info : CertInfo) → r ≡ Certified info → IsCertificate info octets
  is_certificate info same = let e = read_as (Certified info) same in (e.found.0, e.found.1)

-- where a response was refused there is no value of its type
pub none_read : (refusal : Der) (octets : List ℕ) → DecodesAll response view_response (Err refusal) (record { levels = 32; place = 0; rest = octets })
    → (value : Shown) (signed : Bool) → type_of value ≡ ResponseData → IsContent value signed octets → ⊥
none_read refusal octets d (Request service in_signed) signed kind is = cc
none_read refusal octets d (Notice least) signed kind is = d.only (inr is.notice) is.fits is.spelled
none_read refusal octets d (Certificate info) signed kind is = d.only (inl (view_cert_info info)) is.1.0 is.1.1
