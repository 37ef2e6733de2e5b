-- The octets that were put are the request for the certificates that were read.
use Rattle.std.proofs.Common.{◌∙◌, ap, List, ℕ, subst, sym}
use Rattle.std.specs.Prelude.{All}
use Rattle.std.specs.declared.alloc.Global.{Global}
use Rattle.std.specs.declared.vec.Vec.{Vec}
use Rattle.dv_asn1.specs.Lists.{lists_of}
use Rattle.dv_request.specs.Materials.{IsCertificate as FitsRequest}
use Rattle.dv_tool.specs.Tool.{nonce_in, validation_for}
use Rattle.dv_tool.proofs.Putting.{put_done, put_cut}
use Rattle.dv_tool.proofs.validate.put_validation.Goals as goal

pub request_of_chain-requires-clause-fit : goal.request_of_chain-requires-clause-fit
request_of_chain-requires-clause-fit g c =
    subst (λ (vs : List (Vec ℕ Global)). All FitsRequest (lists_of vs)) (sym c.deref.ensures.value) c.in-Ok.ensures.fit

pub returns-in-Ok-put-clause-put : goal.returns-in-Ok-put-clause-put
returns-in-Ok-put-clause-put g c = λ _. (
  lists_of c.in-Ok.certificates.items,
  c.in-Ok.ensures.certificates,
  λ told.
      put_done _ _ _ _ _
      (c.deref-2.ensures.value ∙ c.in-Ok-request_of_chain.ensures.request
      ∙ ap (λ (vs : List (Vec ℕ Global)). validation_for (lists_of vs) (nonce_in c.args.asked.now.nonce) c.args.asked.now.at) c.deref.ensures.value)
      (c.in-Ok-put.ensures.content told),
)

pub returns-clause-put : goal.returns-clause-put
returns-clause-put g c = λ _. (
  lists_of c.in-Ok.certificates.items,
  c.in-Ok.ensures.certificates,
  λ told.
      put_cut _ _ _ _ _
      (c.deref-2.ensures.value ∙ c.in-Ok-request_of_chain.ensures.request
      ∙ ap (λ (vs : List (Vec ℕ Global)). validation_for (lists_of vs) (nonce_in c.args.asked.now.nonce) c.args.asked.now.at) c.deref.ensures.value)
      (c.in-Err-put.ensures.content told),
)
