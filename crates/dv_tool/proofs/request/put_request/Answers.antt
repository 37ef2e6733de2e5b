-- The octets that were put are the request for those that the shelf gave.
use Rattle.std.proofs.Common.{◌∙◌, ◌≤◌, ap, length, List, ℕ, subst}
use Rattle.dv_tool.specs.Tool.{nonce_in, request_for}
use Rattle.dv_tool.proofs.Putting.{put_done, put_cut}
use Rattle.dv_tool.proofs.request.put_request.Goals as goal

pub returns-in-Ok-put-clause-put : goal.returns-in-Ok-put-clause-put
returns-in-Ok-put-clause-put g c = λ _. (
  c.in-Ok.octets.items,
  subst (λ (n : ℕ). length c.in-Ok.octets.items ≤ n) c.file_limit-limit.ensures c.in-Ok.ensures.short,
  c.in-Ok.ensures.octets,
  λ told.
      put_done _ _ _ _ _
      (c.deref-2.ensures.value ∙ c.in-Ok-request_of_octets.ensures.request
      ∙ ap (λ (o : List ℕ). request_for c.args.terms.now.service o (nonce_in c.args.terms.now.nonce) c.args.terms.now.at) c.deref.ensures.value)
      (c.in-Ok-put.ensures.content told),
)

pub returns-clause-put : goal.returns-clause-put
returns-clause-put g c = λ _. (
  c.in-Ok.octets.items,
  subst (λ (n : ℕ). length c.in-Ok.octets.items ≤ n) c.file_limit-limit.ensures c.in-Ok.ensures.short,
  c.in-Ok.ensures.octets,
  λ told.
      put_cut _ _ _ _ _
      (c.deref-2.ensures.value ∙ c.in-Ok-request_of_octets.ensures.request
      ∙ ap (λ (o : List ℕ). request_for c.args.terms.now.service o (nonce_in c.args.terms.now.nonce) c.args.terms.now.at) c.deref.ensures.value)
      (c.in-Err-put.ensures.content told),
)
