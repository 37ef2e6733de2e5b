-- Drafts as values of their schema.
use Rattle.dv_schema.specs.Schema.{ValueOf}
use Rattle.dv_draft.specs.declared.draft.Draft.{Draft}
use Rattle.dv_draft.specs.Parts.{draft_of}
use Rattle.dv_draft.specs.Types.{draft}

-- a draft: its parts
abbrev pub view_draft : Draft → ValueOf draft
view_draft d = draft_of d.info d.imprint d.time d.status d.policy d.req_signature d.certs
