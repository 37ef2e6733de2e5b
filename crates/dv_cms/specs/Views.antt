-- The types of the code as values of their schemas.
use Rattle.dv_schema.specs.Schema.{ValueOf}
use Rattle.dv_cms.specs.declared.content_info.ContentInfo.{ContentInfo}
use Rattle.dv_cms.specs.Types.{content_info}

-- a ContentInfo: its type, and its content under the explicit tag
abbrev pub view_content_info : ContentInfo → ValueOf content_info
view_content_info c = (c.oid.now, ((c.content.now, tt), tt))
