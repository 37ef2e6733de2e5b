use Rattle.dv_schema.specs.Reading.{is_tag_of}
use Rattle.dv_schema.proofs.Moves.{item_opens}
use Rattle.dv_signed.proofs.attributes.next_attribute.Goals as goal

pub returns-clause-less : goal.returns-clause-less
returns-clause-less c = (item_opens (is_tag_of 48) c.args.c.now _ c.in_ok-inside.ensures.item).moves.less
