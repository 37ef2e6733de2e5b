use Rattle.std.proofs.Common.{inl, inr, arith}
use Rattle.dv_session.proofs.HeaderLemmas.{one_octet, short_front, bad_second, long_front, no_octets}
use Rattle.dv_session.proofs.front.header.Goals as goal

pub returns-in-len1 : goal.returns-in-len1
returns-in-len1 c = one_octet c.args.front.now (omega arith) (omega arith) c.if-tag-ne-SEQUENCE.false

pub returns-in-0-to-127 : goal.returns-in-0-to-127
returns-in-0-to-127 c = short_front c.args.front.now (omega arith) c.if-tag-ne-SEQUENCE.false (omega arith)

pub returns-in-129-to-131 : goal.returns-in-129-to-131
returns-in-129-to-131 c = long_front c.args.front.now _ (omega arith) c.if-tag-ne-SEQUENCE.false (omega arith) c.long_header.ensures

pub returns-in_default : goal.returns-in_default
returns-in_default c = bad_second c.args.front.now (omega arith) c.if-tag-ne-SEQUENCE.false (omega arith) (inl (omega arith))

pub returns-in_default-2 : goal.returns-in_default-2
returns-in_default-2 c = bad_second c.args.front.now (omega arith) c.if-tag-ne-SEQUENCE.false (omega arith) (inr (omega arith))

pub returns-in-empty : goal.returns-in-empty
returns-in-empty c = no_octets c.args.front.now (omega arith)
