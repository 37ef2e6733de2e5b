use Rattle.std.proofs.Common.{arith}
use Rattle.dv_register.specs.State.{rule_identity}
use Rattle.dv_session.proofs.GivenLemmas.{notice_given}
use Rattle.dv_session.proofs.IssuingLemmas.{bit_known, notice_leaves_if, transaction_is}
use Rattle.dv_session.proofs.RecordLengths.{record_few, transaction_few}
use Rattle.dv_session.proofs.issuing.issue_one.Goals as goal

pub noticed-requires-clause-bit : goal.noticed-requires-clause-bit
noticed-requires-clause-bit g c =
    bit_known c.args.octets.now c.args.moment c.args.desk.now.server c.args.desk.now.trust c.in_ok-reply.reply c.in-Notice.bit c.in_ok-reply.ensures c.in-Notice.is

pub noticed-requires-clause-short : goal.noticed-requires-clause-short
noticed-requires-clause-short g c =
    omega (arith, transaction_few c.args.octets.now c.args.moment c.args.desk.now.server c.args.desk.now.trust c.in_ok-reply.reply c.in_ok-reply.ensures, c.requires.short)

pub returns-in-Notice-clause-given : goal.returns-in-Notice-clause-given
returns-in-Notice-clause-given g c =
    notice_given c.args.octets.now c.args.moment c.args.desk.now.server c.args.desk.now.trust c.in_ok-reply.reply c.in-Notice.bit c.args.register.now c.noticed.result c.in_ok-reply.ensures c.in-Notice.is c.noticed.ensures.given

pub returns-in-Notice-clause-allowed : goal.returns-in-Notice-clause-allowed
returns-in-Notice-clause-allowed g c =
    let old = c.args.register.now in
    let reply = c.in_ok-reply.reply in
    notice_leaves_if c.noticed.result (rule_identity old.identity) old.first old.list reply c.in-Notice.bit
    (bit_known c.args.octets.now c.args.moment c.args.desk.now.server c.args.desk.now.trust reply c.in-Notice.bit c.in_ok-reply.ensures c.in-Notice.is)
    (transaction_is c.args.octets.now c.args.moment c.args.desk.now.server c.args.desk.now.trust reply c.in_ok-reply.ensures) c.noticed.ensures.given

pub issue-requires-clause-carried : goal.issue-requires-clause-carried
issue-requires-clause-carried g c =
    omega (arith, transaction_few c.args.octets.now c.args.moment c.args.desk.now.server c.args.desk.now.trust c.in_ok-reply.reply c.in_ok-reply.ensures, c.requires.short)

pub issue-requires-clause-short : goal.issue-requires-clause-short
issue-requires-clause-short g c =
    record_few c.args.octets.now c.args.moment c.args.desk.now.server c.args.desk.now.trust c.in_ok-reply.reply c.in-Draft.draft c.in_ok-reply.ensures c.in-Draft.is c.requires.short

pub returns-clause-given : goal.returns-clause-given
returns-clause-given g c = c.issue.ensures.given c.args.octets.now c.args.moment c.in_ok-reply.ensures

pub returns-clause-allowed : goal.returns-clause-allowed
returns-clause-allowed g c =
    c.issue.ensures.allowed (transaction_is c.args.octets.now c.args.moment c.args.desk.now.server c.args.desk.now.trust c.in_ok-reply.reply c.in_ok-reply.ensures)
