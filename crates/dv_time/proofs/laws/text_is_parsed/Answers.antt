use Rattle.dv_time.proofs.laws.text_is_parsed.Goals as goal

pub returns : goal.returns
returns c = c.parse.ensures.only c.args.m c.text.ensures.says
