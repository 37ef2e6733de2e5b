use Rattle.std.proofs.Common.{sym, subst}
use Rattle.dv_schema.specs.Answers.{Gives}
use Rattle.dv_names.proofs.GeneralContents.{directory, values, others}
use Rattle.dv_names.proofs.general.check_contents.Goals as goal

pub returns-then-tag-eq-DIRECTORY_NAME : goal.returns-then-tag-eq-DIRECTORY_NAME
returns-then-tag-eq-DIRECTORY_NAME c = subst (Gives (λ x. x) c.check_directory_name.result) (sym (directory c.args.tag c.args.place c.args.inside.now c.if-tag-eq-DIRECTORY_NAME.true)) (c.check_directory_name.ensures c.args.place)

pub returns-then-tag-eq1 : goal.returns-then-tag-eq1
returns-then-tag-eq1 c = subst (Gives (λ x. x) c.check_members.result) (sym (values c.args.tag c.args.place c.args.inside.now c.if-tag-eq-DIRECTORY_NAME.false c.if-tag-eq1.true)) c.check_members.ensures

pub returns : goal.returns
returns c = others c.args.tag c.args.place c.args.inside.now c.if-tag-eq-DIRECTORY_NAME.false c.if-tag-eq1.false
