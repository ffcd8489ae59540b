use Rattle.std.proofs.Common.{arith, sym, subst, ◌∙◌}
use Rattle.std.proofs.lemmas.List.{length-set}
use Rattle.executive_run.specs.Groups.{Belongs, IsDriven}
use Rattle.executive_run.proofs.Each.{each-get, each-set, only-set}
use Rattle.executive_run.proofs.alone.drive_first.Goals as goal

pub drive-requires-clause-belongs : goal.drive-requires-clause-belongs
drive-requires-clause-belongs g c κs within =
    let are = c.requires.groups in
    subst (Belongs c.args.fabric.now 0) (sym c.index_mut.ensures.value)
    (each-get (Belongs c.args.fabric.now) c.args.groups.items 0 c.index_mut.result.now (omega (arith, are.many, c.requires.alone)) are.each)

pub returns-clause-groups : goal.returns-clause-groups
returns-clause-groups g c =
    let are = c.requires.groups in record {
      many = length-set c.args.groups.items 0 c.drive.new.group ∙ are.many;
      each = each-set (Belongs c.args.fabric.now) c.args.groups.items 0 c.drive.new.group are.each c.drive.ensures.belongs;
    }

pub returns-clause-driven : goal.returns-clause-driven
returns-clause-driven g c = only-set IsDriven c.args.groups.items c.drive.new.group (c.requires.groups.many ∙ c.requires.alone) c.drive.ensures.driven
