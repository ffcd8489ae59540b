use Rattle.code_lines.proofs.Lists.{more_than_three, no_declaration, three_declared, two_declared}
use Rattle.code_lines.proofs.arguments.read_declaration.Goals as goal

pub returns-in_default : goal.returns-in_default
returns-in_default c = no_declaration c.args.list.now c.in_default.ensures

pub returns-in_default-cut_at : goal.returns-in_default-cut_at
returns-in_default-cut_at c = two_declared c.args.list.now _ _ _ _ _ c.in-Some.ensures c.in_default-cut_at.ensures c.read_buffer.ensures c.read_length.ensures c.make_declaration.ensures

pub returns-in-None : goal.returns-in-None
returns-in-None c =
    three_declared c.args.list.now _ _ _ _ _ _ _ _ c.in-Some.ensures c.in-Some-cut_at.ensures c.in-None.ensures
    c.read_buffer-in-None.ensures c.read_length-in-None.ensures c.read_places.ensures c.make_declaration-in-None.ensures

pub returns-in-Some-cut_at-2 : goal.returns-in-Some-cut_at-2
returns-in-Some-cut_at-2 c = more_than_three c.args.list.now _ _ _ _ _ _ c.in-Some.ensures c.in-Some-cut_at.ensures c.in-Some-cut_at-2.ensures
