use Rattle.std.proofs.Common.{subst, ◌≡◌}
use Rattle.std.specs.Prelude.{OnOk, codes, length}
use Rattle.syn_base.specs.Bytes.{Bytes}
use Rattle.self_timed.specs.Acts.{acts_of}
use Rattle.self_timed.specs.Told.{reaction_at}
use Rattle.dates_text.specs.Printed.{dated_by}
use Rattle.svg_text.specs.declared.style.TheConstants.{END_GROUP}
use Rattle.svg_text.specs.Shapes.{shade_text}
use Rattle.chart_picture.specs.DatesPicture.{reaction_text, tiles_text}
use Rattle.svg_text.proofs.Appending.{three}
use Rattle.chart_picture.proofs.reaction.append_reaction.Goals as goal

pub returns : goal.returns
unfolding reaction_text
returns c =
    subst (λ (l : Bytes). OnOk c.append.result (c.append.new.out.items ≡ l))
    (three c.args.out.now.items c.begin_shade.new.out.items c.append_decisions.new.out.items
    (shade_text (codes "reaction-") c.args.reaction.now.number)
    (tiles_text c.args.reaction.now.sheet.now.flat.now c.args.reaction.now.sheet.now.archi.now c.args.reaction.now.sheet.now.scale
    (dated_by c.args.reaction.now.number (reaction_at c.args.reaction.now.dates.now c.args.reaction.now.number)
    (length c.args.reaction.now.sheet.now.flat.now.vertices) (acts_of c.args.decisions.now))) END_GROUP.now
    c.in_ok-begin_shade.ensures c.in_ok-append_decisions.ensures)
    c.append.ensures.text
