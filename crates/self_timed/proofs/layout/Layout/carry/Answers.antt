use Rattle.std.proofs.Common.{sym, subst}
use Rattle.sequence_build_laws.specs.Acts.{copy}
use Rattle.self_timed.specs.Laid.{Laid, HasShape}
use Rattle.self_timed.proofs.Places.{held_place, shape_kept}
use Rattle.self_timed.proofs.layout.Layout.carry.Goals as goal

pub maker-source-requires : goal.maker-source-requires
maker-source-requires c = held_place c.args.self.now.vertices c.args.self.now.makers (copy c.args.transfer.from c.args.transfer.source) c.requires.shape c.requires.carried.from

pub returns-clause-shape : goal.returns-clause-shape
returns-clause-shape c =
    let inner = subst (λ (w : Laid). HasShape w.vertices w.makers) (sym c.self.view_is) c.requires.shape in
    let added = subst (λ (w : Laid). HasShape w.vertices w.makers) (sym c.in_ok-add.ensures.ok) inner in
    subst (λ (w : Laid). HasShape w.vertices w.makers) (sym c.note.ensures)
    (shape_kept c.add.new.self.vertices c.add.new.self.makers (copy c.args.transfer.to c.args.transfer.source) c.self.inside.next added)
