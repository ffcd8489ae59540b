use Rattle.std.proofs.Common.{◌%◌, ◌∙◌, ℕ, List, get_or, refl, sym, ap, subst}
use Rattle.syn_base.specs.Rows.{Reactions}
use Rattle.word_rule.specs.Held.{HasRow}
use Rattle.word_table.specs.Ends.{TakesCounts, TakesCells, TakesRows}
use Rattle.word_table.proofs.Closings.{own_laid}
use Rattle.word_table.proofs.closing.gather.Goals as goal
use Rattle.syn_base.specs.Vectors.{Values}

pub take_rows-requires-clause-others_laid : goal.take_rows-requires-clause-others_laid
take_rows-requires-clause-others_laid c v q = let s = c.args.driver in let r = c.args.remains.now in
    subst (λ (o : Reactions). HasRow s.job.now o.lens v) (sym c.into_parts-cells.ensures.rows)
    (own_laid s r c.requires.driver.0 c.requires.fits v (ap (λ (l : List ℕ). get_or l v 0 % s.groups) (sym c.as_slice-3.ensures.value) ∙ q))

pub returns-clause-gathers : goal.returns-clause-gathers
returns-clause-gathers c = let s = c.args.driver in let r = c.args.remains.now in let o = c.into_parts-cells.ensures in record {
  counts = subst (λ (l : List ℕ). TakesCounts r.counts.items c.take_counts.new.counts.items l s.groups s.group) c.as_slice.ensures.value c.take_counts.ensures;
  cells = subst (λ (l : List ℕ). TakesCells r.cells.items c.take_cells.new.cells.items s.own.kept.cells l s.groups s.group) c.as_slice-2.ensures.value
      (subst (λ (v : Values). TakesCells r.cells.items c.take_cells.new.cells.items v c.as_slice-2.result.now s.groups s.group) o.cells c.take_cells.ensures);
  rows = subst (λ (l : List ℕ). TakesRows s.job.now r.rows c.take_rows.new.rows (record { lens = s.own.kept.lens; reactions = s.own.kept.rows }) l s.groups s.group) c.as_slice-3.ensures.value
      (subst (λ (v : Reactions). TakesRows s.job.now r.rows c.take_rows.new.rows v c.as_slice-3.result.now s.groups s.group) o.rows c.take_rows.ensures);
  words = refl;
  callers = refl;
  owners = refl;
}
