use Rattle.std.proofs.Common.{◌≡◌, ◌++◌, ◌∙◌, ap, sym, arith}
use Rattle.load_texts.specs.Table.{row, rows, state_after, state_before}
use Rattle.load_texts.proofs.Pieces.{rows-more, state-more, after_more}
use Rattle.load_texts.proofs.table.append_rows.Goals as goal

pub loop-reaction-preserved : goal.loop-reaction-preserved
loop-reaction-preserved c = (
  after_more _ _ _ (rows c.args.first c.loop-reaction.reaction) (row c.loop-reaction.reaction (state_before c.args.first c.loop-reaction.reaction)) _
      c.loop-reaction.invariant.0
      (c.in_ok-append_row.ensures.text ∙ ap (λ u. c.loop-reaction.out.items ++ row c.loop-reaction.reaction u) c.loop-reaction.invariant.1)
      (rows-more c.args.first c.loop-reaction.reaction),
  c.in_ok-append_row.ensures.state ∙ (ap (state_after 4) c.loop-reaction.invariant.1 ∙ sym (state-more c.args.first c.loop-reaction.reaction)),
)

pub returns : goal.returns
returns c = let all : c.loop-reaction.reaction ≡ c.args.count = omega arith in
    c.loop-reaction.invariant.0 ∙ ap (λ k. c.args.out.now.items ++ rows c.args.first k) all
