use Rattle.std.proofs.Common.{ℕ, List, ◌||◌, map, Bor, sym, ap, ◌∙◌}
use Rattle.std.proofs.lemmas.List.{drop_all}
use Rattle.syn_base.specs.Bytes.{Bytes}
use Rattle.algo_rules.specs.Among.{is_among}
use Rattle.text_lint.proofs.Among.{one_more, or_none}
use Rattle.text_lint.proofs.named.table_of.Goals as goal

pub loop-name-init : goal.loop-name-init
loop-name-init c = λ w.
    ap (λ (table : List Bytes). is_among w table || is_among w (map (λ (v : Bor (List ℕ)). v.now) c.args.named.now)) c.new-table.ensures

pub loop-name-preserved : goal.loop-name-preserved
loop-name-preserved c = λ w.
    one_more c.args.named.now c.loop-name.name-index _ _ _ _
    c.loop-name-test.true c.in_ok-add.ensures.new c.in_ok-add.ensures.after w (c.loop-name.invariant w)

pub returns : goal.returns
returns c = λ w.
    sym (or_none (is_among w c.loop-name.table))
    ∙ ap (λ (left : List (Bor (List ℕ))). is_among w c.loop-name.table || is_among w (map (λ (v : Bor (List ℕ)). v.now) left))
    (sym (drop_all c.loop-name.name-index c.args.named.now c.loop-name-test.false))
    ∙ c.loop-name.invariant w
