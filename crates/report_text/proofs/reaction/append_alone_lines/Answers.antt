use Rattle.std.proofs.Common.{◌≡◌, [], ◌∷◌, ◌+◌, ◌++◌, Option, None, drop, get_or, ap, sym, append_assoc, ◌∙◌, arith}
use Rattle.syn_base.specs.Bytes.{Bytes}
use Rattle.timing_chart.specs.Chart.{text_of}
use Rattle.lower_bound.specs.declared.alone.Alone.{Alone}
use Rattle.report_text.specs.Text.{alone_lines}
use Rattle.report_text.proofs.Lines.{alone_here, alone_past, begins}
use Rattle.report_text.proofs.reaction.append_alone_lines.Goals.{then-number-list+in_ok-append_if_alone, else-number-list}
use Rattle.report_text.proofs.reaction.append_alone_lines.Goals as goal

pub loop-number-preserved : goal.loop-number-preserved
loop-number-preserved c =
    let i = c.loop-number.number in
    let ns = c.args.operators.now in
    let xs = c.args.list.now in
    let n = c.index-operators-number.result in
    let out = c.loop-number.out.items in
    let next = drop (i + 1) ns in
    let left : drop i ns ≡ n ∷ next = begins ns i n c.loop-number-test.true c.index-operators-number.is in
    let rest = text_of (alone_lines next (drop (i + 1) xs)) in
    let none : Option Alone = None in
    elim c.if-number-list.branch [
      | then-number-list+in_ok-append_if_alone w ↦
          ap (λ v. v.items ++ rest) w.out-is ∙ ap (λ l. l ++ rest) w.in_ok-append_if_alone.ensures
          ∙ append_assoc out (text_of (alone_lines (w.as_bytes.result.now ∷ []) (get_or xs i none ∷ []))) rest
          ∙ ap (λ (b : Bytes). out ++ (text_of (alone_lines (b ∷ []) (get_or xs i none ∷ [])) ++ rest)) w.as_bytes.ensures.same
          ∙ ap (λ l. out ++ l) (sym (alone_here xs i (drop i ns) next n none left w.if-number-list.true))
          ∙ c.loop-number.invariant
      | else-number-list w ↦
          ap (λ v. v.items ++ rest) w.out-is
          ∙ ap (λ l. out ++ l) (sym (alone_past xs i (drop i ns) next (let past = w.if-number-list.false in omega arith)))
          ∙ c.loop-number.invariant
    ]
