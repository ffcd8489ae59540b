use Rattle.std.proofs.Common.{◌≡◌, ◌∷◌, ◌+◌, ◌++◌, List, drop, map, get_or, ap, sym, append_assoc, ◌∙◌, arith, codes}
use Rattle.syn_base.specs.Bytes.{Bytes}
use Rattle.timing_chart.specs.Chart.{line_text, text_of}
use Rattle.self_timed.specs.declared.Medium.{Medium}
use Rattle.lower_bound.specs.declared.loads.Load.{Load}
use Rattle.report_text.specs.Text.{load_line, load_lines}
use Rattle.report_text.proofs.Lines.{begins, load_here, load_past}
use Rattle.report_text.proofs.reaction.append_media.Goals.{then-number-loads+in_ok-append_load, else-number-loads}
use Rattle.report_text.proofs.reaction.append_media.Goals as goal

pub loop-number-preserved : goal.loop-number-preserved
loop-number-preserved c =
    let i = c.loop-number.number in
    let word = codes "medium" in
    let ms = c.args.media.now in
    let ls = c.args.loads.now in
    let m = c.index-media-number.result in
    let out = c.loop-number.out.items in
    let names = λ (xs : List Medium). map (λ (x : Medium). x.name) xs in
    let next = names (drop (i + 1) ms) in
    let left : names (drop i ms) ≡ m.name ∷ next = ap names (begins ms i m c.loop-number-test.true c.index-media-number.is) in
    let rest = text_of (load_lines word next (drop (i + 1) ls)) in
    let none : Load = record { busy = 0; share = record { whole = 0; thousandths = 0 } } in
    elim c.if-number-loads.branch [
      | then-number-loads+in_ok-append_load w ↦
          ap (λ v. v.items ++ rest) w.out-is ∙ ap (λ l. l ++ rest) w.in_ok-append_load.ensures
          ∙ append_assoc out (line_text (load_line word w.as_bytes.result.now (get_or ls i none))) rest
          ∙ ap (λ (b : Bytes). out ++ (line_text (load_line word b (get_or ls i none)) ++ rest)) w.as_bytes.ensures.same
          ∙ ap (λ l. out ++ l) (sym (load_here word ls i (names (drop i ms)) next m.name none left w.if-number-loads.true))
          ∙ c.loop-number.invariant
      | else-number-loads w ↦
          ap (λ v. v.items ++ rest) w.out-is
          ∙ ap (λ l. out ++ l) (sym (load_past word ls i (names (drop i ms)) next (let past = w.if-number-loads.false in omega arith)))
          ∙ c.loop-number.invariant
    ]
