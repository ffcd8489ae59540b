-- A report from its parts.
use Rattle.std.proofs.Common.{◌≡◌, ℕ, List, map, length, Option, ap, ◌∙◌}
use Rattle.std.specs.List.{range_with_len}
use Rattle.self_timed.specs.Graph.{Graph}
use Rattle.self_timed.specs.declared.Medium.{Medium}
use Rattle.self_timed.specs.Archi.{Architecture}
use Rattle.self_timed.specs.Table.{Table, entry_in}
use Rattle.self_timed.specs.Fitting.{IsOf}
use Rattle.self_timed.specs.declared.Schedule.{Schedule}
use Rattle.self_timed.specs.Acts.{is_on, is_over, length_of}
use Rattle.lower_bound.specs.Bound.{lower_bound}
use Rattle.lower_bound.specs.declared.ratio.Ratio.{Ratio}
use Rattle.lower_bound.specs.declared.loads.Load.{Load}
use Rattle.lower_bound.specs.declared.alone.Alone.{Alone}
use Rattle.lower_bound.specs.declared.report.Report.{Report}
use Rattle.lower_bound.specs.Numbers.{alone, loads, ratio, report}

module _ (g : Graph) (a : Architecture) (d : Table) (s : Schedule) (fits : IsOf g a d) where
  pub report_is : (len : ℕ) (operators : List (List ℕ)) (media : List Medium) (on over : List Load) (list : List (Option Alone))
      (bound : ℕ) (above : Ratio) → len ≡ length_of s → operators ≡ a.operators → media ≡ a.media
      → on ≡ loads is_on (length operators) s → over ≡ loads is_over (length media) s → list ≡ map (alone (entry_in d) (length d.rows) len) (range_with_len 0 d.operators)
      → bound ≡ lower_bound (length a.operators) (entry_in d) g.vertices a.media → above ≡ ratio len bound
      → record { length = len; operators = on; media = over; alone = list; bound = bound; above = above } ≡ report g a (entry_in d) s
  report_is len operators media on over list bound above l os ms o m x b r =
      let o2 : on ≡ loads is_on (length a.operators) s = o ∙ ap (λ (xs : List (List ℕ)). loads is_on (length xs) s) os in
      let m2 : over ≡ loads is_over (length a.media) s = m ∙ ap (λ (xs : List Medium). loads is_over (length xs) s) ms in
      let x2 : list ≡ map (alone (entry_in d) (length g.vertices) (length_of s)) (range_with_len 0 (length a.operators))
      = x ∙ (λ i. map (alone (entry_in d) (fits.operations i) (l i)) (range_with_len 0 (fits.operators i))) in
      let r2 : above ≡ ratio (length_of s) (lower_bound (length a.operators) (entry_in d) g.vertices a.media) = r ∙ (λ i. ratio (l i) (b i)) in
      λ i. record { length = l i; operators = o2 i; media = m2 i; alone = x2 i; bound = b i; above = r2 i }
