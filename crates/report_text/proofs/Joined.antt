-- Texts of lines that are appended one after another.
use Rattle.std.proofs.Common.{◌≡◌, List, ◌∷◌, ◌++◌, ap, sym, append_assoc, ◌∙◌}
use Rattle.std.proofs.lemmas.List.Concat.{flat_map-append}
use Rattle.syn_base.specs.Bytes.{Bytes}
use Rattle.timing_chart.specs.Chart.{Line, line_text, text_of}

module _ (out more all : Bytes) where
  -- a line, and then lines
  pub then_lines : (l : Line) (ls : List Line) → more ≡ out ++ line_text l → all ≡ more ++ text_of ls → all ≡ out ++ text_of (l ∷ ls)
  then_lines l ls e f = f ∙ ap (λ (b : Bytes). b ++ text_of ls) e ∙ append_assoc out (line_text l) (text_of ls)

  -- lines, and then others
  pub and_lines : (ls ms : List Line) → more ≡ out ++ text_of ls → all ≡ more ++ text_of ms → all ≡ out ++ text_of (ls ++ ms)
  and_lines ls ms e f =
      f ∙ ap (λ (b : Bytes). b ++ text_of ms) e ∙ append_assoc out (text_of ls) (text_of ms)
      ∙ ap (λ (b : Bytes). out ++ b) (sym (flat_map-append line_text ls ms))
