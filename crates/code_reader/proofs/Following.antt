-- One line more.
use Rattle.std.proofs.Common.{◌≡◌, ℕ, ◌+◌, List, ◌∷◌, Result, Ok, sym, ap, subst, ◌∙◌}
use Rattle.executive_program.specs.Archi.{Architecture}
use Rattle.executive_program.specs.declared.program.Program.{Program}
use Rattle.macro_code.specs.Refusals.{CodeError, CodeRefusal}
use Rattle.syn_base.specs.Bytes.{Bytes}
use Rattle.macro_code.specs.ReadText.{Reading, next_line, rest_of}
use Rattle.text_lines.specs.Refusals.{and_then, Fails}
use Rattle.text_lines.proofs.Refusals.{fails_through}

module _ (operations : List Bytes) (a : Architecture) where
  abbrev behind : ℕ → List Bytes → Result Reading CodeRefusal → Result Program CodeRefusal
  behind n lines read = and_then read (λ after. rest_of operations a after (n + 1) lines)

  pub line_read : (r new : Reading) (n : ℕ) (line : Bytes) (all lines : List Bytes) → all ≡ line ∷ lines → next_line operations a r n line ≡ Ok new
      → rest_of operations a r n all ≡ rest_of operations a new (n + 1) lines
  line_read r new n line all lines e is = ap (rest_of operations a r n) e ∙ ap (behind n lines) is

  -- A line that is refused.
  pub line_refused : (e : CodeError) (r : Reading) (n : ℕ) (line : Bytes) (all lines : List Bytes) (whole : Result Program CodeRefusal)
      → all ≡ line ∷ lines → Fails e (next_line operations a r n line) → rest_of operations a r n all ≡ whole → Fails e whole
  line_refused e r n line all lines whole is h same =
      subst (Fails e) (sym (ap (rest_of operations a r n) is) ∙ same) (fails_through e (next_line operations a r n line) (λ after. rest_of operations a after (n + 1) lines) h)
