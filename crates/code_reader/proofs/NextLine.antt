-- What a line says by its words.
use Rattle.std.proofs.Common.{◌≡◌, ℕ, Bool, true, false, cond, List, length, position, Some, None, Result, Ok, if◌then◌else◌, nat_eq, sym, ap, ◌∙◌}
use Rattle.std.specs.List.{list_any, position_or_len}
use Rattle.syn_base.specs.Bytes.{Bytes}
use Rattle.text_lines.specs.Text.{code_of, is_foreign, words_of}
use Rattle.executive_program.specs.Archi.{Architecture}
use Rattle.macro_code.specs.Refusals.{CodeRefusal}
use Rattle.macro_code.specs.declared.fault.CodeCause.TheVariants.{BadLine}
use Rattle.macro_code.specs.ReadText.{Reading, line_by, next_line, words_line}
use Rattle.text_lines.specs.Refusals.{refused}
use Rattle.code_lines.proofs.Cuts.{stands}

place_by : (xs : List ℕ) (any : Bool) → list_any is_foreign xs ≡ any → position is_foreign xs ≡ cond any (Some (position_or_len is_foreign xs)) None
place_by xs any h = ap (λ (b : Bool). cond b (Some (position_or_len is_foreign xs)) None) (stands is_foreign xs ∙ h)

module _ (operations : List Bytes) (a : Architecture) where
  abbrev by_words : Reading → ℕ → List Bytes → Result Reading CodeRefusal
  by_words r n ws = if nat_eq (length ws) 0 then Ok r else words_line operations a r n ws

  pub foreign_line : (r : Reading) (n : ℕ) (line : Bytes) → list_any is_foreign (code_of line) ≡ true → next_line operations a r n line ≡ refused n BadLine
  foreign_line r n line any = ap (line_by operations a r n line) (place_by (code_of line) true any)

  pub clean_line : (r : Reading) (n : ℕ) (line code : Bytes) (ws : List Bytes) → (code ≡ code_of line)
      × (list_any is_foreign (code_of line) ≡ false) → words_of code ≡ ws → next_line operations a r n line ≡ by_words r n ws
  clean_line r n line code ws clean words = ap (line_by operations a r n line) (place_by (code_of line) false clean.1) ∙ ap (by_words r n) (ap words_of (sym clean.0) ∙ words)
