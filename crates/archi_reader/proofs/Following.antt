-- One line more.
use Rattle.std.proofs.Common.{◌≡◌, ℕ, ◌+◌, Bool, not, true, false, ◌&&◌, ◌==◌, if◌then◌else◌, List, [], ◌∷◌, length, Option, Some, None, Result, Ok, sym, ap, subst, ◌∙◌}
use Rattle.std.specs.Prelude.{codes}
use Rattle.std.specs.List.{list_any}
use Rattle.std.specs.Str.{bytes_eq}
use Rattle.syn_base.specs.Integer.{integer_of}
use Rattle.text_lines.specs.Text.{words_of, code_of, foreign_place, word, begins}
use Rattle.archi_defs.specs.Refusals.{ArchiError, ArchiRefusal}
use Rattle.syn_base.specs.Bytes.{Bytes}
use Rattle.archi_defs.specs.Text.{Described, Reading, up_to, place_of, duration_line, described_line, line_by, next_line, rest_of}
use Rattle.text_lines.specs.Refusals.{and_then, with_some, Fails}
use Rattle.text_lines.proofs.Refusals.{fails_through}
use Rattle.archi_reader.specs.Views.{IsSound}
use Rattle.archi_reader.proofs.Sound.{Holds, Keeps, keeps_if, keeps_names, keeps_some, sound_depth, sound_version, sound_operator, sound_medium}
use Rattle.archi_reader.proofs.Connected.{sound_connect}

sound_duration : (r : Reading) (n : ℕ) (ws : List Bytes) → IsSound r → Keeps IsSound (duration_line r n ws)
sound_duration r n ws h =
    keeps_if (not (length ws == 4)) _ _ (λ a. keeps_names n (word ws 1) (word ws 2 ∷ []) _ (λ b. keeps_names n (word ws 2) [] _ (λ c.
    keeps_some (up_to 1000000000 (integer_of (word ws 3))) _ _ (λ ticks t. keeps_some (place_of (word ws 2) r.operators) _ _ (λ o known.
    keeps_if (list_any (λ d. bytes_eq d.def (word ws 1) && (d.operator == o)) r.durations) _ _ (λ new. record {
      holds = record { operators = h.operators; media = h.media; lines = h.lines; stands = h.stands; connections = h.connections; begun = h.begun; depth = h.depth; distinct = h.distinct };
    }))))))

pub either : {P : Reading → Type 0} (b : Bool) (x y : Result Reading ArchiRefusal) → Keeps P x → Keeps P y → Keeps P (if b then x else y)
either true x y h k = h
either false x y h k = k

pub by_version : {P : Reading → Type 0} (version : Option ℕ) {first : Result Reading ArchiRefusal} {later : ℕ → Result Reading ArchiRefusal}
    → Keeps P first → ((v : ℕ) → Keeps P (later v)) → Keeps P (with_some version first later)
by_version None h k = h
by_version (Some v) h k = k v

sound_described : (r : Reading) (n version : ℕ) (ws : List Bytes) → IsSound r → Keeps IsSound (described_line r n version ws)
sound_described r n version ws h =
    either (begins ws (codes "operator")) _ _ (sound_operator r n ws h)
    (either (begins ws (codes "medium")) _ _ (sound_medium r n ws h)
    (either (begins ws (codes "connect")) _ _ (sound_connect r h n ws)
    (either (begins ws (codes "duration")) _ _ (sound_duration r n ws h)
    (either (begins ws (codes "depth")) _ _ (sound_depth r n version ws h) (record { holds = tt })))))

sound_line : (r : Reading) (n : ℕ) (line : Bytes) (foreign : Option ℕ) → IsSound r → Keeps IsSound (line_by r n line foreign)
sound_line r n line (Some place) h = record { holds = tt }
sound_line r n line None h =
    either (length (words_of (code_of line)) == 0) _ _ (record { holds = h })
    (by_version r.version (sound_version r n (words_of (code_of line)) h) (λ version. sound_described r n version (words_of (code_of line)) h))

-- what holds of a reading holds after each line
pub sound_next : (r new : Reading) (n : ℕ) (line : Bytes) → IsSound r → next_line r n line ≡ Ok new → IsSound new
sound_next r new n line h is = let kept : Keeps IsSound (next_line r n line) = sound_line r n line (foreign_place line) h in subst (Holds IsSound) is kept.holds

abbrev behind : ℕ → List Bytes → Result Reading ArchiRefusal → Result Described ArchiRefusal
behind n lines read = and_then read (λ after. rest_of after (n + 1) lines)

pub line_read : (r new : Reading) (n : ℕ) (line : Bytes) (all lines : List Bytes) → all ≡ line ∷ lines → next_line r n line ≡ Ok new → rest_of r n all ≡ rest_of new (n + 1) lines
line_read r new n line all lines e is = ap (rest_of r n) e ∙ ap (behind n lines) is

-- A line that is refused.
pub line_refused : (e : ArchiError) (r : Reading) (n : ℕ) (line : Bytes) (all lines : List Bytes) (whole : Result Described ArchiRefusal)
    → all ≡ line ∷ lines → Fails e (next_line r n line) → rest_of r n all ≡ whole → Fails e whole
line_refused e r n line all lines whole is h same =
    subst (Fails e) (sym (ap (rest_of r n) is) ∙ same) (fails_through e (next_line r n line) (λ after. rest_of after (n + 1) lines) h)
