-- Each line keeps what was read well read, and so does the text.
use Rattle.std.proofs.Common.{◌≡◌, ℕ, ◌+◌, ◌==◌, Bool, not, ◌||◌, true, false, cond, Option, Some, None, Ok, List, [], ◌∷◌, length, refl, ◌∙◌, subst, append-nil, codes}
use Rattle.std.specs.Prelude.{All}
use Rattle.std.proofs.lemmas.List.Elements.{All-cons, All-head, All-nil, All-tail}
use Rattle.text_lines.specs.Text.{lines_of, words_of, code_of, foreign_place, word, begins}
use Rattle.syn_base.specs.Bytes.{Bytes}
use Rattle.algo_rules.specs.Well.{AreDistinctNames}
use Rattle.algo_rules.specs.declared.Def.{Def}
use Rattle.algo_rules.specs.declared.Defs.{Defs}
use Rattle.algo_rules.specs.Blocks.{Block}
use Rattle.algo_rules.specs.Text.{
  Stage,
  before_version,
  between,
  in_function,
  in_graph,
  in_switch,
  in_repeat,
  Reading,
  start,
  version_of,
  version_line,
  by_stage,
  line_by,
  next_line,
  at_end,
  rest_of,
  definitions_of,
}
use Rattle.algo_rules.proofs.Checks.{found, never, passed, read, same_ok}
use Rattle.algo_rules.specs.WellRead.{IsName, IsWellRead, AreWellRead}
use Rattle.algo_laws.proofs.Kept.{names_of, Kept, IsKept, reading}
use Rattle.algo_laws.proofs.Between.{between_kept}
use Rattle.algo_laws.proofs.Functions.{function_kept}
use Rattle.algo_laws.proofs.Graphs.{graph_kept}
use Rattle.algo_laws.proofs.Switches.{switch_kept}
use Rattle.algo_laws.proofs.Repetitions.{repetition_kept}

-- the version's line stands before all definitions
version_kept : (version : ℕ) (names : List Bytes) (defs : List Def) (b : Block) → Kept before_version names defs b → (n : ℕ) (ws : List Bytes) (r : Reading)
    → version_line (reading before_version version names defs b) n ws ≡ Ok r → IsKept r
version_kept version names defs b kept n ws r h =
    let form = passed (not (length ws == 2) || not (begins ws (codes "algorithm"))) _ _ r h in
    let some = found (version_of (word ws 1)) _ _ r form.1 in
    subst (λ (q : Reading). IsKept q) (same_ok _ r some.2) (record { names_are = kept.names_are; named = kept.named; once = kept.once; bodies = kept.bodies; well = tt })

words_kept : (s : Stage) (version : ℕ) (names : List Bytes) (defs : List Def) (b : Block) → Kept s names defs b → (n : ℕ) (ws : List Bytes) (code : Bytes) (r : Reading)
    → by_stage s (reading s version names defs b) n ws code ≡ Ok r → IsKept r
words_kept before_version version names defs b kept n ws code r h = version_kept version names defs b kept n ws r h
words_kept between version names defs b kept n ws code r h = between_kept version names defs b kept n ws r h
words_kept in_function version names defs b kept n ws code r h = function_kept version names defs b kept n ws code r h
words_kept in_graph version names defs b kept n ws code r h = graph_kept version names defs b kept n ws r h
words_kept in_switch version names defs b kept n ws code r h = switch_kept version names defs b kept n ws r h
words_kept in_repeat version names defs b kept n ws code r h = repetition_kept version names defs b kept n ws r h

next_kept : (r after : Reading) (n : ℕ) (line : Bytes) (o : Option ℕ) → IsKept r → line_by r n line o ≡ Ok after → IsKept after
next_kept r after n line (Some place) kept h = never _ after h
next_kept r after n line None kept h = by (length (words_of (code_of line)) == 0) h
  where
    by : (t : Bool) → cond t (Ok r) (by_stage r.stage r n (words_of (code_of line)) (code_of line)) ≡ Ok after → IsKept after
    by true g = subst (λ (q : Reading). IsKept q) (same_ok r after g) kept
    by false g = words_kept r.stage r.version r.names r.defs r.block kept n (words_of (code_of line)) (code_of line) after g

from_names : (ds : List Def) → All IsName (names_of ds) → All (λ (d : Def). IsName d.name) ds
from_names [] h = All-nil (λ (d : Def). IsName d.name)
from_names (d ∷ ds) h = All-cons (λ (e : Def). IsName e.name) d ds (All-head IsName d.name (names_of ds) h) (from_names ds (All-tail IsName d.name (names_of ds) h))

end_well : (s : Stage) (version : ℕ) (names : List Bytes) (defs : List Def) (ds : Defs) (b : Block) (n : ℕ) → Kept s names defs b
    → at_end s (record { version = version; defs = defs }) n ≡ Ok ds → AreWellRead ds.defs
end_well before_version version names defs ds b n kept h = never _ ds h
end_well in_function version names defs ds b n kept h = never _ ds h
end_well in_graph version names defs ds b n kept h = never _ ds h
end_well in_switch version names defs ds b n kept h = never _ ds h
end_well in_repeat version names defs ds b n kept h = never _ ds h
end_well between version names defs ds b n kept h =
    let all : names ≡ names_of defs = kept.names_are ∙ append-nil (names_of defs) in
    subst (λ (es : Defs). AreWellRead es.defs) (same_ok (record { version = version; defs = defs }) ds h) (record {
      named = from_names defs (subst (λ (l : List Bytes). All IsName l) all kept.named);
      once = subst (λ (l : List Bytes). AreDistinctNames l) all kept.once;
      bodies = kept.bodies;
    })

rest_well : (lines : List Bytes) (r : Reading) (n : ℕ) (ds : Defs) → IsKept r → rest_of r n lines ≡ Ok ds → AreWellRead ds.defs
rest_well [] r n ds kept h = end_well r.stage r.version r.names r.defs ds r.block n kept h
rest_well (line ∷ lines) r n ds kept h =
    let one = read (next_line r n line) (λ after. rest_of after (n + 1) lines) ds h in
    rest_well lines one.0 (n + 1) ds (next_kept r one.0 n line (foreign_place line) kept one.1) one.2

start_kept : IsKept start
start_kept = record { names_are = refl; named = All-nil IsName; once = tt; bodies = All-nil (λ (d : Def). IsWellRead d.body); well = tt }

pub accepted_well : (text : Bytes) (ds : Defs) → definitions_of text ≡ Ok ds → AreWellRead ds.defs
accepted_well text ds h = rest_well (lines_of text) start 1 ds start_kept h
