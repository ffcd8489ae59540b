-- The canonical text of what was read is read as it.
use Rattle.std.proofs.Common.{
  ◌≡◌,
  ℕ,
  ◌+◌,
  ◌-◌,
  ◌≤◌,
  ◌==◌,
  Bool,
  not,
  ◌||◌,
  true,
  false,
  cond,
  List,
  [],
  ◌∷◌,
  ◌++◌,
  length,
  map,
  Option,
  Some,
  None,
  Result,
  Ok,
  refl,
  arith,
  ap,
  sym,
  ◌∙◌,
  subst,
  codes,
  append_assoc,
  append-nil,
  length-append,
}
use Rattle.std.specs.Str.{bytes_eq}
use Rattle.std.specs.Fmt.{digits}
use Rattle.std.proofs.lemmas.List.{map-append, length-map}
use Rattle.std.proofs.lemmas.List.Elements.{All-nil}
use Rattle.text_lines.specs.Text.{lines_of, words_of, code_of, foreign_place, word, begins, count_text}
use Rattle.algo_text.specs.declared.definition.Def.{Def}
use Rattle.algo_text.specs.declared.definition.Defs.{Defs}
use Rattle.syn_base.specs.Bytes.{Bytes}
use Rattle.algo_text.specs.Blocks.{Block}
use Rattle.algo_text.specs.Text.{
  Stage,
  before_version,
  between,
  in_function,
  in_graph,
  in_switch,
  in_repeat,
  Reading,
  start,
  version_of,
  version_line,
  by_stage,
  line_by,
  next_line,
  at_end,
  rest_of,
  definitions_of,
}
use Rattle.text_lines.specs.Refusals.{and_then}
use Rattle.algo_text.specs.Refusals.{AlgoRefusal}
use Rattle.algo_text.proofs.Checks.{finds, found, never, passed, read, same_ok}
use Rattle.algo_print.specs.Canonical.{joined, version_words, canonical_text, IsPrintable, ArePrintable}
use Rattle.algo_print.specs.ReadBack.{Says}
use Rattle.algo_print.proofs.Pieces.{is_word, are_words, all_words, and_true, both, text_back}
use Rattle.algo_print.proofs.State.{Lines, lines_at, Numbered, numbered, AreSame, Adds, IsOrdered, next_words}
use Rattle.algo_print.proofs.Between.{between_step}
use Rattle.algo_print.proofs.Functions.{function_step}
use Rattle.algo_print.proofs.Graphs.{graph_step}
use Rattle.algo_print.proofs.Switches.{switch_step}
use Rattle.algo_print.proofs.Repeats.{frontier_step}

-- the number of a version is a word, which is read as it
record VersionBack (v : ℕ) : Type 0 where
  again : version_of (count_text v) ≡ Some v
  plain : is_word (count_text v) ≡ true

version_back : (w : Bytes) (v : ℕ) → version_of w ≡ Some v → VersionBack v
unfolding digits
version_back w v h = by (bytes_eq w (codes "1")) (bytes_eq w (codes "2")) (bytes_eq w (codes "3")) h
  where
    first : VersionBack 1
    first = record { again = refl; plain = refl }

    second : VersionBack 2
    second = record { again = refl; plain = refl }

    third : VersionBack 3
    third = record { again = refl; plain = refl }

    by : (p q r : Bool) → cond p (Some 1) (cond q (Some 2) (cond r (Some 3) None)) ≡ Some v → VersionBack v
    by true q r h = let same : 1 ≡ v = cc in subst VersionBack same first
    by false true r h = let same : 2 ≡ v = cc in subst VersionBack same second
    by false false true h = let same : 3 ≡ v = cc in subst VersionBack same third
    by false false false h = cc

module _ (k : Numbered) (version : ℕ) (names : List Bytes) (defs : List Def) (b : Block) (same : AreSame k defs b) where
  version_step : (n : ℕ) (ws : List Bytes) (r : Reading) → defs ≡ []
      → version_line (record { stage = before_version; version = version; names = names; defs = defs; block = b }) n ws ≡ Ok r → Adds k before_version version names defs b r
  version_step n ws r none h =
      let form = passed (not (length ws == 2) || not (begins ws (codes "algorithm"))) _ _ r h in
      let some = found (version_of (word ws 1)) _ _ r form.1 in
      let v : ℕ = some.0 in
      let back : VersionBack v = version_back (word ws 1) v some.1 in
      subst (λ (x : Reading). Adds k before_version version names defs b x) (same_ok _ r some.2)
      (record {
        words = version_words v;
        plain = and_true (is_word (count_text v)) true back.plain refl;
        some = refl;
        lines = ap (λ (ds : List Def). lines_at between v ds b) none;
        next = λ m. k;
        reads = λ m. finds _ _ _ _ v back.again refl;
        same = λ m. same;
        ordered = tt;
        printable = λ p. p;
      })

  stage_step : (s : Stage) (n : ℕ) (ws : List Bytes) (code : Bytes) (r : Reading) → IsOrdered s defs b
      → by_stage s (record { stage = s; version = version; names = names; defs = defs; block = b }) n ws code ≡ Ok r → Adds k s version names defs b r
  stage_step before_version n ws code r order h = version_step n ws r order h
  stage_step between n ws code r order h = between_step k version names defs b same n ws r h
  stage_step in_function n ws code r order h = function_step k version names defs b same order n ws code r h
  stage_step in_graph n ws code r order h = graph_step k version names defs b same order n ws r h
  stage_step in_switch n ws code r order h = switch_step k version names defs b same order n ws r h
  stage_step in_repeat n ws code r order h = frontier_step k version names defs b same n ws r h

abbrev lines_so_far : Reading → Lines
lines_so_far r = lines_at r.stage r.version r.defs r.block

-- What was read up to the line before the n-th, and how its canonical lines are read.
record Kept (r : Reading) (n : ℕ) : Type 0 where
  numbers : Numbered
  same : AreSame numbers r.defs r.block
  ordered : IsOrdered r.stage r.defs r.block
  printable : ArePrintable r.defs
  plain : all_words (lines_so_far r) ≡ true
  few : length (lines_so_far r) + 1 ≤ n
  again : (more : List Bytes) → rest_of start 1 (map joined (lines_so_far r) ++ more) ≡ rest_of (numbered numbers r) (length (lines_so_far r) + 1) more

all_joined : (ls ms : Lines) → all_words ls ≡ true → all_words ms ≡ true → all_words (ls ++ ms) ≡ true
all_joined [] ms h g = g
all_joined (l ∷ ls) ms h g = let p = both (are_words l) (all_words ls) h in and_true (are_words l) (all_words (ls ++ ms)) p.0 (all_joined ls ms p.1 g)

with_line : (r after : Reading) (n : ℕ) (kept : Kept r n) → Adds kept.numbers r.stage r.version r.names r.defs r.block after → Kept after (n + 1)
with_line r after n kept adds =
    let ls : Lines = lines_so_far r in
    let m : ℕ = length ls + 1 in
    let ws : List Bytes = adds.words in
    let size : length (lines_so_far after) ≡ length ls + 1 = ap length adds.lines ∙ length-append ls (ws ∷ []) in
    record {
      numbers = adds.next m;
      same = adds.same m;
      ordered = adds.ordered;
      printable = adds.printable kept.printable;
      plain = ap all_words adds.lines ∙ all_joined ls (ws ∷ []) kept.plain (and_true (are_words ws) true adds.plain refl);
      few = omega (arith, size, kept.few);
      again = λ more.
          ap (λ (l : Lines). rest_of start 1 (map joined l ++ more)) adds.lines
          ∙ ap (λ (l : List Bytes). rest_of start 1 (l ++ more)) (map-append joined ls (ws ∷ []))
          ∙ ap (rest_of start 1) (append_assoc (map joined ls) (joined ws ∷ []) more)
          ∙ kept.again (joined ws ∷ more)
          ∙ ap (λ (x : Result Reading AlgoRefusal). and_then x (λ y. rest_of y (m + 1) more)) (next_words (numbered kept.numbers r) m ws adds.plain adds.some ∙ adds.reads m)
          ∙ ap (λ (j : ℕ). rest_of (numbered (adds.next m) after) (j + 1) more) (sym size);
    }

without_line : (r : Reading) (n : ℕ) → Kept r n → Kept r (n + 1)
without_line r n kept = record {
  numbers = kept.numbers;
  same = kept.same;
  ordered = kept.ordered;
  printable = kept.printable;
  plain = kept.plain;
  few = omega (arith, kept.few);
  again = kept.again;
}

-- one line more of the text that is read
line_kept : (r after : Reading) (n : ℕ) (line : Bytes) (o : Option ℕ) → Kept r n → line_by r n line o ≡ Ok after → Kept after (n + 1)
line_kept r after n line (Some place) kept h = never _ after h
line_kept r after n line None kept h = by (length (words_of (code_of line)) == 0) h
  where
    by : (t : Bool) → cond t (Ok r) (by_stage r.stage r n (words_of (code_of line)) (code_of line)) ≡ Ok after → Kept after (n + 1)
    by true g = subst (λ (x : Reading). Kept x (n + 1)) (same_ok r after g) (without_line r n kept)
    by false g = with_line r after n kept (stage_step kept.numbers r.version r.names r.defs r.block kept.same r.stage n (words_of (code_of line)) (code_of line) after kept.ordered g)

-- What the definitions of a text have.
pub record Back (defs : Defs) (most : ℕ) : Type 0 where
  pub says : Says (canonical_text defs) defs
  pub printable : ArePrintable defs.defs
  pub few : length (lines_of (canonical_text defs)) ≤ most

at_the_end : (s : Stage) (version : ℕ) (names : List Bytes) (ds : List Def) (defs : Defs) (b : Block) (n : ℕ) → at_end s (record { version = version; defs = ds }) n ≡ Ok defs
    → Kept (record { stage = s; version = version; names = names; defs = ds; block = b }) n → Back defs (n - 1)
at_the_end before_version version names ds defs b n h kept = never _ defs h
at_the_end in_function version names ds defs b n h kept = never _ defs h
at_the_end in_graph version names ds defs b n h kept = never _ defs h
at_the_end in_switch version names ds defs b n h kept = never _ defs h
at_the_end in_repeat version names ds defs b n h kept = never _ defs h
at_the_end between version names ds defs b n h kept =
    let whole : Defs = record { version = version; defs = ds } in
    let lines : lines_of (canonical_text whole) ≡ map joined (lines_at between version ds b) = text_back (lines_at between version ds b) kept.plain in
    subst (λ (x : Defs). Back x (n - 1)) (same_ok whole defs h) (record {
      says = record {
        read = record { version = version; defs = kept.numbers.defs };
        says = ap (rest_of start 1) (lines ∙ sym (append-nil (map joined (lines_at between version ds b)))) ∙ kept.again [];
        version = refl;
        same = kept.same.defs_same;
      };
      printable = kept.printable;
      few = omega (arith, kept.few, ap length lines, length-map (lines_at between version ds b) joined);
    })

rest_back : (lines : List Bytes) (r : Reading) (n : ℕ) (defs : Defs) → Kept r n → rest_of r n lines ≡ Ok defs → Back defs (n + length lines - 1)
rest_back [] r n defs kept h = subst (λ (m : ℕ). Back defs m) (omega arith) (at_the_end r.stage r.version r.names r.defs defs r.block n h kept)
rest_back (line ∷ lines) r n defs kept h =
    let one = read (next_line r n line) (λ after. rest_of after (n + 1) lines) defs h in
    subst (λ (m : ℕ). Back defs m) (omega arith) (rest_back lines one.0 (n + 1) defs (line_kept r one.0 n line (foreign_place line) kept one.1) one.2)

kept_at_start : Kept start 1
kept_at_start = record {
  numbers = record { defs = []; line = 0; references = []; edges = []; cases = []; otherwise_line = 0; frontier = [] };
  same = record { defs_same = refl; references_same = refl; edges_same = refl; cases_same = refl; frontier_same = refl };
  ordered = refl;
  printable = All-nil (λ d. IsPrintable d.body);
  plain = refl;
  few = omega arith;
  again = λ more. refl;
}

pub reads_back : (text : Bytes) (defs : Defs) → definitions_of text ≡ Ok defs → Back defs (length (lines_of text))
reads_back text defs h = subst (λ (m : ℕ). Back defs m) (omega arith) (rest_back (lines_of text) start 1 defs kept_at_start h)

-- What a text says can be printed.
pub read_is_printable : (text : Bytes) (defs : Defs) → definitions_of text ≡ Ok defs → ArePrintable defs.defs
read_is_printable text defs h = (reads_back text defs h).printable
