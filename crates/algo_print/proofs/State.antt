-- What was read so far, as canonical lines, and the same with other numbers of lines.
use Rattle.std.proofs.Common.{◌≡◌, ℕ, ◌<◌, ◌==◌, true, false, cond, List, [], ◌∷◌, ◌++◌, length, map, Ok, refl, ap, ap₂, sym, ◌∙◌, append_assoc, codes}
use Rattle.std.specs.Prelude.{All}
use Rattle.std.proofs.lemmas.List.{map-append, length-map}
use Rattle.text_lines.specs.Text.{words_of, count_text}
use Rattle.body_text.specs.Canonical.{IsRead}
use Rattle.algo_text.specs.declared.definition.Def.{Def}
use Rattle.algo_text.specs.declared.definition.Reference.{Reference}
use Rattle.algo_text.specs.declared.definition.Edge.{Edge}
use Rattle.algo_text.specs.declared.definition.Case.{Case}
use Rattle.algo_text.specs.declared.definition.FrontierLine.{FrontierLine}
use Rattle.syn_base.specs.Bytes.{Bytes}
use Rattle.algo_text.specs.Outer.{outer_names, all_outer}
use Rattle.algo_text.specs.declared.part.Part.{Part}
use Rattle.algo_text.specs.declared.part.Part.TheVariants.{Conditioning, Inputs, Outputs, References, Edges, Cases, Whole}
use Rattle.algo_text.specs.Parts.{rank, admits}
use Rattle.algo_text.specs.Blocks.{Block}
use Rattle.algo_text.specs.Text.{Stage, before_version, between, in_function, in_graph, in_switch, in_repeat, Reading, by_stage, line_by, next_line}
use Rattle.algo_print.specs.Canonical.{joined, body_lines, definition_lines, version_words, function_lines, graph_lines, port_words, case_words, frontier_words, ArePrintable}
use Rattle.algo_print.specs.ReadBack.{bare, bare_reference, bare_edge, bare_case, bare_frontier}
use Rattle.algo_print.proofs.Pieces.{are_words, joined_back, code_back, foreign_back}

abbrev pub Lines : Type 0
Lines = List (List Bytes)

-- the lines of an open switch after its first, by the part in which the last one stands
abbrev pub open_switch : Part → Bytes → Lines → Bytes → Lines
open_switch Conditioning on lines otherwise = []
open_switch Whole on lines otherwise = ((codes "on" ∷ on ∷ []) ∷ lines) ++ (codes "otherwise" ∷ otherwise ∷ []) ∷ []
open_switch _ on lines otherwise = (codes "on" ∷ on ∷ []) ∷ lines

abbrev pub open_lines : Stage → Block → Lines
open_lines before_version b = []
open_lines between b = []
open_lines in_function b = (codes "function" ∷ b.name ∷ []) ∷ function_lines b.ins b.results
open_lines in_graph b = (codes "graph" ∷ b.name ∷ []) ∷ graph_lines b.ins b.outs b.references b.edges
open_lines in_switch b = (codes "switch" ∷ b.name ∷ []) ∷ open_switch b.part b.on (map (port_words (codes "in")) b.ins ++ (map (port_words (codes "out")) b.outs ++ map case_words b.cases)) b.otherwise
open_lines in_repeat b = (codes "repeat" ∷ b.name ∷ count_text b.copies ∷ b.def ∷ []) ∷ map frontier_words b.frontier

abbrev pub lines_at : Stage → ℕ → List Def → Block → Lines
lines_at before_version version defs b = []
lines_at between version defs b = version_words version ∷ definition_lines version defs
lines_at in_function version defs b = version_words version ∷ (definition_lines version defs ++ open_lines in_function b)
lines_at in_graph version defs b = version_words version ∷ (definition_lines version defs ++ open_lines in_graph b)
lines_at in_switch version defs b = version_words version ∷ (definition_lines version defs ++ open_lines in_switch b)
lines_at in_repeat version defs b = version_words version ∷ (definition_lines version defs ++ open_lines in_repeat b)

-- All that holds numbers of lines.
pub record Numbered : Type 0 where
  pub defs : List Def
  pub line : ℕ
  pub references : List Reference
  pub edges : List Edge
  pub cases : List Case
  pub otherwise_line : ℕ
  pub frontier : List FrontierLine

abbrev pub numbered_block : Numbered → Block → Block
numbered_block k b = record b { line = k.line; references = k.references; edges = k.edges; cases = k.cases; otherwise_line = k.otherwise_line; frontier = k.frontier }

-- what was read so far, with these in place of its own
abbrev pub numbered : Numbered → Reading → Reading
numbered k r = record r { defs = k.defs; block = numbered_block k r.block }

pub record AreSame (k : Numbered) (defs : List Def) (b : Block) : Type 0 where
  pub defs_same : map bare k.defs ≡ map bare defs
  pub references_same : map bare_reference k.references ≡ map bare_reference b.references
  pub edges_same : map bare_edge k.edges ≡ map bare_edge b.edges
  pub cases_same : map bare_case k.cases ≡ map bare_case b.cases
  pub frontier_same : map bare_frontier k.frontier ≡ map bare_frontier b.frontier

pub record FunctionOrder (b : Block) : Type 0 where
  pub no_results : admits b.part Inputs ≡ true → b.results ≡ []
  pub printable : All (λ o. IsRead (map (λ p. p.name) b.ins) o.formula) b.results

pub record GraphOrder (b : Block) : Type 0 where
  pub no_outs : rank b.part < rank Outputs → b.outs ≡ []
  pub no_references : rank b.part < rank References → b.references ≡ []
  pub no_edges : rank b.part < rank Edges → b.edges ≡ []

pub record SwitchOrder (b : Block) : Type 0 where
  pub no_ins : rank b.part < rank Inputs → b.ins ≡ []
  pub no_outs : rank b.part < rank Outputs → b.outs ≡ []
  pub no_cases : rank b.part < rank Cases → b.cases ≡ []

-- definitions stand after the version's line, and lines of later parts are not there yet
abbrev pub IsOrdered : Stage → List Def → Block → Type 0
IsOrdered before_version defs b = defs ≡ []
IsOrdered between defs b = Unit {0}
IsOrdered in_function defs b = FunctionOrder b
IsOrdered in_graph defs b = GraphOrder b
IsOrdered in_switch defs b = SwitchOrder b
IsOrdered in_repeat defs b = Unit {0}

-- A line adds one canonical line, which is read likewise whatever the numbers of lines are.
pub record Adds (k : Numbered) (s : Stage) (version : ℕ) (names : List Bytes) (defs : List Def) (b : Block) (r : Reading) : Type 0 where
  pub words : List Bytes
  pub plain : are_words words ≡ true
  pub some : (length words == 0) ≡ false
  pub lines : lines_at r.stage r.version r.defs r.block ≡ lines_at s version defs b ++ words ∷ []
  pub next : ℕ → Numbered
  pub reads : (m : ℕ) → by_stage s (numbered k (record { stage = s; version = version; names = names; defs = defs; block = b })) m words (joined words) ≡ Ok (numbered (next m) r)
  pub same : (m : ℕ) → AreSame (next m) r.defs r.block
  pub ordered : IsOrdered r.stage r.defs r.block
  pub printable : ArePrintable defs → ArePrintable r.defs

pub definitions_joined : (version : ℕ) (ds es : List Def) → definition_lines version (ds ++ es) ≡ definition_lines version ds ++ definition_lines version es
definitions_joined version [] es = refl
definitions_joined version (d ∷ ds) es =
    ap (λ (ls : Lines). body_lines version d.name d.body ++ ls) (definitions_joined version ds es)
    ∙ sym (append_assoc (body_lines version d.name d.body) (definition_lines version ds) (definition_lines version es))

-- one element more on both sides
pub more : {A B : Type 0} (f : A → B) (xs ys : List A) (x y : A) → map f xs ≡ map f ys → f x ≡ f y → map f (xs ++ x ∷ []) ≡ map f (ys ++ y ∷ [])
more f xs ys x y h e = map-append f xs (x ∷ []) ∙ ap₂ (λ l z. l ++ z ∷ []) h e ∙ sym (map-append f ys (y ∷ []))

pub same_length : {A B : Type 0} (f : A → B) (xs ys : List A) → map f xs ≡ map f ys → length xs ≡ length ys
same_length f xs ys h = sym (length-map xs f) ∙ ap length h ∙ length-map ys f

pub bare_outer : (ls : List FrontierLine) → all_outer (map bare_frontier ls) ≡ all_outer ls
bare_outer [] = refl
bare_outer (l ∷ ls) = ap (λ (ns : List Bytes). outer_names l.frontier ++ ns) (bare_outer ls)

pub same_outer : (ls ms : List FrontierLine) → map bare_frontier ls ≡ map bare_frontier ms → all_outer ls ≡ all_outer ms
same_outer ls ms h = sym (bare_outer ls) ∙ ap all_outer h ∙ bare_outer ms

pub bare_names : (rs : List Reference) → map (λ r. r.name) (map bare_reference rs) ≡ map (λ r. r.name) rs
bare_names [] = refl
bare_names (r ∷ rs) = ap (λ (ns : List Bytes). r.name ∷ ns) (bare_names rs)

pub same_names : (rs ss : List Reference) → map bare_reference rs ≡ map bare_reference ss → map (λ r. r.name) rs ≡ map (λ r. r.name) ss
same_names rs ss h = sym (bare_names rs) ∙ ap (λ (l : List Reference). map (λ r. r.name) l) h ∙ bare_names ss

-- A line of words is read as these words.
pub next_words : (r : Reading) (n : ℕ) (ws : List Bytes) → are_words ws ≡ true → (length ws == 0) ≡ false → next_line r n (joined ws) ≡ by_stage r.stage r n ws (joined ws)
next_words r n ws h some =
    ap (line_by r n (joined ws)) (foreign_back ws h)
    ∙ ap (λ (c : Bytes). cond (length (words_of c) == 0) (Ok r) (by_stage r.stage r n (words_of c) c)) (code_back ws h)
    ∙ ap (λ (v : List Bytes). cond (length v == 0) (Ok r) (by_stage r.stage r n v (joined ws))) (joined_back ws h)
    ∙ ap (λ c. cond c (Ok r) (by_stage r.stage r n ws (joined ws))) some
