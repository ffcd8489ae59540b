-- The text of a file has few lines, and few definitions.
use Rattle.std.proofs.Common.{◌≤◌, ◌+◌, ℕ, Bool, true, false, cond, List, [], ◌∷◌, ◌++◌, length, length-append, append_assoc, sym, subst, arith}
use Rattle.text_lines.specs.Text.{is_feed, lines_of, with_byte}
use Rattle.algo_reader.proofs.LineCounts.{lines_at_most}
use Rattle.syn_base.specs.Bytes.{Bytes}
use Rattle.algo_print.specs.Canonical.{body_lines, canonical_text, definition_lines, joined, text_of, version_words}
use Rattle.algo_laws.specs.declared.Def.{Def}
use Rattle.algo_laws.specs.declared.Defs.{Defs}
use Rattle.algo_laws.specs.declared.Body.{Body}
use Rattle.algo_laws.specs.declared.Body.TheVariants.{Sensor, Actuator, Constant, Delay, Function, Graph, Switch, Repeat}
use Rattle.outside.specs.Shelf.{file_bound}

pub few_lines : (text : Bytes) → length text ≤ file_bound → length (lines_of text) ≤ 4000000000
few_lines text h = omega (arith, h, lines_at_most text)

one_kept : (f : Bool) (b : ℕ) (ls : List Bytes) → 1 ≤ length ls → length ls ≤ length (cond f ([] ∷ ls) (with_byte b ls))
one_kept f b [] h = absurd (omega (arith, h))
one_kept true b (l ∷ ls) h = omega arith
one_kept false b (l ∷ ls) h = omega arith

-- a line feed ends a line
behind_feed : (xs ys : Bytes) → length (lines_of ys) + 1 ≤ length (lines_of (xs ++ 10 ∷ ys))
behind_feed [] ys = omega arith
behind_feed (b ∷ xs) ys =
    let below = behind_feed xs ys in
    let some : 1 ≤ length (lines_of (xs ++ 10 ∷ ys)) = omega (arith, below) in
    omega (arith, below, one_kept (is_feed b) b (lines_of (xs ++ 10 ∷ ys)) some)

as_many_lines : (ls : List (List Bytes)) → length ls ≤ length (lines_of (text_of ls))
as_many_lines [] = omega arith
as_many_lines (ws ∷ ls) =
    let first : length (lines_of (text_of ls)) + 1 ≤ length (lines_of ((joined ws ++ 10 ∷ []) ++ text_of ls)) =
    subst (λ (t : Bytes). length (lines_of (text_of ls)) + 1 ≤ length (lines_of t)) (sym (append_assoc (joined ws) (10 ∷ []) (text_of ls))) (behind_feed (joined ws) (text_of ls)) in
    omega (arith, first, as_many_lines ls)

-- each definition has a line
one_line : (version : ℕ) (w : Bytes) (b : Body) → 1 ≤ length (body_lines version w b)
one_line version w (Sensor len) = omega arith
one_line version w (Actuator len) = omega arith
one_line version w (Constant values) = omega arith
one_line version w (Delay depth values) = omega arith
one_line version w (Function ins outs) = omega arith
one_line version w (Graph ins outs references edges) = omega arith
one_line version w (Switch on ins outs cases otherwise line) = omega arith
one_line version w (Repeat copies def lines) = omega arith

as_many_definitions : (version : ℕ) (ds : List Def) → length ds ≤ length (definition_lines version ds)
as_many_definitions version [] = omega arith
as_many_definitions version (d ∷ ds) =
    omega (arith, one_line version d.name d.body, as_many_definitions version ds, length-append (body_lines version d.name d.body) (definition_lines version ds))

pub few_definitions : (text : Bytes) (ds : Defs) → length text ≤ file_bound → length (lines_of (canonical_text ds)) ≤ length (lines_of text) → length ds.defs ≤ 4000000000
few_definitions text ds short back =
    let ls : List (List Bytes) = version_words ds.version ∷ definition_lines ds.version ds.defs in
    let printed : length ls ≤ length (lines_of (canonical_text ds)) = as_many_lines ls in
    omega (arith, few_lines text short, back, printed, as_many_definitions ds.version ds.defs)
