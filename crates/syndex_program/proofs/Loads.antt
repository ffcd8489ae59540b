-- The texts of a load are short.
use Rattle.std.proofs.Common.{ℕ, zero, suc, ◌+◌, ◌%◌, ◌≤◌, ◌<◌, length, arith, lit≤, ◌++◌}
use Rattle.std.specs.Fmt.{digits}
use Rattle.load_texts.specs.Algorithm.{algorithm_text, compound_definitions, main_graph, vector_definitions}
use Rattle.load_texts.specs.Architecture.{architecture_text}
use Rattle.load_texts.specs.Lines.{lines_text}
use Rattle.top_plans.specs.Shelf.{file_bound}

-- the longest texts have eight layers
layers_short : (l : ℕ) → l < 8 → length (lines_text vector_definitions ++ (lines_text compound_definitions ++ main_graph (1 + l))) ≤ file_bound
unfolding digits
layers_short zero h = lit≤ tt
layers_short (suc zero) h = lit≤ tt
layers_short (suc (suc zero)) h = lit≤ tt
layers_short (suc (suc (suc zero))) h = lit≤ tt
layers_short (suc (suc (suc (suc zero)))) h = lit≤ tt
layers_short (suc (suc (suc (suc (suc zero))))) h = lit≤ tt
layers_short (suc (suc (suc (suc (suc (suc zero)))))) h = lit≤ tt
layers_short (suc (suc (suc (suc (suc (suc (suc zero))))))) h = lit≤ tt
layers_short (suc (suc (suc (suc (suc (suc (suc (suc l)))))))) h = absurd (omega (arith, h))

pub short_algorithm : (n : ℕ) → length (algorithm_text n) ≤ file_bound
short_algorithm n = layers_short (n % 8) (omega arith)

pub short_architecture : length architecture_text ≤ file_bound
short_architecture = lit≤ tt
