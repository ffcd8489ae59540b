-- What the texts of a load are.
use Rattle.std.proofs.Common.{◌≡◌, ℕ, refl}
use Rattle.load_texts.specs.Algorithm.{algorithm_text}
use Rattle.load_texts.specs.Architecture.{architecture_text}
use Rattle.load_texts.specs.Table.{table_text}
use Rattle.top_plans.specs.Loads.{load_algorithm, load_architecture, load_table}

pub algorithm_is : (n : ℕ) → load_algorithm n ≡ algorithm_text n
unfolding load_algorithm
algorithm_is n = refl

pub architecture_is : load_architecture ≡ architecture_text
unfolding load_architecture
architecture_is = refl

pub table_is : (n : ℕ) → load_table n ≡ table_text n
unfolding load_table
table_is n = refl
