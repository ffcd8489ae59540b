-- The three texts of a load, by names that no definition computes with.
use Rattle.std.specs.Prelude.{ℕ}
use Rattle.syn_base.specs.Bytes.{Bytes}
use Rattle.load_texts.specs.Algorithm.{algorithm_text}
use Rattle.load_texts.specs.Architecture.{architecture_text}
use Rattle.load_texts.specs.Table.{table_text}

-- The text of the algorithm of the load of this number, by a name that no definition computes with.
unfoldable pub load_algorithm : ℕ → Bytes
load_algorithm n = algorithm_text n

-- The text of the architecture, which is the same for every load.
unfoldable pub load_architecture : Bytes
load_architecture = architecture_text

-- The text of the sensor table of the load of this number.
unfoldable pub load_table : ℕ → Bytes
load_table n = table_text n
