-- Which numbers words may give.
use Rattle.std.specs.Prelude.{◌≤◌}
use Rattle.command_words.specs.Command.{Command, plain, job, dates, load}

-- 1 to 1,000 reactions are dated, and 1 to 1,000 layers are loaded
abbrev pub IsCounted : Command → Type 0
IsCounted (plain (dates a h g n)) = (1 ≤ n) × (n ≤ 1000)
IsCounted (job (load n)) = (1 ≤ n) × (n ≤ 1000)
IsCounted _ = Unit {0}
