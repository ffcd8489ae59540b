-- Which numbers words may give.
use Rattle.std.specs.Prelude.{◌≤◌, ℕ}
use Rattle.lab_words.specs.Command.{Command, Subject, dates, report, schedule}

-- 1 to 1,000 reactions are dated or counted
abbrev pub IsReactions : ℕ → Type 0
IsReactions n = (1 ≤ n) × (n ≤ 1000)

abbrev pub IsCountedOf : Subject → Type 0
IsCountedOf (report n) = IsReactions n
IsCountedOf _ = Unit {0}

abbrev pub IsCounted : Command → Type 0
IsCounted (schedule subject a h effort) = IsCountedOf subject
IsCounted (dates form a h g n effort) = IsReactions n
IsCounted _ = Unit {0}
