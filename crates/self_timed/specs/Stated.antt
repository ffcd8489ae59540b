-- The ticks of a schedule's entries, as it states them.
use Rattle.std.specs.Prelude.{ℕ, ◌-◌, List, [], ◌∷◌, ◌++◌, map, replicate, slice_set}
use Rattle.sequence_build_laws.specs.declared.Transfer.{Transfer}
use Rattle.sequence_build_laws.specs.declared.Decision.{Decision}

abbrev pub run_ticks : Decision → ℕ
run_ticks d = d.end - d.start

abbrev pub carry_ticks : Transfer → ℕ
carry_ticks t = t.end - t.start

-- the ticks of operations by number, after these decisions
abbrev pub with_runs : List ℕ → List Decision → List ℕ
with_runs row [] = row
with_runs row (d ∷ ds) = with_runs (slice_set row d.op (run_ticks d)) ds

-- the ticks of transfers in the order of the decisions
abbrev pub carried_ticks : List Decision → List ℕ
carried_ticks [] = []
carried_ticks (d ∷ ds) = map carry_ticks d.transfers ++ carried_ticks ds

-- the ticks of so many operations, and then those of transfers
abbrev pub stated_row : ℕ → List Decision → List ℕ
stated_row operations ds = with_runs (replicate operations 0) ds ++ carried_ticks ds
