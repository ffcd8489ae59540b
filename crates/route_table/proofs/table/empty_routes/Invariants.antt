use Rattle.std.proofs.Common.{◌≡◌, ℕ, [], length}
use Rattle.std.specs.Prelude.{slice_index_or}
use Rattle.route_table.proofs.table.empty_routes.Given as goal

abbrev pub invariant-loop : goal.invariant-loop
invariant-loop l = (length l.routes.items ≡ l.counter) × ((i : ℕ) → slice_index_or l.routes.items i [] ≡ [])
