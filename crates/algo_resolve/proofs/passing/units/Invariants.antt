use Rattle.std.proofs.Common.{◌≡◌, ◌++◌, drop, length, map}
use Rattle.algo_resolve.specs.Rounds.{leads_at, level_of, passing_view, unit_view}
use Rattle.algo_resolve.proofs.passing.units.Given as goal

abbrev pub invariant-loop-ins : goal.invariant-loop-ins
invariant-loop-ins l =
    map unit_view l.units.items ++ level_of (drop (length l.yielded) l.wires) (map (leads_at (map passing_view l.last)) (drop (length l.yielded) l.places))
    ≡ level_of l.wires (map (leads_at (map passing_view l.last)) l.places)
