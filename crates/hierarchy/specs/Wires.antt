-- Where sources lead, by a table of a level.
use Rattle.std.specs.Prelude.{◌≡◌, ℕ, List, map, Option, Some, None, slice_get, slice_index_or}
use Rattle.algo_tree.specs.declared.Source.{Source}
use Rattle.algo_tree.specs.declared.Source.TheVariants.{Of}
use Rattle.algo_tree.specs.Tree.{Vertex}
use Rattle.flat_laws.specs.Inlined.{nowhere, wire_source, wiring}
use Rattle.hierarchy.specs.declared.wires.Led.{Led}
use Rattle.hierarchy.specs.declared.wires.Led.TheVariants.{Operation, Graph}

-- Where output p of a vertex leads.
abbrev pub output_led : Led → ℕ → Source
output_led (Operation b) p = Of b p
output_led (Graph sources) p = slice_index_or sources p nowhere

abbrev pub with_led : {A : Type 0} → Option Led → A → (Led → A) → A
with_led None a f = a
with_led (Some x) a f = f x

-- Where output p of vertex r leads, by a table with a row for each vertex of the level.
abbrev pub led_out : List Led → ℕ → ℕ → Source
led_out leds r p = with_led (slice_get leds r) nowhere (λ x. output_led x p)

-- Where a source of the level leads.
abbrev pub led : List Led → List Source → Source → Source
led leds own = wire_source own (led_out leds)

-- The outputs of a vertex, whose first operation has number b, lead where its wiring says, from where the sources of
-- its level lead.
abbrev pub Leads : ℕ → (Source → Source) → Vertex → Led → Type 0
Leads b w u x = (p : ℕ) → output_led x p ≡ (wiring b u).gives (map w (wiring b u).asked) p
