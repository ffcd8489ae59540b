use Rattle.std.specs.Prelude.{◌≡◌, ◌<◌, ◌%◌, ℕ, Some, length, slice_get, slice_index_or}
use Rattle.executive_program.specs.declared.Vertex.{Vertex}
use Rattle.executive_program.specs.declared.Kind.TheVariants.{Actuator}
use Rattle.word_rule.specs.Agrees.{row_at}
use Rattle.word_table.specs.Ends.{AreWide}
use Rattle.word_table.proofs.closing.take_rows.Given as goal

abbrev pub invariant-loop-v : goal.invariant-loop-v
invariant-loop-v l = (l.rows.lens ≡ l.initial.rows.lens)
    × (length l.rows.reactions ≡ length l.initial.rows.reactions)
    × AreWide l.rows
    × ((v a k : ℕ) (x : Vertex) → v < l.v → slice_get l.job.graph.vertices v ≡ Some x → x.kind ≡ Actuator a
    → slice_index_or l.callers v 0 % l.groups ≡ l.group → row_at l.rows.reactions k a ≡ row_at l.others.reactions k a)
    × ((v a k : ℕ) (x : Vertex) → slice_get l.job.graph.vertices v ≡ Some x → x.kind ≡ Actuator a
    → (slice_index_or l.callers v 0 % l.groups ≡ l.group → ⊥) → row_at l.rows.reactions k a ≡ row_at l.initial.rows.reactions k a)
