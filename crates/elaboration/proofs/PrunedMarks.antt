-- Marks that may stand in a tree may stand in the pruned one.
use Rattle.std.proofs.Common.{◌≡◌, ℕ, suc, ◌==◌, List, Bool, true, false, cond, Option, Some, None, refl, sym, ap, subst}
use Rattle.algo_laws.specs.Counted.{operations}
use Rattle.algo_laws.specs.Meaning.{vertices_in}
use Rattle.algo_laws.specs.Typed.{label_of}
use Rattle.algo_laws.specs.Tree.{Label, Vertex, vertex, Vertices, no_vertices, and_vertex}
use Rattle.algo_laws.specs.TreeCode.{count_of}
use Rattle.multi_period.specs.declared.Mark.{Mark}
use Rattle.multi_period.specs.Marks.{AreMarked, AreOnce, MayHave, MayHaveMarks, mark_at}
use Rattle.wiring_laws.specs.Pruned.{passing, prune_all, pruned}
use Rattle.wiring_laws.specs.Wiring.{wiring}

abbrev passing_label : Label → List (Option ℕ) → Label
passing_label l leads = label_of (passing l leads)

may-pass : (o : Option Mark) (l : Label) (leads : List (Option ℕ)) → MayHave o l → MayHave o (passing_label l leads)
may-pass None l leads h = tt
may-pass (Some m) l leads h = record { some = h.some; few = h.few; kind = tt; guards = h.guards; named = h.named; distinct = h.distinct; words = h.words }

marked-either : (mark : ℕ → Option Mark) (l : Label) (us rest : Vertices) (leads : List (Option ℕ)) → MayHave (mark 0) l → AreMarked (λ r. mark (suc r)) rest → (b : Bool)
    → AreMarked mark (and_vertex (cond b (passing l leads) (vertex l us)) rest)
marked-either mark l us rest leads h more true = (may-pass (mark 0) l leads h, more)
marked-either mark l us rest leads h more false = (h, more)

marked-prune : (mark : ℕ → Option Mark) (us : Vertices) → AreMarked mark us → AreMarked mark (prune_all us)
marked-prune mark no_vertices h = tt
marked-prune mark (and_vertex (vertex l vs) us) h =
    marked-either mark l (prune_all vs) (prune_all us) (wiring (vertex l vs)) h.0 (marked-prune (λ r. mark (suc r)) us h.1) (operations (vertex l vs) == 0)

count-prune : (us : Vertices) → count_of (prune_all us) ≡ count_of us
count-prune no_vertices = refl
count-prune (and_vertex u us) = ap suc (count-prune us)

pub stand-pruned : (marks : List Mark) (main : Vertex) → MayHaveMarks marks main → MayHaveMarks marks (pruned main)
stand-pruned marks (vertex l us) h = record {
  stand = marked-prune (mark_at marks) us h.stand;
  once = subst (λ (n : ℕ). AreOnce n marks) (sym (count-prune us)) h.once;
}

pub marked-pruned : (marks : List Mark) (main : Vertex) → AreMarked (mark_at marks) (vertices_in main) → AreMarked (mark_at marks) (vertices_in (pruned main))
marked-pruned marks (vertex l us) h = marked-prune (mark_at marks) us h
