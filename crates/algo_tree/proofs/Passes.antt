-- A pass that keeps what each vertex does keeps the meaning of the whole.
use Rattle.std.proofs.Common.{◌≡◌, ℕ, zero, suc, List, [], slice_index_or, ap, ◌∙◌}
use Rattle.level_meaning.specs.declared.source.Source.{Source}
use Rattle.level_meaning.specs.Level.{level_value}
use Rattle.algo_tree.specs.Tree.{Label, Vertex, vertex, Vertices}
use Rattle.algo_tree.specs.Meaning.{behaviour, behaviour_of, nodes, past, actuator_values}
use Rattle.algo_tree.specs.SameMeaning.{KeepsMeaning}
use Rattle.syn_base.specs.Vectors.{Vector, Values}

-- the same vertices inside, for all that a level can tell
pub same_behaviour : (l : Label) (us vs : Vertices) → nodes us ≡ nodes vs → behaviour (vertex l us) ≡ behaviour (vertex l vs)
same_behaviour l us vs e = ap (behaviour_of l) e

pub same_past : (l : Label) (us vs : Vertices) (rows : List Values) → nodes us ≡ nodes vs → (k : ℕ) → past (vertex l us) rows k ≡ past (vertex l vs) rows k
same_past l us vs rows e zero = ap (λ d. d.initial) (same_behaviour l us vs e)
same_past l us vs rows e (suc k) =
    let P = same_behaviour l us vs e in
    ap (λ d. d.next (slice_index_or rows k []) (past (vertex l us) rows k) []) P ∙ ap (λ s. (behaviour (vertex l vs)).next (slice_index_or rows k []) s []) (same_past l us vs rows e k)

pub keeps_meaning : (l : Label) (us vs : Vertices) → nodes vs ≡ nodes us → ((look : Source → Vector) → actuator_values look vs ≡ actuator_values look us) → KeepsMeaning (vertex l us) (vertex l vs)
keeps_meaning l us vs e same = record {
  taken = λ rows k.
      let st = same_past l vs us rows e k in
      ap (λ s. actuator_values (level_value (nodes vs) (slice_index_or rows k []) s []) vs) st
      ∙ ap (λ cs. actuator_values (level_value cs (slice_index_or rows k []) (past (vertex l us) rows k) []) vs) e
      ∙ same (level_value (nodes us) (slice_index_or rows k []) (past (vertex l us) rows k) []);
  kept = λ rows k q. ap (λ s. s q) (same_past l vs us rows e k);
}

pub keeps_by_steps : (first second third : Vertex) → KeepsMeaning first second → KeepsMeaning second third → KeepsMeaning first third
keeps_by_steps first second third a b = record {
  taken = λ rows k. b.taken rows k ∙ a.taken rows k;
  kept = λ rows k q. b.kept rows k q ∙ a.kept rows k q;
}
