-- What a state holds when it is opened.
use Rattle.std.proofs.Common.{◌≡◌, ℕ, ◌+◌, ◌*◌, ◌<◌, List, [], ◌∷◌, ◌++◌, map, take, length, get_or, sym, ap, ◌∙◌, ℤ}
use Rattle.std.proofs.lemmas.List.{map_more}
use Rattle.executive_program.specs.declared.program.Buffer.{Buffer}
use Rattle.executive_program.specs.declared.program.Program.{Program}
use Rattle.syn_base.specs.Vectors.{Vector, zeros}

abbrev pub zeros_of : Buffer → Vector
zeros_of x = zeros (x.depth * x.len)

-- one more buffer of a program
pub buffer_more : (p : Program) (k : ℕ) (d : Buffer) (items : List Buffer) (all new : List (List ℤ)) (z : List ℤ) → items ≡ p.buffers → k < length p.buffers → all ≡ map zeros_of (take k p.buffers)
    → z ≡ zeros ((get_or items k d).depth * (get_or items k d).len) → new ≡ all ++ z ∷ [] → new ≡ map zeros_of (take (k + 1) p.buffers)
buffer_more p k d items all new z i l a e n = n ∙ (λ j. a j ++ (e ∙ ap (λ (xs : List Buffer). zeros_of (get_or xs k d)) i) j ∷ []) ∙ sym (map_more zeros_of p.buffers k d l)
