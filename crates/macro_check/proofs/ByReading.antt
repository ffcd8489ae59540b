-- The test of pairs by the list of readings.
use Rattle.std.proofs.Common.{◌≡◌, ℕ, ◌+◌, ◌≤◌, Bool, true, false, ◌&&◌, nat_eq, List, [], ◌∷◌, length, map, Option, Some, None, refl, sym, ap, ◌∙◌}
use Rattle.std.specs.Prelude.{slice_get, nat_lt}
use Rattle.std.proofs.lemmas.List.{length-map}
use Rattle.std.proofs.lemmas.Option.{slice_get_past}
use Rattle.sequence_build_laws.specs.declared.Program.{Program}
use Rattle.sequence_build_laws.specs.Instructions.{readers}
use Rattle.sequence_build_laws.specs.Places.{writer_of, written_at}
use Rattle.sequence_build_laws.specs.WellFormed.{operator_of}
use Rattle.program_walks.specs.Walks.{all_at}
use Rattle.program_walks.specs.Pairs.{has_operator, is_read_between, is_written_between}
use Rattle.program_tables.specs.declared.readings.Reading.{Reading}
use Rattle.program_tables.specs.Readings.{reading_of, readings}
use Rattle.check_laws.specs.Tests.{are_guarded}
use Rattle.macro_check.specs.Tabled.{guards_by}

all_mapped : {X Y : Type 0} (f : ℕ → Y → Bool) (g : X → Y) (n : ℕ) (xs : List X) → all_at f n (map g xs) ≡ all_at (λ k x. f k (g x)) n xs
all_mapped f g n [] = refl
all_mapped f g n (x ∷ xs) = ap (λ (b : Bool). f n (g x) && b) (all_mapped f g (n + 1) xs)

pub guarded_is : (p : Program) (rs : List Reading) → rs ≡ readings p → (nat_eq (length p.pairs) (length rs) && all_at (guards_by p) 0 rs) ≡ are_guarded p
guarded_is p rs e =
    let many = length-map (readers p) reading_of in
    let all = all_mapped (guards_by p) reading_of 0 (readers p) in
    (λ i. nat_eq (length p.pairs) (length (e i)) && all_at (guards_by p) 0 (e i)) ∙ (λ i. nat_eq (length p.pairs) (many i) && all i)

no_operator : (o : Option ℕ) → has_operator o None ≡ false
no_operator None = refl
no_operator (Some n) = refl

-- a buffer that is not there is not guarded
pub not_there : (p : Program) (q : ℕ) (r : Reading) → length p.buffers ≤ r.buffer → false ≡ guards_by p q r
not_there p q r l = sym (ap (λ (t : Bool). nat_lt q (length p.pairs) && t
    && is_written_between p q (writer_of p r.buffer) (written_at p r.buffer) && is_read_between p q r.buffer r.sequence) none ∙ by (nat_lt q (length p.pairs)))
  where
    past : operator_of p r.buffer ≡ None
    past = rw (slice_get_past p.buffers r.buffer l) refl

    none : has_operator (slice_get p.pairs q) (operator_of p r.buffer) ≡ false
    none = ap (has_operator (slice_get p.pairs q)) past ∙ no_operator (slice_get p.pairs q)

    by : (b : Bool) → (b && false && is_written_between p q (writer_of p r.buffer) (written_at p r.buffer) && is_read_between p q r.buffer r.sequence) ≡ false
    by true = refl
    by false = refl
