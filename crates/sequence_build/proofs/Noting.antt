-- Steps of the loops that note who reads, and that put lines round instructions.
use Rattle.std.proofs.Common.{◌≡◌, ℕ, suc, ◌+◌, ◌<◌, ◌≤◌, Bool, true, false, ◌||◌, cond, nat_eq, List, [], ◌∷◌, ◌++◌, length, map, drop, refl, sym, ap, arith, ◌∙◌, add-one}
use Rattle.std.specs.Prelude.{slice_index_or}
use Rattle.std.specs.List.{list_any}
use Rattle.std.proofs.Math.Seq.{drop-cons}
use Rattle.sequence_build_laws.specs.declared.Instr.{Instr}
use Rattle.sequence_build_laws.specs.declared.Instr.TheVariants.{Suc0, Suc1, Pre0, Pre1}
use Rattle.sequence_build.specs.declared.uses.Use.{Use}
use Rattle.sequence_build.specs.declared.pairs.Pair.{Pair}
use Rattle.sequence_build.specs.declared.around.Around.{Around}
use Rattle.sequence_build.specs.Uses.{noted}
use Rattle.sequence_build.specs.Around.{Surrounds, all_between, loop_with}
use Rattle.sequence_build.proofs.Places.{noted_twice}

noted_more : (s at : ℕ) (old new whole : List Use) (t r : Bool) → new ≡ cond t (noted s at old) old → cond (t || r) (noted s at old) old ≡ whole → cond r (noted s at new) new ≡ whole
noted_more s at old new whole true true e h = ap (noted s at) e ∙ noted_twice s at old ∙ h
noted_more s at old new whole true false e h = e ∙ h
noted_more s at old new whole false true e h = ap (noted s at) e ∙ h
noted_more s at old new whole false false e h = e ∙ h

-- one buffer more
pub noted_next : (s at b i : ℕ) (ins : List ℕ) (old new whole : List Use) → i < length ins
    → new ≡ cond (nat_eq (slice_index_or ins i 0) b) (noted s at old) old
    → cond (list_any (λ c. nat_eq c b) (drop i ins)) (noted s at old) old ≡ whole
    → cond (list_any (λ c. nat_eq c b) (drop (i + 1) ins)) (noted s at new) new ≡ whole
noted_next s at b i ins old new whole h e w =
    let next : drop i ins ≡ slice_index_or ins i 0 ∷ drop (i + 1) ins = rw (add-one, drop-cons ins i 0) refl in
    noted_more s at old new whole (nat_eq (slice_index_or ins i 0) b) (list_any (λ c. nat_eq c b) (drop (i + 1) ins)) e
    (ap (λ (l : List ℕ). cond (list_any (λ c. nat_eq c b) l) (noted s at old) old) (sym next) ∙ w)

-- the lines of a loop
around_all : (s n : ℕ) (pairs : List Pair) (x : Around) → Surrounds s n pairs x → (a : ℕ) (xs : List Instr) → a + length xs ≤ n → all_between x a xs ≡ loop_with pairs s a xs
around_all s n pairs x h a [] l = refl
around_all s n pairs x h a (y ∷ xs) l =
    let first = h.firsts a (omega arith) in
    let last = h.lasts a (omega arith) in
    let write = h.writes a (omega arith) in
    let rest = around_all s n pairs x h (suc a) xs (omega arith) in
    λ i. (map Suc1 (first i) ++ map Suc0 (write i)) ++ (y ∷ (map Pre0 (last i) ++ map Pre1 (write i))) ++ rest i

pub around_loop : (s : ℕ) (pairs : List Pair) (x : Around) (xs : List Instr) → Surrounds s (length xs) pairs x → all_between x 0 xs ≡ loop_with pairs s 0 xs
around_loop s pairs x xs h = around_all s (length xs) pairs x h 0 xs (omega arith)
