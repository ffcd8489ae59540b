-- A worked plan, whose refusals are numbers: it refuses by 1 where the file is too long, and by 2 where it is not empty.
use Rattle.std.proofs.Common.{◌≡◌, ℕ, [], ◌∷◌, refl}
use Rattle.syn_base.specs.Bytes.{Bytes}
use Rattle.outside.specs.declared.file.File.TheVariants.{Sensors}
use Rattle.command_plan.specs.Plan.{Plan, give, refuse, read, RefusesOnly}

abbrev unless_empty : Bytes → Plan ℕ Bytes
unless_empty [] = give []
unless_empty (b ∷ bs) = refuse 2

abbrev one_read : Plan ℕ Bytes
one_read = read Sensors (83 ∷ []) 1 unless_empty

-- the refusals behind a read count, and so does that of a file which is too long
behind_a_read : RefusesOnly (λ r. ¬ (r ≡ 2)) one_read → ⊥
behind_a_read h = h.1 (63 ∷ []) refl

of_a_long_file : RefusesOnly (λ r. ¬ (r ≡ 1)) one_read → ⊥
of_a_long_file h = h.0 refl

-- no other number is refused by
no_other : RefusesOnly (λ r. ¬ (r ≡ 3)) one_read
no_other = ((λ q. cc), by)
  where
    by : (bytes : Bytes) → RefusesOnly (λ r. ¬ (r ≡ 3)) (unless_empty bytes)
    by [] = tt
    by (b ∷ bs) = λ q. cc

-- what is given is no refusal
given_alone : RefusesOnly (λ r. ⊥) (unless_empty [])
given_alone = tt
