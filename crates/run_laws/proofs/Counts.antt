-- What is driven after jobs.
use Rattle.std.proofs.Common.{◌≡◌, ℕ, ◌+◌, ◌≤◌, min, [], ◌∷◌, sum, refl, arith, ◌∙◌}
use Rattle.word_rule.specs.Ended.{full_counts}
use Rattle.word_rule.specs.Driven.{last_number, driven_by}
use Rattle.run_laws.specs.Drives.{NumbersRise, LastIsKept, steps_of_all}

pub numbers_rise : NumbersRise
numbers_rise [] d l = let m : d.number ≡ min (d.number + 0) last_number = omega (arith, l) in m
numbers_rise (j ∷ js) d l = numbers_rise js (driven_by j d) (low (d.number) (sum (full_counts j))) ∙ twice d.number (sum (full_counts j)) (steps_of_all js)
  where
    low : (a b : ℕ) → min (a + b) last_number ≤ last_number
    low a b = omega arith

    twice : (a b c : ℕ) → min (min (a + b) last_number + c) last_number ≡ min (a + (b + c)) last_number
    twice a b c = omega arith

pub last_kept : LastIsKept
last_kept [] j d = (refl, refl)
last_kept (i ∷ jobs) j d = last_kept jobs j (driven_by i d)
