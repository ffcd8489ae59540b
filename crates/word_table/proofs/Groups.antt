-- Groups of sequences are split off one after another.
use Rattle.std.proofs.Common.{◌≡◌, ℕ, zero, suc, ◌+◌, ◌%◌, ⊎_elim, true, false, not, List, [], ◌∷◌, ◌++◌, length, Some, refl, sym, ap, subst, arith, ◌∙◌, eq-eqb, ne_eqb}
use Rattle.std.specs.Prelude.{nat_eq, slice_get}
use Rattle.std.proofs.lemmas.Bool.{cases_eq}
use Rattle.word_rule.specs.Job.{JobData}
use Rattle.word_rule.specs.declared.view.View.{View}
use Rattle.word_rule.specs.declared.view.View.TheVariants.{Spent, Holds}
use Rattle.word_rule.specs.Views.{left_of, right_of, first_view}
use Rattle.word_rule.proofs.Splitting.{picked_back, picked_on}
use Rattle.word_rule.proofs.Views.{all_zero, all_counted}
use Rattle.word_table.specs.Driver.{FabricData, DriverData, AreDrivers, AreNew}
use Rattle.word_table.specs.Weaving.{DrivesGroup, IsLeft, IsFirst, AreFirst}

pub first_left : (j : JobData) (groups : ℕ) → IsLeft j groups 0 (first_view j)
first_left j groups = (
  record {
    job = refl;
    looks = refl;
    there = λ s n c. let a = (all_zero 0 (length j.program.seqs) s n c).2 in omega (arith, a);
    none_made = λ s n c. (all_zero 0 (length j.program.seqs) s n c).0;
  },
  λ s l h. all_counted 0 (length j.program.seqs) s (omega arith) (omega (arith, l)),
)

-- the part of a group
pub right_group : (j : JobData) (groups g : ℕ) (v : View) → IsLeft j groups g v → DrivesGroup j groups g (right_of (λ s. nat_eq (s % groups) g) v)
right_group j groups g Spent h = absurd h
right_group j groups g (Holds k) h = (
  record {
    job = h.0.job;
    looks = refl;
    there = λ s n c. h.0.there s n (picked_back (λ i. nat_eq (i % groups) g) k.driven s n c).1;
    none_made = λ s n c. h.0.none_made s n (picked_back (λ i. nat_eq (i % groups) g) k.driven s n c).1;
  },
  (λ s l e. picked_on (λ i. nat_eq (i % groups) g) k.driven s 0 (eq-eqb (s % groups) g e) (h.1 s l (omega (arith, e)))),
  (λ s n c. by s (picked_back (λ i. nat_eq (i % groups) g) k.driven s n c).0),
)
  where
    by : (s : ℕ) → nat_eq (s % groups) g ≡ true → s % groups ≡ g
    by s e = ⊎_elim (λ q. q) (λ q. let z : false ≡ true = sym (ne_eqb (s % groups) g q) ∙ e in absurd cc) (cases_eq (s % groups) g)

-- and what is left
pub left_rest : (j : JobData) (groups g : ℕ) (v : View) → IsLeft j groups g v → IsLeft j groups (g + 1) (left_of (λ s. nat_eq (s % groups) g) v)
left_rest j groups g Spent h = absurd h
left_rest j groups g (Holds k) h = (
  record {
    job = h.0.job;
    looks = h.0.looks;
    there = λ s n c. h.0.there s n (picked_back (λ i. not (nat_eq (i % groups) g)) k.driven s n c).1;
    none_made = λ s n c. h.0.none_made s n (picked_back (λ i. not (nat_eq (i % groups) g)) k.driven s n c).1;
  },
  (λ s l e. picked_on (λ i. not (nat_eq (i % groups) g)) k.driven s 0 (ap not (ne_eqb (s % groups) g (λ q. omega (arith, q, e)))) (h.1 s l (omega (arith, e)))),
)

-- one driver more
pub first_more : (f : FabricData) (g : ℕ) (ds : List DriverData) (d : DriverData) → AreFirst f g ds → IsFirst f (g + length ds) d → AreFirst f g (ds ++ d ∷ [])
first_more f g [] d a i = (subst (λ (n : ℕ). IsFirst f n d) (omega arith) i, tt)
first_more f g (x ∷ xs) d a i = (a.0, first_more f (suc g) xs d a.1 (subst (λ (n : ℕ). IsFirst f n d) (omega arith) i))

-- driver by driver
first_at : (f : FabricData) (g : ℕ) (ds : List DriverData) → AreFirst f g ds → (k : ℕ) (d : DriverData) → slice_get ds k ≡ Some d → IsFirst f (g + k) d
first_at f g [] a k d e = absurd cc
first_at f g (x ∷ xs) a zero d e = let same : x ≡ d = cc in subst (λ (n : ℕ). IsFirst f n d) (let z : g ≡ g + 0 = omega arith in z) (subst (IsFirst f g) same a.0)
first_at f g (x ∷ xs) a (suc k) d e = subst (λ (n : ℕ). IsFirst f n d) (let z : suc g + k ≡ g + suc k = omega arith in z) (first_at f (suc g) xs a.1 k d e)

pub are_drivers : (f : FabricData) (ds : List DriverData) → AreFirst f 0 ds → length ds ≡ f.groups → AreDrivers f ds
are_drivers f ds a l = record {
  many = l;
  each = λ g d e. let i = first_at f 0 ds a g d e in (i.fabric, i.group ∙ (let z : 0 + g ≡ g = omega arith in z));
}

pub are_new : (f : FabricData) (ds : List DriverData) → AreFirst f 0 ds → AreNew ds
are_new f ds a g d e = (first_at f 0 ds a g d e).new
