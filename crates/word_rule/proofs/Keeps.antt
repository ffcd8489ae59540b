-- A step of a seat keeps the rule: the new view drives what the old one drove, one sequence one micro-step further or none.
use Rattle.std.proofs.Common.{◌≡◌, ℕ, zero, suc, ◌+◌, ◌<◌, ◌⊎◌, inl, inr, ⊎_elim, List, [], ◌∷◌, length, get_or, set, Some, refl, sym, ap, subst, arith, ◌∙◌, get_or-set_same, get_or-set_other}
use Rattle.std.proofs.lemmas.Bool.{cases_eq}
use Rattle.std.proofs.lemmas.Option.{same_Some}
use mathlib.Core.Option.{some, some-injective, some-ne-none}
use lib.ListN.{get_elem?}
use Rattle.atomic_table.specs.Table.{State}
use Rattle.atomic_table.proofs.Lists.{at_set, set_here, set_else}
use Rattle.phase_laws.specs.Job.{JobData}
use Rattle.phase_laws.specs.Told.{told}
use Rattle.phase_laws.specs.Laws.{one_more}
use Rattle.word_rule.specs.declared.view.Knowledge.{Knowledge}
use Rattle.word_rule.specs.declared.view.View.{View}
use Rattle.word_rule.specs.declared.view.View.TheVariants.{Holds}
use Rattle.word_rule.specs.Words.{table_of}
use Rattle.word_rule.specs.Views.{count_in, count_by, raised, IsFor}
use Rattle.word_rule.specs.Rule.{Drives, IsDriven, AreTold, TellsAt}
use Rattle.word_rule.proofs.Views.{raised-same, raised-other}

pub seat_inside : {A : Type 0} (xs : List A) (i : ℕ) (a : A) → get_elem? xs i ≡ some a → i < length xs
seat_inside [] i a h = absurd (some-ne-none a (sym h))
seat_inside (x ∷ xs) zero a h = omega arith
seat_inside (x ∷ xs) (suc i) a h = let r = seat_inside xs i a h in omega arith

-- u drives the sequences that v drives
pub record SameDriven (v u : View) : Type 0 where
  pub back : (s n : ℕ) → count_by u s ≡ Some n → (m : ℕ) × (count_by v s ≡ Some m)
  pub on : (s n : ℕ) → count_by v s ≡ Some n → (m : ℕ) × (count_by u s ≡ Some m)

module _ (j : JobData) (t : State (Unit {0}) View) (counts : List ℕ) (b : TellsAt j t counts) (id : ℕ) (v : View) (at : get_elem? t.views id ≡ some v) (u : View) (same : SameDriven v u) where
  abbrev New : List View
  New = set t.views id u

  -- what a seat drives now it drove
  was : (i s n : ℕ) → Drives New i s n → (m : ℕ) × Drives t.views i s m
  was i s n d = ⊎_elim
      (λ q. let w = same.back s n (subst (λ (a : View). count_by a s ≡ Some n) (sym q.1) d.count) in
      (w.0, record { view = v; stands = subst (λ (h : ℕ). get_elem? t.views h ≡ some v) (sym q.0) at; count = w.1 }))
      (λ q. (n, record { view = d.view; stands = q.1; count = d.count })) (at_set t.views id i u d.view d.stands)

  pub still_apart : (i h s n m : ℕ) → Drives New i s n → Drives New h s m → i ≡ h
  still_apart i h s n m d e = let a = was i s n d in let c = was h s m e in b.apart i h s a.0 c.0 a.1 c.1

  pub still_covered : (s : ℕ) → s < length j.program.seqs → IsDriven New s
  still_covered s l = let w = b.covered s l in by w (cases_eq w.seat id)
    where
      by : (w : IsDriven t.views s) → (w.seat ≡ id) ⊎ (w.seat ≡ id → ⊥) → IsDriven New s
      by w (inl q) = let o : w.drives.view ≡ v = some-injective w.drives.view v (sym (subst (λ (h : ℕ). get_elem? t.views h ≡ some w.drives.view) q w.drives.stands) ∙ at) in
          let c = same.on s w.count (subst (λ (a : View). count_by a s ≡ Some w.count) o w.drives.count) in
          record { seat = id; count = c.0; drives = record { view = u; stands = set_here t.views id u (seat_inside t.views id v at); count = c.1 } }
      by w (inr q) = record { seat = w.seat; count = w.count; drives = record { view = w.drives.view; stands = set_else t.views id w.seat u q ∙ w.drives.stands; count = w.drives.count } }

  pub still_for : IsFor j u → (i : ℕ) (y : View) → get_elem? New i ≡ some y → IsFor j y
  still_for f i y g = ⊎_elim (λ q. subst (IsFor j) q.1 f) (λ q. b.for_job i y q.1) (at_set t.views id i u y g)

  -- the counts of the other seats are as they were
  pub others : (i s n : ℕ) → (i ≡ id → ⊥) → Drives New i s n → Drives t.views i s n
  others i s n ne d = ⊎_elim (λ q. absurd (ne q.0)) (λ q. record { view = d.view; stands = q.1; count = d.count }) (at_set t.views id i u d.view d.stands)

  pub here_now : (s n : ℕ) → Drives New id s n → count_by u s ≡ Some n
  here_now s n d = ⊎_elim (λ q. subst (λ (a : View). count_by a s ≡ Some n) (sym q.1) d.count) (λ q. absurd (q.0 refl)) (at_set t.views id id u d.view d.stands)

-- A step that raises no count and changes no word.
module _ (j : JobData) (t : State (Unit {0}) View) (counts : List ℕ) (b : TellsAt j t counts) (id : ℕ) (k l : Knowledge)
    (at : get_elem? t.views id ≡ some (Holds k)) (job : l.job ≡ j) (driven : l.driven ≡ k.driven) where
  as_driven : SameDriven (Holds k) (Holds l)
  as_driven = record { back = λ s n h. (n, subst (λ xs. count_in xs s ≡ Some n) driven h); on = λ s n h. (n, subst (λ xs. count_in xs s ≡ Some n) (sym driven) h) }

  pub looked_keeps : TellsAt j (record { words = t.words; homes = t.homes; views = set t.views id (Holds l) }) counts
  looked_keeps = record {
    are_told = b.are_told;
    words = b.words;
    for_job = still_for j t counts b id (Holds k) at (Holds l) as_driven job;
    agree = λ i s n d. by i s n d (cases_eq i id);
    apart = still_apart j t counts b id (Holds k) at (Holds l) as_driven;
    covered = still_covered j t counts b id (Holds k) at (Holds l) as_driven;
  }
    where
      by : (i s n : ℕ) → Drives (set t.views id (Holds l)) i s n → (i ≡ id) ⊎ (i ≡ id → ⊥) → get_or counts s 0 ≡ n
      by i s n d (inl q) = b.agree id s n record {
        view = Holds k;
        stands = at;
        count =
            subst (λ xs. count_in xs s ≡ Some n) driven
            (here_now j t counts b id (Holds k) at (Holds l) as_driven s n (subst (λ h. Drives (set t.views id (Holds l)) h s n) q d));
      }
      by i s n d (inr q) = b.agree i s n (others j t counts b id (Holds k) at (Holds l) as_driven i s n q d)

-- A step that raises the count of s: the words are those that the new counts tell.
module _ (j : JobData) (t : State (Unit {0}) View) (counts : List ℕ) (b : TellsAt j t counts) (id : ℕ) (k l : Knowledge) (at : get_elem? t.views id ≡ some (Holds k)) (job : l.job ≡ j)
    (s made : ℕ) (mine : count_in k.driven s ≡ Some made) (driven : l.driven ≡ raised k.driven s) (inside : s < length counts) where
  counted : get_or counts s 0 ≡ made
  counted = b.agree id s made record { view = Holds k; stands = at; count = mine }

  back : (h n : ℕ) → count_in l.driven h ≡ Some n → (m : ℕ) × (count_in k.driven h ≡ Some m)
  back h n c = let r = subst (λ xs. count_in xs h ≡ Some n) driven c in
      ⊎_elim (λ q. (made, ap (count_in k.driven) q ∙ mine)) (λ q. (n, sym (raised-other k.driven s h q) ∙ r)) (cases_eq h s)

  on : (h n : ℕ) → count_in k.driven h ≡ Some n → (m : ℕ) × (count_in l.driven h ≡ Some m)
  on h n c = ⊎_elim
      (λ q. (made + 1, ap (λ xs. count_in xs h) driven ∙ ap (count_in (raised k.driven s)) q ∙ raised-same k.driven s made mine))
      (λ q. (n, ap (λ xs. count_in xs h) driven ∙ raised-other k.driven s h q ∙ c)) (cases_eq h s)

  as_raised : SameDriven (Holds k) (Holds l)
  as_raised = record { back = back; on = on }

  pub raised_keeps : (words : List ℕ) → AreTold j (one_more j counts s) → words ≡ table_of (told j (one_more j counts s))
      → TellsAt j (record { words = words; homes = t.homes; views = set t.views id (Holds l) }) (one_more j counts s)
  raised_keeps words new e = record {
    are_told = new;
    words = e;
    for_job = still_for j t counts b id (Holds k) at (Holds l) as_raised job;
    agree = λ i h n d. by i h n d (cases_eq i id) (cases_eq h s);
    apart = still_apart j t counts b id (Holds k) at (Holds l) as_raised;
    covered = still_covered j t counts b id (Holds k) at (Holds l) as_raised;
  }
    where
      own : (h n : ℕ) → count_in (raised k.driven s) h ≡ Some n → (h ≡ s) ⊎ (h ≡ s → ⊥) → get_or (set counts s (get_or counts s 0 + 1)) h 0 ≡ n
      own h n c (inl q) = let a : Some (made + 1) ≡ Some n = sym (raised-same k.driven s made mine) ∙ ap (count_in (raised k.driven s)) (sym q) ∙ c in
          ap (λ (i : ℕ). get_or (set counts s (get_or counts s 0 + 1)) i 0) q
          ∙ get_or-set_same {A = ℕ} counts s (get_or counts s 0 + 1) 0 inside ∙ ap (λ (m : ℕ). m + 1) counted ∙ same_Some (made + 1) n a
      own h n c (inr q) = get_or-set_other {A = ℕ} counts s h (get_or counts s 0 + 1) 0 q ∙ b.agree id h n record { view = Holds k; stands = at; count = sym (raised-other k.driven s h q) ∙ c }

      by : (i h n : ℕ) → Drives (set t.views id (Holds l)) i h n → (i ≡ id) ⊎ (i ≡ id → ⊥) → (h ≡ s) ⊎ (h ≡ s → ⊥) → get_or (one_more j counts s) h 0 ≡ n
      by i h n d (inl q) w = own h n (subst (λ xs. count_in xs h ≡ Some n) driven
          (here_now j t counts b id (Holds k) at (Holds l) as_raised h n (subst (λ g. Drives (set t.views id (Holds l)) g h n) q d))) w
      by i h n d (inr q) (inl e) = let o = others j t counts b id (Holds k) at (Holds l) as_raised i h n q d in
          absurd (q (b.apart i id h n made o record { view = Holds k; stands = at; count = ap (count_in k.driven) e ∙ mine }))
      by i h n d (inr q) (inr e) = get_or-set_other {A = ℕ} counts s h (get_or counts s 0 + 1) 0 e ∙ b.agree i h n (others j t counts b id (Holds k) at (Holds l) as_raised i h n q d)
