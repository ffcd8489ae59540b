-- The table of a job and its seats, as contracts see them.
use Rattle.std.specs.Prelude.{◌≡◌, ℕ, ◌⊎◌, List, refl}
use mathlib.Core.Logic.{inl, inr}
use Rattle.std.specs.Coded.{Coded, code_by, coded×, coded⊎, coded_ℕ, coded_list}
use base.Stored.{coded_unit}
use Rattle.atomic_table.specs.Seated.{TableId, table_id_coded}
use Rattle.phase_laws.specs.Job.{JobData}
use Rattle.word_rule.specs.declared.view.Count.{Count}
use Rattle.word_rule.specs.declared.view.Knowledge.{Knowledge}
use Rattle.word_rule.specs.declared.view.View.{View}
use Rattle.word_rule.specs.declared.view.View.TheVariants.{Spent, Holds}

-- which table it is, and the job of which it has the words
pub record TableData : Type 0 where
  pub table : TableId
  pub key : JobData

-- a seat of a table, which knows this
pub record SeatData : Type 0 where
  pub table : TableId
  pub view : View

-- A code of each, from one of the job.
abbrev pub table_code : Coded JobData → Coded TableData
table_code job = code_by (TableId × JobData) (coded× table_id_coded job) (λ t. (t.table, t.key))
    (λ p. record { table = p.0; key = p.1 }) (λ _. refl)

abbrev pub count_code : Coded Count
count_code = code_by (ℕ × ℕ) (coded× coded_ℕ coded_ℕ) (λ c. (c.seq, c.made)) (λ p. record { seq = p.0; made = p.1 })
    (λ _. refl)

abbrev pub knowledge_code : Coded JobData → Coded Knowledge
knowledge_code job = code_by (JobData × (List Count × (ℕ × (ℕ × ℕ))))
    (coded× job (coded× (coded_list count_code) (coded× coded_ℕ (coded× coded_ℕ coded_ℕ))))
    (λ k. (k.job, (k.driven, (k.looks, (k.word, k.found)))))
    (λ p. record { job = p.0; driven = p.1.0; looks = p.1.1.0; word = p.1.1.1.0; found = p.1.1.1.1 }) (λ _. refl)

abbrev pub either_of : View → Unit {0} ⊎ Knowledge
either_of Spent = inl tt
either_of (Holds k) = inr k

abbrev pub view_of : Unit {0} ⊎ Knowledge → View
view_of (inl u) = Spent
view_of (inr k) = Holds k

pub view_of-either_of : (v : View) → view_of (either_of v) ≡ v
view_of-either_of Spent = refl
view_of-either_of (Holds k) = refl

abbrev pub seat_code : Coded JobData → Coded SeatData
seat_code job = code_by (TableId × View)
    (coded× table_id_coded (code_by (Unit {0} ⊎ Knowledge)
    (coded⊎ coded_unit (knowledge_code job)) either_of view_of view_of-either_of))
    (λ s. (s.table, s.view)) (λ p. record { table = p.0; view = p.1 }) (λ _. refl)
