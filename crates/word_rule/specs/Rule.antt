-- The rule on the table: the counts of all views together are
-- reached, and every word is the one that these counts tell.
use Rattle.std.specs.Prelude.{◌≡◌, ℕ, ◌<◌, Bool, cond, List, length, Some, slice_index_or}
use mathlib.Core.Option.{some}
use lib.ListN.{get_elem?}
use Rattle.atomic_table.specs.Table.{State, Step, Me}
use Rattle.phase_laws.specs.Job.{JobData}
use Rattle.phase_laws.specs.Core.{Core, AreReached}
use Rattle.phase_laws.specs.Told.{told}
use Rattle.word_rule.specs.declared.view.Knowledge.{Knowledge}
use Rattle.word_rule.specs.declared.view.View.{View}
use Rattle.word_rule.specs.declared.view.View.TheVariants.{Spent, Holds}
use Rattle.word_rule.specs.Words.{table_of, AreExact}
use Rattle.word_rule.specs.Views.{count_in, count_by, IsFor, stepped, looked, after}

-- seat i drives sequence s, which has made n micro-steps
pub record Drives (views : List View) (i s n : ℕ) : Type 0 where
  pub view : View
  pub stands : get_elem? views i ≡ some view
  pub count : count_by view s ≡ Some n

-- some seat drives s
pub record IsDriven (views : List View) (s : ℕ) : Type 0 where
  pub seat : ℕ
  pub count : ℕ
  pub drives : Drives views seat s count

-- Reached counts, which tell elements that words hold.
pub record AreTold (j : JobData) (counts : List ℕ) : Type 0 where
  pub reached : AreReached j counts
  pub exact : AreExact (told j counts).elements

-- The table is right at these counts: they are reached and determine every word, and
-- each sequence is driven by exactly one seat, whose view has its count.
pub record TellsAt (j : JobData) (t : State (Unit {0}) View) (counts : List ℕ) : Type 0 where
  pub are_told : AreTold j counts
  pub words : t.words ≡ table_of (told j counts)
  pub for_job : (i : ℕ) (v : View) → get_elem? t.views i ≡ some v → IsFor j v
  pub agree : (i s n : ℕ) → Drives t.views i s n → slice_index_or counts s 0 ≡ n
  -- each sequence stands in exactly one view
  pub apart : (i h s n m : ℕ) → Drives t.views i s n → Drives t.views h s m → i ≡ h
  pub covered : (s : ℕ) → s < length j.program.seqs → IsDriven t.views s

-- The rule, which every step on the table keeps, is that the table is right at some counts.
abbrev pub Tells : JobData → State (Unit {0}) View → Type 0
Tells j t = (counts : List ℕ) × TellsAt j t counts

-- counts that are told, and agree with what a view holds
pub record Agree (k : Knowledge) (counts : List ℕ) : Type 0 where
  pub are_told : AreTold k.job counts
  pub agree : (s n : ℕ) → count_in k.driven s ≡ Some n → slice_index_or counts s 0 ≡ n

-- at the word that was touched stood what reached counts tell that agree with the view
pub record Finds (k : Knowledge) (word found : ℕ) : Type 0 where
  pub counts : List ℕ
  pub agree : Agree k counts
  pub is : found ≡ slice_index_or (table_of (told k.job counts)) word 0

-- If the view is not spent, some reached counts that agree with it determine that this
-- was found at the word; of a spent view nothing is said.
abbrev pub FindsBy : View → ℕ → ℕ → Type 0
FindsBy Spent word found = Unit {0}
FindsBy (Holds k) word found = Finds k word found

-- this holds of the state that some counts tell that agree with what is held
abbrev pub InTold : View → (Core → Type 0) → Type 0
InTold Spent P = Unit {0}
InTold (Holds k) P = (counts : List ℕ) × Agree k counts × P (told k.job counts)

-- What steps tell. A signal, an advance of a turn, a store: the count of s rose.
abbrev pub Raises : ℕ → Step (Unit {0}) → Me (Unit {0}) View → ℕ → Me (Unit {0}) View → Type 0
Raises s z me found new = (new ≡ (after (λ k. stepped k s) me.0, me.1)) × InTold me.0 (λ z. Unit {0})

-- a load of an element: the count of s rose, and this was found
abbrev pub Loads : ℕ → Step (Unit {0}) → Me (Unit {0}) View → ℕ → Me (Unit {0}) View → Type 0
Loads s z me found new = (new ≡ (after (λ k. stepped k s) me.0, me.1)) × FindsBy me.0 z.word found

-- A look at a word, which lets s go on where `enables` holds of what was
-- found: the look is recorded, and there the count of s rose.
abbrev pub look_of : ℕ → (ℕ → Bool) → ℕ → ℕ → Knowledge → Knowledge
look_of s enables word found k = looked (cond (enables found) (stepped k s) k) word found

abbrev pub Looks : ℕ → (ℕ → Bool) → Step (Unit {0}) → Me (Unit {0}) View → ℕ → Me (Unit {0}) View → Type 0
Looks s enables z me found new = (new ≡ (after (look_of s enables z.word found) me.0, me.1)) × FindsBy me.0 z.word found
