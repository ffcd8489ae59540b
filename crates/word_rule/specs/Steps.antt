-- What a step of a seat asks, and what it leaves.
use Rattle.std.specs.Prelude.{◌≡◌, ℕ, ◌<◌, ◌%◌, List, length, Some, slice_index_or, nat_eq}
use Rattle.phase_laws.specs.Job.{JobData}
use Rattle.word_rule.specs.declared.next.Next.{Next}
use Rattle.word_rule.specs.declared.view.View.{View}
use Rattle.word_rule.specs.Words.{word_at}
use Rattle.word_rule.specs.Views.{after, stepped, count_by, left_of, right_of, joined}
use Rattle.word_rule.specs.Rule.{look_of}
use Rattle.word_rule.specs.Given.{StandsAt, enables}
use Rattle.word_rule.specs.Table.{TableData, SeatData}

-- The seat is one of the table, and `next` is the next micro-step of
-- a sequence that it drives, with the word that this touches.
pub record CanStep (t : TableData) (s : SeatData) (next : Next) : Type 0 where
  pub seated : s.table ≡ t.table
  pub stands : StandsAt t.key s.view next.seq next.reaction next.step
  pub word_is : next.word ≡ word_at t.key next.reaction next.step

-- the micro-step is made
abbrev pub moved : SeatData → Next → SeatData
moved s next = record s { view = after (λ k. stepped k next.seq) s.view }

-- a look at the word has found this: it is recorded, and where it enables the micro-step that is made
abbrev pub looked_at : SeatData → Next → ℕ → SeatData
looked_at s next found = record s {
  view = after (look_of next.seq (enables next.reaction next.step) next.word found) s.view;
}

-- a seat is split: what stays, and the new seat for the sequences
-- whose number leaves g when it is divided by the number of groups
abbrev pub kept_by : ℕ → ℕ → SeatData → SeatData
kept_by groups g s = record s { view = left_of (λ i. nat_eq (i % groups) g) s.view }

-- The new seat drives the sequences of s whose number leaves g when it is divided by
-- the number of groups, and it has made no look.
abbrev pub split_off : ℕ → ℕ → SeatData → SeatData
split_off groups g s = record s { view = right_of (λ i. nat_eq (i % groups) g) s.view }

-- a seat takes over what another one drives
abbrev pub with_seat : SeatData → SeatData → SeatData
with_seat s other = record s { view = joined s.view other.view }

-- the view drives every sequence of the job, with these counts
pub record HoldsCounts (j : JobData) (v : View) (counts : List ℕ) : Type 0 where
  pub long : length counts ≡ length j.program.seqs
  pub each : (s : ℕ) → s < length j.program.seqs → count_by v s ≡ Some (slice_index_or counts s 0)
