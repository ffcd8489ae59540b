-- Words give numbers of layers and of reactions from 1 to 1,000.
use Rattle.std.proofs.Common.{◌≡◌, ℕ, ◌≤◌, Bool, true, false, ◌&&◌, List, [], ◌∷◌, length, Option, Some, None, refl}
use Rattle.std.specs.Prelude.{if◌then◌else◌, nat_le, option_and_then}
use Rattle.std.specs.List.{list_all}
use Rattle.std.proofs.lemmas.Bool.{leb-true}
use Rattle.syn_base.specs.Name.{is_digit}
use Rattle.syn_base.specs.Integer.{number_of}
use Rattle.syn_base.specs.Bytes.{Bytes}
use Rattle.command_words.specs.Table.{table, kind_named}
use Rattle.command_words.specs.declared.table.CommandKind.{CommandKind}
use Rattle.command_words.specs.declared.table.CommandKind.TheVariants.{Check, Sim, Algorithm, Schedule, Run, Load, Exec, Dates}
use Rattle.command_words.specs.Command.{
  Arguments,
  Command,
  plain,
  job,
  check,
  sim,
  run,
  exec,
  algorithm_text,
  schedule_text,
  arguments_of,
  command_of_kind,
  command_of,
  counted,
  dated,
  exec_by,
  four,
  loaded,
  number_up_to,
  one,
  one_or_two,
  plain_by,
  run_by,
  three,
  two,
  with_count,
}
use Rattle.syndex_program.specs.Counts.{IsCounted}

-- If there is a command, its numbers are within their bounds.
abbrev pub AreCounted : Option Command → Type 0
AreCounted None = Unit {0}
AreCounted (Some command) = IsCounted command

by_plain : (go : List Bytes → Option Command) → ((ws : List Bytes) → AreCounted (go ws)) → (o : Option Arguments) → AreCounted (plain_by go o)
by_plain go h None = tt
by_plain go h (Some a) = h a.plain

by_one : (go : Bytes → Option Command) → ((a : Bytes) → AreCounted (go a)) → (ws : List Bytes) → AreCounted (one go ws)
by_one go h [] = tt
by_one go h (a ∷ []) = h a
by_one go h (a ∷ b ∷ ws) = tt

by_two : (go : Bytes → Bytes → Option Command) → ((a b : Bytes) → AreCounted (go a b)) → (ws : List Bytes) → AreCounted (two go ws)
by_two go h [] = tt
by_two go h (a ∷ []) = tt
by_two go h (a ∷ b ∷ []) = h a b
by_two go h (a ∷ b ∷ c ∷ ws) = tt

by_one_or_two : (go : Bytes → Option Bytes → Option Command) → ((a : Bytes) (b : Option Bytes) → AreCounted (go a b)) → (ws : List Bytes) → AreCounted (one_or_two go ws)
by_one_or_two go h [] = tt
by_one_or_two go h (a ∷ []) = h a None
by_one_or_two go h (a ∷ b ∷ []) = h a (Some b)
by_one_or_two go h (a ∷ b ∷ c ∷ ws) = tt

by_three : (go : Bytes → Bytes → Bytes → Option Command) → ((a b c : Bytes) → AreCounted (go a b c)) → (ws : List Bytes) → AreCounted (three go ws)
by_three go h [] = tt
by_three go h (a ∷ []) = tt
by_three go h (a ∷ b ∷ []) = tt
by_three go h (a ∷ b ∷ c ∷ []) = h a b c
by_three go h (a ∷ b ∷ c ∷ d ∷ ws) = tt

by_four : (go : Bytes → Bytes → Bytes → Bytes → Option Command) → ((a b c d : Bytes) → AreCounted (go a b c d)) → (ws : List Bytes) → AreCounted (four go ws)
by_four go h [] = tt
by_four go h (a ∷ []) = tt
by_four go h (a ∷ b ∷ []) = tt
by_four go h (a ∷ b ∷ c ∷ []) = tt
by_four go h (a ∷ b ∷ c ∷ d ∷ []) = h a b c d
by_four go h (a ∷ b ∷ c ∷ d ∷ e ∷ ws) = tt

by_count : (go : Option ℕ → Option Command) → ((o : Option ℕ) → AreCounted (go o)) → (o : Option ℕ) → AreCounted (with_count go o)
by_count go h None = tt
by_count go h (Some n) = h (Some n)

by_workers : (go : Option ℕ → Option Command) → ((o : Option ℕ) → AreCounted (go o)) → (ws : List Bytes) → AreCounted (counted go ws)
by_workers go h [] = h None
by_workers go h (w ∷ []) = by_count go h (number_up_to 80 w)
by_workers go h (w ∷ v ∷ ws) = tt

by_run : (o : Option Arguments) → AreCounted (run_by o)
by_run None = tt
by_run (Some a) =
    by_workers (λ workers. three (λ alg archi sensors. Some (job (run alg archi sensors workers))) a.plain)
    (λ workers. by_three (λ alg archi sensors. Some (job (run alg archi sensors workers))) (λ alg archi sensors. tt) a.plain) a.workers

by_exec : (o : Option Arguments) → AreCounted (exec_by o)
by_exec None = tt
by_exec (Some a) =
    by_workers (λ workers. four (λ alg archi text sensors. Some (job (exec alg archi text sensors workers))) a.plain)
    (λ workers. by_four (λ alg archi text sensors. Some (job (exec alg archi text sensors workers))) (λ alg archi text sensors. tt) a.plain) a.workers

-- a number that is made where four tests hold, two of which bound it
bounded : (make : Option ℕ → Option Command) → AreCounted (make None) → ((n : ℕ) → 1 ≤ n → n ≤ 1000 → AreCounted (make (Some n))) →
    (a b c d : Bool) (n : ℕ) → (c ≡ true → 1 ≤ n) → (d ≡ true → n ≤ 1000) → AreCounted (make (if a && b && c && d then Some n else None))
bounded make none some true true true true n p q = some n (p refl) (q refl)
bounded make none some true true true false n p q = none
bounded make none some true true false d n p q = none
bounded make none some true false c d n p q = none
bounded make none some false b c d n p q = none

by_number : (make : Option ℕ → Option Command) → AreCounted (make None) → ((n : ℕ) → 1 ≤ n → n ≤ 1000 → AreCounted (make (Some n))) → (w : Bytes) →
    AreCounted (make (number_up_to 1000 w))
by_number make none some w =
    bounded make none some (nat_le 1 (length w)) (list_all is_digit w) (nat_le 1 (number_of w)) (nat_le (number_of w) 1000) (number_of w)
    (leb-true 1 (number_of w)) (leb-true (number_of w) 1000)

by_load : (w : Bytes) → AreCounted (loaded (number_up_to 1000 w))
by_load = by_number loaded tt (λ n low high. (low, high))

by_dates : (a h g w : Bytes) → AreCounted (dated a h g (number_up_to 1000 w))
by_dates a h g = by_number (dated a h g) tt (λ n low high. (low, high))

-- whatever the kind of the command
by_kind : (kind : CommandKind) (ws : List Bytes) → AreCounted (command_of_kind kind ws)
by_kind Check ws = by_plain (one_or_two (λ a h. Some (plain (check a h)))) (by_one_or_two (λ a h. Some (plain (check a h))) (λ a h. tt)) (arguments_of false false ws)
by_kind Sim ws = by_plain (two (λ a s. Some (plain (sim a s)))) (by_two (λ a s. Some (plain (sim a s))) (λ a s. tt)) (arguments_of false false ws)
by_kind (Algorithm text) ws = by_plain (one (λ a. Some (plain (algorithm_text text a)))) (by_one (λ a. Some (plain (algorithm_text text a))) (λ a. tt)) (arguments_of false false ws)
by_kind (Schedule text) ws = by_plain (two (λ a h. Some (plain (schedule_text text a h)))) (by_two (λ a h. Some (plain (schedule_text text a h))) (λ a h. tt)) (arguments_of false false ws)
by_kind Run ws = by_run (arguments_of true false ws)
by_kind Load ws = by_plain (one (λ n. loaded (number_up_to 1000 n))) (by_one (λ n. loaded (number_up_to 1000 n)) by_load) (arguments_of false false ws)
by_kind Exec ws = by_exec (arguments_of true false ws)
by_kind Dates ws =
    by_plain (four (λ a h g n. dated a h g (number_up_to 1000 n))) (by_four (λ a h g n. dated a h g (number_up_to 1000 n)) by_dates) (arguments_of false false ws)

by_name : (o : Option CommandKind) (ws : List Bytes) → AreCounted (option_and_then (λ (kind : CommandKind). command_of_kind kind ws) o)
by_name None ws = tt
by_name (Some kind) ws = by_kind kind ws

pub counted_words : (words : List Bytes) → AreCounted (command_of words)
counted_words [] = tt
counted_words (program ∷ []) = tt
counted_words (program ∷ name ∷ ws) = by_name (kind_named table name) ws
