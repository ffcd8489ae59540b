-- clap reads the words after a command that takes workers as the definition does.
use Rattle.std.proofs.Common.{◌≡◌, ◌∙◌, ℕ, suc, List, [], ◌∷◌, ◌++◌, Bool, true, false, Option, Some, None, inl, inr, refl, sym, subst, ap, codes, length, drop, arith, nat_le}
use Rattle.std.proofs.lemmas.Bool.Decides.{nat_tests}
use Rattle.std.specs.Prelude.{slice_get}
use Rattle.std.specs.Str.{bytes_eq, IsUtf8}
use Rattle.std.proofs.lemmas.Slice.Eq.{bytes_eq-Decides}
use Rattle.clap.specs.Walk.{Held, Row, Walk, Waiting, idle, option, value, walked, arg_by_index, to_positional, nothing_held}
use Rattle.clap.specs.Faults.{turn_fault, step_fault, settle_fault, walk_fault}
use Rattle.command_words.specs.Command.{
  Command,
  Arguments,
  with_plain,
  with_workers,
  is_option,
  is_joined,
  arguments_of,
  number_up_to,
  counted,
  with_count,
  three,
  four,
  job,
  run,
  exec,
  run_by,
  exec_by,
}
use Rattle.command_words.specs.Plain.{plain_words, run_with, run_given, exec_with, exec_given}
use Rattle.command_words.specs.Answer.{Tells}
use Rattle.command_words.proofs.Behind.{behind, given, behind_plain, behind_workers}
use Rattle.command_words.proofs.PlainWords.{Text, is_escape, is_dashed}
use Rattle.command_words.proofs.Looks.{two_ways}
use Rattle.command_words.proofs.OptionWords.{joined_is}
use Rattle.command_words.proofs.Rows.{Has, more, first_value_of, stays, is_added}
use Rattle.command_words.proofs.Leaf.{IsRefused, refused_first, at}
use Rattle.command_words.proofs.Stages.{AreTexts, faults_of, rows_of_walk, faults_on, fits_not, turn_plain, turn_escape, turn_value, walked_value, walked_plain, walked_escape}
use Rattle.command_words.proofs.Standing.{
  bare,
  pend,
  waits,
  runs,
  rules,
  Stands,
  stands_bare,
  stands_first,
  stands_second,
  stands_third,
  stands_fourth,
  stands_workers,
  twice_refused,
  none_refused,
  Takes,
  takes1,
  takes2,
  takes3,
  takes4,
  none_takes,
  turn_option,
  walked_option,
  joined_passes,
  joined_refused,
  walked_joined,
  turn_awaited,
  walked_awaited,
  faults_at_end,
  rows_at_end,
  no_first,
  no_second,
  no_third,
  other_dashed,
  dashed_shows,
  no_fourth,
  three_there,
  four_there,
}

-- the command of arguments, by whether it needs a fourth one
abbrev pub working_by : Bool → Option Arguments → Option Command
working_by false o = run_by o
working_by true o = exec_by o

abbrev pub working_with : Bool → Text → Text → Text → Option Text → Option Text → Option Command
working_with false a b c d n = run_given (plain_words a (Some b) (Some c) d) n
working_with true a b c d n = exec_given (plain_words a (Some b) (Some c) d) n

module _ (needed : Bool) (name : Text) where
  -- what becomes of the words from a walk on, where they say o
  pub data Fate (w : Walk) (ws : List Text) (o : Option Arguments) : Type 0 where
    refused : IsRefused (faults_of (runs needed name) w ws) → working_by needed o ≡ None → Fate w ws o
    accepted : (a b c : Text) (d n : Option Text) → faults_of (runs needed name) w ws ≡ []
        → Tells (rows_of_walk (runs needed name) w ws) a (Some b) (Some c) d n → working_by needed o ≡ working_with needed a b c d n → Fate w ws o

  fate_as : (w : Walk) (ws : List Text) (o q : Option Arguments) → o ≡ q → Fate w ws q → Fate w ws o
  fate_as w ws o q e f = subst (λ (r : Option Arguments). Fate w ws r) (sym e) f

  fate_on : (w v : Walk) (x : Text) (xs : List Text) (o : Option Arguments) → turn_fault (runs needed name) [] w x ≡ [] → walked (rules needed name) [] w x ≡ v → Fate v xs o → Fate w (x ∷ xs) o
  fate_on w v x xs o t e (refused r n) = refused (subst IsRefused (sym (faults_on (runs needed name) w x xs t ∙ ap (λ (u : Walk). faults_of (runs needed name) u xs) e)) r) n
  fate_on w v x xs o t e (accepted a b c d n k q m) =
      accepted a b c d n (faults_on (runs needed name) w x xs t ∙ ap (λ (u : Walk). faults_of (runs needed name) u xs) e ∙ k)
      (subst (λ (u : Walk). Tells (rows_of_walk (runs needed name) u xs) a (Some b) (Some c) d n) (sym e) q) m

  fate_not : (w : Walk) (x : Text) (xs : List Text) (o : Option Arguments) → IsRefused (turn_fault (runs needed name) [] w x) → working_by needed o ≡ None → Fate w (x ∷ xs) o
  fate_not w x xs o r n = refused (fits_not (runs needed name) w x xs r) n

-- the rows have these plain arguments and workers
abbrev AreAtMostFour : List Text → Type 0
AreAtMostFour [] = Unit {0}
AreAtMostFour (a ∷ []) = Unit {0}
AreAtMostFour (a ∷ b ∷ []) = Unit {0}
AreAtMostFour (a ∷ b ∷ c ∷ []) = Unit {0}
AreAtMostFour (a ∷ b ∷ c ∷ d ∷ []) = Unit {0}
AreAtMostFour (a ∷ b ∷ c ∷ d ∷ e ∷ es) = ⊥

abbrev IsAtMostOne : List Text → Type 0
IsAtMostOne [] = Unit {0}
IsAtMostOne (w ∷ []) = Unit {0}
IsAtMostOne (w ∷ v ∷ vs) = ⊥

record Holds (rs : List Row) (ps us : List Text) : Type 0 where
  first : Has (codes "first") rs (slice_get ps 0)
  second : Has (codes "second") rs (slice_get ps 1)
  third : Has (codes "third") rs (slice_get ps 2)
  fourth : Has (codes "fourth") rs (slice_get ps 3)
  workers : Has (codes "workers") rs (slice_get us 0)
  few : AreAtMostFour ps
  once : IsAtMostOne us

holds_nothing : Holds [] [] []
holds_nothing = record { first = refl; second = refl; third = refl; fourth = refl; workers = refl; few = tt; once = tt }

module _ (rs : List Row) (x : Text) where
  add_first : (us : List Text) → Holds rs [] us → Holds (more (codes "first") x rs) (x ∷ []) us
  add_first us h = record {
    first = is_added (codes "first") x rs refl h.first;
    second = stays (codes "second") (codes "first") x None rs refl h.second;
    third = stays (codes "third") (codes "first") x None rs refl h.third;
    fourth = stays (codes "fourth") (codes "first") x None rs refl h.fourth;
    workers = stays (codes "workers") (codes "first") x (slice_get us 0) rs refl h.workers;
    few = tt;
    once = h.once;
  }

  add_second : (a : Text) (us : List Text) → Holds rs (a ∷ []) us → Holds (more (codes "second") x rs) (a ∷ x ∷ []) us
  add_second a us h = record {
    first = stays (codes "first") (codes "second") x (Some a) rs refl h.first;
    second = is_added (codes "second") x rs refl h.second;
    third = stays (codes "third") (codes "second") x None rs refl h.third;
    fourth = stays (codes "fourth") (codes "second") x None rs refl h.fourth;
    workers = stays (codes "workers") (codes "second") x (slice_get us 0) rs refl h.workers;
    few = tt;
    once = h.once;
  }

  add_third : (a b : Text) (us : List Text) → Holds rs (a ∷ b ∷ []) us → Holds (more (codes "third") x rs) (a ∷ b ∷ x ∷ []) us
  add_third a b us h = record {
    first = stays (codes "first") (codes "third") x (Some a) rs refl h.first;
    second = stays (codes "second") (codes "third") x (Some b) rs refl h.second;
    third = is_added (codes "third") x rs refl h.third;
    fourth = stays (codes "fourth") (codes "third") x None rs refl h.fourth;
    workers = stays (codes "workers") (codes "third") x (slice_get us 0) rs refl h.workers;
    few = tt;
    once = h.once;
  }

  add_fourth : (a b c : Text) (us : List Text) → Holds rs (a ∷ b ∷ c ∷ []) us → Holds (more (codes "fourth") x rs) (a ∷ b ∷ c ∷ x ∷ []) us
  add_fourth a b c us h = record {
    first = stays (codes "first") (codes "fourth") x (Some a) rs refl h.first;
    second = stays (codes "second") (codes "fourth") x (Some b) rs refl h.second;
    third = stays (codes "third") (codes "fourth") x (Some c) rs refl h.third;
    fourth = is_added (codes "fourth") x rs refl h.fourth;
    workers = stays (codes "workers") (codes "fourth") x (slice_get us 0) rs refl h.workers;
    few = tt;
    once = h.once;
  }

  add_workers : (ps : List Text) → Holds rs ps [] → Holds (more (codes "workers") x rs) ps (x ∷ [])
  add_workers ps h = record {
    first = stays (codes "first") (codes "workers") x (slice_get ps 0) rs refl h.first;
    second = stays (codes "second") (codes "workers") x (slice_get ps 1) rs refl h.second;
    third = stays (codes "third") (codes "workers") x (slice_get ps 2) rs refl h.third;
    fourth = stays (codes "fourth") (codes "workers") x (slice_get ps 3) rs refl h.fourth;
    workers = is_added (codes "workers") x rs refl h.workers;
    few = h.few;
    once = tt;
  }

-- the place of the next plain argument
abbrev pos : List Text → ℕ
pos ps = suc (length ps)

-- where there is no command
counted_none : (us : List Text) → counted (λ n. None) us ≡ None
counted_none [] = refl
counted_none (w ∷ []) = by (number_up_to 80 w)
  where
    by : (o : Option ℕ) → with_count (λ n. None) o ≡ None
    by None = refl
    by (Some n) = refl
counted_none (w ∷ v ∷ vs) = refl

nothing_none : (needed : Bool) → working_by needed None ≡ None
nothing_none true = refl
nothing_none false = refl

-- too few plain arguments, or too many
short0 : (needed : Bool) (us : List Text) → working_by needed (behind (given [] us) (Some (given [] []))) ≡ None
short0 true us = counted_none (us ++ [])
short0 false us = counted_none (us ++ [])

short1 : (needed : Bool) (a : Text) (us : List Text) → working_by needed (behind (given (a ∷ []) us) (Some (given [] []))) ≡ None
short1 true a us = counted_none (us ++ [])
short1 false a us = counted_none (us ++ [])

short2 : (needed : Bool) (a b : Text) (us : List Text) → working_by needed (behind (given (a ∷ b ∷ []) us) (Some (given [] []))) ≡ None
short2 true a b us = counted_none (us ++ [])
short2 false a b us = counted_none (us ++ [])

fifth_none : (needed : Bool) (a b c d x : Text) (us : List Text) (o : Option Arguments) → working_by needed (behind (given (a ∷ b ∷ c ∷ d ∷ []) us) (with_plain x o)) ≡ None
fifth_none true a b c d x us None = refl
fifth_none false a b c d x us None = refl
fifth_none true a b c d x us (Some r) = counted_none (us ++ r.workers)
fifth_none false a b c d x us (Some r) = counted_none (us ++ r.workers)

bad_count : (go : Option ℕ → Option Command) (x : Text) (ws : List Text) → number_up_to 80 x ≡ None → counted go (x ∷ ws) ≡ None
bad_count go x [] e = rw e refl
bad_count go x (v ∷ vs) e = refl

second_none : (needed : Bool) (ps : List Text) (w x : Text) (o : Option Arguments) → working_by needed (behind (given ps (w ∷ [])) (with_workers x o)) ≡ None
second_none true ps w x None = refl
second_none false ps w x None = refl
second_none true ps w x (Some r) = refl
second_none false ps w x (Some r) = refl

bad_value_none : (needed : Bool) (ps us : List Text) (x : Text) (o : Option Arguments) → IsAtMostOne us → number_up_to 80 x ≡ None → working_by needed (behind (given ps us) (with_workers x o)) ≡ None
bad_value_none true ps [] x None l e = refl
bad_value_none false ps [] x None l e = refl
bad_value_none true ps [] x (Some r) l e = bad_count (λ n. four (λ a h c s. Some (job (exec a h c s n))) (ps ++ r.plain)) x r.workers e
bad_value_none false ps [] x (Some r) l e = bad_count (λ n. three (λ a h s. Some (job (run a h s n))) (ps ++ r.plain)) x r.workers e
bad_value_none needed ps (w ∷ []) x o l e = second_none needed ps w x o
bad_value_none needed ps (w ∷ v ∷ vs) x o l e = absurd l

dashed_no_number : (x : Text) → is_option x ≡ true → number_up_to 80 x ≡ None
dashed_no_number [] d = cc
dashed_no_number (b ∷ []) d = cc
dashed_no_number (b ∷ c ∷ w) d =
    let s : b ≡ 45 = grind (arith, nat_tests, d) in
    elim (two_ways (nat_le 1 (length (b ∷ c ∷ w)))) [
      | inl e ↦ rw (e, s) refl
      | inr e ↦ rw e refl
    ]

escape_dashed : (x : Text) → is_escape x ≡ true → is_option x ≡ true
escape_dashed x e = ap is_option ((bytes_eq-Decides x (codes "--")).0 e)

-- the end of the words
tells_at_end : (rs : List Row) (a b c : Text) (ds us : List Text) → Holds rs (a ∷ b ∷ c ∷ ds) us → Tells rs a (Some b) (Some c) (slice_get ds 0) (slice_get us 0)
tells_at_end rs a b c ds us k = record {
  first = first_value_of (codes "first") (Some a) rs k.first;
  second = first_value_of (codes "second") (Some b) rs k.second;
  third = first_value_of (codes "third") (Some c) rs k.third;
  fourth = first_value_of (codes "fourth") (slice_get ds 0) rs k.fourth;
  workers = first_value_of (codes "workers") (slice_get us 0) rs k.workers;
}

three_told : (a b c : Text) (us : List Text) → IsAtMostOne us → run_by (behind (given (a ∷ b ∷ c ∷ []) us) (Some (given [] []))) ≡ run_with a b c (slice_get us 0)
three_told a b c [] l = refl
three_told a b c (w ∷ []) l = refl
three_told a b c (w ∷ v ∷ vs) l = absurd l

four_told : (a b c d : Text) (us : List Text) → IsAtMostOne us → exec_by (behind (given (a ∷ b ∷ c ∷ d ∷ []) us) (Some (given [] []))) ≡ exec_with a b c d (slice_get us 0)
four_told a b c d [] l = refl
four_told a b c d (w ∷ []) l = refl
four_told a b c d (w ∷ v ∷ vs) l = absurd l

module _ (name : Text) (h : Held) (rs : List Row) (t : Bool) where
  at_end : (needed : Bool) (ps us : List Text) → Stands needed name h rs → Holds rs ps us → Fate needed name (at h (pos ps) t) [] (behind (given ps us) (Some (given [] [])))
  at_end needed [] us s k = refused (subst IsRefused (sym (faults_at_end needed name h rs 1 t s)) (no_first needed name rs k.first)) (short0 needed us)
  at_end needed (a ∷ []) us s k = refused (subst IsRefused (sym (faults_at_end needed name h rs 2 t s)) (no_second needed name rs a k.first k.second)) (short1 needed a us)
  at_end needed (a ∷ b ∷ []) us s k = refused (subst IsRefused (sym (faults_at_end needed name h rs 3 t s)) (no_third needed name rs a b k.first k.second k.third)) (short2 needed a b us)
  at_end true (a ∷ b ∷ c ∷ []) us s k =
      refused (subst IsRefused (sym (faults_at_end true name h rs 4 t s)) (no_fourth name rs a b c k.first k.second k.third k.fourth)) (counted_none (us ++ []))
  at_end false (a ∷ b ∷ c ∷ []) us s k =
      accepted a b c None (slice_get us 0) (faults_at_end false name h rs 4 t s ∙ three_there name rs a b c k.first k.second k.third)
      (subst (λ (vs : List Row). Tells vs a (Some b) (Some c) None (slice_get us 0)) (sym (rows_at_end false name h rs 4 t s)) (tells_at_end rs a b c [] us k)) (three_told a b c us k.once)
  at_end true (a ∷ b ∷ c ∷ d ∷ []) us s k =
      accepted a b c (Some d) (slice_get us 0) (faults_at_end true name h rs 5 t s ∙ four_there name rs a b c d k.first k.second k.third k.fourth)
      (subst (λ (vs : List Row). Tells vs a (Some b) (Some c) (Some d) (slice_get us 0)) (sym (rows_at_end true name h rs 5 t s)) (tells_at_end rs a b c (d ∷ []) us k)) (four_told a b c d us k.once)
  at_end false (a ∷ b ∷ c ∷ d ∷ []) us s k =
      accepted a b c (Some d) (slice_get us 0) (faults_at_end false name h rs 5 t s ∙ three_there name rs a b c k.first k.second k.third)
      (subst (λ (vs : List Row). Tells vs a (Some b) (Some c) (Some d) (slice_get us 0)) (sym (rows_at_end false name h rs 5 t s)) (tells_at_end rs a b c (d ∷ []) us k)) (counted_none (us ++ []))
  at_end needed (a ∷ b ∷ c ∷ d ∷ e ∷ es) us s k = absurd k.few

abbrev ending_at : Held → ℕ → Waiting → Walk
ending_at h p on = record { held = h; waiting = on; position = p; is_trailing = true; stopped = None }

-- what the definition makes of a word where none is awaited
says_ended : (x : Text) (xs : List Text) → is_escape x ≡ true → arguments_of true false (x ∷ xs) ≡ Some (given xs [])
says_ended x xs e = rw e refl

module _ (x : Text) (xs : List Text) (e : is_escape x ≡ false) where
  says_option : bytes_eq x (codes "--workers") ≡ true → arguments_of true false (x ∷ xs) ≡ arguments_of true true xs
  says_option n = rw (e, n) refl

  says_joined : bytes_eq x (codes "--workers") ≡ false → is_joined x ≡ true → arguments_of true false (x ∷ xs) ≡ with_workers (drop 10 x) (arguments_of true false xs)
  says_joined n j = rw (e, n, j) refl

  says_none : bytes_eq x (codes "--workers") ≡ false → is_joined x ≡ false → is_dashed x ≡ true → arguments_of true false (x ∷ xs) ≡ None
  says_none n j d = rw (e, n, j, d) refl

  says_plain : bytes_eq x (codes "--workers") ≡ false → is_joined x ≡ false → is_dashed x ≡ false → arguments_of true false (x ∷ xs) ≡ with_plain x (arguments_of true false xs)
  says_plain n j d = rw (e, n, j, d) refl

module _ (needed : Bool) (name : Text) where
  -- a plain word
  taken : (p : ℕ) (id : Text) → Takes needed name p id
      → (h : Held) (rs : List Row) (t : Bool) (x : Text) (xs : List Text) (o : Option Arguments) → Stands needed name h rs
      → turn_fault (runs needed name) [] (at h p t) x ≡ step_fault (runs needed name) p h value
      → walked (rules needed name) [] (at h p t) x ≡ to_positional (rules needed name) (arg_by_index (rules needed name) p) x (at h p t) h
      → Fate needed name (at (pend id (x ∷ []) rs) (suc p) t) xs o → Fate needed name (at h p t) (x ∷ xs) o
  taken p id k h rs t x xs o s turn moves f = fate_on needed name (at h p t) (at (pend id (x ∷ []) rs) (suc p) t) x xs o (turn ∙ k.faults h ∙ s.passes) (moves ∙ k.goes h rs x t s.settles) f

  module _ (h : Held) (rs : List Row) (us : List Text) (t : Bool) (x : Text) (xs : List Text) (rest : Option Arguments) (s : Stands needed name h rs)
      (on : (g : Held) (qs : List Row) (ps : List Text) → Stands needed name g qs → Holds qs ps us → Fate needed name (at g (pos ps) t) xs (behind (given ps us) rest)) where
    plain_taken : (ps : List Text) → Holds rs ps us → turn_fault (runs needed name) [] (at h (pos ps) t) x ≡ step_fault (runs needed name) (pos ps) h value
        → walked (rules needed name) [] (at h (pos ps) t) x
        ≡ to_positional (rules needed name) (arg_by_index (rules needed name) (pos ps)) x (at h (pos ps) t) h
        → Fate needed name (at h (pos ps) t) (x ∷ xs) (behind (given ps us) (with_plain x rest))
    plain_taken [] k turn moves =
        (fate_as needed name) _ _ _ _ (behind_plain (given [] us) x rest) (taken 1 (codes "first") (takes1 needed name) h rs t x xs _ s turn moves
        (on (pend (codes "first") (x ∷ []) rs) (more (codes "first") x rs) (x ∷ []) (stands_first needed name x rs k.first) (add_first rs x us k)))
    plain_taken (a ∷ []) k turn moves =
        (fate_as needed name) _ _ _ _ (behind_plain (given (a ∷ []) us) x rest) (taken 2 (codes "second") (takes2 needed name) h rs t x xs _ s turn moves
        (on (pend (codes "second") (x ∷ []) rs) (more (codes "second") x rs) (a ∷ x ∷ []) (stands_second needed name x rs k.second) (add_second rs x a us k)))
    plain_taken (a ∷ b ∷ []) k turn moves =
        (fate_as needed name) _ _ _ _ (behind_plain (given (a ∷ b ∷ []) us) x rest) (taken 3 (codes "third") (takes3 needed name) h rs t x xs _ s turn moves
        (on (pend (codes "third") (x ∷ []) rs) (more (codes "third") x rs) (a ∷ b ∷ x ∷ []) (stands_third needed name x rs k.third) (add_third rs x a b us k)))
    plain_taken (a ∷ b ∷ c ∷ []) k turn moves =
        (fate_as needed name) _ _ _ _ (behind_plain (given (a ∷ b ∷ c ∷ []) us) x rest) (taken 4 (codes "fourth") (takes4 needed name) h rs t x xs _ s turn moves
        (on (pend (codes "fourth") (x ∷ []) rs) (more (codes "fourth") x rs) (a ∷ b ∷ c ∷ x ∷ []) (stands_fourth needed name x rs k.fourth) (add_fourth rs x a b c us k)))
    plain_taken (a ∷ b ∷ c ∷ d ∷ []) k turn moves = fate_not needed name _ x xs _ (subst IsRefused (sym turn) (none_takes needed name h)) (fifth_none needed a b c d x us rest)
    plain_taken (a ∷ b ∷ c ∷ d ∷ e ∷ es) k turn moves = absurd k.few

  -- after `--` each word is plain
  ended : (ws : List Text) (h : Held) (rs : List Row) (ps us : List Text) → Stands needed name h rs → Holds rs ps us
      → Fate needed name (at h (pos ps) true) ws (behind (given ps us) (Some (given ws [])))
  ended [] h rs ps us s k = at_end name h rs true needed ps us s k
  ended (x ∷ xs) h rs ps us s k =
      plain_taken h rs us true x xs (Some (given xs [])) s (λ g qs vs. ended xs g qs vs us) ps k (turn_value (runs needed name) h (pos ps) x) (walked_value (runs needed name) h (pos ps) x)

  -- where something is wrong, it shows at the next word that is looked at, or at the end
  bad_step : (h : Held) (ps : List Text) → AreAtMostFour ps → IsRefused (settle_fault (rules needed name) false h) → IsRefused (step_fault (runs needed name) (pos ps) h value)
  bad_step h [] l bad = subst IsRefused (sym ((takes1 needed name).faults h)) bad
  bad_step h (a ∷ []) l bad = subst IsRefused (sym ((takes2 needed name).faults h)) bad
  bad_step h (a ∷ b ∷ []) l bad = subst IsRefused (sym ((takes3 needed name).faults h)) bad
  bad_step h (a ∷ b ∷ c ∷ []) l bad = subst IsRefused (sym ((takes4 needed name).faults h)) bad
  bad_step h (a ∷ b ∷ c ∷ d ∷ []) l bad = none_takes needed name h
  bad_step h (a ∷ b ∷ c ∷ d ∷ e ∷ es) l bad = absurd l

  bad_end : (w : Walk) → IsRefused (settle_fault (rules needed name) false w.held) → IsRefused (faults_of (runs needed name) w [])
  unfolding walk_fault
  bad_end w bad = refused_first (settle_fault (rules needed name) false w.held) _ bad

  bad_behind : (h : Held) (ps : List Text) (on : Waiting) (ws : List Text) → AreAtMostFour ps
      → IsRefused (settle_fault (rules needed name) false h) → IsRefused (faults_of (runs needed name) (ending_at h (pos ps) on) ws)
  bad_behind h ps on [] l bad = bad_end (ending_at h (pos ps) on) bad
  bad_behind h ps on (x ∷ xs) l bad = fits_not (runs needed name) (ending_at h (pos ps) on) x xs (bad_step h ps l bad)

  bad_on : (h : Held) (ps : List Text) (ws : List Text) → AreAtMostFour ps → h.skip ≡ 0 → AreTexts ws
      → IsRefused (settle_fault (rules needed name) false h) → IsRefused (faults_of (runs needed name) (at h (pos ps) false) ws)
  bad_on h ps [] l z u bad = bad_end (at h (pos ps) false) bad
  bad_on h ps (x ∷ xs) l z u bad =
      elim (two_ways (is_escape x)) [
        | inl e ↦ subst IsRefused (sym (faults_on (runs needed name) (at h (pos ps) false) x xs
            (turn_escape (runs needed name) h (pos ps) x e)
            ∙ ap (λ (w : Walk). faults_of (runs needed name) w xs) (walked_escape (runs needed name) h (pos ps) x e))) (bad_behind h ps idle xs l bad)
        | inr e ↦ elim (two_ways (is_dashed x)) [
          | inl d ↦ fits_not (runs needed name) (at h (pos ps) false) x xs (dashed_shows needed name h (pos ps) idle x bad refl z u.0 e d)
          | inr d ↦ fits_not (runs needed name) (at h (pos ps) false) x xs (subst IsRefused (sym (turn_plain (runs needed name) h (pos ps) x e d)) (bad_step h ps l bad))
        ]
      ]

  -- how the walk stands, by whether a value is awaited
  abbrev Between : Bool → Walk → List Row → ℕ → Type 0
  Between true w rs p = w ≡ waits rs p
  Between false w rs p = (h : Held) × (w ≡ at h p false) × (Stands needed name) h rs

  abbrev Reads : Bool → List Text → Type 0
  Reads awaited ws = (w : Walk) (rs : List Row) (ps us : List Text) → Between awaited w rs (pos ps) → Holds rs ps us → Fate needed name w ws (behind (given ps us) (arguments_of true awaited ws))

  value_escape : (rs : List Row) (p : ℕ) (x : Text) → is_escape x ≡ true → turn_fault (runs needed name) [] (waits rs p) x ≡ []
  value_escape rs p x e = rw e refl

  walked_value_escape : (rs : List Row) (p : ℕ) (x : Text) → is_escape x ≡ true → walked (rules needed name) [] (waits rs p) x ≡ ending_at (pend (codes "workers") [] rs) p (option (codes "workers"))
  unfolding walked
  walked_value_escape rs p x e = rw e refl

  module _ (x : Text) (xs : List Text) (u : IsUtf8 x) (us_texts : AreTexts xs) (free : Reads false xs) where
    value_taken : (rs : List Row) (ps us : List Text) → Holds rs ps us
        → Fate needed name (at (pend (codes "workers") (x ∷ []) rs) (pos ps) false) xs (behind (given ps us) (with_workers x (arguments_of true false xs)))
    value_taken rs ps [] k =
        (fate_as needed name) _ _ _ _ (behind_workers (given ps []) x (arguments_of true false xs))
        (free _ (more (codes "workers") x rs) ps (x ∷ []) (pend (codes "workers") (x ∷ []) rs, refl, (stands_workers needed name) x rs k.workers) (add_workers rs x ps k))
    value_taken rs ps (w ∷ []) k =
        refused (bad_on (pend (codes "workers") (x ∷ []) rs) ps xs k.few refl us_texts (twice_refused needed name w x rs k.workers)) (second_none needed ps w x (arguments_of true false xs))
    value_taken rs ps (w ∷ v ∷ vs) k = absurd k.once

    awaited_word : (rs : List Row) (ps us : List Text) → Holds rs ps us → Fate needed name (waits rs (pos ps)) (x ∷ xs) (behind (given ps us) (with_workers x (arguments_of true false xs)))
    awaited_word rs ps us k =
        elim (two_ways (is_escape x)) [
          | inl e ↦ refused (subst IsRefused
              (sym (faults_on (runs needed name) (waits rs (pos ps)) x xs (value_escape rs (pos ps) x e)
              ∙ ap (λ (w : Walk). faults_of (runs needed name) w xs) (walked_value_escape rs (pos ps) x e)))
              (bad_behind (pend (codes "workers") [] rs) ps (option (codes "workers")) xs k.few (none_refused needed name rs)))
              (bad_value_none needed ps us x (arguments_of true false xs) k.once (dashed_no_number x (escape_dashed x e)))
          | inr e ↦ elim (two_ways (is_dashed x)) [
            | inl d ↦ fate_not needed name (waits rs (pos ps)) x xs _
                (dashed_shows needed name (pend (codes "workers") [] rs) (pos ps) (option (codes "workers")) x (none_refused needed name rs) refl refl u e d)
                (bad_value_none needed ps us x (arguments_of true false xs) k.once (dashed_no_number x d))
            | inr d ↦ fate_on needed name (waits rs (pos ps)) (at (pend (codes "workers") (x ∷ []) rs) (pos ps) false) x xs _
                (turn_awaited needed name rs (pos ps) x e d) (walked_awaited needed name rs (pos ps) x e d) (value_taken rs ps us k)
          ]
        ]

  module _ (x : Text) (xs : List Text) (u : IsUtf8 x) (free : Reads false xs) (waiting : Reads true xs) (h : Held) (rs : List Row) (s : Stands needed name h rs) where
    abbrev so : List Text → List Text → Option Arguments → Option Arguments
    so ps us o = behind (given ps us) o

    joined_word : (ps us : List Text) (v : Text) → Holds rs ps us → x ≡ codes "--workers=" ++ v
        → Fate needed name (at h (pos ps) false) (x ∷ xs) (so ps us (with_workers v (arguments_of true false xs)))
    joined_word ps [] v k e =
        (fate_as needed name) _ _ _ _ (behind_workers (given ps []) v (arguments_of true false xs))
        (subst (λ (y : Text). Fate needed name (at h (pos ps) false) (y ∷ xs) (so ps (v ∷ []) (arguments_of true false xs))) (sym e)
        (fate_on needed name (at h (pos ps) false) (at (bare (more (codes "workers") v rs)) (pos ps) false) (codes "--workers=" ++ v) xs _
        (joined_passes needed name h rs (pos ps) v s k.workers) (walked_joined needed name h rs (pos ps) v s.settles k.workers)
        (free _ (more (codes "workers") v rs) ps (v ∷ []) (bare (more (codes "workers") v rs), refl, (stands_bare needed name) (more (codes "workers") v rs)) (add_workers rs v ps k))))
    joined_word ps (w ∷ []) v k e =
        subst (λ (y : Text). Fate needed name (at h (pos ps) false) (y ∷ xs) (so ps (w ∷ []) (with_workers v (arguments_of true false xs)))) (sym e)
        (fate_not needed name (at h (pos ps) false) (codes "--workers=" ++ v) xs _ (joined_refused needed name h rs (pos ps) w v s k.workers) (second_none needed ps w v (arguments_of true false xs)))
    joined_word ps (w ∷ v ∷ vs) y k e = absurd k.once

    option_word : (ps us : List Text) → Holds rs ps us → x ≡ codes "--workers" → Fate needed name (at h (pos ps) false) (x ∷ xs) (so ps us (arguments_of true true xs))
    option_word ps us k e =
        subst (λ (y : Text). Fate needed name (at h (pos ps) false) (y ∷ xs) (so ps us (arguments_of true true xs))) (sym e)
        (fate_on needed name (at h (pos ps) false) (waits rs (pos ps)) (codes "--workers") xs _
        (turn_option needed name h (pos ps) ∙ s.passes) (walked_option needed name h rs (pos ps) s.settles) (waiting (waits rs (pos ps)) rs ps us refl k))

    plain_word : (ps us : List Text) → Holds rs ps us → is_escape x ≡ false → is_dashed x ≡ false
        → Fate needed name (at h (pos ps) false) (x ∷ xs) (so ps us (with_plain x (arguments_of true false xs)))
    plain_word ps us k e d =
        plain_taken h rs us false x xs (arguments_of true false xs) s (λ g qs vs t l. free (at g (pos vs) false) qs vs us (g, refl, t) l) ps k
        (turn_plain (runs needed name) h (pos ps) x e d) (walked_plain (runs needed name) h (pos ps) x e d)

    free_word : (ps us : List Text) → Holds rs ps us → Fate needed name (at h (pos ps) false) (x ∷ xs) (so ps us (arguments_of true false (x ∷ xs)))
    free_word ps us k =
        elim (two_ways (is_escape x)) [
          | inl e ↦ fate_as needed name _ _ _ _ (ap (so ps us) (says_ended x xs e))
              (fate_on needed name (at h (pos ps) false) (at h (pos ps) true) x xs _ (turn_escape (runs needed name) h (pos ps) x e)
              (walked_escape (runs needed name) h (pos ps) x e) (ended xs h rs ps us s k))
          | inr e ↦ elim (two_ways (bytes_eq x (codes "--workers"))) [
            | inl n ↦ fate_as needed name _ _ _ _ (ap (so ps us) (says_option x xs e n)) (option_word ps us k ((bytes_eq-Decides x (codes "--workers")).0 n))
            | inr n ↦ elim (two_ways (is_joined x)) [
              | inl j ↦ fate_as needed name _ _ _ _ (ap (so ps us) (says_joined x xs e n j)) (joined_word ps us (drop 10 x) k (joined_is x j))
              | inr j ↦ elim (two_ways (is_dashed x)) [
                | inl d ↦ fate_as needed name _ _ _ _ (ap (so ps us) (says_none x xs e n j d))
                    (fate_not needed name (at h (pos ps) false) x xs _
                    (other_dashed needed name h (pos ps) idle x refl s.unskipped u e d n j) (nothing_none needed))
                | inr d ↦ fate_as needed name _ _ _ _ (ap (so ps us) (says_plain x xs e n j d)) (plain_word ps us k e d)
              ]
            ]
          ]
        ]

  reads : (awaited : Bool) (ws : List Text) → AreTexts ws → Reads awaited ws
  reads true [] u w rs ps us b k =
      subst (λ (v : Walk). Fate needed name v [] (behind (given ps us) None)) (sym b)
      (refused (bad_end (waits rs (pos ps)) (none_refused needed name rs)) (nothing_none needed))
  reads true (x ∷ xs) u w rs ps us b k =
      subst (λ (v : Walk). Fate needed name v (x ∷ xs) (behind (given ps us) (arguments_of true true (x ∷ xs)))) (sym b) (awaited_word x xs u.0 u.1 (reads false xs u.1) rs ps us k)
  reads false [] u w rs ps us b k = subst (λ (v : Walk). Fate needed name v [] (behind (given ps us) (Some (given [] [])))) (sym b.1) (at_end name b.0 rs false needed ps us b.2 k)
  reads false (x ∷ xs) u w rs ps us b k =
      subst (λ (v : Walk). Fate needed name v (x ∷ xs) (behind (given ps us) (arguments_of true false (x ∷ xs)))) (sym b.1)
      (free_word x xs u.0 (reads false xs u.1) (reads true xs u.1) b.0 rs b.2 ps us k)

  -- the words after the name
  pub working_read : (ws : List Text) → AreTexts ws → Fate needed name (at nothing_held 1 false) ws (behind (given [] []) (arguments_of true false ws))
  working_read ws u = reads false ws u (at nothing_held 1 false) [] [] [] (nothing_held, refl, (stands_bare needed name) []) holds_nothing
