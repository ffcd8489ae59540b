-- What clap holds between two words of a command that takes workers, and what one word more does.
use Rattle.std.proofs.Common.{◌≡◌, ◌∙◌, ℕ, suc, List, [], ◌∷◌, ◌++◌, Bool, true, false, ◌&&◌, Option, Some, None, inl, inr, refl, sym, subst, ap, ap₂, codes, if◌then◌else◌}
use Rattle.std.specs.Prelude.{fold, unwrap_or, drop}
use Rattle.clap.specs.Walk.{
  Held,
  Row,
  Rule,
  Walk,
  Waiting,
  option,
  value,
  used,
  pushed,
  walked,
  settled,
  is_pending,
  arg_by_id,
  arg_by_index,
  arg_by_long,
  to_positional,
  with_default,
  has_row,
  subcommand_met,
}
use Rattle.clap.specs.Simple.{Shape}
use Rattle.std.specs.Str.{bytes_eq, IsUtf8}
use Rattle.std.proofs.lemmas.Slice.Eq.{bytes_eq-Decides}
use Rattle.clap.specs.Kinds.{Kinds, or_else}
use Rattle.clap.specs.Faults.{turn_fault, word_fault, step_fault, settle_fault, walk_fault, defaults_fault, check_fault, repeat_fault, default_fault, other_fault}
use Rattle.clap.specs.declared.error.kind.ErrorKind.TheVariants as kind
use Rattle.command_words.specs.Command.{is_joined}
use Rattle.command_words.specs.App.{working_app, argument}
use Rattle.command_words.proofs.PlainWords.{Text, is_escape, is_dashed}
use Rattle.command_words.proofs.Looks.{two_ways, plain_long, plain_short}
use Rattle.command_words.proofs.Rows.{Has, more, has_value, has_none, first_use, value_given, none_given}
use Rattle.command_words.proofs.OptionWords.{is_given, joined_is}
use Rattle.command_words.proofs.Leaf.{IsRefused, IsUnknown, refused_first, at, word_unknown}
use Rattle.command_words.proofs.Leaves.{leaf}
use Rattle.command_words.proofs.Stages.{faults_of, rows_of_walk}

abbrev pub bare : List Row → Held
bare rs = record { rows = rs; pending = None; skip = 0 }

abbrev pub pend : Text → List Text → List Row → Held
pend id vs rs = record { rows = rs; pending = Some (id, vs); skip = 0 }

-- the option's value is awaited
abbrev pub waits : List Row → ℕ → Walk
waits rs p = record { held = pend (codes "workers") [] rs; waiting = option (codes "workers"); position = p; is_trailing = false; stopped = None }

-- an argument with one value a use
single : {X : Type 0} (b : Bool) (x y : X) → (if b && false then x else y) ≡ y
single true x y = refl
single false x y = refl

-- the option by itself
or_none : (ks : Kinds) → or_else ks [] ≡ ks
or_none [] = refl
or_none (k ∷ ks) = refl

-- the option with its value
abbrev joined_kinds : Kinds → Held → Kinds
joined_kinds k g = or_else k (or_else (repeat_fault false (codes "workers") g.rows) [])

-- the end of the words
abbrev HaveNoDefaults : List Rule → Type 0
HaveNoDefaults [] = Unit {0}
HaveNoDefaults (r ∷ more) = (r.defaults ≡ []) × HaveNoDefaults more

same : {X : Type 0} (b : Bool) (x : X) → (if b then x else x) ≡ x
same true x = refl
same false x = refl

keeps : (r : Rule) → r.defaults ≡ [] → (rs : List Row) → with_default rs r ≡ rs
keeps r e rs = rw e (same (has_row r.id rs) rs)

fault_none : (r : Rule) → r.defaults ≡ [] → (rs : List Row) → default_fault rs r ≡ []
fault_none r e rs = elim (two_ways (has_row r.id rs)) [ inl h ↦ rw h refl | inr h ↦ rw (h, e) refl ]

all_keep : (all : List Rule) → HaveNoDefaults all → (rs : List Row) → fold with_default rs all ≡ rs
all_keep [] n rs = refl
all_keep (r ∷ all) n rs = ap (λ (us : List Row). fold with_default us all) (keeps r n.0 rs) ∙ all_keep all n.1 rs

all_pass : (all : List Rule) → HaveNoDefaults all → (rs : List Row) → defaults_fault rs all ≡ []
unfolding defaults_fault
all_pass [] n rs = refl
all_pass (r ∷ all) n rs = rw (fault_none r n.0 rs) (ap (λ (us : List Row). defaults_fault us all) (keeps r n.0 rs) ∙ all_pass all n.1 rs)

refused_missing : (ks : Kinds) → ks ≡ kind.MissingRequiredArgument ∷ [] → IsRefused ks
refused_missing ks e = λ b. cc

abbrev between : Held → ℕ → Waiting → Walk
between h p on = record { held = h; waiting = on; position = p; is_trailing = false; stopped = None }

-- by whether a fourth argument is needed
module _ (needed : Bool) (name : Text) where
  abbrev pub runs : Shape
  runs = leaf (working_app needed name)

  abbrev pub rules : List Rule
  rules = runs.rules

  -- with what is pending these rows come to stand, and nothing is wrong
  pub record Stands (h : Held) (rs : List Row) : Type 0 where
    pub settles : settled rules h ≡ bare rs
    pub passes : settle_fault rules false h ≡ []
    pub unskipped : h.skip ≡ 0

  pub stands_bare : (rs : List Row) → Stands (bare rs) rs
  stands_bare rs = record { settles = refl; passes = refl; unskipped = refl }

  pub stands_first : (x : Text) (rs : List Row) → Has (codes "first") rs None → Stands (pend (codes "first") (x ∷ []) rs) (more (codes "first") x rs)
  stands_first x rs h = record { settles = ap bare (first_use (codes "first") x rs h); passes = rw (has_none (codes "first") rs h) refl; unskipped = refl }

  pub stands_second : (x : Text) (rs : List Row) → Has (codes "second") rs None → Stands (pend (codes "second") (x ∷ []) rs) (more (codes "second") x rs)
  stands_second x rs h = record { settles = ap bare (first_use (codes "second") x rs h); passes = rw (has_none (codes "second") rs h) refl; unskipped = refl }

  pub stands_third : (x : Text) (rs : List Row) → Has (codes "third") rs None → Stands (pend (codes "third") (x ∷ []) rs) (more (codes "third") x rs)
  stands_third x rs h = record { settles = ap bare (first_use (codes "third") x rs h); passes = rw (has_none (codes "third") rs h) refl; unskipped = refl }

  pub stands_fourth : (x : Text) (rs : List Row) → Has (codes "fourth") rs None → Stands (pend (codes "fourth") (x ∷ []) rs) (more (codes "fourth") x rs)
  stands_fourth x rs h = record { settles = ap bare (first_use (codes "fourth") x rs h); passes = rw (has_none (codes "fourth") rs h) refl; unskipped = refl }

  pub stands_workers : (x : Text) (rs : List Row) → Has (codes "workers") rs None → Stands (pend (codes "workers") (x ∷ []) rs) (more (codes "workers") x rs)
  stands_workers x rs h = record { settles = ap bare (first_use (codes "workers") x rs h); passes = rw (has_none (codes "workers") rs h) refl; unskipped = refl }

  -- a second value is refused as soon as it is looked at
  pub twice_refused : (v x : Text) (rs : List Row) → Has (codes "workers") rs (Some v) → IsRefused (settle_fault rules false (pend (codes "workers") (x ∷ []) rs))
  twice_refused v x rs h = let e : settle_fault rules false (pend (codes "workers") (x ∷ []) rs) ≡ kind.ArgumentConflict ∷ [] = rw (has_value (codes "workers") v rs h) refl in λ b. cc

  pub none_refused : (rs : List Row) → IsRefused (settle_fault rules false (pend (codes "workers") [] rs))
  none_refused rs = let e : settle_fault rules false (pend (codes "workers") [] rs) ≡ kind.InvalidValue ∷ [] = refl in λ b. cc

  abbrev rule_at : ℕ → Rule
  rule_at p = unwrap_or (arg_by_index rules p) (argument [] true)

  step1 : (h : Held) → step_fault runs 1 h value ≡ settle_fault rules false h
  step1 h = single (is_pending (rule_at 1) h.pending) [] (settle_fault rules false h)

  step2 : (h : Held) → step_fault runs 2 h value ≡ settle_fault rules false h
  step2 h = single (is_pending (rule_at 2) h.pending) [] (settle_fault rules false h)

  step3 : (h : Held) → step_fault runs 3 h value ≡ settle_fault rules false h
  step3 h = single (is_pending (rule_at 3) h.pending) [] (settle_fault rules false h)

  step4 : (h : Held) → step_fault runs 4 h value ≡ settle_fault rules false h
  step4 h = single (is_pending (rule_at 4) h.pending) [] (settle_fault rules false h)

  goes1 : (h : Held) (rs : List Row) (x : Text) (t : Bool) → settled rules h ≡ bare rs → to_positional rules (arg_by_index rules 1) x (at h 1 t) h ≡ at (pend (codes "first") (x ∷ []) rs) 2 t
  goes1 h rs x true e = ap (λ (g : Held). at (pushed (codes "first") x g) 2 true) (single (is_pending (rule_at 1) h.pending) h (settled rules h) ∙ e)
  goes1 h rs x false e = ap (λ (g : Held). at (pushed (codes "first") x g) 2 false) (single (is_pending (rule_at 1) h.pending) h (settled rules h) ∙ e)

  goes2 : (h : Held) (rs : List Row) (x : Text) (t : Bool) → settled rules h ≡ bare rs → to_positional rules (arg_by_index rules 2) x (at h 2 t) h ≡ at (pend (codes "second") (x ∷ []) rs) 3 t
  goes2 h rs x true e = ap (λ (g : Held). at (pushed (codes "second") x g) 3 true) (single (is_pending (rule_at 2) h.pending) h (settled rules h) ∙ e)
  goes2 h rs x false e = ap (λ (g : Held). at (pushed (codes "second") x g) 3 false) (single (is_pending (rule_at 2) h.pending) h (settled rules h) ∙ e)

  goes3 : (h : Held) (rs : List Row) (x : Text) (t : Bool) → settled rules h ≡ bare rs → to_positional rules (arg_by_index rules 3) x (at h 3 t) h ≡ at (pend (codes "third") (x ∷ []) rs) 4 t
  goes3 h rs x true e = ap (λ (g : Held). at (pushed (codes "third") x g) 4 true) (single (is_pending (rule_at 3) h.pending) h (settled rules h) ∙ e)
  goes3 h rs x false e = ap (λ (g : Held). at (pushed (codes "third") x g) 4 false) (single (is_pending (rule_at 3) h.pending) h (settled rules h) ∙ e)

  goes4 : (h : Held) (rs : List Row) (x : Text) (t : Bool) → settled rules h ≡ bare rs → to_positional rules (arg_by_index rules 4) x (at h 4 t) h ≡ at (pend (codes "fourth") (x ∷ []) rs) 5 t
  goes4 h rs x true e = ap (λ (g : Held). at (pushed (codes "fourth") x g) 5 true) (single (is_pending (rule_at 4) h.pending) h (settled rules h) ∙ e)
  goes4 h rs x false e = ap (λ (g : Held). at (pushed (codes "fourth") x g) 5 false) (single (is_pending (rule_at 4) h.pending) h (settled rules h) ∙ e)

  -- a positional takes a word where nothing is wrong
  pub record Takes (p : ℕ) (id : Text) : Type 0 where
    pub faults : (h : Held) → step_fault runs p h value ≡ settle_fault rules false h
    pub goes : (h : Held) (rs : List Row) (x : Text) (t : Bool) → settled rules h ≡ bare rs → to_positional rules (arg_by_index rules p) x (at h p t) h ≡ at (pend id (x ∷ []) rs) (suc p) t

  pub takes1 : Takes 1 (codes "first")
  takes1 = record { faults = step1; goes = goes1 }

  pub takes2 : Takes 2 (codes "second")
  takes2 = record { faults = step2; goes = goes2 }

  pub takes3 : Takes 3 (codes "third")
  takes3 = record { faults = step3; goes = goes3 }

  pub takes4 : Takes 4 (codes "fourth")
  takes4 = record { faults = step4; goes = goes4 }

  pub none_takes : (h : Held) → IsRefused (step_fault runs 5 h value)
  none_takes h = let e : step_fault runs 5 h value ≡ kind.UnknownArgument ∷ [] = refl in λ b. cc

  pub turn_option : (h : Held) (p : ℕ) → turn_fault runs [] (at h p false) (codes "--workers") ≡ settle_fault rules false h
  turn_option h p = or_none (settle_fault rules false h)

  pub walked_option : (h : Held) (rs : List Row) (p : ℕ) → settled rules h ≡ bare rs → walked rules [] (at h p false) (codes "--workers") ≡ waits rs p
  unfolding walked
  walked_option h rs p e = ap (λ (g : Held). record {
    held = record g { pending = Some (codes "workers", []) };
    waiting =
        option (codes "workers");
    position = p;
    is_trailing = false;
    stopped = None;
  }) e

  pub turn_joined : (h : Held) (p : ℕ) (v : Text) → turn_fault runs [] (at h p false) (codes "--workers=" ++ v) ≡ joined_kinds (settle_fault rules false h) (settled rules h)
  turn_joined h p v = or_none (joined_kinds (settle_fault rules false h) (settled rules h))

  pub joined_passes : (h : Held) (rs : List Row) (p : ℕ) (v : Text) → Stands h rs → Has (codes "workers") rs None → turn_fault runs [] (at h p false) (codes "--workers=" ++ v) ≡ []
  joined_passes h rs p v s n = turn_joined h p v ∙ ap₂ joined_kinds s.passes s.settles ∙ rw (has_none (codes "workers") rs n) refl

  pub joined_refused : (h : Held) (rs : List Row) (p : ℕ) (u v : Text) → Stands h rs → Has (codes "workers") rs (Some u) → IsRefused (turn_fault runs [] (at h p false) (codes "--workers=" ++ v))
  joined_refused h rs p u v s n =
      let e : turn_fault runs [] (at h p false) (codes "--workers=" ++ v) ≡ kind.ArgumentConflict ∷ [] = turn_joined h p v
      ∙ ap₂ joined_kinds s.passes s.settles ∙ rw (has_value (codes "workers") u rs n) refl in
      λ b. cc

  pub walked_joined : (h : Held) (rs : List Row) (p : ℕ) (v : Text) → settled rules h ≡ bare rs → Has (codes "workers") rs None
      → walked rules [] (at h p false) (codes "--workers=" ++ v) ≡ at (bare (more (codes "workers") v rs)) p false
  unfolding walked
  walked_joined h rs p v e n =
      ap (λ (g : Held). at (record g { rows = used (unwrap_or (arg_by_id rules (codes "workers")) (argument [] true)) (v ∷ []) g.rows; pending = None }) p false) e
      ∙ ap (λ (us : List Row). at (bare us) p false) (first_use (codes "workers") v rs n)

  -- the awaited value
  pub turn_awaited : (rs : List Row) (p : ℕ) (x : Text) → is_escape x ≡ false → is_dashed x ≡ false → turn_fault runs [] (waits rs p) x ≡ []
  turn_awaited rs p x e d = rw (e, plain_long x d, plain_short x d) refl

  pub walked_awaited : (rs : List Row) (p : ℕ) (x : Text) → is_escape x ≡ false → is_dashed x ≡ false → walked rules [] (waits rs p) x ≡ at (pend (codes "workers") (x ∷ []) rs) p false
  unfolding walked
  walked_awaited rs p x e d = rw (e, plain_long x d, plain_short x d) refl

  without_defaults : HaveNoDefaults rules
  without_defaults = (refl, (refl, (refl, (refl, (refl, tt)))))

  abbrev end_kinds : Kinds → Held → Kinds
  end_kinds k g = or_else k (or_else (defaults_fault g.rows rules) (check_fault runs (fold with_default g.rows rules) false))

  by_ending : (h : Held) (p : ℕ) (t : Bool) → faults_of runs (at h p t) [] ≡ end_kinds (settle_fault rules false h) (settled rules h)
  unfolding walk_fault
  by_ending h p t = refl

  pub faults_at_end : (h : Held) (rs : List Row) (p : ℕ) (t : Bool) → Stands h rs → faults_of runs (at h p t) [] ≡ check_fault runs rs false
  faults_at_end h rs p t s =
      by_ending h p t ∙ ap₂ end_kinds s.passes s.settles ∙ ap (λ (k : Kinds). or_else k (check_fault runs (fold with_default rs rules) false)) (all_pass rules without_defaults rs)
      ∙ ap (λ (us : List Row). check_fault runs us false) (all_keep rules without_defaults rs)

  pub rows_at_end : (h : Held) (rs : List Row) (p : ℕ) (t : Bool) → Stands h rs → rows_of_walk runs (at h p t) [] ≡ rs
  rows_at_end h rs p t s = ap (λ (g : Held). fold with_default g.rows rules) s.settles ∙ all_keep rules without_defaults rs

  pub no_first : (rs : List Row) → Has (codes "first") rs None → IsRefused (check_fault runs rs false)
  no_first rs a = refused_missing _ (rw (none_given (codes "first") rs a) refl)

  pub no_second : (rs : List Row) (x : Text) → Has (codes "first") rs (Some x) → Has (codes "second") rs None → IsRefused (check_fault runs rs false)
  no_second rs x a b = refused_missing _ (rw (value_given (codes "first") x rs a, none_given (codes "second") rs b) refl)

  pub no_third : (rs : List Row) (x y : Text) → Has (codes "first") rs (Some x) → Has (codes "second") rs (Some y) → Has (codes "third") rs None → IsRefused (check_fault runs rs false)
  no_third rs x y a b c = refused_missing _ (rw (value_given (codes "first") x rs a, value_given (codes "second") y rs b, none_given (codes "third") rs c) refl)

  -- words that are refused
  unknown_long : (x n : Text) → bytes_eq (codes "workers") n ≡ false → arg_by_long rules n ≡ None
  unknown_long x n e = rw e refl

  no_option : (x : Text) → bytes_eq x (codes "--workers") ≡ false → is_joined x ≡ false → IsUnknown runs x
  no_option x e j = record {
    long = λ p l. elim (two_ways (bytes_eq (codes "workers") p.0)) [
      | inl n ↦ absurd (elim (is_given x p l (sym ((bytes_eq-Decides (codes "workers") p.0).0 n))) [
        | inl w ↦ let yes : bytes_eq x (codes "--workers") ≡ true = (bytes_eq-Decides x (codes "--workers")).1 w in let bad : true ≡ false = sym yes ∙ e in cc
        | inr w ↦ let bad : true ≡ false = sym w ∙ j in cc
      ])
      | inr n ↦ unknown_long x p.0 n
    ];
    short = λ c. refl;
  }

  module _ (h : Held) (p : ℕ) (on : Waiting) (x : Text) (no_name : subcommand_met [] on x ≡ None) (z : h.skip ≡ 0) (u : IsUtf8 x) (e : is_escape x ≡ false) (d : is_dashed x ≡ true) where
    pub other_dashed : bytes_eq x (codes "--workers") ≡ false → is_joined x ≡ false → IsRefused (turn_fault runs [] (between h p on) x)
    other_dashed n j = refused_first (word_fault runs [] false on x h) _
        (let k : word_fault runs [] false on x h ≡ kind.UnknownArgument ∷ [] = word_unknown runs x h on no_name z e (no_option x n j) u d in λ b. cc)

  option_after : (h : Held) (on : Waiting) (x : Text) → subcommand_met [] on x ≡ None → x ≡ codes "--workers" → word_fault runs [] false on x h ≡ settle_fault rules false h
  option_after h on x n e = ap (λ (o : Option Text). other_fault runs o x h) n ∙ ap (λ (w : Text). other_fault runs None w h) e

  joined_after : (h : Held) (on : Waiting) (x v : Text) → subcommand_met [] on x ≡ None → x ≡ codes "--workers=" ++ v
      → word_fault runs [] false on x h ≡ joined_kinds (settle_fault rules false h) (settled rules h)
  joined_after h on x v n e = ap (λ (o : Option Text). other_fault runs o x h) n ∙ ap (λ (w : Text). other_fault runs None w h) e

  -- where something is wrong, any word that begins with `-` shows it
  pub dashed_shows : (h : Held) (p : ℕ) (on : Waiting) (x : Text) → IsRefused (settle_fault rules false h) → subcommand_met [] on x ≡ None
      → h.skip ≡ 0 → IsUtf8 x → is_escape x ≡ false → is_dashed x ≡ true
      → IsRefused (turn_fault runs [] (between h p on) x)
  dashed_shows h p on x bad no_name z u e d =
      elim (two_ways (bytes_eq x (codes "--workers"))) [
        | inl w ↦ refused_first (word_fault runs [] false on x h) _ (subst IsRefused (sym (option_after h on x no_name ((bytes_eq-Decides x (codes "--workers")).0 w))) bad)
        | inr w ↦ elim (two_ways (is_joined x)) [
          | inl j ↦ refused_first (word_fault runs [] false on x h) _
              (subst IsRefused (sym (joined_after h on x (drop 10 x) no_name (joined_is x j))) (refused_first (settle_fault rules false h) _ bad))
          | inr j ↦ other_dashed h p on x no_name z u e d w j
        ]
      ]

-- A fourth plain argument has to be there where it is needed.
pub no_fourth : (name : Text) (rs : List Row) (x y z : Text) → Has (codes "first") rs (Some x) → Has (codes "second") rs (Some y) → Has (codes "third") rs (Some z) → Has (codes "fourth") rs None
    → IsRefused (check_fault (runs true name) rs false)
no_fourth name rs x y z a b c d =
    refused_missing _ (rw (
      value_given (codes "first") x rs a,
      value_given (codes "second") y rs b,
      value_given (codes "third") z rs c,
      none_given (codes "fourth") rs d,
    ) refl)

pub three_there : (name : Text) (rs : List Row) (x y z : Text) → Has (codes "first") rs (Some x) → Has (codes "second") rs (Some y)
    → Has (codes "third") rs (Some z) → check_fault (runs false name) rs false ≡ []
three_there name rs x y z a b c = rw (value_given (codes "first") x rs a, value_given (codes "second") y rs b, value_given (codes "third") z rs c) refl

pub four_there : (name : Text) (rs : List Row) (x y z v : Text) → Has (codes "first") rs (Some x) → Has (codes "second") rs (Some y)
    → Has (codes "third") rs (Some z) → Has (codes "fourth") rs (Some v)
    → check_fault (runs true name) rs false ≡ []
four_there name rs x y z v a b c d = rw (value_given (codes "first") x rs a, value_given (codes "second") y rs b, value_given (codes "third") z rs c, value_given (codes "fourth") v rs d) refl
