-- The first word, as clap reads it: by induction over the rows of the table.
use Rattle.std.proofs.Common.{◌≡◌, ◌∙◌, List, [], ◌∷◌, ◌++◌, Bool, true, false, ◌||◌, Option, Some, None, inl, inr, refl, sym, ap, append_assoc, append-nil, ap₂, codes, map, option_map}
use Rattle.std.specs.Prelude.{fold, find, is_some}
use Rattle.std.specs.Str.{bytes_eq, IsUtf8}
use Rattle.std.proofs.lemmas.Slice.Eq.{bytes_eq-Decides}
use Rattle.clap.specs.Walk.{Names, Walk, idle, answers_to, walk_from, walked, walk, nothing_held, subcommand_met, settled, finished}
use Rattle.clap.specs.Simple.{App, Shape, built, entered, label_of, subcommand_of, is_simple}
use Rattle.clap.specs.Kinds.{Kinds, or_else}
use Rattle.clap.specs.Faults.{fault_of, other_fault, turn_fault, word_fault, walk_fault, defaults_fault, settle_fault, check_fault, entered_fault, is_simple_and_free}
use Rattle.clap.specs.declared.error.kind.ErrorKind.TheVariants as kind
use Rattle.command_words.specs.Table.{Row, table, kind_named}
use Rattle.command_words.specs.App.{the_app, form_app, form_of, row_app}
use Rattle.command_words.specs.declared.given.Form.{Form}
use Rattle.command_words.specs.declared.given.Form.TheVariants.{One, Two, Four, Working}
use Rattle.command_words.specs.declared.table.CommandKind.{CommandKind}
use Rattle.command_words.proofs.PlainWords.{Text, is_escape, is_dashed}
use Rattle.command_words.proofs.Looks.{two_ways, plain_long, plain_short}
use Rattle.command_words.proofs.Leaf.{IsRefused, refused_first, NoOptions, at, word_dashed}
use Rattle.command_words.proofs.Stages.{faults_of, rows_of_walk}
use Rattle.command_words.proofs.Leaves.{leaf}

abbrev top : Shape
top = (built the_app).top

-- The subcommand of a row, as it is built.
abbrev pub leaf_of : Row → Shape
leaf_of r = leaf (row_app r)

abbrev leaves : List Row → List Shape
leaves rows = map leaf_of rows

abbrev names_in : List Row → Names
names_in rows = map label_of (leaves rows)

-- the program with these subcommands, built
abbrev with_leaves : List Shape → App
with_leaves subs = record { top = top; subs = subs }

-- what a word finds among the rows
label : (form : Form) (name : Text) → label_of (leaf (form_app form name)) ≡ (name, [])
label One name = refl
label (Two needed) name = refl
label (Four needed) name = refl
label (Working needed) name = refl

or_false : (b : Bool) → (b || false) ≡ b
or_false true = refl
or_false false = refl

answers : (word name : Text) (k : CommandKind) → answers_to word (label_of (leaf_of (name, k))) ≡ bytes_eq name word
answers word name k = ap (answers_to word) (label (form_of k) name) ∙ or_false (bytes_eq name word)

found : (word : Text) (rows : List Row) → find (λ (s : Shape). answers_to word (label_of s)) (leaves rows) ≡ option_map (λ (k : CommandKind). leaf_of (word, k)) (kind_named rows word)
found word [] = refl
found word ((name, k) ∷ rows) =
    rw (answers word name k) (elim (two_ways (bytes_eq name word)) [
      | inl e ↦ rw e (ap (λ (n : Text). Some (leaf_of (n, k))) ((bytes_eq-Decides name word).0 e))
      | inr e ↦ rw e (found word rows)
    ])

met : (word : Text) (rows : List Row) → subcommand_met (names_in rows) idle word ≡ option_map (λ (k : CommandKind). word) (kind_named rows word)
met word [] = refl
met word ((name, k) ∷ rows) =
    rw (answers word name k) (elim (two_ways (bytes_eq name word)) [
      | inl e ↦ rw e (ap (λ (s : Text × List Text). Some s.0) (label (form_of k) name) ∙ ap (λ (n : Text). Some n) ((bytes_eq-Decides name word).0 e))
      | inr e ↦ rw e (met word rows)
    ])

-- the walk stands at a subcommand
abbrev stopped_at : Text → List Text → Walk
stopped_at name ws = record { held = nothing_held; waiting = idle; position = 1; is_trailing = false; stopped = Some (name, ws) }

gathers : (names : Names) (name : Text) (us ws : List Text) → fold (walked [] names) (stopped_at name us) ws ≡ stopped_at name (us ++ ws)
unfolding walked
gathers names name us [] = ap (stopped_at name) (sym (append-nil us))
gathers names name us (w ∷ ws) = gathers names name (us ++ w ∷ []) ws ∙ ap (stopped_at name) (append_assoc us (w ∷ []) ws)

no_more : (names : Names) (name : Text) (us ws : List Text) → walk_fault top names (stopped_at name us) ws ≡ []
unfolding walk_fault walked
no_more names name us [] = refl
no_more names name us (w ∷ ws) = no_more names name (us ++ w ∷ []) ws

or_none : (ks : Kinds) → or_else ks [] ≡ ks
or_none [] = refl
or_none (k ∷ ks) = refl

-- the faults of the whole, from its subcommands, its walk's end and its walk's faults
abbrev formula : List Shape → Walk → Kinds → Kinds
formula subs v k = or_else k (or_else (entered_fault (with_leaves subs) v.stopped) (or_else (settle_fault [] false v.held)
    (or_else (defaults_fault (settled [] v.held).rows []) (check_fault top (finished [] v.held) (is_some (entered (with_leaves subs) v.stopped))))))

abbrev names : Names
names = names_in table

by_formula : (program : Text) (ws : List Text) → fault_of the_app (program ∷ ws) ≡ formula (leaves table) (walk [] names nothing_held ws) (walk_fault top names (walk_from nothing_held) ws)
by_formula program ws = refl

by_walk : (program : Text) (ws : List Text) → subcommand_of the_app (program ∷ ws) ≡ entered (with_leaves (leaves table)) (walk [] names nothing_held ws).stopped
by_walk program ws = refl

-- a word that names a subcommand
module _ (names : Names) (word : Text) (m : subcommand_met names idle word ≡ Some word) where
  stops : walked [] names (walk_from nothing_held) word ≡ stopped_at word []
  unfolding walked
  stops = rw m refl

  passes : turn_fault top names (walk_from nothing_held) word ≡ []
  passes = rw m (elim (two_ways (bytes_eq word (codes "help"))) [ inl e ↦ rw e refl | inr e ↦ rw e refl ])

  whole_walk : (ws : List Text) → walk [] names nothing_held (word ∷ ws) ≡ stopped_at word ws
  whole_walk ws = ap (λ (v : Walk). fold (walked [] names) v ws) stops ∙ gathers names word [] ws

  whole_fault : (ws : List Text) → walk_fault top names (walk_from nothing_held) (word ∷ ws) ≡ []
  unfolding walk_fault
  whole_fault ws = rw passes (ap (λ (v : Walk). walk_fault top names v ws) stops ∙ no_more names word [] ws)

module _ (subs : List Shape) (word : Text) (s : Shape) (f : find (λ (x : Shape). answers_to word (label_of x)) subs ≡ Some s) (ws : List Text) where
  below : formula subs (stopped_at word ws) [] ≡ or_else (faults_of s (at nothing_held 1 false) ws) []
  unfolding defaults_fault
  below = rw f refl

  inside : entered (with_leaves subs) (Some (word, ws)) ≡ Some (s.name, rows_of_walk s (at nothing_held 1 false) ws)
  inside = rw f refl

-- what clap makes of words after a name
pub record Behaves (word : Text) (s : Shape) : Type 0 where
  pub faults : (program : Text) (ws : List Text) → fault_of the_app (program ∷ word ∷ ws) ≡ faults_of s (at nothing_held 1 false) ws
  pub rows : (program : Text) (ws : List Text) → subcommand_of the_app (program ∷ word ∷ ws) ≡ Some (word, rows_of_walk s (at nothing_held 1 false) ws)

module _ (word : Text) (k : CommandKind) (is : kind_named table word ≡ Some k) where
  here : subcommand_met names idle word ≡ Some word
  here = met word table ∙ ap (option_map (λ (x : CommandKind). word)) is

  there : find (λ (x : Shape). answers_to word (label_of x)) (leaves table) ≡ Some (leaf_of (word, k))
  there = found word table ∙ ap (option_map (λ (x : CommandKind). leaf_of (word, x))) is

  pub behaves : Behaves word (leaf_of (word, k))
  behaves = record {
    faults = λ program ws. by_formula program (word ∷ ws) ∙ ap₂ (formula (leaves table)) (whole_walk names word here ws) (whole_fault names word here ws)
        ∙ below (leaves table) word (leaf_of (word, k)) there ws ∙ or_none (faults_of (leaf_of (word, k)) (at nothing_held 1 false) ws);
    rows = λ program ws. by_walk program (word ∷ ws) ∙ ap (λ (v : Walk). entered (with_leaves (leaves table)) v.stopped) (whole_walk names word here ws)
        ∙ inside (leaves table) word (leaf_of (word, k)) there ws
        ∙ ap (λ (l : Text × List Text). Some (l.0, rows_of_walk (leaf_of (word, k)) (at nothing_held 1 false) ws)) (label (form_of k) word);
  }

refused_by : (ks : Kinds) (k : kind.the_data) (more : Kinds) → ks ≡ k ∷ more → IsRefused ks
refused_by ks k more e = λ b. cc

pub no_word : (program : Text) → IsRefused (fault_of the_app (program ∷ []))
unfolding walk_fault defaults_fault
no_word program = refused_by _ kind.MissingSubcommand [] refl

pub nothing : IsRefused (fault_of the_app [])
unfolding walk_fault defaults_fault
nothing = refused_by _ kind.MissingSubcommand [] refl

-- a first word that names no subcommand
top_free : NoOptions top
top_free = record { long = λ name. refl; short = λ c. refl }

module _ (subs : List Shape) (names : Names) (word : Text) (not_met : subcommand_met names idle word ≡ None) where
  abbrev faults : List Text → Kinds
  faults ws = formula subs (walk [] names nothing_held (word ∷ ws)) (walk_fault top names (walk_from nothing_held) (word ∷ ws))

  turn_refused : (ws : List Text) → IsRefused (turn_fault top names (walk_from nothing_held) word) → IsRefused (faults ws)
  unfolding walk_fault
  turn_refused ws h = refused_first _ _ (refused_first _ _ h)

  escape_first : (ws : List Text) → is_escape word ≡ true → IsRefused (faults ws)
  unfolding walk_fault walked defaults_fault
  escape_first [] e = refused_by _ kind.MissingSubcommand [] (rw (not_met, e) refl)
  escape_first (x ∷ xs) e = refused_by _ kind.UnknownArgument (kind.InvalidSubcommand ∷ []) (rw (not_met, e) refl)

  dashed_first : IsUtf8 word → is_escape word ≡ false → is_dashed word ≡ true → IsRefused (turn_fault top names (walk_from nothing_held) word)
  dashed_first u e d =
      refused_first (word_fault top names false idle word nothing_held) _ (refused_by _ kind.UnknownArgument []
      (ap (λ (o : Option Text). other_fault top o word nothing_held) not_met ∙ word_dashed top word nothing_held top_free refl u e d))

  plain_first : is_escape word ≡ false → is_dashed word ≡ false → IsRefused (turn_fault top names (walk_from nothing_held) word)
  plain_first e d = refused_by _ kind.UnknownArgument (kind.InvalidSubcommand ∷ []) (rw (not_met, e, plain_long word d, plain_short word d) refl)

  stray : (ws : List Text) → IsUtf8 word → IsRefused (faults ws)
  stray ws u =
      elim (two_ways (is_escape word)) [
        | inl e ↦ escape_first ws e
        | inr e ↦ elim (two_ways (is_dashed word)) [
          | inl d ↦ turn_refused ws (dashed_first u e d)
          | inr d ↦ turn_refused ws (plain_first e d)
        ]
      ]

pub no_name : (word : Text) → kind_named table word ≡ None → (program : Text) (ws : List Text) → IsUtf8 word → IsRefused (fault_of the_app (program ∷ word ∷ ws))
no_name word none program ws u = stray (leaves table) names word (met word table ∙ ap (option_map (λ (x : CommandKind). word)) none) ws u

pub simple : is_simple_and_free the_app ≡ true
simple = refl

pub simple_too : is_simple the_app ≡ true
simple_too = refl
