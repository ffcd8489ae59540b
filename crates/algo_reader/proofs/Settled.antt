-- Between definitions, the block that has ended says nothing of what follows.
use Rattle.std.proofs.Common.{
  ◌≡◌,
  ℕ,
  ◌+◌,
  ◌==◌,
  Bool,
  not,
  ◌||◌,
  nat_lt,
  true,
  false,
  cond,
  Option,
  Some,
  None,
  List,
  [],
  ◌∷◌,
  ◌++◌,
  length,
  drop,
  Result,
  Ok,
  Err,
  refl,
  ap,
  sym,
  ◌∙◌,
  subst,
  ℤ,
  codes,
}
use Rattle.syn_base.specs.Name.{is_name}
use Rattle.std.specs.Str.{bytes_eq}
use Rattle.text_lines.specs.Text.{words_of, code_of, foreign_place, word, begins}
use Rattle.algo_text.specs.declared.definition.Body.{Body}
use Rattle.algo_text.specs.declared.definition.Body.TheVariants.{Sensor, Actuator, Constant, Delay}
use Rattle.algo_text.specs.declared.definition.Defs.{Defs}
use Rattle.syn_base.specs.Bytes.{Bytes}
use Rattle.algo_text.specs.Among.{is_among}
use Rattle.algo_text.specs.Words.{count_of}
use Rattle.syn_base.specs.declared.limits.LimitKind.TheVariants.{PortLength}
use Rattle.algo_text.specs.declared.part.Part.TheVariants.{Inputs}
use Rattle.algo_text.specs.Blocks.{Block, new_block}
use Rattle.algo_text.specs.Text.{
  Stage,
  before_version,
  between,
  in_function,
  in_graph,
  in_switch,
  in_repeat,
  Reading,
  numbers_of,
  defined,
  end_line,
  values_line,
  deep_delay,
  deep_line,
  delay_line,
  between_line,
  by_stage,
  next_line,
  line_by,
  rest_of,
}
use Rattle.text_lines.specs.Refusals.{is_above, and_then, with_some, Refused, Limit, Fails, Steps}
use Rattle.text_lines.specs.declared.fault.TextError.TheVariants as error
use Rattle.algo_text.specs.Refusals.{AlgoError, AlgoRefusal}
use Rattle.algo_reader.specs.declared.reader.Reader.{Reader}
use Rattle.algo_reader.specs.declared.reader.Place.{Place}
use Rattle.algo_reader.specs.declared.reader.Place.TheVariants.{BeforeVersion, Between, InFunction, InGraph, InSwitch, InRepeat}
use Rattle.algo_reader.specs.Views.{reading, settled, settle, open_at, stage_of, block_of}

-- two answers are the same but for a block that has ended
record Same (x y : Result Reading AlgoRefusal) : Type 0 where
  is : settle x ≡ settle y

alike : (x : Result Reading AlgoRefusal) → Same x x
alike x = record { is = refl }

same_if : (c : Bool) (x y v w : Result Reading AlgoRefusal) → Same x v → Same y w → Same (cond c x y) (cond c v w)
same_if true x y v w first second = first
same_if false x y v w first second = second

same_some : {A : Type 0} (o : Option A) (missing : Result Reading AlgoRefusal) (go on : A → Result Reading AlgoRefusal)
    → ((x : A) → Same (go x) (on x)) → Same (with_some o missing go) (with_some o missing on)
same_some (Some x) missing go on each = each x
same_some None missing go on each = alike missing

same_then : {A : Type 0} (r : Result A AlgoRefusal) (go on : A → Result Reading AlgoRefusal) → ((x : A) → Same (go x) (on x)) → Same (and_then r go) (and_then r on)
same_then (Ok x) go on each = each x
same_then (Err e) go on each = alike (Err e)

abbrev with_block : Reading → Block → Reading
with_block r b = record r { block = b }

open_same : (s : Stage) (a b : Block) → s ≡ between → open_at s a ≡ open_at s b
open_same before_version a b h = cc
open_same between a b h = refl
open_same in_function a b h = cc
open_same in_graph a b h = cc
open_same in_switch a b h = cc
open_same in_repeat a b h = cc

module _ (r : Reading) (b : Block) (h : r.stage ≡ between) (n : ℕ) where
  same_defined : (w : Bytes) (body : Body) → Same (defined r n w body) (defined (with_block r b) n w body)
  same_defined w body = same_if (is_among w r.names) _ _ _ _ (alike _)
      (record { is = ap (λ (k : Block). Ok (record r { names = r.names ++ w ∷ []; defs = r.defs ++ record { name = w; line = n; body = body } ∷ []; block = k })) (open_same r.stage r.block b h) })

  same_end : (body : ℕ → Body) (ws : List Bytes) → Same (end_line body r n ws) (end_line body (with_block r b) n ws)
  same_end body ws = same_if (not (length ws == 3)) _ _ _ _ (alike _) (same_if (is_name (word ws 1)) _ _ _ _
      (same_some (count_of (word ws 2)) _ _ _ (λ len. same_if (is_above PortLength len) _ _ _ _ (alike _) (same_defined (word ws 1) (body len)))) (alike _))

  same_values : (body : List ℤ → Body) (ws : List Bytes) → Same (values_line body r n ws) (values_line body (with_block r b) n ws)
  same_values body ws = same_if (nat_lt (length ws) 4 || not (bytes_eq (word ws 2) (codes "="))) _ _ _ _ (alike _) (same_if (is_name (word ws 1)) _ _ _ _
      (same_then (numbers_of n (drop 3 ws)) _ _ (λ values. same_if (is_above PortLength (length values)) _ _ _ _ (alike _) (same_defined (word ws 1) (body values)))) (alike _))

  same_deep : (ws : List Bytes) → Same (deep_line r n ws) (deep_line (with_block r b) n ws)
  same_deep ws = same_if (nat_lt (length ws) 5 || not (bytes_eq (word ws 3) (codes "="))) _ _ _ _ (alike _) (same_if (is_name (word ws 1)) _ _ _ _
      (same_some (count_of (word ws 2)) _ _ _ (λ depth. same_then (numbers_of n (drop 4 ws)) _ _ (λ values.
      same_then (deep_delay n depth values) _ _ (same_defined (word ws 1))))) (alike _))

  same_delay : (ws : List Bytes) → Same (delay_line r n ws) (delay_line (with_block r b) n ws)
  same_delay ws = same_if (r.version == 1) _ _ _ _ (same_values (Delay 1) ws) (same_deep ws)

  same_between : (ws : List Bytes) → Same (between_line r n ws) (between_line (with_block r b) n ws)
  same_between ws =
      same_if (begins ws (codes "sensor")) _ _ _ _ (same_end Sensor ws)
      (same_if (begins ws (codes "actuator")) _ _ _ _ (same_end Actuator ws)
      (same_if (begins ws (codes "constant")) _ _ _ _ (same_values Constant ws)
      (same_if (begins ws (codes "delay")) _ _ _ _ (same_delay ws)
      (same_if (begins ws (codes "function")) _ _ _ _ (alike _)
      (same_if (begins ws (codes "graph")) _ _ _ _ (alike _)
      (same_if (begins ws (codes "switch")) _ _ _ _ (alike _)
      (same_if (begins ws (codes "repeat")) _ _ _ _ (alike _) (alike _))))))))

  same_stage : (s : Stage) (ws : List Bytes) (code : Bytes) → s ≡ between → Same (by_stage s r n ws code) (by_stage s (with_block r b) n ws code)
  same_stage before_version ws code e = cc
  same_stage between ws code e = same_between ws
  same_stage in_function ws code e = cc
  same_stage in_graph ws code e = cc
  same_stage in_switch ws code e = cc
  same_stage in_repeat ws code e = cc

  same_line : (o : Option ℕ) (line : Bytes) → Same (line_by r n line o) (line_by (with_block r b) n line o)
  same_line (Some place) line = alike _
  same_line None line = same_if (length (words_of (code_of line)) == 0) _ _ _ _
      (record { is = ap (λ (k : Block). Ok (record r { block = k })) (open_same r.stage r.block b h) })
      (same_stage r.stage (words_of (code_of line)) (code_of line) h)

  same_next : (line : Bytes) → Same (next_line r n line) (next_line (with_block r b) n line)
  same_next line = same_line (foreign_place line) line

-- this many lines on, the block that has ended says nothing
abbrev Forgets : List Bytes → Type 0
Forgets lines = (r : Reading) (b : Block) (n : ℕ) → r.stage ≡ between → rest_of r n lines ≡ rest_of (with_block r b) n lines

settled_at : (lines : List Bytes) → Forgets lines → (r : Reading) (n : ℕ) (s : Stage) → r.stage ≡ s → rest_of r n lines ≡ rest_of (record r { block = open_at s r.block }) n lines
settled_at lines forgets r n before_version h = refl
settled_at lines forgets r n between h = forgets r (new_block Inputs [] 0) n h
settled_at lines forgets r n in_function h = refl
settled_at lines forgets r n in_graph h = refl
settled_at lines forgets r n in_switch h = refl
settled_at lines forgets r n in_repeat h = refl

settled_rest : (lines : List Bytes) → Forgets lines → (r : Reading) (n : ℕ) → rest_of r n lines ≡ rest_of (settled r) n lines
settled_rest lines forgets r n = settled_at lines forgets r n r.stage refl

abbrev after_line : ℕ → List Bytes → Result Reading AlgoRefusal → Result Defs AlgoRefusal
after_line n lines x = and_then x (λ after. rest_of after n lines)

same_after : (lines : List Bytes) → Forgets lines → (n : ℕ) (x y : Result Reading AlgoRefusal) → settle x ≡ settle y → after_line n lines x ≡ after_line n lines y
same_after lines forgets n (Ok r) (Ok s) h =
    let same : settled r ≡ settled s = cc in
    settled_rest lines forgets r n ∙ ap (λ (q : Reading). rest_of q n lines) same ∙ sym (settled_rest lines forgets s n)
same_after lines forgets n (Ok r) (Err e) h = cc
same_after lines forgets n (Err e) (Ok s) h = cc
same_after lines forgets n (Err e) (Err f) h = let same : e ≡ f = cc in ap (λ (g : AlgoRefusal). Err g) same

forgets_all : (lines : List Bytes) → Forgets lines
forgets_all [] r b n h = refl
forgets_all (line ∷ lines) r b n h = same_after lines (λ s c k e. forgets_all lines s c k e) (n + 1) (next_line r n line) (next_line (with_block r b) n line) (same_next r b h n line).is

read_after : (lines : List Bytes) (n : ℕ) (x : Result Reading AlgoRefusal) (new : Reading) → settle x ≡ Ok new → after_line n lines x ≡ rest_of new n lines
read_after lines n (Ok r) new h = let same : settled r ≡ new = cc in settled_rest lines (forgets_all lines) r n ∙ ap (λ (q : Reading). rest_of q n lines) same
read_after lines n (Err e) new h = cc

-- One line more.
pub line_read : (r new : Reading) (n : ℕ) (line : Bytes) (all lines : List Bytes) → all ≡ line ∷ lines → settle (next_line r n line) ≡ Ok new → rest_of r n all ≡ rest_of new (n + 1) lines
line_read r new n line all lines e is = ap (λ (l : List Bytes). rest_of r n l) e ∙ read_after lines (n + 1) (next_line r n line) new is

fails_after : (e : AlgoError) (lines : List Bytes) (n : ℕ) (x : Result Reading AlgoRefusal) → Fails e (settle x) → Fails e (after_line n lines x)
fails_after (error.Refused f) lines n (Ok r) h = cc
fails_after (error.Refused f) lines n (Err e) h = let same : e ≡ Refused f = cc in ap (λ (g : AlgoRefusal). Err g) same
fails_after (error.Limit f) lines n (Ok r) h = cc
fails_after (error.Limit f) lines n (Err e) h = let same : e ≡ Limit f = cc in ap (λ (g : AlgoRefusal). Err g) same
fails_after error.OutOfMemory lines n x h = tt

-- A line that is refused.
pub line_refused : (e : AlgoError) (r : Reading) (n : ℕ) (line : Bytes) (all lines : List Bytes) (whole : Result Defs AlgoRefusal)
    → all ≡ line ∷ lines → Fails e (settle (next_line r n line)) → rest_of r n all ≡ whole → Fails e whole
line_refused e r n line all lines whole is h same =
    subst (λ (x : Result Defs AlgoRefusal). Fails e x) (sym (ap (λ (l : List Bytes). rest_of r n l) is) ∙ same) (fails_after e lines (n + 1) (next_line r n line) h)

open_stays : (p : Place) → open_at (stage_of p) (block_of p) ≡ block_of p
open_stays BeforeVersion = refl
open_stays Between = refl
open_stays (InFunction f) = refl
open_stays (InGraph g) = refl
open_stays (InSwitch s) = refl
open_stays (InRepeat r) = refl

-- What the reader has is settled.
pub reading_settled : (r : Reader) → settled (reading r) ≡ reading r
reading_settled r = ap (λ (k : Block). record (reading r) { block = k }) (open_stays r.place)

fails_settled : (e : AlgoError) (x : Result Reading AlgoRefusal) → Fails e x → Fails e (settle x)
fails_settled (error.Refused f) x h = ap settle h
fails_settled (error.Limit f) x h = ap settle h
fails_settled error.OutOfMemory x h = tt

pub steps_settled : {T : Type 0} (result : Result T AlgoError) (new : Reader) (read : Result Reading AlgoRefusal) → Steps result (reading new) read → Steps result (reading new) (settle read)
steps_settled (Ok x) new read h = ap settle h ∙ ap (λ (q : Reading). Ok q) (reading_settled new)
steps_settled (Err e) new read h = fails_settled e read h
