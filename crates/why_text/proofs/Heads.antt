-- What a line is, by its form.
use Rattle.std.proofs.Common.{◌≡◌, ◌+◌, ◌≤◌, Bool, true, false, not, cond, ◌||◌, ◌&&◌, List, [], ◌∷◌, length, refl, sym, ap, arith, ◌∙◌, if◌then◌else◌}
use Rattle.std.specs.Prelude.{Some, None, codes}
use Rattle.std.specs.List.{list_any, position_or_len}
use Rattle.std.specs.Str.{bytes_eq}
use Rattle.std.proofs.lemmas.List.{take_all}
use Rattle.std.proofs.lemmas.Slice.Eq.{bytes_eq-Decides}
use Rattle.syn_base.specs.Bytes.{Bytes}
use Rattle.macro_code.specs.Macros.{word_of}
use Rattle.macro_code.specs.declared.macros.Macro.{Macro}
use Rattle.macro_code.specs.declared.macros.Macro.TheVariants as macro
use Rattle.macro_code.specs.Forms.{
  Form,
  after,
  bare,
  before,
  call,
  call_form,
  form_of,
  found_in,
  has_bytes,
  inside,
  is_closed,
  is_open,
  is_semicolon,
  is_unmarked,
  list_form,
  listed,
  lists_form,
  macro_of,
  macros,
  may_name,
  name_form,
  op_form,
  operation_form,
  word_form,
}
use Rattle.why_text.specs.declared.lines.Head.{Head}
use Rattle.why_text.specs.declared.lines.Head.TheVariants.{Begin, Loop, Instruction, EndThread, EndMain, Other}
use Rattle.why_text.specs.Lines.{head_in, head_of}

abbrev pub head_of_macro : Macro → Head
head_of_macro macro.Processor = Other
head_of_macro macro.Semaphores = Other
head_of_macro macro.Alloc = Other
head_of_macro macro.Thread = Begin
head_of_macro macro.EndThread = EndThread
head_of_macro macro.Main = Begin
head_of_macro macro.EndMain = EndMain
head_of_macro macro.SpawnThread = Other
head_of_macro macro.WaitEndThread = Other
head_of_macro macro.Loop = Loop
head_of_macro macro.EndLoop = Other
head_of_macro macro.Suc0 = Instruction
head_of_macro macro.Suc1 = Instruction
head_of_macro macro.Pre0 = Instruction
head_of_macro macro.Pre1 = Instruction
head_of_macro macro.Send = Instruction
head_of_macro macro.Recv = Instruction
head_of_macro macro.Sync = Instruction

head_of_word : (m : Macro) → head_of (word_of m) ≡ head_of_macro m
head_of_word macro.Processor = refl
head_of_word macro.Semaphores = refl
head_of_word macro.Alloc = refl
head_of_word macro.Thread = refl
head_of_word macro.EndThread = refl
head_of_word macro.Main = refl
head_of_word macro.EndMain = refl
head_of_word macro.SpawnThread = refl
head_of_word macro.WaitEndThread = refl
head_of_word macro.Loop = refl
head_of_word macro.EndLoop = refl
head_of_word macro.Suc0 = refl
head_of_word macro.Suc1 = refl
head_of_word macro.Pre0 = refl
head_of_word macro.Pre1 = refl
head_of_word macro.Send = refl
head_of_word macro.Recv = refl
head_of_word macro.Sync = refl

-- a macro that is found has the name by which it was found
word_found : (ms : List Macro) (name : Bytes) (m : Macro) → found_in ms name ≡ Some m → name ≡ word_of m
word_found [] name m e = absurd cc
word_found (k ∷ ms) name m e = by (bytes_eq name (word_of k)) refl e (λ f. word_found ms name m f)
  where
    by : (b : Bool) → bytes_eq name (word_of k) ≡ b → (if b then Some k else found_in ms name) ≡ Some m
        → (found_in ms name ≡ Some m → name ≡ word_of m) → name ≡ word_of m
    by true h e more = let same : k ≡ m = cc in (bytes_eq-Decides name (word_of k)).0 h ∙ ap word_of same
    by false h e more = more e

pub macro_head : (name : Bytes) (m : Macro) → macro_of name ≡ Some m → head_of name ≡ head_of_macro m
unfolding macro_of
macro_head name m e = ap head_of (word_found macros name m e) ∙ head_of_word m

abbrev pub head_of_form : Form → Head
head_of_form (bare name) = head_of name
head_of_form (listed name list) = head_of name
head_of_form (call operation ins outs) = Instruction

-- a word without an opening parenthesis
none_open : (w : Bytes) → list_any is_open w ≡ false → length w ≤ position_or_len is_open w
none_open [] e = omega arith
none_open (b ∷ w) e = by (is_open b) e (λ f. none_open w f)
  where
    by : (t : Bool) → (t || list_any is_open w) ≡ false → (list_any is_open w ≡ false → length w ≤ position_or_len is_open w)
        → length (b ∷ w) ≤ cond (not t) (1 + position_or_len is_open w) 0
    by true e more = absurd cc
    by false e more = let l = more e in omega arith

unopened : (w : Bytes) → list_any is_open w ≡ false → before is_open w ≡ w
unopened w e = take_all (position_or_len is_open w) w (none_open w e)

some_if : {A : Type 0} (b : Bool) (x y : A) → (if b then Some x else None) ≡ Some y → x ≡ y
some_if true x y e = cc
some_if false x y e = absurd cc

word_head : (w : Bytes) (f : Form) → word_form w ≡ Some f → head_of (before is_open w) ≡ head_of_form f
word_head w f e = by (list_any is_open w) refl e
  where
    by : (b : Bool) → list_any is_open w ≡ b → (if b then list_form (before is_open w) (after is_open w) else name_form w) ≡ Some f → head_of (before is_open w) ≡ head_of_form f
    by true h e =
        let same = some_if (may_name (before is_open w) && is_closed (after is_open w) && is_unmarked (inside (after is_open w)))
        (listed (before is_open w) (inside (after is_open w))) f e in
        ap head_of_form same
    by false h e = ap head_of (unopened w h) ∙ ap head_of_form (some_if (may_name w) (bare w) f e)

lists_head : (operation lists : Bytes) (f : Form) → lists_form operation lists ≡ Some f → head_of_form f ≡ Instruction
lists_head operation lists f e =
    sym (ap head_of_form (some_if (list_any is_semicolon lists && is_unmarked (before is_semicolon lists) && is_unmarked (after is_semicolon lists))
    (call operation (before is_semicolon lists) (after is_semicolon lists)) f e))

operation_head : (operation rest : Bytes) (f : Form) → operation_form operation rest ≡ Some f → head_of_form f ≡ Instruction
operation_head operation rest f e = by (has_bytes operation && is_unmarked operation && is_closed rest) e
  where
    by : (b : Bool) → (if b then lists_form operation (inside rest) else None) ≡ Some f → head_of_form f ≡ Instruction
    by true e = lists_head operation (inside rest) f e
    by false e = absurd cc

call_head : (w : Bytes) (f : Form) → call_form w ≡ Some f → head_of_form f ≡ Instruction
call_head w f e = by (list_any is_open w) e
  where
    by : (b : Bool) → (if b then operation_form (before is_open w) (after is_open w) else None) ≡ Some f → head_of_form f ≡ Instruction
    by true e = operation_head (before is_open w) (after is_open w) f e
    by false e = absurd cc

op_head : (o w : Bytes) (f : Form) → op_form o w ≡ Some f → head_of (before is_open o) ≡ head_of_form f
op_head o w f e = by (bytes_eq o (codes "op")) refl e
  where
    by : (b : Bool) → bytes_eq o (codes "op") ≡ b → (if b then call_form w else None) ≡ Some f → head_of (before is_open o) ≡ head_of_form f
    by true h e = ap (λ (v : Bytes). head_of (before is_open v)) ((bytes_eq-Decides o (codes "op")).0 h) ∙ sym (call_head w f e)
    by false h e = absurd cc

pub form_head : (ws : List Bytes) (f : Form) → form_of ws ≡ Some f → head_in ws ≡ head_of_form f
form_head [] f e = absurd cc
form_head (w ∷ []) f e = word_head w f e
form_head (o ∷ w ∷ []) f e = op_head o w f e
form_head (o ∷ w ∷ v ∷ ws) f e = absurd cc
