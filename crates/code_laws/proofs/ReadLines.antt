-- Reading a text line by line: what each printed line says, and texts one after the other.
use Rattle.std.proofs.Common.{subst, ◌≡◌, ℕ, ◌+◌, true, nat_eq, if◌then◌else◌, List, [], ◌∷◌, ◌++◌, length, refl, sym, ap, ◌∙◌, None, Some, Result, Ok, append_assoc}
use Rattle.std.specs.Prelude.{codes, Option}
use Rattle.std.specs.List.{list_all}
use Rattle.text_lines.specs.Text.{lines_of, words_of}
use Rattle.sequence_build_laws.specs.Archi.{Architecture}
use Rattle.macro_code.specs.declared.macros.Macro.{Macro}
use Rattle.macro_code.specs.declared.macros.Macro.TheVariants.{
  Processor,
  Semaphores,
  Alloc,
  Thread,
  EndThread,
  Main,
  EndMain,
  SpawnThread,
  WaitEndThread,
  Loop,
  EndLoop,
  Suc0,
  Suc1,
  Pre0,
  Pre1,
  Send,
  Recv,
  Sync,
}
use Rattle.macro_code.specs.Macros.{word_of}
use Rattle.macro_code.specs.Text.{joined, line, word_line}
use Rattle.macro_code.specs.Refusals.{CodeRefusal}
use Rattle.syn_base.specs.Bytes.{Bytes}
use Rattle.macro_code.specs.Forms.{Form, form_of, macro_of, arguments_of, has_bytes, may_name}
use Rattle.macro_code.specs.ReadText.{Reading, formed, known_macro, placed_line, call_line, line_of, words_line, line_by, next_line, rest_of}
use Rattle.text_lines.specs.Refusals.{and_then}
use Rattle.code_laws.proofs.Bytes as bytes
use Rattle.code_laws.proofs.Bytes.{IsLine, are_plain, last_back, word_back, plain_line}
use Rattle.code_laws.proofs.Forms as forms
use Rattle.code_laws.proofs.Forms.{is_list_byte, is_word_byte, is_argument, arguments_back, joined_bytes, all_of, all_both, list_plain, word_list}

-- the name of a macro is that of this macro alone
record MacroWord (x : Macro) : Type 0 where
  pub back : macro_of (word_of x) ≡ Some x
  pub may : may_name (word_of x) ≡ true
  pub listed : list_all is_list_byte (word_of x) ≡ true
  pub some : has_bytes (word_of x) ≡ true
  pub bare : form_of (word_of x ∷ []) ≡ Some (Rattle.macro_code.specs.Forms.bare (word_of x))

macro_word : (x : Macro) → MacroWord x
unfolding macro_of
macro_word Processor = record { back = refl; may = refl; listed = refl; some = refl; bare = refl }
macro_word Semaphores = record { back = refl; may = refl; listed = refl; some = refl; bare = refl }
macro_word Alloc = record { back = refl; may = refl; listed = refl; some = refl; bare = refl }
macro_word Thread = record { back = refl; may = refl; listed = refl; some = refl; bare = refl }
macro_word EndThread = record { back = refl; may = refl; listed = refl; some = refl; bare = refl }
macro_word Main = record { back = refl; may = refl; listed = refl; some = refl; bare = refl }
macro_word EndMain = record { back = refl; may = refl; listed = refl; some = refl; bare = refl }
macro_word SpawnThread = record { back = refl; may = refl; listed = refl; some = refl; bare = refl }
macro_word WaitEndThread = record { back = refl; may = refl; listed = refl; some = refl; bare = refl }
macro_word Loop = record { back = refl; may = refl; listed = refl; some = refl; bare = refl }
macro_word EndLoop = record { back = refl; may = refl; listed = refl; some = refl; bare = refl }
macro_word Suc0 = record { back = refl; may = refl; listed = refl; some = refl; bare = refl }
macro_word Suc1 = record { back = refl; may = refl; listed = refl; some = refl; bare = refl }
macro_word Pre0 = record { back = refl; may = refl; listed = refl; some = refl; bare = refl }
macro_word Pre1 = record { back = refl; may = refl; listed = refl; some = refl; bare = refl }
macro_word Send = record { back = refl; may = refl; listed = refl; some = refl; bare = refl }
macro_word Recv = record { back = refl; may = refl; listed = refl; some = refl; bare = refl }
macro_word Sync = record { back = refl; may = refl; listed = refl; some = refl; bare = refl }

-- a line of one word
one_word : (w : Bytes) → has_bytes w ≡ true → are_plain w ≡ true → words_of w ≡ w ∷ []
one_word [] s h = cc
one_word (b ∷ bs) s h = last_back b bs h

some_more : (w rest : Bytes) → has_bytes w ≡ true → has_bytes (w ++ rest) ≡ true
some_more [] rest h = cc
some_more (b ∷ bs) rest h = refl

plain_of : (l : Bytes) → list_all is_list_byte l ≡ true → are_plain l ≡ true
plain_of l h = all_of is_list_byte bytes.is_plain list_plain l h

-- what stands between its parentheses is plain too
enclosed : (w list : Bytes) → list_all is_list_byte w ≡ true → list_all is_list_byte list ≡ true → are_plain (w ++ 40 ∷ (list ++ 41 ∷ [])) ≡ true
enclosed w list h k = all_both bytes.is_plain w (40 ∷ (list ++ 41 ∷ [])) (plain_of w h) (all_both bytes.is_plain list (41 ∷ []) (plain_of list k) refl)

module _ (operations : List Bytes) (a : Architecture) where
  abbrev by_words : Reading → ℕ → List Bytes → Result Reading CodeRefusal
  by_words r n ws = if nat_eq (length ws) 0 then Ok r else words_line operations a r n ws

  words_read : (r : Reading) (n : ℕ) (l : Bytes) (ws : List Bytes) → IsLine l → words_of l ≡ ws → next_line operations a r n l ≡ by_words r n ws
  words_read r n l ws is w =
      ap (line_by operations a r n l) is.own ∙ ap (λ (c : Bytes). by_words r n (words_of c)) is.code ∙ ap (by_words r n) w

  -- A text is read from a state at a line, up to a state at a line after it.
  pub record Reads (r : Reading) (n : ℕ) (t : Bytes) (s : Reading) : Type 0 where
    pub k : ℕ
    pub reads : (more : Bytes) → rest_of operations a r n (lines_of (t ++ more)) ≡ rest_of operations a s k (lines_of more)

  pub nothing : (r : Reading) (n : ℕ) → Reads r n [] r
  nothing r n = record { k = n; reads = λ more. refl }

  pub both : (r s v : Reading) (n : ℕ) (t u : Bytes) (first : Reads r n t s) → Reads s first.k u v → Reads r n (t ++ u) v
  both r s v n t u first second = record {
    k = second.k;
    reads = λ more. ap (λ (l : Bytes). rest_of operations a r n (lines_of l)) (append_assoc t u more) ∙ first.reads (u ++ more) ∙ second.reads more;
  }

  pub another : (r s : Reading) (n : ℕ) (t u : Bytes) → t ≡ u → Reads r n u s → Reads r n t s
  another r s n t u e h = subst (λ (x : Bytes). Reads r n x s) (sym e) h

  line_reads : (r s : Reading) (n : ℕ) (l : Bytes) → IsLine l → next_line operations a r n l ≡ Ok s → Reads r n (l ++ 10 ∷ []) s
  line_reads r s n l is e = record {
    k = n + 1;
    reads = λ more.
        ap (λ (b : Bytes). rest_of operations a r n (lines_of b)) (append_assoc l (10 ∷ []) more)
        ∙ ap (rest_of operations a r n) (is.first more)
        ∙ ap (λ (read : Result Reading CodeRefusal). and_then read (λ after. rest_of operations a after (n + 1) (lines_of more))) e;
  }

  -- a macro without arguments
  pub bare_reads : (r s : Reading) (n : ℕ) (x : Macro) → placed_line a r n None x ≡ Ok s → Reads r n (word_line x) s
  bare_reads r s n x e =
      let m = macro_word x in
      let w = word_of x in
      let flat = plain_of w m.listed in
      line_reads r s n w (bytes.line w (plain_line w flat))
      (words_read r n w (w ∷ []) (bytes.line w (plain_line w flat)) (one_word w m.some flat)
      ∙ ap (λ (o : Option Form). and_then (formed n o) (line_of operations a r n)) m.bare
      ∙ ap (λ (o : Option Macro). and_then (known_macro n w o) (placed_line a r n None)) m.back
      ∙ e)

  -- and with arguments
  pub macro_reads : (r s : Reading) (n : ℕ) (x : Macro) (arguments : List Bytes) → list_all is_argument arguments ≡ true → placed_line a r n (Some arguments) x ≡ Ok s
      → Reads r n (line x arguments) s
  macro_reads r s n x arguments h e =
      let m = macro_word x in
      let list = joined arguments in
      let list_bytes = joined_bytes arguments h in
      let l = word_of x ++ 40 ∷ (list ++ 41 ∷ []) in
      let flat = enclosed (word_of x) list m.listed list_bytes in
      let is = bytes.line l (plain_line l flat) in
      another r s n (line x arguments) (l ++ 10 ∷ [])
      (sym (append_assoc (word_of x) (40 ∷ (list ++ 41 ∷ [])) (10 ∷ []) ∙ ap (λ (t : Bytes). word_of x ++ 40 ∷ t) (append_assoc list (41 ∷ []) (10 ∷ []))))
      (line_reads r s n l is
      (words_read r n l (l ∷ []) is (one_word l (some_more (word_of x) (40 ∷ (list ++ 41 ∷ [])) m.some) flat)
      ∙ ap (λ (o : Option Form). and_then (formed n o) (line_of operations a r n)) (forms.listed_back (word_of x) list m.may m.listed list_bytes)
      ∙ ap (λ (o : Option Macro). and_then (known_macro n (word_of x) o) (placed_line a r n (Some (arguments_of list)))) m.back
      ∙ ap (λ (ws : List Bytes). placed_line a r n (Some ws) x) (arguments_back arguments h)
      ∙ e))

  -- an operation
  abbrev pub operation_text : Bytes → List Bytes → List Bytes → Bytes
  operation_text name ins outs = codes "op " ++ (name ++ (codes "(" ++ (joined ins ++ (codes ";" ++ (joined outs ++ codes ")\n")))))

  call_by : (r s : Reading) (n : ℕ) (b : ℕ) (bs : Bytes) (ins outs : List Bytes) → list_all is_list_byte (b ∷ bs) ≡ true → list_all is_argument ins ≡ true → list_all is_argument outs ≡ true
      → call_line operations r n (b ∷ bs) ins outs ≡ Ok s → Reads r n (operation_text (b ∷ bs) ins outs) s
  call_by r s n b bs ins outs h i o e =
      let name = b ∷ bs in
      let read_bytes = joined_bytes ins i in
      let write_bytes = joined_bytes outs o in
      let closing = joined outs ++ 41 ∷ [] in
      let w = name ++ 40 ∷ (joined ins ++ 59 ∷ closing) in
      let l = codes "op " ++ w in
      let flat : are_plain w ≡ true =
      all_both bytes.is_plain name (40 ∷ (joined ins ++ 59 ∷ closing)) (plain_of name h)
      (all_both bytes.is_plain (joined ins) (59 ∷ closing) (plain_of (joined ins) read_bytes) (all_both bytes.is_plain (joined outs) (41 ∷ []) (plain_of (joined outs) write_bytes) refl)) in
      let is : IsLine l = bytes.line l (plain_line w flat) in
      let same : (name ++ 40 ∷ (joined ins ++ 59 ∷ closing)) ++ 10 ∷ [] ≡ name ++ 40 ∷ (joined ins ++ 59 ∷ (joined outs ++ 41 ∷ 10 ∷ [])) =
      append_assoc name (40 ∷ (joined ins ++ 59 ∷ closing)) (10 ∷ [])
      ∙ ap (λ (t : Bytes). name ++ 40 ∷ t) (append_assoc (joined ins) (59 ∷ closing) (10 ∷ []) ∙ ap (λ (t : Bytes). joined ins ++ 59 ∷ t) (append_assoc (joined outs) (41 ∷ []) (10 ∷ []))) in
      another r s n (operation_text name ins outs) (l ++ 10 ∷ []) (ap (λ (t : Bytes). codes "op " ++ t) (sym same))
      (line_reads r s n l is
      (words_read r n l (codes "op" ∷ w ∷ []) is (word_back 111 (112 ∷ []) w refl ∙ ap (λ (ws : List Bytes). codes "op" ∷ ws) (last_back b (bs ++ 40 ∷ (joined ins ++ 59 ∷ closing)) flat))
      ∙ ap (λ (f : Option Form). and_then (formed n f) (line_of operations a r n)) (forms.call_back b bs (joined ins) (joined outs) h read_bytes write_bytes)
      ∙ ap (λ (ws : List Bytes). call_line operations r n name ws (arguments_of (joined outs))) (arguments_back ins i)
      ∙ ap (call_line operations r n name ins) (arguments_back outs o)
      ∙ e))

  pub call_reads : (r s : Reading) (n : ℕ) (name : Bytes) (ins outs : List Bytes) → is_argument name ≡ true → list_all is_argument ins ≡ true → list_all is_argument outs ≡ true
      → call_line operations r n name ins outs ≡ Ok s → Reads r n (operation_text name ins outs) s
  call_reads r s n [] ins outs h i o e = cc
  call_reads r s n (b ∷ bs) ins outs h i o e = call_by r s n b bs ins outs (all_of is_word_byte is_list_byte word_list (b ∷ bs) h) i o e
