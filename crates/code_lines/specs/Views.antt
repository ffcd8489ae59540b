-- What contracts see of the values of a line, and what its words give.
use Rattle.std.specs.Prelude.{
  ◌≡◌,
  ◌<◌,
  ℕ,
  Bool,
  true,
  false,
  ◌||◌,
  List,
  [],
  ◌∷◌,
  length,
  map,
  Option,
  Some,
  None,
  Result,
  Ok,
  Err,
}
use Rattle.std.specs.List.{list_any}
use Rattle.std.specs.Global.{Vec}
use Rattle.std.specs.Borrow.{Bor}
use Rattle.code_lines.specs.declared.form.Form as declared_form
use Rattle.code_lines.specs.declared.form.Form.TheVariants as read
use Rattle.macro_code.specs.Refusals.{CodeError, CodeRefusal}
use Rattle.text_lines.specs.declared.fault.TextError.TheVariants.{Refused, Limit, OutOfMemory}
use Rattle.code_lines.specs.declared.arguments.Declaration as declared_declaration
use Rattle.code_lines.specs.declared.known.Joined as declared_joined
use Rattle.code_lines.specs.declared.instruction.Moved as declared_moved
use Rattle.code_lines.specs.declared.instruction.Ends as declared_ends
use Rattle.executive_program.specs.declared.program.Instr.{Instr}
use Rattle.executive_program.specs.declared.program.Instr.TheVariants as instr
use Rattle.code_lines.specs.declared.written.Written.{Written}
use Rattle.code_lines.specs.declared.written.Written.TheVariants as written
use Rattle.code_lines.specs.declared.instruction.Operation.{Operation}
use Rattle.text_lines.specs.Text as text
use Rattle.text_lines.specs.Text.{is_foreign, is_hash, words_of}
use Rattle.code_lines.specs.declared.word.LineWords.{LineWords}
use Rattle.code_lines.specs.declared.word.LineWords.TheVariants as told
use Rattle.syn_base.specs.Bytes.{Bytes}
use Rattle.macro_code.specs.Forms.{
  Form,
  arguments_of,
  bare,
  listed,
  call,
  before,
  after,
  inside,
  is_closed,
  Declaration,
}
use Rattle.text_lines.specs.Refusals.{Fails}
use Rattle.macro_code.specs.ReadText.{Two, Joined, Moved, Ends, call_of}

-- a text is cut at the first byte that passes
pub record IsCut (test : ℕ → Bool) (text first rest : Bytes) : Type 0 where
  pub some : list_any test text ≡ true
  pub first_is : first ≡ before test text
  pub rest_is : rest ≡ after test text

-- what stands before the first byte that passes, and what stands after it, if one passes
abbrev pub IsCutAt : (ℕ → Bool) → Option (Bor Bytes × Bor Bytes) → Bytes → Type 0
IsCutAt test None text = list_any test text ≡ false
IsCutAt test (Some p) text = IsCut test text p.0.now p.1.now

-- what stands before a closing parenthesis at the end
abbrev pub IsInside : Option (Bor Bytes) → Bytes → Type 0
IsInside None text = is_closed text ≡ false
IsInside (Some x) text = (is_closed text ≡ true) × (x.now ≡ inside text)

-- a comment begins there, or the byte may not stand in a line
abbrev pub is_stop : ℕ → Bool
is_stop b = is_hash b || is_foreign b

-- a line up to its comment, unless a byte stands there that may not stand in a line
abbrev pub IsClean : Option (Bor Bytes) → Bytes → Type 0
IsClean None line = list_any is_foreign (text.code_of line) ≡ true
IsClean (Some code) line = (code.now ≡ text.code_of line) × (list_any is_foreign (text.code_of line) ≡ false)

-- a word, two words and several words
abbrev pub IsWord : Option (Bor Bytes) → Option Bytes → Type 0
IsWord None asked = asked ≡ None
IsWord (Some w) asked = asked ≡ Some w.now

-- a word, if there is one, unless memory ran out
abbrev pub HasWord : Result (Option (Bor Bytes)) CodeError → Option Bytes → Type 0
HasWord (Ok w) asked = IsWord w asked
HasWord (Err OutOfMemory) asked = Unit {0}
HasWord (Err (Refused f)) asked = ⊥
HasWord (Err (Limit f)) asked = ⊥

-- the first word of a text, and what stands after it, if there is a word
abbrev pub IsFirstWord : Option (Bor Bytes × Bor Bytes) → Bytes → Type 0
IsFirstWord None text = words_of text ≡ []
IsFirstWord (Some p) text = words_of text ≡ p.0.now ∷ words_of p.1.now

-- the words of a line, which are given where there are no more than two
abbrev pub AreWords : LineWords → List Bytes → Type 0
AreWords told.Blank ws = ws ≡ []
AreWords (told.One w) ws = ws ≡ w.now ∷ []
AreWords (told.Two w v) ws = ws ≡ w.now ∷ v.now ∷ []
AreWords told.Many ws = 2 < length ws

-- What was found is what is asked for: the same two arguments, or none.
abbrev pub AreTwo : Option (Bor Bytes × Bor Bytes) → Option Two → Type 0
AreTwo None asked = asked ≡ None
AreTwo (Some p) asked = asked ≡ Some (record { first = p.0.now; second = p.1.now })

abbrev pub texts_of : List (Bor Bytes) → List Bytes
texts_of ws = map (λ w. w.now) ws

-- A form that the code has found is this form of the definition, with the same bytes.
abbrev pub form_view : declared_form.Form → Form
form_view (read.Bare name) = bare name.now
form_view (read.Listed name list) = listed name.now list.now
form_view (read.Call operation ins outs) = call operation.now ins.now outs.now

-- What was found is what is asked for: the same form, or none.
abbrev pub IsForm : Option declared_form.Form → Option Form → Type 0
IsForm None asked = asked ≡ None
IsForm (Some f) asked = asked ≡ Some (form_view f)

-- an instruction
abbrev pub instr_of : Written → Instr
instr_of (written.Suc0 q) = instr.Suc0 q
instr_of (written.Suc1 q) = instr.Suc1 q
instr_of (written.Pre0 q) = instr.Pre0 q
instr_of (written.Pre1 q) = instr.Pre1 q
instr_of (written.Call v ins outs) = instr.Call v ins outs
instr_of (written.Send b o) = instr.Send b o
instr_of (written.Recv b o) = instr.Recv b o
instr_of (written.Sync o r) = instr.Sync o r

-- these words, unless memory ran out
abbrev pub HasWords : Result (Vec (Bor (List ℕ))) CodeError → List Bytes → Type 0
HasWords (Ok v) ws = texts_of v.items ≡ ws
HasWords (Err OutOfMemory) ws = Unit {0}
HasWords (Err (Refused f)) ws = ⊥
HasWords (Err (Limit f)) ws = ⊥

-- these numbers, if each word gives one, unless memory ran out
abbrev pub HasNumbers : Result (Option (Vec ℕ)) CodeError → Option (List ℕ) → Type 0
HasNumbers (Ok None) asked = asked ≡ None
HasNumbers (Ok (Some v)) asked = asked ≡ Some v.items
HasNumbers (Err OutOfMemory) asked = Unit {0}
HasNumbers (Err (Refused f)) asked = ⊥
HasNumbers (Err (Limit f)) asked = ⊥

-- an operation, as its line has it
abbrev pub call_in : List Bytes → ℕ → List ℕ → Operation → Result Instr CodeRefusal
call_in operations line here o =
    call_of operations line here o.name.now (arguments_of o.ins.now) (arguments_of o.outs.now)

-- A declaration that the code has read is this one of the definition, with the same numbers.
abbrev pub declaration_view : declared_declaration.Declaration → Declaration
declaration_view d = record { number = d.number; len = d.len; depth = d.depth }

abbrev pub IsDeclaration : Option declared_declaration.Declaration → Option Declaration → Type 0
IsDeclaration None asked = asked ≡ None
IsDeclaration (Some d) asked = asked ≡ Some (declaration_view d)

-- the word, the medium, the transfer and the operators of a line, or its refusal
abbrev pub GivesWord : Result (Bor (List ℕ)) CodeError → Result Bytes CodeRefusal → Type 0
GivesWord (Ok w) read = read ≡ Ok w.now
GivesWord (Err e) read = Fails e read

-- The medium that was read, with its word, is the one that is defined; an error is the
-- refusal that is defined, or want of memory.
abbrev pub GivesJoined : Result declared_joined.Joined CodeError → Result Joined CodeRefusal → Type 0
GivesJoined (Ok j) read = read ≡ Ok (record { word = j.word.now; medium = j.medium })
GivesJoined (Err e) read = Fails e read

-- The buffer and the operator that were read are those that are defined; an error is
-- the refusal that is defined, or want of memory.
abbrev pub GivesMoved : Result declared_moved.Moved CodeError → Result Moved CodeRefusal → Type 0
GivesMoved (Ok m) read = read ≡ Ok (record { buffer = m.buffer; operator = m.operator })
GivesMoved (Err e) read = Fails e read

-- The two operators that were read are those that are defined; an error is the refusal
-- that is defined, or want of memory.
abbrev pub GivesEnds : Result declared_ends.Ends CodeError → Result Ends CodeRefusal → Type 0
GivesEnds (Ok e) read = read ≡ Ok (record { from = e.from; to = e.to })
GivesEnds (Err e) read = Fails e read

-- the buffer that a line declares, or its refusal
abbrev pub GivesDeclaration : Result declared_declaration.Declaration CodeError → Result Declaration CodeRefusal
    → Type 0
GivesDeclaration (Ok d) read = read ≡ Ok (declaration_view d)
GivesDeclaration (Err e) read = Fails e read

-- the instruction of a line, or its refusal
abbrev pub GivesInstr : Result Written CodeError → Result Instr CodeRefusal → Type 0
GivesInstr (Ok x) read = read ≡ Ok (instr_of x)
GivesInstr (Err e) read = Fails e read
