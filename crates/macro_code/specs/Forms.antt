-- The forms of a line of macro-code, and of its arguments.
use Rattle.std.specs.Prelude.{
  ℕ,
  ◌+◌,
  ◌-◌,
  Bool,
  true,
  false,
  not,
  ◌&&◌,
  ◌||◌,
  ◌==◌,
  if◌then◌else◌,
  nat_le,
  List,
  [],
  ◌∷◌,
  take,
  drop,
  length,
  Option,
  Some,
  None,
  Result,
  Ok,
  Err,
  ℤ,
  pos,
  negsuc,
  codes,
}
use Rattle.std.specs.List.{list_any, position_or_len, slice_split}
use Rattle.std.specs.Str.{bytes_eq}
use Rattle.syn_base.specs.Bytes.{Bytes}
use Rattle.syn_base.specs.Name.{is_name}
use Rattle.syn_base.specs.Integer.{integer_of}
use Rattle.syn_base.specs.declared.integer.NumFault.{NumFault}
use Rattle.macro_code.specs.declared.macros.Macro.{Macro}
use Rattle.macro_code.specs.declared.macros.Macro.TheVariants.{
  Processor,
  Semaphores,
  Alloc,
  Thread,
  EndThread,
  Main,
  EndMain,
  SpawnThread,
  WaitEndThread,
  Loop,
  EndLoop,
  Suc0,
  Suc1,
  Pre0,
  Pre1,
  Send,
  Recv,
  Sync,
}
use Rattle.macro_code.specs.Macros.{word_of}

-- A line: a name alone, a name with what stands between its parentheses, or an operation with what stands there before
-- and after the semicolon.
pub data Form : Type 0 where
  bare : Bytes → Form
  listed : Bytes → Bytes → Form
  call : Bytes → Bytes → Bytes → Form

-- The byte is an opening parenthesis.
abbrev pub is_open : ℕ → Bool
is_open b = b == 40

-- The byte is a semicolon.
abbrev pub is_semicolon : ℕ → Bool
is_semicolon b = b == 59

-- The byte is a comma.
abbrev pub is_comma : ℕ → Bool
is_comma b = b == 44

-- a parenthesis or a semicolon
abbrev pub is_mark : ℕ → Bool
is_mark b = b == 40 || b == 41 || b == 59

-- neither a parenthesis nor a semicolon stands there
abbrev pub is_unmarked : Bytes → Bool
is_unmarked bs = not (list_any is_mark bs)

-- what stands before the first byte that passes, and what stands after it
abbrev pub before : (ℕ → Bool) → Bytes → Bytes
before test bs = take (position_or_len test bs) bs

-- This is what comes after the first byte that passes the test; it is empty if none passes.
abbrev pub after : (ℕ → Bool) → Bytes → Bytes
after test bs = drop (position_or_len test bs + 1) bs

-- the last byte is a closing parenthesis, and what stands before it
abbrev pub is_closed : Bytes → Bool
is_closed bs = bytes_eq (drop (length bs - 1) bs) (codes ")")

-- These are all bytes but the last, which is the closing parenthesis if the text is closed.
abbrev pub inside : Bytes → Bytes
inside bs = take (length bs - 1) bs

-- The text is not empty.
abbrev pub has_bytes : Bytes → Bool
has_bytes [] = false
has_bytes (b ∷ bs) = true

-- the name of a macro; `op` is none
abbrev pub may_name : Bytes → Bool
may_name w = is_name w && not (bytes_eq w (codes "op"))

-- a name and, after its opening parenthesis, what closes
abbrev pub list_form : Bytes → Bytes → Option Form
list_form name rest =
    if may_name name && is_closed rest && is_unmarked (inside rest) then Some (listed name (inside rest)) else None

-- A word has the form of a macro without parentheses if it is a name other than `op`,
-- and otherwise none.
abbrev pub name_form : Bytes → Option Form
name_form w = if may_name w then Some (bare w) else None

-- NAME and NAME(LIST)
abbrev pub word_form : Bytes → Option Form
word_form w = if list_any is_open w then list_form (before is_open w) (after is_open w) else name_form w

-- the two lists of an operation
abbrev pub lists_form : Bytes → Bytes → Option Form
lists_form operation lists =
    if list_any is_semicolon lists && is_unmarked (before is_semicolon lists) && is_unmarked (after is_semicolon lists)
    then Some (call operation (before is_semicolon lists) (after is_semicolon lists)) else None

-- An operation and what comes after its opening parenthesis form a call if the operation is not
-- empty and has no mark, and the rest is closed and has two lists; otherwise there is no form.
abbrev pub operation_form : Bytes → Bytes → Option Form
operation_form operation rest =
    if has_bytes operation && is_unmarked operation && is_closed rest then lists_form operation (inside rest) else None

-- OPERATION(INS;OUTS)
abbrev pub call_form : Bytes → Option Form
call_form w = if list_any is_open w then operation_form (before is_open w) (after is_open w) else None

-- op and OPERATION(INS;OUTS)
abbrev pub op_form : Bytes → Bytes → Option Form
op_form o w = if bytes_eq o (codes "op") then call_form w else None

-- the form of a line with these words
abbrev pub form_of : List Bytes → Option Form
form_of [] = None
form_of (w ∷ []) = word_form w
form_of (o ∷ w ∷ []) = op_form o w
form_of (o ∷ w ∷ v ∷ ws) = None

-- The macros, each once.
abbrev pub macros : List Macro
macros = Processor ∷ Semaphores ∷ Alloc ∷ Thread ∷ EndThread ∷ Main ∷ EndMain ∷ SpawnThread ∷ WaitEndThread ∷ Loop ∷
    EndLoop ∷ Suc0 ∷ Suc1 ∷ Pre0 ∷ Pre1 ∷ Send ∷ Recv ∷ Sync ∷ []

-- the first of these macros that has this name
abbrev pub found_in : List Macro → Bytes → Option Macro
found_in [] name = None
found_in (m ∷ ms) name = if bytes_eq name (word_of m) then Some m else found_in ms name

-- This is the macro of this name, and none if no macro has it.
unfoldable pub macro_of : Bytes → Option Macro
macro_of name = found_in macros name

-- what commas separate; nothing is no argument
abbrev pub arguments_of : Bytes → List Bytes
arguments_of [] = []
arguments_of (b ∷ bs) = slice_split is_comma (b ∷ bs)

-- An integer that was read is this number if it is not negative; a negative one, and a
-- word that is no integer, give none.
abbrev pub natural : Result ℤ NumFault → Option ℕ
natural (Ok (pos n)) = Some n
natural (Ok (negsuc n)) = None
natural (Err e) = None

-- a number from 0 on
abbrev pub number_in : Bytes → Option ℕ
number_in w = natural (integer_of w)

-- b and the number of a buffer
abbrev pub buffer_in : Bytes → Option ℕ
buffer_in [] = None
buffer_in (b ∷ bs) = if b == 98 then number_in bs else None

-- The number is put before the list; the result is none if either of them is.
abbrev pub with_first : Option ℕ → Option (List ℕ) → Option (List ℕ)
with_first None ns = None
with_first (Some n) None = None
with_first (Some n) (Some ns) = Some (n ∷ ns)

-- what each of these words gives, where each gives something
abbrev pub each_in : (Bytes → Option ℕ) → List Bytes → Option (List ℕ)
each_in read [] = Some []
each_in read (w ∷ ws) = with_first (read w) (each_in read ws)

-- A number from `least` to `most` is kept; any other, and none, give none.
abbrev pub from_to : ℕ → ℕ → Option ℕ → Option ℕ
from_to least most None = None
from_to least most (Some n) = if nat_le least n && nat_le n most then Some n else None

-- A number that is not below `least` is kept; a lesser one, and none, give none.
abbrev pub at_least : ℕ → Option ℕ → Option ℕ
at_least least None = None
at_least least (Some n) = if nat_le least n then Some n else None

-- a buffer as its line declares it
pub record Declaration : Type 0 where
  pub number : ℕ
  pub len : ℕ
  pub depth : ℕ

-- A declaration has this number, length and number of places; it is none if any of them is.
abbrev pub declared_by : Option ℕ → Option ℕ → Option ℕ → Option Declaration
declared_by (Some number) (Some len) (Some depth) = Some (record { number = number; len = len; depth = depth })
declared_by (Some number) (Some len) None = None
declared_by (Some number) None depth = None
declared_by None len depth = None

-- bN,LEN and bN,LEN,PLACES
abbrev pub declaration_in : List Bytes → Option Declaration
declaration_in [] = None
declaration_in (b ∷ []) = None
declaration_in (b ∷ l ∷ []) = declared_by (buffer_in b) (at_least 1 (number_in l)) (Some 1)
declaration_in (b ∷ l ∷ d ∷ []) = declared_by (buffer_in b) (at_least 1 (number_in l)) (from_to 2 4 (number_in d))
declaration_in (b ∷ l ∷ d ∷ e ∷ ws) = None
