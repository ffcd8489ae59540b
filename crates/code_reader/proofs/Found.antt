-- A macro is found by its place in the table.
use Rattle.std.proofs.Common.{◌≡◌, ◌↔◌, ℕ, true, cond, List, [], ◌∷◌, map, Some, None, slice_get, refl, sym, ap, ◌∙◌}
use Rattle.std.proofs.lemmas.Slice.Eq.{bytes_eq-Decides}
use Rattle.std.specs.Str.{bytes_eq}
use Rattle.text_lines.proofs.FirstNamed as first
use Rattle.text_lines.proofs.FirstNamed.{first_named}
use Rattle.macro_code.specs.declared.macros.Macro.{Macro}
use Rattle.macro_code.specs.Macros.{word_of}
use Rattle.macro_code.specs.declared.macros.Macro.TheVariants.{
  Processor,
  Semaphores,
  Alloc,
  Thread,
  EndThread,
  Main,
  EndMain,
  SpawnThread,
  WaitEndThread,
  Loop,
  EndLoop,
  Suc0,
  Suc1,
  Pre0,
  Pre1,
  Send,
  Recv,
  Sync,
}
use Rattle.syn_base.specs.Bytes.{Bytes}
use Rattle.macro_code.specs.Forms.{found_in, macro_of, macros}

-- each macro is the first that has its name
named : (m : Macro) → found_in macros (word_of m) ≡ Some m
named Processor = refl
named Semaphores = refl
named Alloc = refl
named Thread = refl
named EndThread = refl
named Main = refl
named EndMain = refl
named SpawnThread = refl
named WaitEndThread = refl
named Loop = refl
named EndLoop = refl
named Suc0 = refl
named Suc1 = refl
named Pre0 = refl
named Pre1 = refl
named Send = refl
named Recv = refl
named Sync = refl

pub found_by_name : (m : Macro) (p : Bytes) → bytes_eq p (word_of m) ≡ true → macro_of p ≡ Some m
unfolding macro_of
found_by_name m p h = ap (found_in macros) ((bytes_eq-Decides p (word_of m)).0 h) ∙ named m

-- the first that has the name
as_first : (ws : List Macro) (p : Bytes) → found_in ws p ≡ first_named word_of ws p
as_first [] p = refl
as_first (w ∷ ws) p = ap (cond (bytes_eq p (word_of w)) (Some w)) (as_first ws p)

-- where one place alone has the name, the macro there is the first that has it
pub found_at : (ws : List Macro) (p : Bytes) (names : List Bytes) (place : ℕ) → names ≡ map word_of ws → ((i : ℕ) → (Some place ≡ Some i) ↔ (slice_get names i ≡ Some p))
    → slice_get ws place ≡ found_in ws p
found_at ws p names place are found = first.found_at word_of ws p names place are found ∙ sym (as_first ws p)

-- where no place has the name, no macro has it
pub not_found : (ws : List Macro) (p : Bytes) (names : List Bytes) → names ≡ map word_of ws → ((i : ℕ) → (None ≡ Some i) ↔ (slice_get names i ≡ Some p)) → found_in ws p ≡ None
not_found ws p names are found = as_first ws p ∙ first.not_found word_of ws p names are found
