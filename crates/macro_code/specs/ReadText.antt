-- What a text of macro-code says: its program, or its first refusal. Lines are numbered from 1.
use Rattle.std.specs.Prelude.{
  ℕ,
  ◌+◌,
  ◌-◌,
  ◌*◌,
  max,
  cond,
  Bool,
  true,
  false,
  not,
  ◌&&◌,
  ◌||◌,
  nat_eq,
  nat_le,
  nat_lt,
  List,
  [],
  ◌∷◌,
  ◌++◌,
  length,
  map,
  position,
  slice_get,
  slice_index_or,
  Option,
  Some,
  None,
  is_some,
  is_none,
  Result,
  Ok,
  if◌then◌else◌,
}
use Rattle.std.specs.List.{list_any, range_with_len, sum_by}
use Rattle.std.specs.Str.{bytes_eq}
use Rattle.text_lines.specs.Text.{lines_of, words_of, code_of, foreign_place, some_name}
use Rattle.text_lines.specs.Refusals.{above, and_then, refused}
use Rattle.syn_base.specs.Limits.{bound_of}
use Rattle.syn_base.specs.declared.limits.LimitKind.TheVariants.{Words, MicroSteps}
use Rattle.executive_program.specs.Owners.{sum_below}
use Rattle.executive_program.specs.Graph.{Graph}
use Rattle.executive_program.specs.Archi.{Architecture, ascends_from}
use Rattle.executive_program.specs.declared.program.Instr.{Instr}
use Rattle.executive_program.specs.declared.program.Instr.TheVariants as instr
use Rattle.executive_program.specs.declared.program.Buffer.{Buffer}
use Rattle.executive_program.specs.declared.program.SeqCode.{SeqCode}
use Rattle.executive_program.specs.declared.program.Program.{Program}
use Rattle.executive_program.specs.Instructions.{number_or}
use Rattle.executive_program.specs.MicroSteps.{is_on, longest_sent}
use Rattle.executive_program.specs.Steps.{all_turns}
use Rattle.macro_code.specs.declared.macros.Macro.{Macro}
use Rattle.macro_code.specs.declared.macros.Macro.TheVariants.{
  Processor,
  Semaphores,
  Alloc,
  Thread,
  EndThread,
  Main,
  EndMain,
  SpawnThread,
  WaitEndThread,
  Loop,
  EndLoop,
  Suc0,
  Suc1,
  Pre0,
  Pre1,
  Send,
  Recv,
  Sync,
}
use Rattle.macro_code.specs.Refusals.{CodeRefusal}
use Rattle.macro_code.specs.declared.fault.CodeCause.TheVariants.{BadLine, UnknownMacro, BadArgument, UnknownName}
use Rattle.macro_code.specs.declared.numbered.Numbered.{Numbered}
use Rattle.macro_code.specs.declared.numbered.Size.{Size}
use Rattle.macro_code.specs.declared.stage.Stage.{Stage}
use Rattle.macro_code.specs.declared.stage.Stage.TheVariants.{Outside, Named, Declared, Threaded, Prologue, Turn, Ended}
use Rattle.syn_base.specs.Bytes.{Bytes}
use Rattle.macro_code.specs.Forms.{
  Form,
  bare,
  listed,
  call,
  form_of,
  macro_of,
  arguments_of,
  number_in,
  buffer_in,
  each_in,
  Declaration,
  declaration_in,
}
use Rattle.syn_base.specs.Numbers.{lesser}

-- What was read so far. Of the whole text: how far it got, the operator of the processor that began last, the pairs
-- and the buffers that were declared with their operators and sizes, and the sequences of the processors that ended.
-- Of the processor that began last: the numbers of its pairs and buffers, the media of its threads, of those that its
-- main part started and of those for whose end it waits, its threads that ended; and the sequence that began last,
-- with its medium, prologue and loop.
pub record Reading : Type 0 where
  pub stage : Stage
  pub operator : Option ℕ
  pub pairs : List Numbered
  pub owners : List ℕ
  pub buffers : List Numbered
  pub sizes : List Size
  pub seqs : List SeqCode
  pub pairs_here : List ℕ
  pub buffers_here : List ℕ
  pub media : List ℕ
  pub spawned : List ℕ
  pub awaited : List ℕ
  pub threads : List SeqCode
  pub medium : Option ℕ
  pub prologue : List Instr
  pub turn : List Instr

-- Nothing was read so far: no processor has begun, nothing is declared, and there is no sequence.
abbrev pub start : Reading
start = record {
  stage = Outside;
  operator = None;
  pairs = [];
  owners = [];
  buffers = [];
  sizes = [];
  seqs = [];
  pairs_here = [];
  buffers_here = [];
  media = [];
  spawned = [];
  awaited = [];
  threads = [];
  medium = None;
  prologue = [];
  turn = [];
}

-- What there is. Where there is nothing, the form of an argument is wrong, the line has no form, or a name is unknown.
abbrev pub argument : {A : Type 0} → ℕ → Option A → Result A CodeRefusal
argument n None = refused n BadArgument
argument n (Some x) = Ok x

-- A name that was found gives what it names; if it was not found, line n is refused
-- because the name w is unknown.
abbrev pub known : {A : Type 0} → ℕ → Bytes → Option A → Result A CodeRefusal
known n w None = refused n (UnknownName w)
known n w (Some x) = Ok x

-- A macro that was found is given; if it was not found, line n is refused because w is
-- not the name of a macro.
abbrev pub known_macro : ℕ → Bytes → Option Macro → Result Macro CodeRefusal
known_macro n w None = refused n (UnknownMacro w)
known_macro n w (Some m) = Ok m

-- The form of a line is given; if it has none, line n is refused as a bad line.
abbrev pub formed : ℕ → Option Form → Result Form CodeRefusal
formed n None = refused n BadLine
formed n (Some f) = Ok f

-- The arguments of a line: none where it has no parentheses. A line without parentheses, with one argument, with two.
abbrev pub Arguments : Type 0
Arguments = Option (List Bytes)

-- A line without parentheses goes on; one with parentheses is refused for its
-- arguments, even if nothing is between them.
abbrev pub without : {A : Type 0} → ℕ → Arguments → Result A CodeRefusal → Result A CodeRefusal
without n arguments go = if is_none arguments then go else refused n BadArgument

-- This is the argument of a line that has exactly one, and none for any other line.
abbrev pub one_of : Arguments → Option Bytes
one_of None = None
one_of (Some []) = None
one_of (Some (w ∷ [])) = Some w
one_of (Some (w ∷ v ∷ ws)) = None

-- A line has exactly these two arguments, in this order.
pub record Two : Type 0 where
  pub first : Bytes
  pub second : Bytes

-- These are the arguments of a line that has exactly two, and none for any other line.
abbrev pub two_of : Arguments → Option Two
two_of None = None
two_of (Some []) = None
two_of (Some (w ∷ [])) = None
two_of (Some (w ∷ v ∷ [])) = Some (record { first = w; second = v })
two_of (Some (w ∷ v ∷ u ∷ ws)) = None

-- one argument, which is a name
abbrev pub name_of : ℕ → Arguments → Result Bytes CodeRefusal
name_of n arguments = and_then (argument n (one_of arguments)) (λ w. argument n (some_name w))

-- The name w is first found at this place of the list, counted from 0; it is none if
-- the list does not have it.
abbrev pub place_in : List Bytes → Bytes → Option ℕ
place_in names w = position (bytes_eq w) names

-- a number above the last one before it
abbrev pub follows : Option ℕ → ℕ → Bool
follows None n = true
follows (Some last) n = nat_lt last n

-- This is the last number of the list, and none if the list is empty.
abbrev pub last_of : List ℕ → Option ℕ
last_of ns = slice_get ns (length ns - 1)

-- The number n is in the list.
abbrev pub is_among : List ℕ → ℕ → Bool
is_among ns n = list_any (λ k. nat_eq k n) ns

-- The number is there, and is one of those that are declared here.
abbrev pub is_known : List ℕ → Option ℕ → Bool
is_known here None = false
is_known here (Some n) = is_among here n

-- the first of these words whose buffer is not declared here
abbrev pub first_unknown : List ℕ → List Bytes → Option Bytes
first_unknown here [] = None
first_unknown here (w ∷ ws) = if is_known here (buffer_in w) then first_unknown here ws else Some w

-- If no name is unknown, reading goes on; otherwise line n is refused because of that name.
abbrev pub unless_unknown : {A : Type 0} → ℕ → Option Bytes → Result A CodeRefusal → Result A CodeRefusal
unless_unknown n None go = go
unless_unknown n (Some w) go = refused n (UnknownName w)

-- Where a line may stand.

-- No processor has begun, or the last one that began has ended.
abbrev pub is_outside : Stage → Bool
is_outside Outside = true
is_outside _ = false

-- A processor has begun, and the line of its semaphores comes next.
abbrev pub is_named : Stage → Bool
is_named Named = true
is_named _ = false

-- The semaphores of a processor are declared, and its buffers, its first thread or its
-- main part may come next.
abbrev pub is_declared : Stage → Bool
is_declared Declared = true
is_declared _ = false

-- A thread of a processor has ended, and another thread or the main part comes next.
abbrev pub is_threaded : Stage → Bool
is_threaded Threaded = true
is_threaded _ = false

-- A thread or a main part has begun, and its loop has not.
abbrev pub is_prologue : Stage → Bool
is_prologue Prologue = true
is_prologue _ = false

-- A loop has begun and has not ended.
abbrev pub is_turn : Stage → Bool
is_turn Turn = true
is_turn _ = false

-- A loop has ended, and the thread or main part that has it has not.
abbrev pub is_ended : Stage → Bool
is_ended Ended = true
is_ended _ = false

-- the main part has started fewer threads than the processor has, and it waits for fewer
abbrev pub starts_more : Reading → Bool
starts_more r = not (is_some r.medium) && nat_lt (length r.spawned) (length r.media)

-- The main part waits for the ends of fewer threads than the processor has, so that it
-- may not end yet.
abbrev pub awaits_more : Reading → Bool
awaits_more r = not (is_some r.medium) && nat_lt (length r.awaited) (length r.media)

-- before a loop, where all threads were started
abbrev pub is_opening : Reading → Bool
is_opening r = is_prologue r.stage && not (starts_more r)

-- An instruction may come next: in a loop, or before it if all threads are started
-- that a main part has to start.
abbrev pub takes_instr : Reading → Bool
takes_instr r = is_turn r.stage || is_opening r

-- A line of this macro may come next after what was read.
abbrev pub may_stand : Reading → Macro → Bool
may_stand r Processor = is_outside r.stage
may_stand r Semaphores = is_named r.stage
may_stand r Alloc = is_declared r.stage
may_stand r Thread = is_declared r.stage || is_threaded r.stage
may_stand r Main = is_declared r.stage || is_threaded r.stage
may_stand r SpawnThread = is_prologue r.stage && starts_more r
may_stand r Loop = is_opening r
may_stand r EndLoop = is_turn r.stage
may_stand r EndThread = is_ended r.stage && is_some r.medium
may_stand r WaitEndThread = is_ended r.stage && awaits_more r
may_stand r EndMain = is_ended r.stage && not (is_some r.medium) && not (awaits_more r)
may_stand r Suc0 = takes_instr r
may_stand r Suc1 = takes_instr r
may_stand r Pre0 = takes_instr r
may_stand r Pre1 = takes_instr r
may_stand r Send = takes_instr r
may_stand r Recv = takes_instr r
may_stand r Sync = takes_instr r

-- The processor that began last is this operator; it is 0 if none has begun.
abbrev pub operator_here : Reading → ℕ
operator_here r = number_or 0 r.operator

-- the sequence that began last
abbrev pub code_here : Reading → SeqCode
code_here r =
    record { seq = record { operator = operator_here r; medium = r.medium }; prologue = r.prologue; turn = r.turn }

-- an instruction more, inside the loop or before it
abbrev pub with_instr : Reading → Instr → Reading
with_instr r x =
    if is_turn r.stage then record r { turn = r.turn ++ x ∷ [] } else record r { prologue = r.prologue ++ x ∷ [] }

-- A pair or a buffer is declared with this number, in this line.
abbrev pub numbered : ℕ → ℕ → Numbered
numbered line number = record { number = number; line = line }

-- Lines of a known macro that may stand where they do.

-- What has been read with a line `semaphores_(q,q)` more, which has the number n and declares
-- these pairs on the processor that began last.
abbrev pub with_pairs : Reading → ℕ → List ℕ → Reading
with_pairs r n qs =
    record r {
      stage = Declared;
      pairs = r.pairs ++ map (numbered n) qs;
      owners = r.owners ++ map (λ _. operator_here r) qs;
      pairs_here = qs;
    }

-- Numbers that ascend strictly are kept; otherwise line n is refused for its arguments.
abbrev pub ascending : ℕ → List ℕ → Result (List ℕ) CodeRefusal
ascending n qs = if ascends_from 0 qs then Ok qs else refused n BadArgument

-- A line `semaphores_` declares these pairs, which may be none; it is refused for its arguments
-- if it has no parentheses, if one is not a number, or if they do not ascend.
abbrev pub pairs_of : ℕ → Arguments → Result (List ℕ) CodeRefusal
pairs_of n arguments =
    and_then (argument n arguments) (λ ws. and_then (argument n (each_in number_in ws)) (λ qs. ascending n qs))

-- This is what was read after line n, a line `semaphores_` with these arguments, or
-- the refusal of the line.
abbrev pub semaphores_line : Reading → ℕ → Arguments → Result Reading CodeRefusal
semaphores_line r n arguments = and_then (pairs_of n arguments) (λ qs. Ok (with_pairs r n qs))

-- alloc_(bN,LEN) and alloc_(bN,LEN,PLACES)
abbrev pub with_buffer : Reading → ℕ → Declaration → Reading
with_buffer r n d = record r {
  buffers = r.buffers ++ numbered n d.number ∷ [];
  sizes = r.sizes ++ record { operator = operator_here r; len = d.len; depth = d.depth } ∷ [];
  buffers_here = r.buffers_here ++ d.number ∷ [];
}

-- above those that are declared here
abbrev pub declaration_of : ℕ → List ℕ → Arguments → Result Declaration CodeRefusal
declaration_of n here arguments =
    and_then (argument n arguments) (λ ws.
    and_then (argument n (declaration_in ws)) (λ d.
    if follows (last_of here) d.number then Ok d else refused n BadArgument))

-- This is what was read after line n, a line `alloc_` with these arguments, or the
-- refusal of the line.
abbrev pub alloc_line : Reading → ℕ → Arguments → Result Reading CodeRefusal
alloc_line r n arguments = and_then (declaration_of n r.buffers_here arguments) (λ d. Ok (with_buffer r n d))

-- What has been read after line n, which has the form `main_`, or its refusal.
abbrev pub main_line : Reading → ℕ → Arguments → Result Reading CodeRefusal
main_line r n arguments =
    without n arguments (Ok (record r { stage = Prologue; medium = None; spawned = []; awaited = [] }))

-- loop_, endloop_, endthread_ and endmain_
abbrev pub loop_line : Reading → ℕ → Arguments → Result Reading CodeRefusal
loop_line r n arguments = without n arguments (Ok (record r { stage = Turn }))

-- This is what was read after line n, a line `endloop_`, or its refusal if it has arguments.
abbrev pub end_loop_line : Reading → ℕ → Arguments → Result Reading CodeRefusal
end_loop_line r n arguments = without n arguments (Ok (record r { stage = Ended }))

-- This is what was read after line n, a line `endthread_` with which a thread of the
-- processor ends, or its refusal if it has arguments.
abbrev pub end_thread_line : Reading → ℕ → Arguments → Result Reading CodeRefusal
end_thread_line r n arguments =
    without n arguments
    (Ok (record r { stage = Threaded; threads = r.threads ++ code_here r ∷ []; prologue = []; turn = [] }))

-- of a processor the main part comes first, and then the threads
abbrev pub end_main_line : Reading → ℕ → Arguments → Result Reading CodeRefusal
end_main_line r n arguments = without n arguments (Ok (record r {
  stage = Outside;
  seqs = r.seqs ++ (code_here r ∷ r.threads);
  threads = [];
  prologue = [];
  turn = [];
}))

-- Suc0_(q) and its like, of a pair that is declared here
abbrev pub pair_of : ℕ → List ℕ → Arguments → Result ℕ CodeRefusal
pair_of n here arguments =
    and_then (argument n (one_of arguments)) (λ w.
    and_then (argument n (number_in w)) (λ q.
    if is_among here q then Ok q else refused n (UnknownName w)))

-- This is what was read after line n, whose instruction `make` makes of the pair that
-- it names, or the refusal of the line.
abbrev pub pair_line : Reading → ℕ → (ℕ → Instr) → Arguments → Result Reading CodeRefusal
pair_line r n make arguments = and_then (pair_of n r.pairs_here arguments) (λ q. Ok (with_instr r (make q)))

-- a buffer that is declared here
abbrev pub declared_buffer : ℕ → List ℕ → Bytes → ℕ → Result ℕ CodeRefusal
declared_buffer n here w b = if is_among here b then Ok b else refused n (UnknownName w)

-- a medium by its name and its number
pub record Joined : Type 0 where
  pub word : Bytes
  pub medium : ℕ

-- a buffer and the operator to which it goes or from which it comes, and two operators
pub record Moved : Type 0 where
  pub buffer : ℕ
  pub operator : ℕ

-- A line `sync_` names these two operators, the sender and the receiver of the transfer.
pub record Ends : Type 0 where
  pub from : ℕ
  pub to : ℕ

module _ (a : Architecture) where
  -- The media of the architecture have these names, by number.
  abbrev pub medium_names : List Bytes
  medium_names = map (λ m. m.name) a.media

  -- The operator of the name w has this number; if there is none, line n is refused
  -- because the name is unknown.
  abbrev pub operator_of : ℕ → Bytes → Result ℕ CodeRefusal
  operator_of n w = known n w (place_in a.operators w)

  -- processor_(OPERATOR), above the last one
  abbrev pub processor_of : ℕ → Option ℕ → Arguments → Result ℕ CodeRefusal
  processor_of n last arguments =
      and_then (name_of n arguments) (λ w.
      and_then (operator_of n w) (λ o.
      if follows last o then Ok o else refused n BadArgument))

  -- The processor of operator o has begun, and it has no pairs, buffers and threads yet.
  abbrev pub at_processor : Reading → ℕ → Reading
  at_processor r o = record r { stage = Named; operator = Some o; pairs_here = []; buffers_here = []; media = [] }

  -- This is what was read after line n, a line `processor_` with these arguments, or
  -- the refusal of the line.
  abbrev pub processor_line : Reading → ℕ → Arguments → Result Reading CodeRefusal
  processor_line r n arguments = and_then (processor_of n r.operator arguments) (λ o. Ok (at_processor r o))

  -- a medium that is above the last one of these
  abbrev pub medium_of : ℕ → List ℕ → Arguments → Result Joined CodeRefusal
  medium_of n media arguments =
      and_then (name_of n arguments) (λ w.
      and_then (known n w (place_in medium_names w)) (λ m.
      if follows (last_of media) m then Ok (record { word = w; medium = m }) else refused n BadArgument))

  -- What has been read after a line `thread_(MEDIUM)`.
  abbrev pub at_thread : Reading → ℕ → Reading
  at_thread r m = record r { stage = Prologue; media = r.media ++ m ∷ []; medium = Some m }

  -- This is what was read after line n, a line `thread_` with these arguments, or the
  -- refusal of the line.
  abbrev pub thread_line : Reading → ℕ → Arguments → Result Reading CodeRefusal
  thread_line r n arguments = and_then (medium_of n r.media arguments) (λ j. Ok (at_thread r j.medium))

  -- spawn_thread_(MEDIUM) and wait_endthread_(MEDIUM): a medium that is above the last one of these, and at which the
  -- processor has a thread
  abbrev pub thread_of : ℕ → List ℕ → List ℕ → Arguments → Result ℕ CodeRefusal
  thread_of n threads media arguments =
      and_then (medium_of n media arguments) (λ j.
      if is_among threads j.medium then Ok j.medium else refused n (UnknownName j.word))

  -- This is what was read after line n, a line `spawn_thread_` with these arguments,
  -- or the refusal of the line.
  abbrev pub spawn_line : Reading → ℕ → Arguments → Result Reading CodeRefusal
  spawn_line r n arguments =
      and_then (thread_of n r.media r.spawned arguments) (λ m. Ok (record r { spawned = r.spawned ++ m ∷ [] }))

  -- This is what was read after line n, a line `wait_endthread_` with these arguments,
  -- or the refusal of the line.
  abbrev pub wait_line : Reading → ℕ → Arguments → Result Reading CodeRefusal
  wait_line r n arguments =
      and_then (thread_of n r.media r.awaited arguments) (λ m. Ok (record r { awaited = r.awaited ++ m ∷ [] }))

  -- send_(bN,TO) and recv_(bN,FROM)
  abbrev pub moved_of : ℕ → List ℕ → Arguments → Result Moved CodeRefusal
  moved_of n here arguments =
      and_then (argument n (two_of arguments)) (λ t.
      and_then (argument n (buffer_in t.first)) (λ b.
      and_then (argument n (some_name t.second)) (λ _.
      and_then (declared_buffer n here t.first b) (λ _.
      and_then (operator_of n t.second) (λ o. Ok (record { buffer = b; operator = o }))))))

  -- This is what was read after line n, whose instruction `make` makes of the buffer
  -- and the operator that it names, or the refusal of the line.
  abbrev pub transfer_line : Reading → ℕ → (ℕ → ℕ → Instr) → Arguments → Result Reading CodeRefusal
  transfer_line r n make arguments =
      and_then (moved_of n r.buffers_here arguments) (λ t. Ok (with_instr r (make t.buffer t.operator)))

  -- Both ends of a line `sync_(FROM,TO)`, or its refusal.
  abbrev pub ends_of : ℕ → Arguments → Result Ends CodeRefusal
  ends_of n arguments =
      and_then (argument n (two_of arguments)) (λ t.
      and_then (argument n (some_name t.first)) (λ _.
      and_then (argument n (some_name t.second)) (λ _.
      and_then (operator_of n t.first) (λ from.
      and_then (operator_of n t.second) (λ to. Ok (record { from = from; to = to }))))))

  -- This is what was read after line n, a line `sync_` with these arguments, or the
  -- refusal of the line.
  abbrev pub sync_line : Reading → ℕ → Arguments → Result Reading CodeRefusal
  sync_line r n arguments = and_then (ends_of n arguments) (λ e. Ok (with_instr r (instr.Sync e.from e.to)))

  -- This is what was read after line n, a line of this macro that may come next, or
  -- the refusal of the line for its arguments or for a name.
  abbrev pub macro_line : Reading → ℕ → Arguments → Macro → Result Reading CodeRefusal
  macro_line r n arguments Processor = processor_line r n arguments
  macro_line r n arguments Semaphores = semaphores_line r n arguments
  macro_line r n arguments Alloc = alloc_line r n arguments
  macro_line r n arguments Thread = thread_line r n arguments
  macro_line r n arguments EndThread = end_thread_line r n arguments
  macro_line r n arguments Main = main_line r n arguments
  macro_line r n arguments EndMain = end_main_line r n arguments
  macro_line r n arguments SpawnThread = spawn_line r n arguments
  macro_line r n arguments WaitEndThread = wait_line r n arguments
  macro_line r n arguments Loop = loop_line r n arguments
  macro_line r n arguments EndLoop = end_loop_line r n arguments
  macro_line r n arguments Suc0 = pair_line r n (λ q. instr.Suc0 q) arguments
  macro_line r n arguments Suc1 = pair_line r n (λ q. instr.Suc1 q) arguments
  macro_line r n arguments Pre0 = pair_line r n (λ q. instr.Pre0 q) arguments
  macro_line r n arguments Pre1 = pair_line r n (λ q. instr.Pre1 q) arguments
  macro_line r n arguments Send = transfer_line r n (λ b o. instr.Send b o) arguments
  macro_line r n arguments Recv = transfer_line r n (λ b o. instr.Recv b o) arguments
  macro_line r n arguments Sync = sync_line r n arguments

  -- A macro that stands where it may not is refused before its arguments, and an unknown one wherever it stands.
  abbrev pub placed_line : Reading → ℕ → Arguments → Macro → Result Reading CodeRefusal
  placed_line r n arguments m = if may_stand r m then macro_line r n arguments m else refused n BadLine

  -- This is what was read after line n, which begins with this name, or the refusal of the line:
  -- first if it names no macro, then if that may not come next, then for its arguments.
  abbrev pub named_line : Reading → ℕ → Bytes → Arguments → Result Reading CodeRefusal
  named_line r n name arguments = and_then (known_macro n name (macro_of name)) (placed_line r n arguments)

-- The operations of the flat graph have these names, by number.
abbrev pub operation_names : Graph → List Bytes
operation_names g = map (λ x. x.name) g.vertices

-- Where the operations have these names.
module _ (operations : List Bytes) where
  -- op OPERATION(INS;OUTS)
  abbrev pub call_of : ℕ → List ℕ → Bytes → List Bytes → List Bytes → Result Instr CodeRefusal
  call_of n here operation ins outs =
      and_then (argument n (each_in buffer_in ins)) (λ is.
      and_then (argument n (each_in buffer_in outs)) (λ os.
      and_then (known n operation (place_in operations operation)) (λ v.
      unless_unknown n (first_unknown here ins)
      (unless_unknown n (first_unknown here outs)
      (Ok (instr.Call v is os))))))

  -- This is what was read after line n, a call of this operation on these buffers, or the
  -- refusal of the line; it is a bad line if no instruction may come next.
  abbrev pub call_line : Reading → ℕ → Bytes → List Bytes → List Bytes → Result Reading CodeRefusal
  call_line r n operation ins outs =
      if takes_instr r then and_then (call_of n r.buffers_here operation ins outs) (λ x. Ok (with_instr r x))
      else refused n BadLine

-- the place at which a number is declared, where the first of these declarations has this place
abbrev pub place_from : ℕ → ℕ → List Numbered → Option ℕ
place_from number place [] = None
place_from number place (d ∷ ds) = if nat_eq d.number number then Some place else place_from number (place + 1) ds

-- The first of the declarations with this number has this place, counted from 0; it is
-- none if there is no such declaration.
abbrev pub place_of : ℕ → List Numbered → Option ℕ
place_of number ds = place_from number 0 ds

-- of this many declarations, the line of the first that has a number of this many or more, or one that stands before it
abbrev pub first_wrong : ℕ → List Numbered → List Numbered → Option ℕ
first_wrong count before [] = None
first_wrong count before (d ∷ ds) =
    if nat_le count d.number || is_some (place_of d.number before) then Some d.line
    else first_wrong count (before ++ d ∷ []) ds

-- This is the line of the first declaration whose number was used before or is not below the
-- number of declarations; it is none if the numbers from 0 on are used, each once.
abbrev pub misnumbered : List Numbered → Option ℕ
misnumbered ds = first_wrong (length ds) [] ds

-- The size of a buffer that was not declared: operator 0, without elements and places.
abbrev pub no_size : Size
no_size = record { operator = 0; len = 0; depth = 0 }

-- A buffer has the operator, the length and the places that its declaration says.
abbrev pub sized : Size → Buffer
sized s = record { operator = s.operator; len = s.len; depth = s.depth }

-- This is the element at the given place of the list, or `missing` if no place is
-- given or the list ends before it.
abbrev pub at_place : {A : Type 0} → List A → A → Option ℕ → A
at_place xs missing None = missing
at_place xs missing (Some k) = slice_index_or xs k missing

-- Buffer b is the one that was declared with this number; if none was, its operator,
-- length and places are 0.
abbrev pub buffer_of : Reading → ℕ → Buffer
buffer_of r b = sized (at_place r.sizes no_size (place_of b r.buffers))

-- The pair of number q was declared on this operator; it is 0 if none was declared
-- with this number.
abbrev pub owner_of : Reading → ℕ → ℕ
owner_of r q = at_place r.owners 0 (place_of q r.pairs)

-- the program of a text that is not refused
abbrev pub program_of : Reading → Program
program_of r = record {
  buffers = map (buffer_of r) (range_with_len 0 (length r.buffers));
  pairs = map (owner_of r) (range_with_len 0 (length r.pairs));
  seqs = r.seqs;
}

-- The longest buffer that a send of this sequence names, before its loop or in it, has this many
-- elements; it is 0 if it sends none, or is no communicator of medium m.
abbrev pub longest_in : Program → ℕ → SeqCode → ℕ
longest_in p m q = cond (is_on m q.seq.medium) (max (longest_sent p q.prologue) (longest_sent p q.turn)) 0

-- The longest buffer that any of these sequences sends over medium m, before its loop
-- or in it, has this many elements; it is 0 if none sends over it.
abbrev pub longest_on : Program → ℕ → List SeqCode → ℕ
longest_on p m [] = 0
longest_on p m (q ∷ qs) = max (longest_in p m q) (longest_on p m qs)

-- The wire of medium m has this many elements, enough for any buffer that a thread of
-- m sends, before its loop or in it; it is 0 if none sends.
abbrev pub wire_len : Program → ℕ → ℕ
wire_len p m = longest_on p m p.seqs

-- two words for each pair, one for each medium, and the elements of buffers, in all their places, and of wires
abbrev pub words : Program → ℕ → ℕ
words p media = 2 * length p.pairs + media + sum_by (λ x. x.depth * x.len) p.buffers + sum_below (wire_len p) media

-- A program within the limit on the micro-steps that its loops make in one reaction is kept;
-- otherwise it is refused by that limit.
abbrev pub within_steps : Program → Result Program CodeRefusal
within_steps p = if nat_lt (bound_of MicroSteps) (all_turns p) then above MicroSteps (all_turns p) else Ok p

-- A program within the limits on words and on micro-steps of a reaction is kept;
-- otherwise it is refused by the first limit, words first.
abbrev pub limited : ℕ → Program → Result Program CodeRefusal
limited media p = if nat_lt (bound_of Words) (words p media) then above Words (words p media) else within_steps p

-- This is the first line that declares a pair or a buffer with a wrong number; it is
-- none if pairs and buffers each use the numbers from 0 on, each once.
abbrev pub first_misnumbered : Reading → Option ℕ
first_misnumbered r = lesser (misnumbered r.pairs) (misnumbered r.buffers)

-- If a line has a wrong number, the text is refused there; otherwise this is its
-- program, or the limit that it is above.
abbrev pub counted : ℕ → Reading → Option ℕ → Result Program CodeRefusal
counted media r (Some line) = refused line BadArgument
counted media r None = limited media (program_of r)

-- The whole, of which all lines are numbered below n: the last processor has ended; buffers and pairs use the numbers
-- from 0 on, each once; the limits hold.
abbrev pub whole : ℕ → Reading → ℕ → Result Program CodeRefusal
whole media r n = if is_outside r.stage then counted media r (first_misnumbered r) else refused n BadLine

module _ (operations : List Bytes) (a : Architecture) where
  -- This is what was read after line n of this form, or the refusal of the line.
  abbrev pub line_of : Reading → ℕ → Form → Result Reading CodeRefusal
  line_of r n (bare name) = named_line a r n name None
  line_of r n (listed name list) = named_line a r n name (Some (arguments_of list))
  line_of r n (call operation ins outs) = call_line operations r n operation (arguments_of ins) (arguments_of outs)

  -- a line with these words
  abbrev pub words_line : Reading → ℕ → List Bytes → Result Reading CodeRefusal
  words_line r n ws = and_then (formed n (form_of ws)) (line_of r n)

  -- a line without words says nothing
  abbrev pub line_by : Reading → ℕ → Bytes → Option ℕ → Result Reading CodeRefusal
  line_by r n line (Some place) = refused n BadLine
  line_by r n line None =
      if nat_eq (length (words_of (code_of line))) 0 then Ok r else words_line r n (words_of (code_of line))

  -- This is what was read after line n, or the refusal of the line; a byte that no
  -- line may have refuses it first.
  abbrev pub next_line : Reading → ℕ → Bytes → Result Reading CodeRefusal
  next_line r n line = line_by r n line (foreign_place line)

  -- A text whose lines from line n on are these says this program after what was read,
  -- or has this first refusal.
  abbrev pub rest_of : Reading → ℕ → List Bytes → Result Program CodeRefusal
  rest_of r n [] = whole (length a.media) r n
  rest_of r n (line ∷ lines) = and_then (next_line r n line) (λ after. rest_of after (n + 1) lines)

-- what the bytes of a text say
abbrev pub program_in : Bytes → Graph → Architecture → Result Program CodeRefusal
program_in text g a = rest_of (operation_names g) a start 1 (lines_of text)
