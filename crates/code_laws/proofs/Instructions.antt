-- The lines of instructions, and of a prologue or a loop, are read as these instructions.
use Rattle.std.proofs.Common.{
  ◌≡◌,
  ℕ,
  ◌<◌,
  Bool,
  not,
  ◌&&◌,
  true,
  false,
  nat_lt,
  if◌then◌else◌,
  List,
  [],
  ◌∷◌,
  ◌++◌,
  length,
  map,
  refl,
  sym,
  ap,
  subst,
  ◌∙◌,
  Option,
  Some,
  None,
  Result,
  Ok,
  append_assoc,
  append-nil,
}
use Rattle.std.specs.List.{list_all}
use Rattle.std.specs.Fmt.{decimal}
use Rattle.std.proofs.lemmas.Bool.{and_parts, and_from, ltb-true}
use Rattle.std.proofs.lemmas.List.Concat.{flat_map-cons}
use Rattle.syn_base.specs.Name.{is_name}
use Rattle.sequence_build_laws.specs.Graph.{Graph}
use Rattle.sequence_build_laws.specs.Archi.{Architecture}
use Rattle.sequence_build_laws.specs.declared.Instr.{Instr}
use Rattle.sequence_build_laws.specs.declared.Instr.TheVariants as instr
use Rattle.sequence_build_laws.specs.declared.Instr.TheVariants.{Suc0, Suc1, Pre0, Pre1, Call, Send, Recv, Sync}
use Rattle.macro_code.specs.declared.macros.Macro.{Macro}
use Rattle.macro_code.specs.declared.macros.Macro.TheVariants as macros
use Rattle.macro_code.specs.Text.{buffer_name, operator_name, operation_name, instr_line, body_text}
use Rattle.macro_code.specs.Refusals.{CodeRefusal}
use Rattle.macro_code.specs.declared.fault.CodeCause.TheVariants.{UnknownName, BadLine}
use Rattle.macro_code.specs.declared.stage.Stage.TheVariants.{Prologue, Turn}
use Rattle.syn_base.specs.Bytes.{Bytes}
use Rattle.macro_code.specs.Forms.{buffer_in, number_in, each_in}
use Rattle.macro_code.specs.ReadText.{
  Reading,
  Arguments,
  Moved,
  Ends,
  argument,
  known,
  place_in,
  operation_names,
  is_among,
  is_known,
  first_unknown,
  unless_unknown,
  takes_instr,
  starts_more,
  may_stand,
  with_instr,
  declared_buffer,
  macro_line,
  placed_line,
  pair_line,
  transfer_line,
  sync_line,
  call_line,
  call_of,
}
use Rattle.text_lines.specs.Refusals.{and_then, refused}
use Rattle.code_laws.proofs.Arguments.{is_small, number_back, number_argument, buffer_back, buffer_argument, each_back, each_argument, name_argument, path_argument}
use Rattle.code_laws.proofs.Forms.{is_argument}
use Rattle.code_laws.proofs.Named.{names, AreNamed}
use Rattle.code_laws.proofs.ReadLines as lines
use Rattle.code_laws.proofs.ReadLines.{Reads}
use Rattle.text_lines.specs.Text.{some_name}

-- a number that is declared here, and that 64 bits hold
abbrev pub is_there : List ℕ → ℕ → Bool
is_there here n = is_among here n && is_small n

-- what an instruction names is there: pairs and buffers are declared here, and there are this many operators and operations
module _ (operators vertices : ℕ) (pairs buffers : List ℕ) where
  abbrev pub is_readable : Instr → Bool
  is_readable (Suc0 q) = is_there pairs q
  is_readable (Suc1 q) = is_there pairs q
  is_readable (Pre0 q) = is_there pairs q
  is_readable (Pre1 q) = is_there pairs q
  is_readable (Send b o) = is_there buffers b && nat_lt o operators
  is_readable (Recv b o) = is_there buffers b && nat_lt o operators
  is_readable (Sync o r) = nat_lt o operators && nat_lt r operators
  is_readable (Call v ins outs) = nat_lt v vertices && list_all (is_there buffers) ins && list_all (is_there buffers) outs

abbrev moved : ℕ → ℕ → Moved
moved b o = record { buffer = b; operator = o }

abbrev ends : ℕ → ℕ → Ends
ends o p = record { from = o; to = p }

pair_steps : (n q : ℕ) (here : List ℕ) (w : Bytes) (o : Option ℕ) → o ≡ Some q → is_among here q ≡ true
    → and_then (argument n o) (λ (k : ℕ). if is_among here k then Ok k else refused n (UnknownName w)) ≡ Ok q
pair_steps n q here w o e f = ap (λ (x : Option ℕ). and_then (argument n x) (λ (k : ℕ). if is_among here k then Ok k else refused n (UnknownName w))) e
    ∙ ap (λ (b : Bool). and_then {A = ℕ} {B = ℕ} (Ok q) (λ k. if b then Ok k else refused n (UnknownName w))) f

moved_steps : (n b k : ℕ) (here : List ℕ) (w v : Bytes) (o p : Option ℕ) (named_is among : Bool) → o ≡ Some b → named_is ≡ true → among ≡ true → p ≡ Some k
    → and_then (argument n o) (λ (c : ℕ). and_then (argument n (if named_is then Some v else None)) (λ _. and_then (if among then Ok c else refused n (UnknownName w)) (λ (_ : ℕ).
    and_then (known n v p) (λ (d : ℕ). Ok (moved c d))))) ≡ Ok (moved b k)
moved_steps n b k here w v o p named_is among e f g h = rw (e, f, g, h) refl

ends_steps : (n i k : ℕ) (v w : Bytes) (p q : Option ℕ) (x y : Bool) → x ≡ true → y ≡ true → p ≡ Some i → q ≡ Some k
    → and_then (argument n (if x then Some v else None)) (λ _. and_then (argument n (if y then Some w else None)) (λ _.
    and_then (known n v p) (λ (c : ℕ). and_then (known n w q) (λ (d : ℕ). Ok (ends c d))))) ≡ Ok (ends i k)
ends_steps n i k v w p q x y e f g h = rw (e, f, g, h) refl

call_steps : (n v : ℕ) (is os : List ℕ) (w : Bytes) (i o : Option (List ℕ)) (p : Option ℕ) (x y : Option Bytes) → i ≡ Some is → o ≡ Some os → p ≡ Some v → x ≡ None → y ≡ None
    → and_then (argument n i) (λ (js : List ℕ). and_then (argument n o)
    (λ (ks : List ℕ). and_then (known n w p) (λ (u : ℕ). unless_unknown n x (unless_unknown n y (Ok (instr.Call u js ks)))))) ≡ Ok (instr.Call v is os)
call_steps n v is os w i o p x y e f g h k = rw (e, f, g, h, k) refl

-- all of these buffers are declared
all_known : (here ns : List ℕ) → list_all (is_there here) ns ≡ true → first_unknown here (map buffer_name ns) ≡ None
all_known here [] h = refl
all_known here (b ∷ ns) h =
    let both = and_parts (is_there here b) (list_all (is_there here) ns) h in
    let own = and_parts (is_among here b) (is_small b) both.0 in
    ap (λ (t : Bool). if t then first_unknown here (map buffer_name ns) else Some (buffer_name b)) (ap (is_known here) (buffer_back b own.1) ∙ own.0) ∙ all_known here ns both.1

all_small : (here ns : List ℕ) → list_all (is_there here) ns ≡ true → list_all is_small ns ≡ true
all_small here [] h = refl
all_small here (b ∷ ns) h =
    let both = and_parts (is_there here b) (list_all (is_there here) ns) h in
    and_from (is_small b) (list_all is_small ns) (and_parts (is_among here b) (is_small b) both.0).1 (all_small here ns both.1)

two_arguments : (v w : Bytes) → is_argument v ≡ true → is_argument w ≡ true → list_all is_argument (v ∷ w ∷ []) ≡ true
two_arguments v w e f = and_from (is_argument v) _ e (and_from (is_argument w) true f refl)

pub one_argument : (w : Bytes) → is_argument w ≡ true → list_all is_argument (w ∷ []) ≡ true
one_argument w e = and_from (is_argument w) true e refl

module _ (g : Graph) (a : Architecture) (known_names : AreNamed g a) where
  abbrev pub Read : Reading → ℕ → Bytes → Reading → Type 0
  Read r n t s = Reads (operation_names g) a r n t s

  abbrev pub readable : Reading → Instr → Bool
  readable r x = is_readable (length a.operators) (length g.vertices) r.pairs_here r.buffers_here x

  -- a macro that may stand there
  pub stands : (r : Reading) (n : ℕ) (ws : Arguments) (x : Macro) (s : Reading) → may_stand r x ≡ true → macro_line a r n ws x ≡ Ok s → placed_line a r n ws x ≡ Ok s
  stands r n ws x s may e = ap (λ (b : Bool). if b then macro_line a r n ws x else refused n BadLine) may ∙ e

  pair_back : (r : Reading) (n q : ℕ) (make : ℕ → Instr) → is_there r.pairs_here q ≡ true → pair_line r n make (Some (decimal q ∷ [])) ≡ Ok (with_instr r (make q))
  pair_back r n q make h =
      let both = and_parts (is_among r.pairs_here q) (is_small q) h in
      ap (λ (x : Result ℕ CodeRefusal). and_then x (λ (k : ℕ). Ok (with_instr r (make k)))) (pair_steps n q r.pairs_here (decimal q) (number_in (decimal q)) (number_back q both.1) both.0)

  pair_argument : (here : List ℕ) (q : ℕ) → is_there here q ≡ true → list_all is_argument (decimal q ∷ []) ≡ true
  pair_argument here q h = one_argument (decimal q) (number_argument q (and_parts (is_among here q) (is_small q) h).1)

  transfer_back : (r : Reading) (n b o : ℕ) (make : ℕ → ℕ → Instr) → is_there r.buffers_here b ≡ true → o < length a.operators
      → transfer_line a r n make (Some (buffer_name b ∷ operator_name (names g a) o ∷ [])) ≡ Ok (with_instr r (make b o))
  transfer_back r n b o make h l =
      let both = and_parts (is_among r.buffers_here b) (is_small b) h in
      let it = known_names.operator o l in
      let v = operator_name (names g a) o in
      ap (λ (x : Result Moved CodeRefusal). and_then x (λ (t : Moved). Ok (with_instr r (make t.buffer t.operator))))
      (ap (λ (x : Option ℕ). and_then (argument n x) (λ (c : ℕ). and_then (argument n (some_name v)) (λ (_ : Bytes). and_then (declared_buffer n r.buffers_here (buffer_name b) c) (λ (_ : ℕ).
      and_then (known n v (place_in a.operators v)) (λ (d : ℕ). Ok (moved c d)))))) (buffer_back b both.1)
      ∙ moved_steps n b o r.buffers_here (buffer_name b) v (Some b) (place_in a.operators v) (is_name v) (is_among r.buffers_here b) refl it.passes both.0 it.place)

  transfer_argument : (here : List ℕ) (b o : ℕ) → is_there here b ≡ true → o < length a.operators → list_all is_argument (buffer_name b ∷ operator_name (names g a) o ∷ []) ≡ true
  transfer_argument here b o h l =
      two_arguments (buffer_name b) (operator_name (names g a) o) (buffer_argument b (and_parts (is_among here b) (is_small b) h).1)
      (name_argument (operator_name (names g a) o) ((known_names.operator o l).passes))

  sync_back : (r : Reading) (n o p : ℕ) → o < length a.operators → p < length a.operators
      → sync_line a r n (Some (operator_name (names g a) o ∷ operator_name (names g a) p ∷ [])) ≡ Ok (with_instr r (instr.Sync o p))
  sync_back r n o p l k =
      let i = known_names.operator o l in
      let j = known_names.operator p k in
      let v = operator_name (names g a) o in
      let w = operator_name (names g a) p in
      ap (λ (x : Result Ends CodeRefusal). and_then x (λ (e : Ends). Ok (with_instr r (instr.Sync e.from e.to))))
      (ends_steps n o p v w (place_in a.operators v) (place_in a.operators w) (is_name v) (is_name w) i.passes j.passes i.place j.place)

  call_back : (r : Reading) (n v : ℕ) (ins outs : List ℕ) → takes_instr r ≡ true → v < length g.vertices
      → list_all (is_there r.buffers_here) ins ≡ true → list_all (is_there r.buffers_here) outs ≡ true
      → call_line (operation_names g) r n (operation_name (names g a) v) (map buffer_name ins) (map buffer_name outs) ≡ Ok (with_instr r (instr.Call v ins outs))
  call_back r n v ins outs takes l i o =
      let it = known_names.operation v l in
      let w = operation_name (names g a) v in
      let here = r.buffers_here in
      ap (λ (b : Bool). if b then and_then (call_of (operation_names g) n here w (map buffer_name ins) (map buffer_name outs)) (λ (x : Instr). Ok (with_instr r x)) else refused n BadLine) takes
      ∙ ap (λ (x : Result Instr CodeRefusal). and_then x (λ (y : Instr). Ok (with_instr r y)))
      (call_steps n v ins outs w (each_in buffer_in (map buffer_name ins)) (each_in buffer_in (map buffer_name outs))
      (place_in (operation_names g) w) (first_unknown here (map buffer_name ins)) (first_unknown here (map buffer_name outs))
      (each_back buffer_in buffer_name buffer_back ins (all_small here ins i))
      (each_back buffer_in buffer_name buffer_back outs (all_small here outs o)) it.place (all_known here ins i) (all_known here outs o))

  -- the line of an instruction
  pub instr_reads : (r : Reading) (n : ℕ) (x : Instr) → takes_instr r ≡ true → readable r x ≡ true → Read r n (instr_line (names g a) x) (with_instr r x)
  instr_reads r n (Suc0 q) takes h =
      lines.macro_reads (operation_names g) a r (with_instr r (instr.Suc0 q)) n macros.Suc0 (decimal q ∷ [])
      (pair_argument r.pairs_here q h)
      (stands r n (Some (decimal q ∷ [])) macros.Suc0 (with_instr r (instr.Suc0 q)) takes (pair_back r n q (λ k. instr.Suc0 k) h))
  instr_reads r n (Suc1 q) takes h =
      lines.macro_reads (operation_names g) a r (with_instr r (instr.Suc1 q)) n macros.Suc1 (decimal q ∷ [])
      (pair_argument r.pairs_here q h)
      (stands r n (Some (decimal q ∷ [])) macros.Suc1 (with_instr r (instr.Suc1 q)) takes (pair_back r n q (λ k. instr.Suc1 k) h))
  instr_reads r n (Pre0 q) takes h =
      lines.macro_reads (operation_names g) a r (with_instr r (instr.Pre0 q)) n macros.Pre0 (decimal q ∷ [])
      (pair_argument r.pairs_here q h)
      (stands r n (Some (decimal q ∷ [])) macros.Pre0 (with_instr r (instr.Pre0 q)) takes (pair_back r n q (λ k. instr.Pre0 k) h))
  instr_reads r n (Pre1 q) takes h =
      lines.macro_reads (operation_names g) a r (with_instr r (instr.Pre1 q)) n macros.Pre1 (decimal q ∷ [])
      (pair_argument r.pairs_here q h)
      (stands r n (Some (decimal q ∷ [])) macros.Pre1 (with_instr r (instr.Pre1 q)) takes (pair_back r n q (λ k. instr.Pre1 k) h))
  instr_reads r n (Send b o) takes h =
      let both = and_parts (is_there r.buffers_here b) (nat_lt o (length a.operators)) h in
      let l = ltb-true o (length a.operators) both.1 in
      let ws = buffer_name b ∷ operator_name (names g a) o ∷ [] in
      lines.macro_reads (operation_names g) a r (with_instr r (instr.Send b o)) n macros.Send ws (transfer_argument r.buffers_here b o both.0 l)
      (stands r n (Some ws) macros.Send (with_instr r (instr.Send b o)) takes (transfer_back r n b o (λ c p. instr.Send c p) both.0 l))
  instr_reads r n (Recv b o) takes h =
      let both = and_parts (is_there r.buffers_here b) (nat_lt o (length a.operators)) h in
      let l = ltb-true o (length a.operators) both.1 in
      let ws = buffer_name b ∷ operator_name (names g a) o ∷ [] in
      lines.macro_reads (operation_names g) a r (with_instr r (instr.Recv b o)) n macros.Recv ws (transfer_argument r.buffers_here b o both.0 l)
      (stands r n (Some ws) macros.Recv (with_instr r (instr.Recv b o)) takes (transfer_back r n b o (λ c p. instr.Recv c p) both.0 l))
  instr_reads r n (Sync o p) takes h =
      let both = and_parts (nat_lt o (length a.operators)) (nat_lt p (length a.operators)) h in
      let l = ltb-true o (length a.operators) both.0 in
      let k = ltb-true p (length a.operators) both.1 in
      let v = operator_name (names g a) o in
      let w = operator_name (names g a) p in
      lines.macro_reads (operation_names g) a r (with_instr r (instr.Sync o p)) n macros.Sync (v ∷ w ∷ [])
      (two_arguments v w (name_argument v ((known_names.operator o l).passes)) (name_argument w ((known_names.operator p k).passes)))
      (stands r n (Some (v ∷ w ∷ [])) macros.Sync (with_instr r (instr.Sync o p)) takes (sync_back r n o p l k))
  instr_reads r n (Call v ins outs) takes h =
      let both = and_parts (nat_lt v (length g.vertices) && list_all (is_there r.buffers_here) ins) (list_all (is_there r.buffers_here) outs) h in
      let first = and_parts (nat_lt v (length g.vertices)) (list_all (is_there r.buffers_here) ins) both.0 in
      let l = ltb-true v (length g.vertices) first.0 in
      lines.call_reads (operation_names g) a r (with_instr r (instr.Call v ins outs)) n (operation_name (names g a) v) (map buffer_name ins) (map buffer_name outs)
      (path_argument (operation_name (names g a) v) ((known_names.operation v l).passes))
      (each_argument buffer_name buffer_argument ins (all_small r.buffers_here ins first.1)) (each_argument buffer_name buffer_argument outs (all_small r.buffers_here outs both.1))
      (call_back r n v ins outs takes l first.1 both.1)

  -- before the loop, where all threads were started, and inside it
  abbrev pub opened : Reading → List Instr → Reading
  opened r xs = record r { stage = Prologue; prologue = xs }

  abbrev pub turning : Reading → List Instr → Reading
  turning r xs = record r { stage = Turn; turn = xs }

  pub prologue_reads : (r : Reading) (n : ℕ) (done xs : List Instr) → starts_more r ≡ false → list_all (readable r) xs ≡ true
      → Read (opened r done) n (body_text (names g a) xs) (opened r (done ++ xs))
  prologue_reads r n done [] none h = subst (λ (l : List Instr). Read (opened r done) n [] (opened r l)) (sym (append-nil done)) (lines.nothing (operation_names g) a (opened r done) n)
  prologue_reads r n done (x ∷ xs) none h =
      let p = and_parts (readable r x) (list_all (readable r) xs) h in
      let first = instr_reads (opened r done) n x (ap not none) p.0 in
      let rest = prologue_reads r first.k (done ++ x ∷ []) xs none p.1 in
      lines.another (operation_names g) a (opened r done) (opened r (done ++ x ∷ xs)) n (body_text (names g a) (x ∷ xs))
      (instr_line (names g a) x ++ body_text (names g a) xs) (flat_map-cons (instr_line (names g a)) x xs)
      (subst (λ (l : List Instr). Read (opened r done) n (instr_line (names g a) x ++ body_text (names g a) xs) (opened r l)) (append_assoc done (x ∷ []) xs)
      (lines.both (operation_names g) a (opened r done) (opened r (done ++ x ∷ [])) (opened r ((done ++ x ∷ []) ++ xs)) n (instr_line (names g a) x) (body_text (names g a) xs) first rest))

  pub turn_reads : (r : Reading) (n : ℕ) (done xs : List Instr) → list_all (readable r) xs ≡ true → Read (turning r done) n (body_text (names g a) xs) (turning r (done ++ xs))
  turn_reads r n done [] h = subst (λ (l : List Instr). Read (turning r done) n [] (turning r l)) (sym (append-nil done)) (lines.nothing (operation_names g) a (turning r done) n)
  turn_reads r n done (x ∷ xs) h =
      let p = and_parts (readable r x) (list_all (readable r) xs) h in
      let first = instr_reads (turning r done) n x refl p.0 in
      let rest = turn_reads r first.k (done ++ x ∷ []) xs p.1 in
      lines.another (operation_names g) a (turning r done) (turning r (done ++ x ∷ xs)) n (body_text (names g a) (x ∷ xs))
      (instr_line (names g a) x ++ body_text (names g a) xs) (flat_map-cons (instr_line (names g a)) x xs)
      (subst (λ (l : List Instr). Read (turning r done) n (instr_line (names g a) x ++ body_text (names g a) xs) (turning r l)) (append_assoc done (x ∷ []) xs)
      (lines.both (operation_names g) a (turning r done) (turning r (done ++ x ∷ [])) (turning r ((done ++ x ∷ []) ++ xs)) n (instr_line (names g a) x) (body_text (names g a) xs) first rest))
