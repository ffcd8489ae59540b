-- What was seen of a text beside what the reader has read of it.
use Rattle.std.proofs.Common.{
  ◌≡◌,
  ℕ,
  ◌+◌,
  Bool,
  true,
  false,
  cond,
  ◌||◌,
  ◌&&◌,
  not,
  nat_eq,
  List,
  [],
  ◌∷◌,
  ◌++◌,
  length,
  Option,
  Some,
  None,
  Result,
  Ok,
  Err,
  refl,
  sym,
  ap,
  subst,
  arith,
  ◌∙◌,
  if◌then◌else◌,
}
use Rattle.std.specs.Prelude.{is_some}
use Rattle.std.proofs.lemmas.Bool.{false≢true, ne_eqb}
use Rattle.syn_base.specs.Bytes.{Bytes}
use Rattle.text_lines.specs.Text.{code_of, foreign_place, lines_of, words_of}
use Rattle.executive_program.specs.Graph.{Graph}
use Rattle.executive_program.specs.Archi.{Architecture}
use Rattle.executive_program.specs.declared.program.Instr.{Instr}
use Rattle.executive_program.specs.declared.program.Instr.TheVariants as instr
use Rattle.executive_program.specs.declared.program.SeqCode.{SeqCode}
use Rattle.macro_code.specs.declared.macros.Macro.{Macro}
use Rattle.macro_code.specs.declared.macros.Macro.TheVariants as macro
use Rattle.macro_code.specs.Refusals.{CodeRefusal}
use Rattle.macro_code.specs.declared.fault.CodeCause.TheVariants.{BadLine}
use Rattle.macro_code.specs.declared.stage.Stage.{Stage}
use Rattle.macro_code.specs.declared.stage.Stage.TheVariants.{Outside, Named, Declared, Threaded, Prologue, Turn, Ended}
use Rattle.macro_code.specs.Forms.{Form, arguments_of, bare, call, form_of, listed, macro_of}
use Rattle.macro_code.specs.ReadText.{
  Arguments,
  Reading,
  Joined,
  at_processor,
  at_thread,
  awaits_more,
  call_line,
  call_of,
  code_here,
  declaration_of,
  ends_of,
  formed,
  is_declared,
  is_ended,
  is_named,
  is_outside,
  is_prologue,
  is_threaded,
  is_turn,
  known_macro,
  line_by,
  line_of,
  macro_line,
  may_stand,
  medium_of,
  moved_of,
  named_line,
  next_line,
  operation_names,
  pair_of,
  pairs_of,
  placed_line,
  processor_of,
  start,
  starts_more,
  takes_instr,
  thread_of,
  with_buffer,
  with_instr,
  with_pairs,
  without,
  words_line,
}
use Rattle.text_lines.specs.Refusals.{and_then, refused}
use Rattle.check_places.specs.declared.place.Part.{Part}
use Rattle.check_places.specs.declared.place.Part.TheVariants as part
use Rattle.why_text.specs.declared.lines.Head.{Head}
use Rattle.why_text.specs.declared.lines.Head.TheVariants.{Begin, Loop, EndThread, EndMain}
use Rattle.why_text.specs.declared.lines.SequenceLines.{SequenceLines}
use Rattle.why_text.specs.Lines.{Seen, head_at, head_in, head_of, seen, with_line}
use Rattle.why_text.specs.Said.{Says, next_spot, number_by, number_here, read_of, spot}
use Rattle.why_text.proofs.Heads.{form_head, head_of_form, head_of_macro, macro_head}

-- what a reading that goes on has found
pub found : {A B : Type 0} (x : Result A CodeRefusal) (go : A → Result B CodeRefusal) (y : B) → and_then x go ≡ Ok y → (v : A) × (x ≡ Ok v) × (go v ≡ Ok y)
found (Ok v) go y e = (v, refl, e)
found (Err f) go y e = absurd cc

pub same_Ok : {A : Type 0} (x y : A) → ◌≡◌ {A = Result A CodeRefusal} (Ok x) (Ok y) → x ≡ y
same_Ok x y e = cc

found_so : {A B : Type 0} (x : Result A CodeRefusal) (make : A → B) (y : B) → and_then x (λ v. Ok (make v)) ≡ Ok y → (v : A) × (make v ≡ y)
found_so x make y e = let r = found x (λ v. Ok (make v)) y e in (r.0, same_Ok (make r.0) y r.2)

alone : {A : Type 0} (n : ℕ) (arguments : Arguments) (x y : A) → without n arguments (Ok x) ≡ Ok y → x ≡ y
alone n None x y e = same_Ok x y e
alone n (Some ws) x y e = absurd cc

-- where a sequence stands, with what was read of it
abbrev AtStage : Stage → Bool → List Instr → List Instr → Type 0
AtStage Prologue b prologue turn = b ≡ false
AtStage Turn b prologue turn = b ≡ true
AtStage Ended b prologue turn = Unit {0}
AtStage Outside b prologue turn = (prologue ≡ []) × (turn ≡ [])
AtStage Named b prologue turn = (prologue ≡ []) × (turn ≡ [])
AtStage Declared b prologue turn = (prologue ≡ []) × (turn ≡ [])
AtStage Threaded b prologue turn = (prologue ≡ []) × (turn ≡ [])

module _ (text : Bytes) (g : Graph) (a : Architecture) where
  -- these lines say these instructions of a part, the first of which has place i
  abbrev pub EachSays : Part → ℕ → ℕ → List ℕ → List Instr → Type 0
  EachSays part s i [] [] = Unit {0}
  EachSays part s i (n ∷ ns) (x ∷ xs) = Says text g a n (spot part s i) x × EachSays part s (i + 1) ns xs
  EachSays part s i [] (x ∷ xs) = ⊥
  EachSays part s i (n ∷ ns) [] = ⊥

  pub record SaysCode (s : ℕ) (l : SequenceLines) (q : SeqCode) : Type 0 where
    pub prologue : EachSays part.Prologue s 0 l.prologue q.prologue
    pub turn : EachSays part.Loop s 0 l.turn q.turn

  -- these lines are those of these sequences, the first of which has number s
  abbrev pub AllSay : ℕ → List SequenceLines → List SeqCode → Type 0
  AllSay s [] [] = Unit {0}
  AllSay s (l ∷ ls) (q ∷ qs) = SaysCode s l q × AllSay (s + 1) ls qs
  AllSay s [] (q ∷ qs) = ⊥
  AllSay s (l ∷ ls) [] = ⊥

  each_more : (part : Part) (s i j : ℕ) (ns : List ℕ) (xs : List Instr) (n : ℕ) (x : Instr) → j ≡ i + length xs
      → EachSays part s i ns xs → Says text g a n (spot part s j) x → EachSays part s i (ns ++ n ∷ []) (xs ++ x ∷ [])
  each_more part s i j [] [] n x e h k =
      let here : j ≡ i = omega arith in
      (subst (λ (k : ℕ). Says text g a n (spot part s k) x) here k, tt)
  each_more part s i j (m ∷ ns) (y ∷ xs) n x e h k = (h.0, each_more part s (i + 1) j ns xs n x (omega arith) h.1 k)
  each_more part s i j [] (y ∷ xs) n x e h k = absurd h
  each_more part s i j (m ∷ ns) [] n x e h k = absurd h

  all_both : (s t : ℕ) (ls ms : List SequenceLines) (qs rs : List SeqCode) → t ≡ s + length qs → AllSay s ls qs → AllSay t ms rs → AllSay s (ls ++ ms) (qs ++ rs)
  all_both s t [] ms [] rs e h k =
      let here : t ≡ s = omega arith in
      subst (λ (n : ℕ). AllSay n ms rs) here k
  all_both s t (l ∷ ls) ms (q ∷ qs) rs e h k = (h.0, all_both (s + 1) t ls ms qs rs (omega arith) h.1 k)
  all_both s t [] ms (q ∷ qs) rs e h k = absurd h
  all_both s t (l ∷ ls) ms [] rs e h k = absurd h

  pub record IsBeside (r : Reading) (w : Seen) : Type 0 where
    pub prologue : EachSays part.Prologue (number_here r) 0 w.here.prologue r.prologue
    pub turn : EachSays part.Loop (number_here r) 0 w.here.turn r.turn
    pub stage : AtStage r.stage w.in_loop r.prologue r.turn
    pub threads : AllSay (length r.seqs + 1) w.threads r.threads
    pub done : AllSay 0 w.done r.seqs

  -- an instruction more
  same_loop : (s : Stage) (c b : Bool) (prologue turn : List Instr) → (is_turn s || (is_prologue s && c)) ≡ true → AtStage s b prologue turn → is_turn s ≡ b
  same_loop Prologue c b prologue turn t h = sym h
  same_loop Turn c b prologue turn t h = sym h
  same_loop Outside c b prologue turn t h = absurd (false≢true t)
  same_loop Named c b prologue turn t h = absurd (false≢true t)
  same_loop Declared c b prologue turn t h = absurd (false≢true t)
  same_loop Threaded c b prologue turn t h = absurd (false≢true t)
  same_loop Ended c b prologue turn t h = absurd (false≢true t)

  stage_more : (s : Stage) (c b : Bool) (prologue turn further more : List Instr) → (is_turn s || (is_prologue s && c)) ≡ true → AtStage s b prologue turn → AtStage s b further more
  stage_more Prologue c b prologue turn further more t h = h
  stage_more Turn c b prologue turn further more t h = h
  stage_more Outside c b prologue turn further more t h = absurd (false≢true t)
  stage_more Named c b prologue turn further more t h = absurd (false≢true t)
  stage_more Declared c b prologue turn further more t h = absurd (false≢true t)
  stage_more Threaded c b prologue turn further more t h = absurd (false≢true t)
  stage_more Ended c b prologue turn further more t h = absurd (false≢true t)

  with_one : (r : Reading) (w : Seen) (n : ℕ) (x : Instr) → IsBeside r w → takes_instr r ≡ true → Says text g a n (next_spot r) x → IsBeside (with_instr r x) (with_line w n)
  with_one r w n x h t s = by (is_turn r.stage) w.in_loop (same_loop r.stage (not (starts_more r)) w.in_loop r.prologue r.turn t h.stage) s
    where
      by : (b c : Bool) → b ≡ c
          → Says text g a n (cond b (spot part.Loop (number_here r) (length r.turn)) (spot part.Prologue (number_here r) (length r.prologue))) x
          → IsBeside (if b then record r { turn = r.turn ++ x ∷ [] } else record r { prologue = r.prologue ++ x ∷ [] })
          (cond c (record w { here = record w.here { turn = w.here.turn ++ n ∷ [] } }) (record w { here = record w.here { prologue = w.here.prologue ++ n ∷ [] } }))
      by true true e s = record {
        prologue = h.prologue;
        turn = each_more part.Loop (number_here r) 0 (length r.turn) w.here.turn r.turn n x (omega arith) h.turn s;
        stage = stage_more r.stage (not (starts_more r)) w.in_loop r.prologue r.turn r.prologue (r.turn ++ x ∷ []) t h.stage;
        threads = h.threads;
        done = h.done;
      }
      by false false e s = record {
        prologue = each_more part.Prologue (number_here r) 0 (length r.prologue) w.here.prologue r.prologue n x (omega arith) h.prologue s;
        turn = h.turn;
        stage = stage_more r.stage (not (starts_more r)) w.in_loop r.prologue r.turn (r.prologue ++ x ∷ []) r.turn t h.stage;
        threads = h.threads;
        done = h.done;
      }
      by true false e s = absurd cc
      by false true e s = absurd cc

  -- a sequence begins where nothing is read of one
  before_one : (s : Stage) (b : Bool) (prologue turn : List Instr) → (is_declared s || is_threaded s) ≡ true → AtStage s b prologue turn → (prologue ≡ []) × (turn ≡ [])
  before_one Declared b prologue turn t h = h
  before_one Threaded b prologue turn t h = h
  before_one Outside b prologue turn t h = absurd (false≢true t)
  before_one Named b prologue turn t h = absurd (false≢true t)
  before_one Prologue b prologue turn t h = absurd (false≢true t)
  before_one Turn b prologue turn t h = absurd (false≢true t)
  before_one Ended b prologue turn t h = absurd (false≢true t)

  outside_one : (s : Stage) (b : Bool) (prologue turn : List Instr) → is_outside s ≡ true → AtStage s b prologue turn → (prologue ≡ []) × (turn ≡ [])
  outside_one Outside b prologue turn t h = h
  outside_one Declared b prologue turn t h = absurd (false≢true t)
  outside_one Threaded b prologue turn t h = absurd (false≢true t)
  outside_one Named b prologue turn t h = absurd (false≢true t)
  outside_one Prologue b prologue turn t h = absurd (false≢true t)
  outside_one Turn b prologue turn t h = absurd (false≢true t)
  outside_one Ended b prologue turn t h = absurd (false≢true t)

  named_one : (s : Stage) (b : Bool) (prologue turn : List Instr) → is_named s ≡ true → AtStage s b prologue turn → (prologue ≡ []) × (turn ≡ [])
  named_one Named b prologue turn t h = h
  named_one Outside b prologue turn t h = absurd (false≢true t)
  named_one Declared b prologue turn t h = absurd (false≢true t)
  named_one Threaded b prologue turn t h = absurd (false≢true t)
  named_one Prologue b prologue turn t h = absurd (false≢true t)
  named_one Turn b prologue turn t h = absurd (false≢true t)
  named_one Ended b prologue turn t h = absurd (false≢true t)

  none_says : (part : Part) (s : ℕ) (xs : List Instr) → xs ≡ [] → EachSays part s 0 [] xs
  none_says part s xs e = subst (λ (ys : List Instr). EachSays part s 0 [] ys) (sym e) tt

  -- One line of a macro more, which says what it adds.
  module _ (r after : Reading) (w : Seen) (n : ℕ) (arguments : Arguments) (h : IsBeside r w) (says : (x : Instr) → with_instr r x ≡ after → Says text g a n (next_spot r) x) where
    adds : (x : Instr) → with_instr r x ≡ after → takes_instr r ≡ true → IsBeside after (with_line w n)
    adds x e t = subst (λ (r : Reading). IsBeside r (with_line w n)) e (with_one r w n x h t (says x e))

    pair_added : (make : ℕ → Instr) → and_then (pair_of n r.pairs_here arguments) (λ q. Ok (with_instr r (make q))) ≡ Ok after → takes_instr r ≡ true → IsBeside after (with_line w n)
    pair_added make e t = let q = found_so (pair_of n r.pairs_here arguments) (λ q. with_instr r (make q)) after e in adds (make q.0) q.1 t

    transfer_added : (make : ℕ → ℕ → Instr)
        → and_then (moved_of a n r.buffers_here arguments) (λ t. Ok (with_instr r (make t.buffer t.operator))) ≡ Ok after → takes_instr r
        ≡ true → IsBeside after (with_line w n)
    transfer_added make e t = let q = found_so (moved_of a n r.buffers_here arguments) (λ t. with_instr r (make t.buffer t.operator)) after e in adds (make q.0.buffer q.0.operator) q.1 t

    -- where nothing changes of what is beside
    as_before : (made : Reading) → made ≡ after → IsBeside made w → IsBeside after w
    as_before made e k = subst (λ (r : Reading). IsBeside r w) e k

    begun : (made : Reading) → made ≡ after → (is_declared r.stage || is_threaded r.stage) ≡ true
        → made.stage ≡ Prologue → made.prologue ≡ r.prologue → made.turn ≡ r.turn → made.threads ≡ r.threads → made.seqs ≡ r.seqs → IsBeside after (seen w n Begin)
    begun made e t s p u d q =
        let none = before_one r.stage w.in_loop r.prologue r.turn t h.stage in
        subst (λ (r : Reading). IsBeside r (seen w n Begin)) e (record {
          prologue = none_says part.Prologue (number_here made) made.prologue (p ∙ none.0);
          turn = none_says part.Loop (number_here made) made.turn (u ∙ none.1);
          stage = subst (λ (s : Stage). AtStage s false made.prologue made.turn) (sym s) refl;
          threads = subst (λ (qs : List SeqCode). AllSay (length made.seqs + 1) w.threads qs) (sym d)
              (subst (λ (qs : List SeqCode). AllSay (length qs + 1) w.threads r.threads) (sym q) h.threads);
          done = subst (λ (qs : List SeqCode). AllSay 0 w.done qs) (sym q) h.done;
        })

    here_says : SaysCode (number_here r) w.here (code_here r)
    here_says = record { prologue = h.prologue; turn = h.turn }

    -- the main part is the first of its processor, and each thread comes after those before it
    main_ends : (m : Option ℕ) (more : Bool) → (is_ended r.stage && not (is_some m) && more) ≡ true → number_by m (length r.seqs) (length r.threads) ≡ length r.seqs
    main_ends None more t = refl
    main_ends (Some k) more t = absurd (false≢true (sym (none_passes (is_ended r.stage)) ∙ t))
      where
        none_passes : (b : Bool) → (b && false && more) ≡ false
        none_passes true = refl
        none_passes false = refl

    thread_ends : (m : Option ℕ) → (is_ended r.stage && is_some m) ≡ true → number_by m (length r.seqs) (length r.threads) ≡ length r.seqs + 1 + length r.threads
    thread_ends (Some k) t = refl
    thread_ends None t = absurd (false≢true (sym (none_passes (is_ended r.stage)) ∙ t))
      where
        none_passes : (b : Bool) → (b && false) ≡ false
        none_passes true = refl
        none_passes false = refl

    macro_seen : (m : Macro) → may_stand r m ≡ true → macro_line a r n arguments m ≡ Ok after → IsBeside after (seen w n (head_of_macro m))
    macro_seen macro.Processor t e =
        let o = found_so (processor_of a n r.operator arguments) (at_processor a r) after e in
        as_before (at_processor a r o.0) o.1 (record { prologue = h.prologue; turn = h.turn; stage = outside_one r.stage w.in_loop r.prologue r.turn t h.stage; threads = h.threads; done = h.done })
    macro_seen macro.Semaphores t e =
        let qs = found_so (pairs_of n arguments) (with_pairs r n) after e in
        as_before (with_pairs r n qs.0) qs.1 (record { prologue = h.prologue; turn = h.turn; stage = named_one r.stage w.in_loop r.prologue r.turn t h.stage; threads = h.threads; done = h.done })
    macro_seen macro.Alloc t e =
        let d = found_so (declaration_of n r.buffers_here arguments) (with_buffer r n) after e in
        as_before (with_buffer r n d.0) d.1 (record { prologue = h.prologue; turn = h.turn; stage = h.stage; threads = h.threads; done = h.done })
    macro_seen macro.Thread t e =
        let j = found_so (medium_of a n r.media arguments) (λ (j : Joined). at_thread a r j.medium) after e in
        begun (at_thread a r j.0.medium) j.1 t refl refl refl refl refl
    macro_seen macro.Main t e =
        begun (record r { stage = Prologue; medium = None; spawned = []; awaited = [] })
        (alone n arguments (record r { stage = Prologue; medium = None; spawned = []; awaited = [] }) after e) t refl refl refl refl refl
    macro_seen macro.EndThread t e =
        subst (λ (r : Reading). IsBeside r (seen w n EndThread))
        (alone n arguments (record r { stage = Threaded; threads = r.threads ++ code_here r ∷ []; prologue = []; turn = [] }) after e)
        (record {
          prologue = tt;
          turn = tt;
          stage = (refl, refl);
          threads =
              all_both (length r.seqs + 1) (number_here r) w.threads (w.here ∷ []) r.threads (code_here r ∷ [])
              (thread_ends r.medium t) h.threads (here_says, tt);
          done = h.done;
        })
    macro_seen macro.EndMain t e =
        subst (λ (r : Reading). IsBeside r (seen w n EndMain))
        (alone n arguments (record r { stage = Outside; seqs = r.seqs ++ (code_here r ∷ r.threads); threads = []; prologue = []; turn = [] }) after e)
        (record {
          prologue = tt;
          turn = tt;
          stage = (refl, refl);
          threads = tt;
          done =
              all_both 0 (number_here r) w.done (w.here ∷ w.threads) r.seqs (code_here r ∷ r.threads) first h.done
              (here_says, subst (λ (s : ℕ). AllSay (s + 1) w.threads r.threads) (sym (main_ends r.medium (not (awaits_more r)) t)) h.threads);
        })
      where
        first : number_here r ≡ 0 + length r.seqs
        first = let e = main_ends r.medium (not (awaits_more r)) t in omega arith
    macro_seen macro.SpawnThread t e =
        let m = found_so (thread_of a n r.media r.spawned arguments) (λ (m : ℕ). record r { spawned = r.spawned ++ m ∷ [] }) after e in
        as_before (record r { spawned = r.spawned ++ m.0 ∷ [] }) m.1 (record { prologue = h.prologue; turn = h.turn; stage = h.stage; threads = h.threads; done = h.done })
    macro_seen macro.WaitEndThread t e =
        let m = found_so (thread_of a n r.media r.awaited arguments) (λ (m : ℕ). record r { awaited = r.awaited ++ m ∷ [] }) after e in
        as_before (record r { awaited = r.awaited ++ m.0 ∷ [] }) m.1 (record { prologue = h.prologue; turn = h.turn; stage = h.stage; threads = h.threads; done = h.done })
    macro_seen macro.Loop t e =
        subst (λ (r : Reading). IsBeside r (seen w n Loop)) (alone n arguments (record r { stage = Turn }) after e)
        (record { prologue = h.prologue; turn = h.turn; stage = refl; threads = h.threads; done = h.done })
    macro_seen macro.EndLoop t e =
        as_before (record r { stage = Ended }) (alone n arguments (record r { stage = Ended }) after e)
        (record { prologue = h.prologue; turn = h.turn; stage = tt; threads = h.threads; done = h.done })
    macro_seen macro.Suc0 t e = pair_added (λ q. instr.Suc0 q) e t
    macro_seen macro.Suc1 t e = pair_added (λ q. instr.Suc1 q) e t
    macro_seen macro.Pre0 t e = pair_added (λ q. instr.Pre0 q) e t
    macro_seen macro.Pre1 t e = pair_added (λ q. instr.Pre1 q) e t
    macro_seen macro.Send t e = transfer_added (λ b o. instr.Send b o) e t
    macro_seen macro.Recv t e = transfer_added (λ b o. instr.Recv b o) e t
    macro_seen macro.Sync t e =
        let q = found_so (ends_of a n arguments) (λ x. with_instr r (instr.Sync x.from x.to)) after e in
        adds (instr.Sync q.0.from q.0.to) q.1 t

    -- a line that may stand where it does
    named_seen : (name : Bytes) → named_line a r n name arguments ≡ Ok after → IsBeside after (seen w n (head_of name))
    named_seen name e = by (macro_of name) refl e
      where
        placed : (m : Macro) (b : Bool) → may_stand r m ≡ b → (if b then macro_line a r n arguments m else refused n BadLine) ≡ Ok after → IsBeside after (seen w n (head_of_macro m))
        placed m true t e = macro_seen m t e
        placed m false t e = absurd cc

        by : (o : Option Macro) → macro_of name ≡ o → and_then (known_macro n name o) (placed_line a r n arguments) ≡ Ok after → IsBeside after (seen w n (head_of name))
        by None k e = absurd cc
        by (Some m) k e = subst (λ (d : Head). IsBeside after (seen w n d)) (sym (macro_head name m k)) (placed m (may_stand r m) refl e)

  -- One line more.
  module _ (r after : Reading) (w : Seen) (n : ℕ) (line : Bytes) (above below : List Bytes)
      (whole : above ++ (line ∷ below) ≡ lines_of text) (number : n ≡ length above + 1) (read : read_of text g a start 1 above ≡ Ok r)
      (h : IsBeside r w) (e : next_line (operation_names g) a r n line ≡ Ok after) where
    says : (x : Instr) → with_instr r x ≡ after → Says text g a n (next_spot r) x
    says x f = record {
      above = above;
      line = line;
      below = below;
      whole = whole;
      number = number;
      before = r;
      read = read;
      adds = e ∙ ap (λ (r : Reading). Ok r) (sym f);
      place = refl;
    }

    called : (operation : Bytes) (ins outs : List Bytes) → call_line (operation_names g) r n operation ins outs ≡ Ok after → IsBeside after (with_line w n)
    called operation ins outs e = by (takes_instr r) refl e
      where
        by : (b : Bool) → takes_instr r ≡ b
            → (if b then and_then (call_of (operation_names g) n r.buffers_here operation ins outs)
            (λ x. Ok (with_instr r x)) else refused n BadLine) ≡ Ok after → IsBeside after (with_line w n)
        by true t e = let x = found_so (call_of (operation_names g) n r.buffers_here operation ins outs) (with_instr r) after e in
            adds r after w n None h says x.0 x.1 t
        by false t e = absurd cc

    form_seen : (f : Form) → line_of (operation_names g) a r n f ≡ Ok after → IsBeside after (seen w n (head_of_form f))
    form_seen (bare name) e = named_seen r after w n None h says name e
    form_seen (listed name list) e = named_seen r after w n (Some (arguments_of list)) h says name e
    form_seen (call operation ins outs) e = called operation (arguments_of ins) (arguments_of outs) e

    words_seen : (ws : List Bytes) → words_line (operation_names g) a r n ws ≡ Ok after → IsBeside after (seen w n (head_in ws))
    words_seen ws e = by (form_of ws) refl e
      where
        by : (o : Option Form) → form_of ws ≡ o → and_then (formed n o) (line_of (operation_names g) a r n) ≡ Ok after → IsBeside after (seen w n (head_in ws))
        by None k e = absurd cc
        by (Some f) k e = subst (λ (d : Head). IsBeside after (seen w n d)) (sym (form_head ws f k)) (form_seen f e)

    blank : (ws : List Bytes) → nat_eq (length ws) 0 ≡ true → ◌≡◌ {A = Result Reading CodeRefusal} (Ok r) (Ok after) → IsBeside after (seen w n (head_in ws))
    blank [] t e = subst (λ (r : Reading). IsBeside r w) (same_Ok r after e) h
    blank (v ∷ ws) t e = absurd (false≢true (sym (ne_eqb (length (v ∷ ws)) 0 (λ d. omega (arith, d))) ∙ t))

    pub line_seen : IsBeside after (seen w n (head_at line))
    line_seen = by (foreign_place line) e
      where
        split : (b : Bool) → nat_eq (length (words_of (code_of line))) 0 ≡ b
            → (if b then Ok r else words_line (operation_names g) a r n (words_of (code_of line))) ≡ Ok after → IsBeside after (seen w n (head_at line))
        split true t e = blank (words_of (code_of line)) t e
        split false t e = words_seen (words_of (code_of line)) e

        by : (o : Option ℕ) → line_by (operation_names g) a r n line o ≡ Ok after → IsBeside after (seen w n (head_at line))
        by (Some place) e = absurd cc
        by None e = split (nat_eq (length (words_of (code_of line))) 0) refl e
