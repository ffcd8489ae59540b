-- The threads and the main part of a processor are read as its sequences.
use Rattle.std.proofs.Common.{
  ◌≡◌,
  ℕ,
  ◌+◌,
  ◌<◌,
  Bool,
  not,
  ◌&&◌,
  ◌||◌,
  true,
  false,
  cond,
  nat_le,
  nat_lt,
  nat_eq,
  if◌then◌else◌,
  List,
  [],
  ◌∷◌,
  ◌++◌,
  length,
  refl,
  sym,
  ap,
  ap₂,
  arith,
  ◌∙◌,
  subst,
  Option,
  Some,
  None,
  Result,
  Ok,
  append_assoc,
  append-nil,
}
use Rattle.std.specs.List.{list_all, flat_map}
use Rattle.std.proofs.lemmas.Bool.{and_parts, lt-ltb, leb-true, ltb-true, eq-eqb}
use Rattle.std.proofs.lemmas.List.{length-append}
use Rattle.std.proofs.lemmas.List.Concat.{flat_map-cons}
use Rattle.sequence_build_laws.specs.Graph.{Graph}
use Rattle.sequence_build_laws.specs.declared.Seq.{Seq}
use Rattle.sequence_build_laws.specs.Archi.{Architecture, ascends_from}
use Rattle.sequence_build_laws.specs.Sequences.{communicator}
use Rattle.sequence_build_laws.specs.declared.SeqCode.{SeqCode}
use Rattle.macro_code.specs.declared.macros.Macro.{Macro}
use Rattle.macro_code.specs.declared.macros.Macro.TheVariants as macros
use Rattle.macro_code.specs.Text.{line, word_line, medium_name, body_text, code_text, thread_by, thread_text, medium_by, medium_line, medium_lines}
use Rattle.macro_code.specs.Refusals.{CodeRefusal}
use Rattle.macro_code.specs.declared.fault.CodeCause.TheVariants.{BadArgument, UnknownName}
use Rattle.macro_code.specs.declared.stage.Stage.{Stage}
use Rattle.macro_code.specs.declared.stage.Stage.TheVariants.{Threaded, Prologue, Ended}
use Rattle.syn_base.specs.Bytes.{Bytes}
use Rattle.macro_code.specs.ReadText.{
  Reading,
  Joined,
  known,
  place_in,
  medium_names,
  operation_names,
  is_among,
  follows,
  last_of,
  is_declared,
  is_threaded,
  starts_more,
  awaits_more,
  medium_of,
  thread_of,
  at_thread,
}
use Rattle.text_lines.specs.Refusals.{and_then, refused}
use Rattle.code_laws.proofs.Arguments.{name_argument}
use Rattle.code_laws.proofs.Named.{names, AreNamed}
use Rattle.code_laws.proofs.Declared.{name_back, Above, above_last}
use Rattle.code_laws.proofs.Instructions.{Read, readable, stands, one_argument, opened, turning, prologue_reads, turn_reads}
use Rattle.code_laws.proofs.ReadLines as lines

-- these sequences are the communicators of an operator at these media
abbrev pub AreThreads : ℕ → List SeqCode → List ℕ → Type 0
AreThreads o [] [] = Unit {0}
AreThreads o (q ∷ qs) (m ∷ ms) = (q.seq ≡ communicator o m) × AreThreads o qs ms
AreThreads o [] (m ∷ ms) = ⊥
AreThreads o (q ∷ qs) [] = ⊥

-- the next one is above those before it
above_one : (here : List ℕ) (b : ℕ) → Above (here ++ b ∷ []) (b + 1)
above_one here b = record { follow = λ k l. ap (λ (o : Option ℕ). follows o k) (above_last here b) ∙ lt-ltb b k (omega (arith, l)) }

among_at : (front rest : List ℕ) (m : ℕ) → is_among (front ++ m ∷ rest) m ≡ true
among_at [] rest m = by (nat_eq m m) (eq-eqb m m refl)
  where
    by : (t : Bool) → t ≡ true → (t || is_among rest m) ≡ true
    by t e = ap (λ (b : Bool). b || is_among rest m) e
among_at (k ∷ front) rest m = by (nat_eq k m) (among_at front rest m)
  where
    by : (t : Bool) → is_among (front ++ m ∷ rest) m ≡ true → (t || is_among (front ++ m ∷ rest) m) ≡ true
    by true e = refl
    by false e = e

-- a sequence by its parts
pub code_is : (q : SeqCode) (s : Seq) → q.seq ≡ s → record { seq = s; prologue = q.prologue; turn = q.turn } ≡ q
code_is q s e = ap (λ (x : Seq). record { seq = x; prologue = q.prologue; turn = q.turn }) (sym e)

-- what is nothing for each
pub flat_none : (f : SeqCode → Bytes) (test : SeqCode → Bool) → ((q : SeqCode) → test q ≡ true → f q ≡ []) → (qs : List SeqCode) → list_all test qs ≡ true → flat_map f qs ≡ []
flat_none f test each [] h = refl
flat_none f test each (q ∷ qs) h =
    let both = and_parts (test q) (list_all test qs) h in
    flat_map-cons f q qs ∙ ap₂ (λ (x y : Bytes). x ++ y) (each q both.0) (flat_none f test each qs both.1)

abbrev pub is_elsewhere : ℕ → SeqCode → Bool
is_elsewhere o q = not (nat_eq q.seq.operator o)

module _ (g : Graph) (a : Architecture) (known_names : AreNamed g a) where
  -- the instructions of a sequence are readable
  abbrev pub code_readable : Reading → SeqCode → Bool
  code_readable r q = list_all (readable g a known_names r) q.prologue && list_all (readable g a known_names r) q.turn

  abbrev pub begun : Reading → Reading
  begun r = record r { stage = Prologue; prologue = []; turn = [] }

  abbrev pub ended : Reading → SeqCode → Reading
  ended r q = record r { stage = Ended; prologue = q.prologue; turn = q.turn }

  pub code_reads : (r : Reading) (n : ℕ) (q : SeqCode) → starts_more r ≡ false → code_readable r q ≡ true → Read g a known_names (begun r) n (code_text (names g a) q) (ended r q)
  code_reads r n q none h =
      let both = and_parts (list_all (readable g a known_names r) q.prologue) (list_all (readable g a known_names r) q.turn) h in
      let bare = record r { turn = [] } in
      let filled = record r { prologue = q.prologue } in
      let first = prologue_reads g a known_names bare n [] q.prologue none both.0 in
      let second = lines.bare_reads (operation_names g) a (opened g a known_names bare q.prologue) (turning g a known_names filled []) first.k macros.Loop
      (stands g a known_names (opened g a known_names bare q.prologue) first.k None macros.Loop (turning g a known_names filled []) (ap not none) refl) in
      let third = turn_reads g a known_names filled second.k [] q.turn both.1 in
      let fourth = lines.bare_reads (operation_names g) a (turning g a known_names filled q.turn) (ended r q) third.k macros.EndLoop
      (stands g a known_names (turning g a known_names filled q.turn) third.k None macros.EndLoop (ended r q) refl refl) in
      let last = lines.both (operation_names g) a (turning g a known_names filled []) (turning g a known_names filled q.turn)
      (ended r q) second.k (body_text (names g a) q.turn) (word_line macros.EndLoop) third fourth in
      let later = lines.both (operation_names g) a (opened g a known_names bare q.prologue) (turning g a known_names filled [])
      (ended r q) first.k (word_line macros.Loop) (body_text (names g a) q.turn ++ word_line macros.EndLoop) second last in
      lines.both (operation_names g) a (begun r) (opened g a known_names bare q.prologue) (ended r q) n (body_text (names g a) q.prologue)
      (word_line macros.Loop ++ (body_text (names g a) q.turn ++ word_line macros.EndLoop)) first later

  -- media
  medium_back : (n m : ℕ) (media : List ℕ) → m < length a.media → follows (last_of media) m ≡ true
      → medium_of a n media (Some (medium_name (names g a) m ∷ [])) ≡ Ok (record { word = medium_name (names g a) m; medium = m })
  medium_back n m media l f =
      let it = known_names.medium m l in
      let w = medium_name (names g a) m in
      name_back n w (λ (v : Bytes). and_then (known n v (place_in (medium_names a) v))
      (λ (k : ℕ). if follows (last_of media) k then Ok (record { word = v; medium = k }) else refused n BadArgument)) it.passes
      ∙ ap (λ (p : Option ℕ). and_then (known n w p) (λ (k : ℕ). if follows (last_of media) k then Ok (record { word = w; medium = k }) else refused n BadArgument)) it.place
      ∙ ap (λ (b : Bool). if b then Ok (record { word = w; medium = m }) else refused n BadArgument) f

  medium_argument : (m : ℕ) → m < length a.media → list_all Rattle.code_laws.proofs.Forms.is_argument (medium_name (names g a) m ∷ []) ≡ true
  medium_argument m l = one_argument (medium_name (names g a) m) (name_argument (medium_name (names g a) m) ((known_names.medium m l).passes))

  thread_back : (n m : ℕ) (threads media : List ℕ) → m < length a.media → follows (last_of media) m ≡ true → is_among threads m ≡ true
      → thread_of a n threads media (Some (medium_name (names g a) m ∷ [])) ≡ Ok m
  thread_back n m threads media l f h =
      ap (λ (x : Result Joined CodeRefusal). and_then x (λ (j : Joined). if is_among threads j.medium then Ok j.medium else refused n (UnknownName j.word))) (medium_back n m media l f)
      ∙ ap (λ (b : Bool). if b then Ok m else refused n (UnknownName (medium_name (names g a) m))) h

  -- between the head of a processor and its main part: where its threads have ended
  abbrev pub threaded : Reading → ℕ → Stage → Option ℕ → List ℕ → List SeqCode → Reading
  threaded r o stage medium media threads = record r { stage = stage; operator = Some o; medium = medium; media = media; threads = threads; prologue = []; turn = [] }

  abbrev pub may_begin : Stage → Bool
  may_begin stage = is_declared stage || is_threaded stage

  thread_reads : (r : Reading) (n o m : ℕ) (stage : Stage) (medium : Option ℕ) (media : List ℕ) (threads : List SeqCode) (q : SeqCode) → may_begin stage ≡ true → q.seq ≡ communicator o m
      → m < length a.media → follows (last_of media) m ≡ true → code_readable r q ≡ true
      → Read g a known_names (threaded r o stage medium media threads) n (thread_text (names g a) o q) (threaded r o Threaded (Some m) (media ++ m ∷ []) (threads ++ q ∷ []))
  thread_reads r n o m stage medium media threads q may is l f h =
      let at = threaded r o stage medium media threads in
      let inner = at_thread a at m in
      let ws = medium_name (names g a) m ∷ [] in
      let first = lines.macro_reads (operation_names g) a at inner n macros.Thread ws (medium_argument m l)
      (stands g a known_names at n (Some ws) macros.Thread inner may
      (ap (λ (x : Result Joined CodeRefusal). and_then x (λ (j : Joined). Ok (at_thread a at j.medium))) (medium_back n m media l f))) in
      let second = code_reads inner first.k q refl h in
      let made : SeqCode = record { seq = communicator o m; prologue = q.prologue; turn = q.turn } in
      let third = lines.bare_reads (operation_names g) a (ended inner q) (threaded r o Threaded (Some m) (media ++ m ∷ []) (threads ++ made ∷ [])) second.k macros.EndThread
      (stands g a known_names (ended inner q) second.k None macros.EndThread (threaded r o Threaded (Some m) (media ++ m ∷ []) (threads ++ made ∷ [])) refl refl) in
      let last = lines.both (operation_names g) a inner (ended inner q)
      (threaded r o Threaded (Some m) (media ++ m ∷ []) (threads ++ made ∷ [])) first.k (code_text (names g a) q)
      (word_line macros.EndThread) second third in
      let all = lines.both (operation_names g) a at inner (threaded r o Threaded (Some m) (media ++ m ∷ []) (threads ++ made ∷ [])) n
      (line macros.Thread ws) (code_text (names g a) q ++ word_line macros.EndThread) first last in
      lines.another (operation_names g) a at (threaded r o Threaded (Some m) (media ++ m ∷ []) (threads ++ q ∷ [])) n (thread_text (names g a) o q) (thread_by (names g a) q (Some m))
      (ap (λ (s : Seq). cond (nat_eq s.operator o) (thread_by (names g a) q s.medium) []) is ∙ ap (λ (b : Bool). cond b (thread_by (names g a) q (Some m)) []) (eq-eqb o o refl))
      (subst (λ (c : SeqCode). Read g a known_names at n (thread_by (names g a) q (Some m))
      (threaded r o Threaded (Some m) (media ++ m ∷ []) (threads ++ c ∷ []))) (code_is q (communicator o m) is) all)

  -- all threads of an operator
  pub record ThreadsRead (r : Reading) (n o : ℕ) (stage : Stage) (medium : Option ℕ) (media : List ℕ) (threads qs : List SeqCode) (ms : List ℕ) : Type 0 where
    pub last : Stage
    pub may : may_begin last ≡ true
    pub of : Option ℕ
    pub read : Read g a known_names (threaded r o stage medium media threads) n (flat_map (thread_text (names g a) o) qs) (threaded r o last of (media ++ ms) (threads ++ qs))

  pub threads_read : (qs : List SeqCode) (ms : List ℕ) (r : Reading) (n o k : ℕ) (stage : Stage) (medium : Option ℕ) (media : List ℕ)
      (threads : List SeqCode) → may_begin stage ≡ true → AreThreads o qs ms
      → list_all (λ (m : ℕ). nat_lt m (length a.media)) ms ≡ true → ascends_from k ms ≡ true → Above media k → list_all (code_readable r) qs ≡ true
      → ThreadsRead r n o stage medium media threads qs ms
  threads_read [] [] r n o k stage medium media threads may are low rising above h = record {
    last = stage;
    may = may;
    of = medium;
    read = subst (λ (ms : List ℕ). Read g a known_names (threaded r o stage medium media threads) n [] (threaded r o stage medium ms (threads ++ []))) (sym (append-nil media))
        (subst (λ (ts : List SeqCode). Read g a known_names (threaded r o stage medium media threads) n [] (threaded r o stage medium media ts)) (sym (append-nil threads))
        (lines.nothing (operation_names g) a (threaded r o stage medium media threads) n));
  }
  threads_read [] (m ∷ ms) r n o k stage medium media threads may are low rising above h = absurd are
  threads_read (q ∷ qs) [] r n o k stage medium media threads may are low rising above h = absurd are
  threads_read (q ∷ qs) (m ∷ ms) r n o k stage medium media threads may are low rising above h =
      let lows = and_parts (nat_lt m (length a.media)) (list_all (λ (x : ℕ). nat_lt x (length a.media)) ms) low in
      let rises = and_parts (nat_le k m) (ascends_from (m + 1) ms) rising in
      let codes = and_parts (code_readable r q) (list_all (code_readable r) qs) h in
      let first = thread_reads r n o m stage medium media threads q may are.0 (ltb-true m (length a.media) lows.0) (above.follow m (leb-true k m rises.0)) codes.0 in
      let rest = threads_read qs ms r first.k o (m + 1) Threaded (Some m) (media ++ m ∷ []) (threads ++ q ∷ []) refl are.1 lows.1 rises.1 (above_one media m) codes.1 in
      let from = threaded r o stage medium media threads in
      let both = lines.both (operation_names g) a from (threaded r o Threaded (Some m) (media ++ m ∷ []) (threads ++ q ∷ []))
      (threaded r o rest.last rest.of ((media ++ m ∷ []) ++ ms) ((threads ++ q ∷ []) ++ qs)) n
      (thread_text (names g a) o q) (flat_map (thread_text (names g a) o) qs) first rest.read in
      record {
        last = rest.last;
        may = rest.may;
        of = rest.of;
        read = lines.another (operation_names g) a from (threaded r o rest.last rest.of (media ++ m ∷ ms) (threads ++ q ∷ qs)) n
            (flat_map (thread_text (names g a) o) (q ∷ qs)) (thread_text (names g a) o q ++ flat_map (thread_text (names g a) o) qs)
            (flat_map-cons (thread_text (names g a) o) q qs)
            (subst (λ (ks : List ℕ). Read g a known_names from n (thread_text (names g a) o q ++ flat_map (thread_text (names g a) o) qs)
            (threaded r o rest.last rest.of ks (threads ++ q ∷ qs))) (append_assoc media (m ∷ []) ms)
            (subst (λ (ts : List SeqCode). Read g a known_names from n
            (thread_text (names g a) o q ++ flat_map (thread_text (names g a) o) qs)
            (threaded r o rest.last rest.of ((media ++ m ∷ []) ++ ms) ts)) (append_assoc threads (q ∷ []) qs) both));
      }

  -- the main part before its prologue, which has started some threads, and after its loop, which waited for some
  abbrev pub starting : Reading → ℕ → List ℕ → List ℕ → Reading
  starting r o media done = record r { stage = Prologue; operator = Some o; medium = None; media = media; spawned = done; awaited = []; prologue = []; turn = [] }

  abbrev pub awaiting : Reading → ℕ → List ℕ → List ℕ → SeqCode → Reading
  awaiting r o media done q = record r { stage = Ended; operator = Some o; medium = None; media = media; spawned = media; awaited = done; prologue = q.prologue; turn = q.turn }

  fewer : (done : List ℕ) (m : ℕ) (ms : List ℕ) → nat_lt (length done) (length (done ++ m ∷ ms)) ≡ true
  fewer done m ms = let all = length-append done (m ∷ ms) in lt-ltb (length done) (length (done ++ m ∷ ms)) (omega (arith, all))

  medium_line_is : (x : Macro) (o m : ℕ) (q : SeqCode) → q.seq ≡ communicator o m → medium_line (names g a) x o q ≡ line x (medium_name (names g a) m ∷ [])
  medium_line_is x o m q is =
      ap (λ (s : Seq). cond (nat_eq s.operator o) (medium_by (names g a) x s.medium) []) is ∙ ap (λ (b : Bool). cond b (line x (medium_name (names g a) m ∷ [])) []) (eq-eqb o o refl)

  pub spawns_read : (qs : List SeqCode) (ms : List ℕ) (r : Reading) (n o k : ℕ) (media done : List ℕ) → media ≡ done ++ ms → AreThreads o qs ms
      → list_all (λ (m : ℕ). nat_lt m (length a.media)) ms ≡ true → ascends_from k ms ≡ true → Above done k
      → Read g a known_names (starting r o media done) n (medium_lines (names g a) macros.SpawnThread o qs) (starting r o media media)
  spawns_read [] [] r n o k media done cut are low rising above =
      subst (λ (l : List ℕ). Read g a known_names (starting r o media done) n [] (starting r o media l)) (sym (cut ∙ append-nil done)) (lines.nothing (operation_names g) a (starting r o media done) n)
  spawns_read [] (m ∷ ms) r n o k media done cut are low rising above = absurd are
  spawns_read (q ∷ qs) [] r n o k media done cut are low rising above = absurd are
  spawns_read (q ∷ qs) (m ∷ ms) r n o k media done cut are low rising above =
      let lows = and_parts (nat_lt m (length a.media)) (list_all (λ (x : ℕ). nat_lt x (length a.media)) ms) low in
      let rises = and_parts (nat_le k m) (ascends_from (m + 1) ms) rising in
      let ws = medium_name (names g a) m ∷ [] in
      let l = ltb-true m (length a.media) lows.0 in
      let at = starting r o media done in
      let to = starting r o media (done ++ m ∷ []) in
      let more : starts_more at ≡ true = ap (λ (x : List ℕ). nat_lt (length done) (length x)) cut ∙ fewer done m ms in
      let among : is_among media m ≡ true = ap (λ (x : List ℕ). is_among x m) cut ∙ among_at done ms m in
      let first = lines.another (operation_names g) a at to n (medium_line (names g a) macros.SpawnThread o q) (line macros.SpawnThread ws) (medium_line_is macros.SpawnThread o m q are.0)
      (lines.macro_reads (operation_names g) a at to n macros.SpawnThread ws (medium_argument m l)
      (stands g a known_names at n (Some ws) macros.SpawnThread to more
      (ap (λ (x : Result ℕ CodeRefusal). and_then x (λ (k : ℕ). Ok (record at { spawned = done ++ k ∷ [] }))) (thread_back n m media done l (above.follow m (leb-true k m rises.0)) among)))) in
      let rest = spawns_read qs ms r first.k o (m + 1) media (done ++ m ∷ []) (cut ∙ sym (append_assoc done (m ∷ []) ms)) are.1 lows.1 rises.1 (above_one done m) in
      lines.another (operation_names g) a at (starting r o media media) n (medium_lines (names g a) macros.SpawnThread o (q ∷ qs))
      (medium_line (names g a) macros.SpawnThread o q ++ medium_lines (names g a) macros.SpawnThread o qs)
      (flat_map-cons (medium_line (names g a) macros.SpawnThread o) q qs)
      (lines.both (operation_names g) a at to (starting r o media media) n (medium_line (names g a) macros.SpawnThread o q) (medium_lines (names g a) macros.SpawnThread o qs) first rest)

  pub waits_read : (qs : List SeqCode) (ms : List ℕ) (r : Reading) (n o k : ℕ) (media done : List ℕ) (c : SeqCode) → media ≡ done ++ ms → AreThreads o qs ms
      → list_all (λ (m : ℕ). nat_lt m (length a.media)) ms ≡ true → ascends_from k ms ≡ true → Above done k
      → Read g a known_names (awaiting r o media done c) n (medium_lines (names g a) macros.WaitEndThread o qs) (awaiting r o media media c)
  waits_read [] [] r n o k media done c cut are low rising above =
      subst (λ (l : List ℕ). Read g a known_names (awaiting r o media done c) n [] (awaiting r o media l c)) (sym (cut ∙ append-nil done))
      (lines.nothing (operation_names g) a (awaiting r o media done c) n)
  waits_read [] (m ∷ ms) r n o k media done c cut are low rising above = absurd are
  waits_read (q ∷ qs) [] r n o k media done c cut are low rising above = absurd are
  waits_read (q ∷ qs) (m ∷ ms) r n o k media done c cut are low rising above =
      let lows = and_parts (nat_lt m (length a.media)) (list_all (λ (x : ℕ). nat_lt x (length a.media)) ms) low in
      let rises = and_parts (nat_le k m) (ascends_from (m + 1) ms) rising in
      let ws = medium_name (names g a) m ∷ [] in
      let l = ltb-true m (length a.media) lows.0 in
      let at = awaiting r o media done c in
      let to = awaiting r o media (done ++ m ∷ []) c in
      let more : awaits_more at ≡ true = ap (λ (x : List ℕ). nat_lt (length done) (length x)) cut ∙ fewer done m ms in
      let among : is_among media m ≡ true = ap (λ (x : List ℕ). is_among x m) cut ∙ among_at done ms m in
      let first = lines.another (operation_names g) a at to n (medium_line (names g a) macros.WaitEndThread o q) (line macros.WaitEndThread ws) (medium_line_is macros.WaitEndThread o m q are.0)
      (lines.macro_reads (operation_names g) a at to n macros.WaitEndThread ws (medium_argument m l)
      (stands g a known_names at n (Some ws) macros.WaitEndThread to more
      (ap (λ (x : Result ℕ CodeRefusal). and_then x (λ (k : ℕ). Ok (record at { awaited = done ++ k ∷ [] }))) (thread_back n m media done l (above.follow m (leb-true k m rises.0)) among)))) in
      let rest = waits_read qs ms r first.k o (m + 1) media (done ++ m ∷ []) c (cut ∙ sym (append_assoc done (m ∷ []) ms)) are.1 lows.1 rises.1 (above_one done m) in
      lines.another (operation_names g) a at (awaiting r o media media c) n (medium_lines (names g a) macros.WaitEndThread o (q ∷ qs))
      (medium_line (names g a) macros.WaitEndThread o q ++ medium_lines (names g a) macros.WaitEndThread o qs)
      (flat_map-cons (medium_line (names g a) macros.WaitEndThread o) q qs)
      (lines.both (operation_names g) a at to (awaiting r o media media c) n (medium_line (names g a) macros.WaitEndThread o q) (medium_lines (names g a) macros.WaitEndThread o qs) first rest)
