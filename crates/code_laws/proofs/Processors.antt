-- The text of a processor, and of all processors, is read as their pairs, buffers and sequences.
use Rattle.std.proofs.Common.{
  ◌≡◌,
  ℕ,
  suc,
  ◌+◌,
  ◌≤◌,
  ◌<◌,
  Bool,
  not,
  ◌&&◌,
  true,
  false,
  cond,
  nat_lt,
  nat_eq,
  List,
  [],
  ◌∷◌,
  ◌++◌,
  length,
  map,
  refl,
  sym,
  ap,
  ap₂,
  arith,
  ◌∙◌,
  subst,
  Option,
  Some,
  None,
  append_assoc,
  append-nil,
}
use Rattle.std.specs.Prelude.{slice_get}
use Rattle.std.specs.List.{list_all, flat_map, range_with_len}
use Rattle.std.specs.Fmt.{decimal}
use Rattle.std.proofs.lemmas.Bool.{and_parts, and_from, lt-ltb, le-ltb, eq-eqb, not-true}
use Rattle.std.proofs.lemmas.List.{map-append}
use Rattle.std.proofs.lemmas.List.Folds.{list_all-append}
use Rattle.std.proofs.lemmas.List.Concat.{flat_map-cons}
use Rattle.sequence_build_laws.specs.Graph.{Graph}
use Rattle.sequence_build_laws.specs.declared.Seq.{Seq}
use Rattle.sequence_build_laws.specs.Archi.{Architecture, ascends_from}
use Rattle.sequence_build_laws.specs.Sequences.{computation, sequences_of}
use Rattle.sequence_build_laws.specs.declared.Buffer.{Buffer}
use Rattle.sequence_build_laws.specs.declared.SeqCode.{SeqCode}
use Rattle.sequence_build_laws.specs.declared.Program.{Program}
use Rattle.macro_code.specs.declared.macros.Macro.{Macro}
use Rattle.macro_code.specs.declared.macros.Macro.TheVariants as macros
use Rattle.macro_code.specs.Text.{
  line,
  word_line,
  pairs_on,
  alloc_lines,
  operator_name,
  declarations,
  code_text,
  thread_by,
  thread_text,
  medium_by,
  medium_line,
  medium_lines,
  main_by,
  main_text,
  sequences_text,
  processor_text,
  processors_from,
}
use Rattle.macro_code.specs.declared.numbered.Numbered.{Numbered}
use Rattle.macro_code.specs.declared.numbered.Size.{Size}
use Rattle.macro_code.specs.declared.stage.Stage.{Stage}
use Rattle.macro_code.specs.declared.stage.Stage.TheVariants.{Outside, Declared}
use Rattle.syn_base.specs.Bytes.{Bytes}
use Rattle.macro_code.specs.ReadText.{Reading, operation_names, follows, at_processor, with_pairs, numbered}
use Rattle.code_laws.proofs.Named.{names, AreNamed}
use Rattle.code_laws.proofs.Numbering.{numbers, all_on, on_small, on_ascends, on_owned}
use Rattle.code_laws.proofs.Declared.{is_declarable, size_of, above_none, declaring, processor_reads, semaphores_read, allocs_read}
use Rattle.code_laws.proofs.Instructions.{Read, is_readable, stands}
use Rattle.code_laws.proofs.Threads.{AreThreads, is_elsewhere, code_is, code_readable, code_reads, may_begin, threaded, threads_read, starting, awaiting, spawns_read, waits_read}
use Rattle.code_laws.proofs.Groups.{group, stood, stood_rise, stood_low, seqs_from, focused, later_elsewhere, is_earlier, earlier_elsewhere, earlier_more, own_earlier, threads_earlier}
use Rattle.code_laws.proofs.ReadLines as lines

-- a text of an operator is nothing for a sequence of another one
elsewhere : (o : ℕ) (t : Bytes) (q : SeqCode) → is_elsewhere o q ≡ true → cond (nat_eq q.seq.operator o) t [] ≡ []
elsewhere o t q h = ap (λ (b : Bool). cond b t []) (not-true (nat_eq q.seq.operator o) h)

here : (o : ℕ) (t : Option ℕ → Bytes) (s r : Seq) → s ≡ r → r.operator ≡ o → cond (nat_eq s.operator o) (t s.medium) [] ≡ t r.medium
here o t s r e f = ap (λ (x : Seq). cond (nat_eq x.operator o) (t x.medium) []) e ∙ ap (λ (b : Bool). cond b (t r.medium) []) (eq-eqb r.operator o f)

-- the numbers below one more operator
pub later_numbers : (ns xs : List ℕ) (i j : ℕ) → ns ≡ all_on xs i → i ≡ j → ns ≡ all_on xs j
later_numbers ns xs i j e f = e ∙ ap (all_on xs) f

more_numbers : (ds es : List Numbered) (xs : List ℕ) (o : ℕ) → numbers ds ≡ all_on xs o → numbers es ≡ pairs_on o 0 xs → numbers (ds ++ es) ≡ all_on xs (suc o)
more_numbers ds es xs o e f = map-append (λ (d : Numbered). d.number) ds es ∙ ap₂ (λ (x y : List ℕ). x ++ y) e f

-- the operators of the buffers
abbrev pub places_of : List Buffer → List ℕ
places_of xs = map (λ (x : Buffer). x.operator) xs

-- what a sequence's instructions name is declared on this operator, where there are this many operators and operations
abbrev pub readable_at : ℕ → ℕ → Program → ℕ → SeqCode → Bool
readable_at operators vertices p o q =
    list_all (is_readable operators vertices (pairs_on o 0 p.pairs) (pairs_on o 0 (places_of p.buffers))) q.prologue
    && list_all (is_readable operators vertices (pairs_on o 0 p.pairs) (pairs_on o 0 (places_of p.buffers))) q.turn

-- the sequences of a program round those of an operator
pub record Around (o : ℕ) (all done : List SeqCode) (main : SeqCode) (threads rest : List SeqCode) (ms : List ℕ) : Type 0 where
  pub cut : all ≡ done ++ main ∷ (threads ++ rest)
  pub front : list_all (is_elsewhere o) done ≡ true
  pub back : list_all (is_elsewhere o) rest ≡ true
  pub is_main : main.seq ≡ computation o
  pub are_threads : AreThreads o threads ms

module _ (g : Graph) (a : Architecture) (known_names : AreNamed g a) where
  module _ (o : ℕ) (all done : List SeqCode) (main : SeqCode) (threads rest : List SeqCode) (ms : List ℕ) (around : Around o all done main threads rest ms) where
    threads_text : flat_map (thread_text (names g a) o) all ≡ flat_map (thread_text (names g a) o) threads
    threads_text =
        ap (flat_map (thread_text (names g a) o)) around.cut
        ∙ focused o (thread_text (names g a) o) done main threads rest (λ q h. elsewhere o (thread_by (names g a) q q.seq.medium) q h) around.front around.back
        ∙ ap (λ (t : Bytes). t ++ flat_map (thread_text (names g a) o) threads) (here o (thread_by (names g a) main) main.seq (computation o) around.is_main refl)

    media_text : (x : Macro) → medium_lines (names g a) x o all ≡ medium_lines (names g a) x o threads
    media_text x =
        ap (flat_map (medium_line (names g a) x o)) around.cut
        ∙ focused o (medium_line (names g a) x o) done main threads rest (λ q h. elsewhere o (medium_by (names g a) x q.seq.medium) q h) around.front around.back
        ∙ ap (λ (t : Bytes). t ++ flat_map (medium_line (names g a) x o) threads) (here o (medium_by (names g a) x) main.seq (computation o) around.is_main refl)

    no_mains : (qs : List SeqCode) (ns : List ℕ) → AreThreads o qs ns → flat_map (main_text (names g a) all o) qs ≡ []
    no_mains [] [] h = refl
    no_mains [] (n ∷ ns) h = absurd h
    no_mains (q ∷ qs) [] h = absurd h
    no_mains (q ∷ qs) (n ∷ ns) h =
        flat_map-cons (main_text (names g a) all o) q qs
        ∙ ap₂ (λ (x y : Bytes). x ++ y) (here o (main_by (names g a) all o q) q.seq (Rattle.sequence_build_laws.specs.Sequences.communicator o n) h.0 refl) (no_mains qs ns h.1)

    abbrev main_part : Bytes
    main_part =
        word_line macros.Main ++ (medium_lines (names g a) macros.SpawnThread o threads
        ++ (code_text (names g a) main ++ (medium_lines (names g a) macros.WaitEndThread o threads ++ word_line macros.EndMain)))

    mains_text : flat_map (main_text (names g a) all o) all ≡ main_part
    mains_text =
        ap (flat_map (main_text (names g a) all o)) around.cut
        ∙ focused o (main_text (names g a) all o) done main threads rest (λ q h. elsewhere o (main_by (names g a) all o q q.seq.medium) q h) around.front around.back
        ∙ ap₂ (λ (x y : Bytes). x ++ y) (here o (main_by (names g a) all o main) main.seq (computation o) around.is_main refl) (no_mains threads ms around.are_threads)
        ∙ append-nil (main_by (names g a) all o main None)
        ∙ ap₂ (λ (x y : Bytes). word_line macros.Main ++ (x ++ (code_text (names g a) main ++ (y ++ word_line macros.EndMain)))) (media_text macros.SpawnThread) (media_text macros.WaitEndThread)

    abbrev both_parts : Bytes
    both_parts = flat_map (thread_text (names g a) o) threads ++ main_part

    pub parts_text : sequences_text (names g a) all o ≡ both_parts
    parts_text = ap₂ (λ (x y : Bytes). x ++ y) threads_text mains_text

  not_below : (ms : List ℕ) → nat_lt (length ms) (length ms) ≡ false
  not_below ms = le-ltb (length ms) (length ms) (omega arith)

  -- after a processor
  abbrev pub closed : Reading → ℕ → List SeqCode → Reading
  closed r o qs = record r { stage = Outside; operator = Some o; seqs = qs; threads = []; prologue = []; turn = [] }

  -- The main part of an operator, after its threads.
  main_reads : (r : Reading) (n o : ℕ) (stage : Stage) (medium : Option ℕ) (ms : List ℕ) (threads : List SeqCode) (main : SeqCode)
      → may_begin g a known_names stage ≡ true → main.seq ≡ computation o → AreThreads o threads ms
      → list_all (λ (m : ℕ). nat_lt m (length a.media)) ms ≡ true → ascends_from 0 ms ≡ true → code_readable g a known_names r main ≡ true
      → Read g a known_names (threaded g a known_names r o stage medium ms threads) n
      (word_line macros.Main ++ (medium_lines (names g a) macros.SpawnThread o threads
      ++ (code_text (names g a) main ++ (medium_lines (names g a) macros.WaitEndThread o threads ++ word_line macros.EndMain))))
      (closed (awaiting g a known_names (threaded g a known_names r o stage medium ms threads) o ms ms main) o (r.seqs ++ main ∷ threads))
  main_reads r n o stage medium ms threads main may is are low rising h =
      let at = threaded g a known_names r o stage medium ms threads in
      let opened = starting g a known_names at o ms [] in
      let started = starting g a known_names at o ms ms in
      let looped = awaiting g a known_names at o ms [] main in
      let waited = awaiting g a known_names at o ms ms main in
      let made : SeqCode = record { seq = computation o; prologue = main.prologue; turn = main.turn } in
      let end = closed waited o (r.seqs ++ made ∷ threads) in
      let first = lines.bare_reads (operation_names g) a at opened n macros.Main (stands g a known_names at n None macros.Main opened may refl) in
      let second = spawns_read g a known_names threads ms at first.k o 0 ms [] refl are low rising (above_none 0) in
      let third = code_reads g a known_names started second.k main (not_below ms) h in
      let fourth = waits_read g a known_names threads ms at third.k o 0 ms [] main refl are low rising (above_none 0) in
      let fifth = lines.bare_reads (operation_names g) a waited end fourth.k macros.EndMain (stands g a known_names waited fourth.k None macros.EndMain end (ap not (not_below ms)) refl) in
      let d = lines.both (operation_names g) a looped waited end third.k (medium_lines (names g a) macros.WaitEndThread o threads) (word_line macros.EndMain) fourth fifth in
      let c = lines.both (operation_names g) a started looped end second.k (code_text (names g a) main) (medium_lines (names g a) macros.WaitEndThread o threads ++ word_line macros.EndMain) third d in
      let b = lines.both (operation_names g) a opened started end first.k (medium_lines (names g a) macros.SpawnThread o threads)
      (code_text (names g a) main ++ (medium_lines (names g a) macros.WaitEndThread o threads ++ word_line macros.EndMain)) second c in
      let all = lines.both (operation_names g) a at opened end n (word_line macros.Main)
      (medium_lines (names g a) macros.SpawnThread o threads ++ (code_text (names g a) main ++ (medium_lines (names g a) macros.WaitEndThread o threads ++ word_line macros.EndMain))) first b in
      subst (λ (q : SeqCode). Read g a known_names at n
      (word_line macros.Main ++ (medium_lines (names g a) macros.SpawnThread o threads
      ++ (code_text (names g a) main ++ (medium_lines (names g a) macros.WaitEndThread o threads ++ word_line macros.EndMain))))
      (closed waited o (r.seqs ++ q ∷ threads))) (code_is main (computation o) is) all

  -- Between processors: the last operator, the pairs and the buffers that were declared, with what belongs to their numbers, and the sequences.
  abbrev pub outside : Reading → Option ℕ → List Numbered → List ℕ → List Numbered → List Size → List SeqCode → Reading
  outside r last ds owners es sizes qs =
      record r { stage = Outside; operator = last; pairs = ds; owners = owners; buffers = es; sizes = sizes; seqs = qs; threads = []; prologue = []; turn = [] }

  numbers_back : (k : ℕ) (qs : List ℕ) → numbers (map (numbered k) qs) ≡ qs
  numbers_back k [] = refl
  numbers_back k (q ∷ qs) = ap (λ (l : List ℕ). q ∷ l) (numbers_back k qs)

  -- in this flat graph and architecture
  abbrev ready : Program → ℕ → SeqCode → Bool
  ready p o q = readable_at (length a.operators) (length g.vertices) p o q

  -- What the text of a program asks of it.
  pub record IsPrintable (p : Program) (fp : ℕ → ℕ) (fb : ℕ → Size) : Type 0 where
    pub few_pairs : length p.pairs ≤ 9223372036854775808
    pub few_buffers : length p.buffers ≤ 9223372036854775808
    pub declarable : list_all is_declarable p.buffers ≡ true
    pub owners : (i x : ℕ) → slice_get p.pairs i ≡ Some x → fp (0 + i) ≡ x
    pub sizes : (i : ℕ) (x : Buffer) → slice_get p.buffers i ≡ Some x → fb (0 + i) ≡ size_of x
    pub readable : list_all (λ (q : SeqCode). ready p q.seq.operator q) p.seqs ≡ true

  record ProcessorRead (p : Program) (fp : ℕ → ℕ) (fb : ℕ → Size) (r : Reading) (n o : ℕ) (last : Option ℕ) (ds es : List Numbered)
      (done : List SeqCode) (main : SeqCode) (threads : List SeqCode) : Type 0 where
    pub pairs : List Numbered
    pub buffers : List Numbered
    pub are_pairs : numbers pairs ≡ pairs_on o 0 p.pairs
    pub are_buffers : numbers buffers ≡ pairs_on o 0 (places_of p.buffers)
    pub behind : Reading
    pub read : Read g a known_names (outside r last ds (map fp (numbers ds)) es (map fb (numbers es)) done) n (processor_text (names g a) p o)
        (outside behind (Some o) (ds ++ pairs) (map fp (numbers (ds ++ pairs))) (es ++ buffers) (map fb (numbers (es ++ buffers))) (done ++ main ∷ threads))

  processor_read : (p : Program) (fp : ℕ → ℕ) (fb : ℕ → Size) → IsPrintable p fp fb
      → (r : Reading) (n o : ℕ) (last : Option ℕ) (ds es : List Numbered) (done : List SeqCode) (main : SeqCode) (threads rest : List SeqCode) (ms : List ℕ)
      → o < length a.operators → follows last o ≡ true → Around o p.seqs done main threads rest ms → list_all (λ (m : ℕ). nat_lt m (length a.media)) ms ≡ true → ascends_from 0 ms ≡ true
      → ready p o main ≡ true → list_all (ready p o) threads ≡ true
      → ProcessorRead p fp fb r n o last ds es done main threads
  processor_read p fp fb good r n o last ds es done main threads rest ms l f around low rising main_good threads_good =
      let qs = pairs_on o 0 p.pairs in
      let bs = pairs_on o 0 (places_of p.buffers) in
      let at = outside r last ds (map fp (numbers ds)) es (map fb (numbers es)) done in
      let named = at_processor a at o in
      let first = processor_reads g a known_names at n o l f in
      let declared = with_pairs named first.k qs in
      let room : 0 + length p.pairs ≤ 9223372036854775808 = let few = good.few_pairs in omega (arith, few) in
      let second = semaphores_read g a known_names named first.k qs (on_small o 0 p.pairs room) (on_ascends o 0 0 p.pairs (omega arith)) in
      let allocated = allocs_read g a known_names p.buffers declared second.k o 0 es fb [] good.declarable (let few = good.few_buffers in omega (arith, few)) (above_none 0) good.sizes in
      let full = declaring g a known_names declared o (es ++ allocated.more) (map fb (numbers (es ++ allocated.more))) bs in
      let third = threads_read g a known_names threads ms full allocated.read.k o 0 Declared r.medium [] [] refl around.are_threads low rising (above_none 0) threads_good in
      let fourth = main_reads full third.read.k o third.last third.of ms threads main third.may around.is_main around.are_threads low rising main_good in
      let pairs = map (numbered first.k) qs in
      let before_main = threaded g a known_names full o third.last third.of ms threads in
      let behind = awaiting g a known_names before_main o ms ms main in
      let end = closed behind o (done ++ main ∷ threads) in
      let spoken = flat_map (thread_text (names g a) o) threads in
      let main_bytes = main_part o p.seqs done main threads rest ms around in
      let d = lines.both (operation_names g) a full before_main end allocated.read.k spoken main_bytes third.read fourth in
      let c = lines.both (operation_names g) a declared full end second.k (alloc_lines o 0 p.buffers) (spoken ++ main_bytes) allocated.read d in
      let b = lines.both (operation_names g) a named declared end first.k (line macros.Semaphores (map decimal qs)) (alloc_lines o 0 p.buffers ++ (spoken ++ main_bytes)) second c in
      let whole = lines.both (operation_names g) a at named end n (line macros.Processor (operator_name (names g a) o ∷ []))
      (line macros.Semaphores (map decimal qs) ++ (alloc_lines o 0 p.buffers ++ (spoken ++ main_bytes))) first b in
      let text_is : processor_text (names g a) p o ≡ line macros.Processor (operator_name (names g a) o ∷ [])
      ++ (line macros.Semaphores (map decimal qs) ++ (alloc_lines o 0 p.buffers ++ (spoken ++ main_bytes))) =
      ap (λ (t : Bytes). line macros.Processor (operator_name (names g a) o ∷ []) ++ (declarations o p.pairs p.buffers ++ t)) (parts_text o p.seqs done main threads rest ms around)
      ∙ ap (λ (t : Bytes). line macros.Processor (operator_name (names g a) o ∷ []) ++ t) (append_assoc (line macros.Semaphores (map decimal qs)) (alloc_lines o 0 p.buffers) (spoken ++ main_bytes)) in
      let owned : map fp (numbers ds) ++ map (λ _. o) qs ≡ map fp (numbers (ds ++ pairs)) =
      ap (λ (l : List ℕ). map fp (numbers ds) ++ l) (on_owned fp (λ (x : ℕ). x) o 0 p.pairs good.owners ∙ ap (map fp) (sym (numbers_back first.k qs)))
      ∙ sym (ap (map fp) (map-append (λ (d : Numbered). d.number) ds pairs) ∙ map-append fp (numbers ds) (numbers pairs)) in
      record {
        pairs = pairs;
        buffers = allocated.more;
        are_pairs = numbers_back first.k qs;
        are_buffers = allocated.are;
        behind = behind;
        read = lines.another (operation_names g) a at
            (outside behind (Some o) (ds ++ pairs) (map fp (numbers (ds ++ pairs))) (es ++ allocated.more)
            (map fb (numbers (es ++ allocated.more))) (done ++ main ∷ threads)) n
            (processor_text (names g a) p o) _ text_is
            (subst (λ (os : List ℕ). Read g a known_names at n
            (line macros.Processor (operator_name (names g a) o ∷ [])
            ++ (line macros.Semaphores (map decimal qs) ++ (alloc_lines o 0 p.buffers ++ (spoken ++ main_bytes))))
            (outside behind (Some o) (ds ++ pairs) os (es ++ allocated.more) (map fb (numbers (es ++ allocated.more))) (done ++ main ∷ threads))) owned whole);
      }

  -- all processors from one on
  pub record ProcessorsRead (p : Program) (fp : ℕ → ℕ) (fb : ℕ → Size) (r : Reading) (n o count : ℕ) (last : Option ℕ) (ds es : List Numbered) (done : List SeqCode) (text : Bytes) : Type 0 where
    pub pairs : List Numbered
    pub buffers : List Numbered
    pub are_pairs : numbers pairs ≡ all_on p.pairs (o + count)
    pub are_buffers : numbers buffers ≡ all_on (places_of p.buffers) (o + count)
    pub behind : Reading
    pub at : Option ℕ
    pub read : Read g a known_names (outside r last ds (map fp (numbers ds)) es (map fb (numbers es)) done) n text
        (outside behind at pairs (map fp (numbers pairs)) buffers (map fb (numbers buffers)) p.seqs)

  -- the sequences that are left are those of the operators that are left
  pub record AreLeft (p : Program) (o count : ℕ) (done rest : List SeqCode) : Type 0 where
    pub cut : p.seqs ≡ done ++ rest
    pub earlier : list_all (is_earlier o) done ≡ true
    pub later : map (λ (q : SeqCode). q.seq) rest ≡ seqs_from a.media o count

  threads_readable : (p : Program) (o : ℕ) (qs : List SeqCode) (ms : List ℕ) → AreThreads o qs ms → list_all (λ (q : SeqCode). ready p q.seq.operator q) qs ≡ true → list_all (ready p o) qs ≡ true
  threads_readable p o [] [] are h = refl
  threads_readable p o [] (m ∷ ms) are h = absurd are
  threads_readable p o (q ∷ qs) [] are h = absurd are
  threads_readable p o (q ∷ qs) (m ∷ ms) are h =
      let both = and_parts (ready p q.seq.operator q) (list_all (λ (c : SeqCode). ready p c.seq.operator c) qs) h in
      and_from (ready p o q) (list_all (ready p o) qs) (ap (λ (s : Seq). ready p s.operator q) (sym are.0) ∙ both.0) (threads_readable p o qs ms are.1 both.1)

  nothing_left : (rest : List SeqCode) → map (λ (q : SeqCode). q.seq) rest ≡ [] → rest ≡ []
  nothing_left [] e = refl
  nothing_left (q ∷ rest) e = absurd (cc)

  pub processors_read : (ops : List Bytes) (p : Program) (fp : ℕ → ℕ) (fb : ℕ → Size) → IsPrintable p fp fb
      → (r : Reading) (n o : ℕ) (last : Option ℕ) (ds es : List Numbered) (done rest : List SeqCode)
      → o + length ops ≡ length a.operators → follows last o ≡ true → numbers ds ≡ all_on p.pairs o → numbers es ≡ all_on (places_of p.buffers) o → AreLeft p o (length ops) done rest
      → ProcessorsRead p fp fb r n o (length ops) last ds es done (processors_from (names g a) p o ops)
  processors_read [] p fp fb good r n o last ds es done rest count f pairs_are buffers_are left =
      let same : o ≡ o + 0 = omega arith in
      let all : p.seqs ≡ done = left.cut ∙ ap (λ (l : List SeqCode). done ++ l) (nothing_left rest left.later) ∙ append-nil done in
      let at = outside r last ds (map fp (numbers ds)) es (map fb (numbers es)) done in
      record {
        pairs = ds;
        buffers = es;
        are_pairs = pairs_are ∙ ap (all_on p.pairs) same;
        are_buffers = buffers_are ∙ ap (all_on (places_of p.buffers)) same;
        behind = r;
        at = last;
        read = subst (λ (qs : List SeqCode). Read g a known_names at n [] (outside r last ds (map fp (numbers ds)) es (map fb (numbers es)) qs)) (sym all) (lines.nothing (operation_names g) a at n);
      }
  processors_read (x ∷ ops) p fp fb good r n o last ds es done rest count f pairs_are buffers_are left =
      let ms = stood o 0 a.media in
      let it = group o a.media rest (seqs_from a.media (o + 1) (length ops)) (left.later ∙ flat_map-cons (sequences_of a.media) o (range_with_len (o + 1) (length ops))) in
      let cut : p.seqs ≡ done ++ it.main ∷ (it.threads ++ it.rest) = left.cut ∙ ap (λ (l : List SeqCode). done ++ l) it.cut in
      let test : SeqCode → Bool = λ (q : SeqCode). ready p q.seq.operator q in
      let all_good = subst (λ (l : List SeqCode). list_all test l ≡ true) cut good.readable in
      let parts = and_parts (list_all test done) (list_all test (it.main ∷ (it.threads ++ it.rest))) (sym (list_all-append test done (it.main ∷ (it.threads ++ it.rest))) ∙ all_good) in
      let own = and_parts (test it.main) (list_all test (it.threads ++ it.rest)) parts.1 in
      let thread_parts = and_parts (list_all test it.threads) (list_all test it.rest) (sym (list_all-append test it.threads it.rest) ∙ own.1) in
      let around : Around o p.seqs done it.main it.threads it.rest ms = record {
        cut = cut;
        front = earlier_elsewhere o done left.earlier;
        back = later_elsewhere a.media (length ops) o it.rest it.others;
        is_main = it.is_main;
        are_threads = it.are_threads;
      } in
      let first = processor_read p fp fb good r n o last ds es done it.main it.threads it.rest ms (omega (arith, count)) f around
      (stood_low o 0 (length a.media) a.media (omega arith)) (stood_rise o 0 0 a.media (omega arith))
      (ap (λ (s : Seq). ready p s.operator it.main) (sym it.is_main) ∙ own.0) (threads_readable p o it.threads ms it.are_threads thread_parts.0) in
      let one : o + 1 ≡ suc o = omega arith in
      let gone = done ++ it.main ∷ it.threads in
      let left_now : AreLeft p (suc o) (length ops) gone it.rest = subst (λ (k : ℕ). AreLeft p k (length ops) gone it.rest) one (record {
        cut = cut ∙ sym (append_assoc done (it.main ∷ it.threads) it.rest);
        earlier = list_all-append (is_earlier (o + 1)) done (it.main ∷ it.threads)
            ∙ and_from (list_all (is_earlier (o + 1)) done) (list_all (is_earlier (o + 1)) (it.main ∷ it.threads)) (earlier_more o done left.earlier)
            (and_from (is_earlier (o + 1) it.main) (list_all (is_earlier (o + 1)) it.threads) (own_earlier o it.main (computation o) it.is_main refl) (threads_earlier o it.threads ms it.are_threads));
        later = it.others;
      }) in
      let pairs_now = more_numbers ds first.pairs p.pairs o pairs_are first.are_pairs in
      let buffers_now = more_numbers es first.buffers (places_of p.buffers) o buffers_are first.are_buffers in
      let next = processors_read ops p fp fb good first.behind first.read.k (suc o) (Some o) (ds ++ first.pairs)
      (es ++ first.buffers) gone it.rest (omega (arith, count)) (lt-ltb o (suc o) (omega arith)) pairs_now buffers_now left_now in
      let total : suc o + length ops ≡ o + suc (length ops) = omega arith in
      let from = outside r last ds (map fp (numbers ds)) es (map fb (numbers es)) done in
      let middle = outside first.behind (Some o) (ds ++ first.pairs) (map fp (numbers (ds ++ first.pairs))) (es ++ first.buffers) (map fb (numbers (es ++ first.buffers))) gone in
      let to = outside next.behind next.at next.pairs (map fp (numbers next.pairs)) next.buffers (map fb (numbers next.buffers)) p.seqs in
      record {
        pairs = next.pairs;
        buffers = next.buffers;
        are_pairs = later_numbers (numbers next.pairs) p.pairs (suc o + length ops) (o + suc (length ops)) next.are_pairs total;
        are_buffers = later_numbers (numbers next.buffers) (places_of p.buffers) (suc o + length ops) (o + suc (length ops)) next.are_buffers total;
        behind = next.behind;
        at = next.at;
        read = lines.both (operation_names g) a from middle to n (processor_text (names g a) p o) (processors_from (names g a) p (suc o) ops) first.read next.read;
      }
