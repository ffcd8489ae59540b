-- The test of a buffer is true exactly where the buffer is right.
use Rattle.std.proofs.Common.{◌≡◌, ℕ, ◌<◌, Bool, true, false, ◌&&◌, ◌||◌, nat_eq, List, length, refl, sym, ap, subst, eq-eqb, ◌∙◌, ◌⊎◌, inl, inr}
use Rattle.std.specs.Prelude.{slice_get, Option, Some, None, nat_le, nat_lt}
use Rattle.std.specs.List.{list_all}
use Rattle.std.specs.Cmp.Derive.{both_true}
use Rattle.std.proofs.lemmas.Bool.{false≢true, and_parts, eqb-true, leb-true, le-leb, ltb-true, lt-ltb}
use Rattle.executive_program.specs.declared.program.Buffer.{Buffer}
use Rattle.executive_program.specs.declared.program.Instr.{Instr}
use Rattle.executive_program.specs.declared.program.Instr.TheVariants.{Suc0, Suc1, Pre0, Pre1, Call, Send, Recv, Sync}
use Rattle.executive_program.specs.declared.program.SeqCode.{SeqCode}
use Rattle.executive_program.specs.declared.program.Program.{Program}
use Rattle.executive_program.specs.Instructions.{depth_of, is_guarded, operator, operator_in, reads, turn, turn_of, writes}
use Rattle.executive_program.specs.Places.{places, writing}
use Rattle.executive_program.specs.WellFormed.{IsBuffer, ReadsAt, Stands, WritesAt, operator_is}
use Rattle.executive_program.proofs.Reading.{reads_of, of_reads, writes_of, of_writes}
use Rattle.program_walks.specs.Walks.{implies}
use Rattle.program_walks.specs.Buffers.{are_buffers, has_places, is_buffer, is_near, is_operator, is_written_first, is_written_once, touches, writes_at, writes_only}
use Rattle.program_walks.proofs.Readings.{or_left, or_right, or_cases, same_numbers, entry_is, is_entry}
use Rattle.program_walks.proofs.ListTests.{all_here, all_there, below_of, of_below, every_of, of_every, from_zero, to_zero, implied, implying}

writes_is : (b port : ℕ) (o : Option Instr) → writes_at b port o ≡ true → (x : Instr) × (o ≡ Some x) × WritesAt x port b
writes_is b port None h = absurd (false≢true h)
writes_is b port (Some (Call v ins outs)) h = (Call v ins outs, refl, entry_is (slice_get outs port) b h)
writes_is b port (Some (Recv c q)) h =
    let parts = and_parts (nat_eq c b) (nat_eq port 0) h in
    (Recv c q, refl, (eqb-true c b parts.0, eqb-true port 0 parts.1))
writes_is b port (Some (Suc0 q)) h = absurd (false≢true h)
writes_is b port (Some (Suc1 q)) h = absurd (false≢true h)
writes_is b port (Some (Pre0 q)) h = absurd (false≢true h)
writes_is b port (Some (Pre1 q)) h = absurd (false≢true h)
writes_is b port (Some (Send c q)) h = absurd (false≢true h)
writes_is b port (Some (Sync q r)) h = absurd (false≢true h)

is_writes : (b port : ℕ) (x : Instr) → WritesAt x port b → writes_at b port (Some x) ≡ true
is_writes b port (Call v ins outs) h = is_entry (slice_get outs port) b h
is_writes b port (Recv c q) h = both_true (eq-eqb c b h.0) (eq-eqb port 0 h.1)
is_writes b port _ h = absurd h

only_is : (b port : ℕ) (here : Bool) (x : Instr) → writes_only b port here x ≡ true → (k : ℕ) → WritesAt x k b → (here ≡ true) × (k ≡ port)
only_is b port here (Call v ins outs) h k e =
    let t = from_zero (λ (k c : ℕ). implies (nat_eq c b) (here && nat_eq k port)) outs h k b e in
    let parts = and_parts here (nat_eq k port) (implied (nat_eq b b) (here && nat_eq k port) t (same_numbers b)) in
    (parts.0, eqb-true k port parts.1)
only_is b port here (Recv c q) h k e =
    let parts = and_parts here (nat_eq 0 port) (implied (nat_eq c b) (here && nat_eq 0 port) h (eq-eqb c b e.0)) in
    (parts.0, e.1 ∙ eqb-true 0 port parts.1)
only_is b port here _ h k e = absurd e

is_only : (b port : ℕ) (here : Bool) (x : Instr) → ((k : ℕ) → WritesAt x k b → (here ≡ true) × (k ≡ port)) → writes_only b port here x ≡ true
is_only b port here (Call v ins outs) h =
    to_zero (λ (k c : ℕ). implies (nat_eq c b) (here && nat_eq k port)) outs (λ k c e.
    implying (nat_eq c b) (here && nat_eq k port) (λ same.
    let r = h k (e ∙ ap (λ (n : ℕ). Some n) (eqb-true c b same)) in both_true r.0 (eq-eqb k port r.1)))
is_only b port here (Recv c q) h = implying (nat_eq c b) (here && nat_eq 0 port) (λ same. let r = h 0 (eqb-true c b same, refl) in both_true r.0 (eq-eqb 0 port r.1))
is_only b port here _ h = refl

touches_test : (b k : ℕ) (x : Instr) → WritesAt x k b ⊎ ReadsAt x k b → touches b x ≡ true
touches_test b k x h = elim h [
  | inl w ↦ or_left (writes b x) (reads b x) (of_writes b k x w)
  | inr r ↦ or_right (writes b x) (reads b x) (of_reads b k x r)
]

test_touches : (b : ℕ) (x : Instr) → touches b x ≡ true → (k : ℕ) × (WritesAt x k b ⊎ ReadsAt x k b)
test_touches b x h = elim (or_cases (writes b x) (reads b x) h) [
  | inl w ↦ (let r = writes_of b x w in (r.0, inl r.1))
  | inr r ↦ (let t = reads_of b x r in (t.0, inr t.1))
]

module _ (p : Program) where
  operator_told : (o : Option Buffer) (n : ℕ) → is_operator o n ≡ true → operator_is p o n
  operator_told None n h = absurd (false≢true h)
  operator_told (Some x) n h = eqb-true x.operator n h

  told_operator : (o : Option Buffer) (n : ℕ) → operator_is p o n → is_operator o n ≡ true
  told_operator None n h = absurd h
  told_operator (Some x) n h = eq-eqb x.operator n h

  abbrev near_test : ℕ → SeqCode → Instr → Bool
  near_test b q x = implies (touches b x) (is_operator (slice_get p.buffers b) q.seq.operator)

  near_of : (b : ℕ) → is_near p b ≡ true → (s a k : ℕ) (x : Instr) → Stands p s a x → WritesAt x k b ⊎ ReadsAt x k b → operator_is p (slice_get p.buffers b) (operator p s)
  near_of b h s a k x e t = by (slice_get p.seqs s) refl e
    where
      by : (o : Option SeqCode) → slice_get p.seqs s ≡ o → slice_get (turn_of o) a ≡ Some x → operator_is p (slice_get p.buffers b) (operator_in o)
      by None i e = absurd (cc)
      by (Some q) i e =
          operator_told (slice_get p.buffers b) q.seq.operator
          (implied (touches b x) (is_operator (slice_get p.buffers b) q.seq.operator)
          (all_here (near_test b q) q.turn (all_here (λ (q : SeqCode). list_all (near_test b q) q.turn) p.seqs h s q i) a x e)
          (touches_test b k x t))

  of_near : (b : ℕ) → ((s a k : ℕ) (x : Instr) → Stands p s a x → WritesAt x k b ⊎ ReadsAt x k b → operator_is p (slice_get p.buffers b) (operator p s)) → is_near p b ≡ true
  of_near b h =
      all_there (λ (q : SeqCode). list_all (near_test b q) q.turn) p.seqs (λ s q i.
      all_there (near_test b q) q.turn (λ a x e.
      implying (touches b x) (is_operator (slice_get p.buffers b) q.seq.operator) (λ t.
      let r = test_touches b x t in
      told_operator (slice_get p.buffers b) q.seq.operator
      (subst (λ (o : Option SeqCode). operator_is p (slice_get p.buffers b) (operator_in o)) i
      (h s a r.0 x (subst (λ (o : Option SeqCode). slice_get (turn_of o) a ≡ Some x) (sym i) e) r.1)))))

  once_of : (b writer at port : ℕ) → is_written_once p b writer at port ≡ true → (s a k : ℕ) (x : Instr) → Stands p s a x → WritesAt x k b → (s ≡ writer) × (a ≡ at) × (k ≡ port)
  once_of b writer at port h s a k x e t =
      let r = only_is b port (nat_eq s writer && nat_eq a at) x (every_of p (λ s a x. writes_only b port (nat_eq s writer && nat_eq a at) x) h s a x e) k t in
      let here = and_parts (nat_eq s writer) (nat_eq a at) r.0 in
      (eqb-true s writer here.0, eqb-true a at here.1, r.1)

  of_once : (b writer at port : ℕ) → ((s a k : ℕ) (x : Instr) → Stands p s a x → WritesAt x k b → (s ≡ writer) × (a ≡ at) × (k ≡ port)) → is_written_once p b writer at port ≡ true
  of_once b writer at port h =
      of_every p (λ s a x. writes_only b port (nat_eq s writer && nat_eq a at) x) (λ s a x e.
      is_only b port (nat_eq s writer && nat_eq a at) x (λ k t.
      let r = h s a k x e t in (both_true (eq-eqb s writer r.0) (eq-eqb a at r.1), r.2)))

  first_of : (b writer at : ℕ) → is_written_first p b writer at ≡ true → (a k : ℕ) (x : Instr) → Stands p writer a x → ReadsAt x k b → at < a
  first_of b writer at h a k x e t =
      ltb-true at a
      (implied (reads b x) (nat_lt at a) (from_zero (λ (a : ℕ) (x : Instr). implies (reads b x) (nat_lt at a)) (turn p writer) h a x e) (of_reads b k x t))

  of_first : (b writer at : ℕ) → ((a k : ℕ) (x : Instr) → Stands p writer a x → ReadsAt x k b → at < a) → is_written_first p b writer at ≡ true
  of_first b writer at h =
      to_zero (λ (a : ℕ) (x : Instr). implies (reads b x) (nat_lt at a)) (turn p writer) (λ a x e.
      implying (reads b x) (nat_lt at a) (λ t. let r = reads_of b x t in lt-ltb at a (h a r.0 x e r.1)))

  -- a buffer that no pair guards has one place
  shallow : (b : ℕ) (guarded : Bool) → is_guarded p b ≡ guarded → (is_guarded p b ≡ false → depth_of p b ≡ 1) → (nat_eq (depth_of p b) 1 || is_guarded p b) ≡ true
  shallow b true is one = or_right (nat_eq (depth_of p b) 1) (is_guarded p b) is
  shallow b false is one = or_left (nat_eq (depth_of p b) 1) (is_guarded p b) (eq-eqb (depth_of p b) 1 (one is))

  module _ (order : List ℕ) where
    pub buffer_of : (b : ℕ) → is_buffer p b ≡ true → IsBuffer p order (places p) b
    buffer_of b h =
        let w = writing p b in
        let deep = and_parts _ (has_places p b) h in
        let many = and_parts (nat_le 1 (depth_of p b) && nat_le (depth_of p b) 4) (nat_eq (depth_of p b) 1 || is_guarded p b) deep.1 in
        let low = and_parts (nat_le 1 (depth_of p b)) (nat_le (depth_of p b) 4) many.0 in
        let first = and_parts _ (is_written_first p b w.writer w.at) deep.0 in
        let near = and_parts _ (is_near p b) first.0 in
        let once = and_parts (writes_at b w.port (slice_get (turn p w.writer) w.at)) (is_written_once p b w.writer w.at w.port) near.0 in
        let found = writes_is b w.port (slice_get (turn p w.writer) w.at) once.0 in
        record {
          instr = found.0;
          stands = found.1;
          writes = found.2;
          only = once_of b w.writer w.at w.port once.1;
          near = near_of b near.1;
          own_reads = first_of b w.writer w.at first.1;
          some_place = leb-true 1 (depth_of p b) low.0;
          few_places = leb-true (depth_of p b) 4 low.1;
          one_place = λ alone. elim (or_cases (nat_eq (depth_of p b) 1) (is_guarded p b) many.1) [
            | inl one ↦ eqb-true (depth_of p b) 1 one
            | inr guarded ↦ absurd (false≢true (sym alone ∙ guarded))
          ];
        }

    pub of_buffer : (b : ℕ) → IsBuffer p order (places p) b → is_buffer p b ≡ true
    of_buffer b r =
        let w = writing p b in
        both_true (both_true (both_true (both_true
        (subst (λ (o : Option Instr). writes_at b w.port o ≡ true) (sym r.stands) (is_writes b w.port r.instr r.writes))
        (of_once b w.writer w.at w.port r.only))
        (of_near b r.near))
        (of_first b w.writer w.at r.own_reads))
        (both_true (both_true (le-leb 1 (depth_of p b) r.some_place) (le-leb (depth_of p b) 4 r.few_places)) (shallow b (is_guarded p b) refl r.one_place))

    pub buffers_of : are_buffers p ≡ true → (b : ℕ) → b < length p.buffers → IsBuffer p order (places p) b
    buffers_of h b l = buffer_of b (below_of (is_buffer p) (length p.buffers) h b l)

    pub of_buffers : ((b : ℕ) → b < length p.buffers → IsBuffer p order (places p) b) → are_buffers p ≡ true
    of_buffers h = of_below (is_buffer p) (length p.buffers) (λ b l. of_buffer b (h b l))
