-- What makes the call of an operation right, as tests.
use Rattle.std.specs.Prelude.{
  ℕ,
  ◌+◌,
  Bool,
  true,
  false,
  ◌&&◌,
  nat_eq,
  nat_lt,
  List,
  length,
  drop,
  Option,
  Some,
  None,
  is_none,
  slice_get,
}
use Rattle.std.specs.List.{position_or_len}
use Rattle.executive_program.specs.declared.Guard.{Guard}
use Rattle.executive_program.specs.declared.Kind.{Kind}
use Rattle.executive_program.specs.declared.Kind.TheVariants.{Get}
use Rattle.executive_program.specs.declared.Source.{Source}
use Rattle.executive_program.specs.declared.Vertex.{Vertex}
use Rattle.executive_program.specs.Graph.{same_source}
use Rattle.executive_program.specs.declared.program.Buffer.{Buffer}
use Rattle.executive_program.specs.declared.program.Program.{Program}
use Rattle.executive_program.specs.Instructions.{len_of, medium, turn}
use Rattle.executive_program.specs.Places.{caller_of, calls, carried, ins_in, outs_in}
use Rattle.program_walks.specs.Walks.{all_at, names}
use Rattle.program_walks.specs.Acts.{is_only}

-- the operation has an output of this number and length
abbrev pub has_output : Option Vertex → ℕ → ℕ → Bool
has_output None port n = false
has_output (Some v) port n = names (slice_get v.outs port) n

-- There is a buffer, and it has n elements in each of its places.
abbrev pub has_len : Option Buffer → ℕ → Bool
has_len None n = false
has_len (Some x) n = nat_eq x.len n

module _ (p : Program) where
  -- the buffer carries output k of operation v, whose length is n
  abbrev pub gives_at : ℕ → ℕ → ℕ → Option ℕ → Bool
  gives_at v k n None = false
  gives_at v k n (Some b) =
      same_source (carried p b) (record { vertex = v; port = k }) && has_len (slice_get p.buffers b) n

  -- There are as many buffers as lengths, and each buffer carries the output of
  -- operation v that has its place in the list, in the length of that place.
  abbrev pub gives : ℕ → List ℕ → List ℕ → Bool
  gives v outs lens = nat_eq (length outs) (length lens) && all_at (λ k n. gives_at v k n (slice_get outs k)) 0 lens

  -- Operation v is first called at this place of its caller's loop; it is 0 if no loop calls it.
  abbrev pub called_at : ℕ → ℕ
  called_at v = position_or_len (calls v) (turn p (caller_of p v))

  -- the get half of a delay is called before its set half, in the same sequence
  abbrev pub is_before_twin : ℕ → ℕ → Kind → Option ℕ → Bool
  is_before_twin s a (Get z) (Some u) = nat_eq s (caller_of p u) && nat_lt a (called_at u)
  is_before_twin s a _ _ = true

module _ (p : Program) (vertices : List Vertex) where
  -- the buffer carries this source, in its length
  abbrev pub carries : Source → Option ℕ → Bool
  carries x None = false
  carries x (Some b) =
      nat_lt b (length p.buffers) && same_source (carried p b) x &&
      has_output (slice_get vertices x.vertex) x.port (len_of p b)

  -- For each of these guards the buffer of its place in the list carries the guard's source.
  abbrev pub carry_guards : List ℕ → List Guard → Bool
  carry_guards ins guards = all_at (λ k d. carries d.source (slice_get ins k)) 0 guards

  -- For each of these sources the buffer of its place in the list carries it.
  abbrev pub carry_inputs : List ℕ → List Source → Bool
  carry_inputs ins sources = all_at (λ k x. carries x (slice_get ins k)) 0 sources

  -- the buffers carry the guards' sources and then the inputs
  abbrev pub takes : List ℕ → List Guard → List Source → Bool
  takes ins guards sources =
      nat_eq (length ins) (length guards + length sources) && carry_guards ins guards &&
      carry_inputs (drop (length guards) ins) sources

  -- Instruction a of s is the only call of operation v, which is x: in a computation sequence, on
  -- buffers that carry what v takes and gives, and if v is a get half before its set half.
  abbrev pub is_called_at : ℕ → Vertex → ℕ → ℕ → Bool
  is_called_at v x s a =
      is_only p (calls v) s a && is_none (medium p s) && takes (ins_in (slice_get (turn p s) a)) x.guards x.ins &&
      gives p v (outs_in (slice_get (turn p s) a)) x.outs && is_before_twin p s a x.kind x.twin

  -- The first call of operation v, which is x, is right and the only one; it is not
  -- right if no loop calls v.
  abbrev pub is_called : ℕ → Vertex → Bool
  is_called v x = is_called_at v x (caller_of p v) (called_at p v)

  -- Each of these operations, by number, has one call, and that is right.
  abbrev pub are_called : Bool
  are_called = all_at (λ v x. is_called v x) 0 vertices
