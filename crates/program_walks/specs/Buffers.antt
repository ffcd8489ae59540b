-- What makes a buffer right, as tests.
use Rattle.std.specs.Prelude.{
  ℕ,
  Bool,
  true,
  false,
  ◌&&◌,
  ◌||◌,
  nat_eq,
  nat_le,
  nat_lt,
  length,
  Option,
  Some,
  None,
  slice_get,
}
use Rattle.std.specs.List.{list_all}
use Rattle.executive_program.specs.declared.program.Instr.{Instr}
use Rattle.executive_program.specs.declared.program.Instr.TheVariants.{Call, Recv}
use Rattle.executive_program.specs.declared.program.Buffer.{Buffer}
use Rattle.executive_program.specs.declared.program.Program.{Program}
use Rattle.executive_program.specs.Instructions.{depth_of, is_guarded, reads, turn, writes}
use Rattle.executive_program.specs.Places.{writing}
use Rattle.program_walks.specs.Walks.{all_at, all_below, every, implies, names}

-- the instruction writes b as output `port`
abbrev pub writes_at : ℕ → ℕ → Option Instr → Bool
writes_at b port (Some (Call v ins outs)) = names (slice_get outs port) b
writes_at b port (Some (Recv c q)) = nat_eq c b && nat_eq port 0
writes_at b port _ = false

-- the instruction writes b only if it stands `here`, and as that output
abbrev pub writes_only : ℕ → ℕ → Bool → Instr → Bool
writes_only b port here (Call v ins outs) = all_at (λ k c. implies (nat_eq c b) (here && nat_eq k port)) 0 outs
writes_only b port here (Recv c q) = implies (nat_eq c b) (here && nat_eq 0 port)
writes_only b port here _ = true

-- The instruction writes buffer b or reads it.
abbrev pub touches : ℕ → Instr → Bool
touches b x = writes b x || reads b x

-- There is a buffer, and it is on operator o.
abbrev pub is_operator : Option Buffer → ℕ → Bool
is_operator None o = false
is_operator (Some x) o = nat_eq x.operator o

module _ (p : Program) where
  -- no other instruction writes b, nor this one twice
  abbrev pub is_written_once : ℕ → ℕ → ℕ → ℕ → Bool
  is_written_once b writer at port = every p (λ s a x. writes_only b port (nat_eq s writer && nat_eq a at) x)

  -- b is touched on its own operator alone
  abbrev pub is_near : ℕ → Bool
  is_near b =
      list_all (λ q.
      list_all (λ x. implies (touches b x) (is_operator (slice_get p.buffers b) q.seq.operator)) q.turn) p.seqs

  -- The sequence that writes a buffer at this place reads it at later places only.
  abbrev pub is_written_first : ℕ → ℕ → ℕ → Bool
  is_written_first b writer at = all_at (λ a x. implies (reads b x) (nat_lt at a)) 0 (turn p writer)

  -- b has one to four places, and one where no pair guards it
  abbrev pub has_places : ℕ → Bool
  has_places b = nat_le 1 (depth_of p b) && nat_le (depth_of p b) 4 && (nat_eq (depth_of p b) 1 || is_guarded p b)

  -- With this place as its write, buffer b is written there and nowhere else, touched on its own
  -- operator only, read by its writer only later, and has an allowed number of places.
  abbrev pub is_buffer_at : ℕ → ℕ → ℕ → ℕ → Bool
  is_buffer_at b writer at port =
      writes_at b port (slice_get (turn p writer) at) && is_written_once b writer at port && is_near b &&
      is_written_first b writer at && has_places b

  -- Buffer b is right with the first instruction that writes it; it is not right if none does.
  abbrev pub is_buffer : ℕ → Bool
  is_buffer b = is_buffer_at b (writing p b).writer (writing p b).at (writing p b).port

  -- Every buffer of the program is right.
  abbrev pub are_buffers : Bool
  are_buffers = all_below is_buffer (length p.buffers)
