-- The first that a program lacks.
use Rattle.std.proofs.Common.{◌≡◌, ℕ, ◌<◌, ◌⊎◌, Bool, true, false, cond, List, [], length, Some, None, refl, inl, inr}
use Rattle.sequence_build_laws.specs.declared.Vertex.{Vertex}
use Rattle.sequence_build_laws.specs.Graph.{Graph}
use Rattle.sequence_build_laws.specs.declared.Seq.{Seq}
use Rattle.sequence_build_laws.specs.declared.Instr.TheVariants.{Suc1, Pre1, Send, Recv}
use Rattle.sequence_build_laws.specs.declared.Program.{Program}
use Rattle.sequence_build_laws.specs.MicroSteps.{first_of}
use Rattle.sequence_build_laws.specs.WellFormed.{Stands}
use Rattle.sequence_build_laws.specs.Places.{AreOpened}
use Rattle.program_walks.specs.Opened.{are_opened}
use Rattle.check_laws.specs.Items.{AreNamed, AreTransferred}
use Rattle.check_laws.specs.Run.{stuck}
use Rattle.check_laws.specs.Tests.{
  sequences_differ,
  calls_wrong,
  transfers_wrong,
  buffers_wrong,
  pairs_wrong,
  prologue_wrong,
  stopped,
  are_named,
  are_called,
  are_transferred,
  are_written,
  are_guarded,
  cause,
}
use Rattle.program_walks.proofs.Prologues.{opened_of, of_opened}
use Rattle.check_laws.proofs.Causes.{moved_of, guarded_of}
use Rattle.check_laws.proofs.Guarded.{numbered_of}
use Rattle.macro_check.specs.Awaiting.{MayRun}
use Rattle.macro_check.specs.Causes.{AreThere, fault, lack}

module _ (p : Program) (vertices : List Vertex) (media : ℕ) where
  pub lack_calls : are_called p vertices ≡ false → Some calls_wrong ≡ lack p vertices media
  lack_calls e = rw e refl

  pub lack_transfers : are_called p vertices ≡ true → are_transferred p media ≡ false → Some transfers_wrong ≡ lack p vertices media
  lack_transfers a b = rw (a, b) refl

  pub lack_buffers : are_called p vertices ≡ true → are_transferred p media ≡ true → are_written p vertices media ≡ false → Some buffers_wrong ≡ lack p vertices media
  lack_buffers a b c = rw (a, b, c) refl

  pub lack_pairs : are_called p vertices ≡ true → are_transferred p media ≡ true → are_written p vertices media ≡ true → are_guarded p ≡ false → Some pairs_wrong ≡ lack p vertices media
  lack_pairs a b c d = rw (a, b, c, d) refl

  pub lack_prologue : are_called p vertices ≡ true → are_transferred p media ≡ true → are_written p vertices media ≡ true → are_guarded p
      ≡ true → are_opened p ≡ false → Some prologue_wrong ≡ lack p vertices media
  lack_prologue a b c d e = rw (a, b, c, d, e) refl

  pub lack_none : are_called p vertices ≡ true → are_transferred p media ≡ true → are_written p vertices media ≡ true → are_guarded p ≡ true → are_opened p ≡ true → None ≡ lack p vertices media
  lack_none a b c d e = rw (a, b, c, d, e) refl

  pub record All : Type 0 where
    pub called : are_called p vertices ≡ true
    pub transferred : are_transferred p media ≡ true
    pub written : are_written p vertices media ≡ true
    pub guarded : are_guarded p ≡ true
    pub opened : are_opened p ≡ true

  pub all_of : lack p vertices media ≡ None → All
  all_of e = by (are_called p vertices) refl (are_transferred p media) refl (are_written p vertices media) refl (are_guarded p) refl (are_opened p) refl e
    where
      by : (a : Bool) → are_called p vertices ≡ a → (b : Bool) → are_transferred p media ≡ b → (c : Bool) → are_written p vertices media
          ≡ c → (d : Bool) → are_guarded p ≡ d → (f : Bool) → are_opened p ≡ f
          → cond a (cond b (cond c (cond d (cond f None (Some prologue_wrong)) (Some pairs_wrong)) (Some buffers_wrong)) (Some transfers_wrong)) (Some calls_wrong) ≡ None → All
      by true a true b true c true d true f e = record { called = a; transferred = b; written = c; guarded = d; opened = f }
      by true a true b true c true d false f e = absurd cc
      by true a true b true c false d f g e = absurd cc
      by true a true b false c d f g h e = absurd cc
      by true a false b c d f g h i e = absurd cc
      by false a b c d f g h i j e = absurd cc

  pub cause_is : (seqs : List Seq) (operators : ℕ) → are_named p (length vertices) operators seqs ≡ true → cause p vertices seqs operators media ≡ fault p vertices media
  cause_is seqs operators n = rw n (by (are_called p vertices) (are_transferred p media) (are_written p vertices media) (are_guarded p) (are_opened p))
    where
      by : (a b c d e : Bool) → cond a (cond b (cond c (cond d (cond e (stopped (stuck p)) (Some prologue_wrong)) (Some pairs_wrong)) (Some buffers_wrong)) (Some transfers_wrong)) (Some calls_wrong)
          ≡ first_of (cond a (cond b (cond c (cond d (cond e None (Some prologue_wrong)) (Some pairs_wrong)) (Some buffers_wrong)) (Some transfers_wrong)) (Some calls_wrong)) (stopped (stuck p))
      by true true true true true = refl
      by true true true true false = refl
      by true true true false e = refl
      by true true false d e = refl
      by true false c d e = refl
      by false b c d e = refl

  pub no_name : (seqs : List Seq) (operators : ℕ) → are_named p (length vertices) operators seqs ≡ false → cause p vertices seqs operators media ≡ Some sequences_differ
  no_name seqs operators n = rw n refl

pub are_there : (p : Program) (operations operators : ℕ) (seqs : List Seq) → AreNamed p operations operators seqs → AreThere p
are_there p operations operators seqs h = record { pairs = pairs; buffers = buffers }
  where
    pairs : (s a q : ℕ) → Stands p s a (Suc1 q) ⊎ Stands p s a (Pre1 q) → q < length p.pairs
    pairs s a q (inl e) = h.loops s a (Suc1 q) e
    pairs s a q (inr e) = h.loops s a (Pre1 q) e

    buffers : (s a b o : ℕ) → Stands p s a (Send b o) ⊎ Stands p s a (Recv b o) → b < length p.buffers
    buffers s a b o (inl e) = (h.loops s a (Send b o) e).0
    buffers s a b o (inr e) = (h.loops s a (Recv b o) e).0

-- whatever the flat graph
no_graph : Graph
no_graph = record { vertices = []; bodies = [] }

pub transferred_of : (p : Program) (media : ℕ) → are_transferred p media ≡ true → AreTransferred p media
transferred_of p media m = moved_of p no_graph [] 0 media m

pub may_run : (p : Program) (media : ℕ) → AreThere p → are_transferred p media ≡ true → are_guarded p ≡ true → MayRun p media
may_run p media h m u = record { named = h.pairs; transferred = transferred_of p media m; guarded = guarded_of p no_graph [] 0 media u }

-- the prologues are those of the sequences exactly where the test says so, where the pairs are right
pub opened_is : (p : Program) → are_guarded p ≡ true → AreOpened p → are_opened p ≡ true
opened_is p u h = of_opened p (numbered_of p u) h

pub not_opened_is : (p : Program) → (AreOpened p → ⊥) → are_opened p ≡ false
not_opened_is p h = by (are_opened p) refl
  where
    by : (b : Bool) → are_opened p ≡ b → are_opened p ≡ false
    by false e = e
    by true e = absurd (h (opened_of p e))
