-- The registers of a call: what was loaded so far, and then the outputs of its operation.
use Rattle.std.proofs.Common.{◌≡◌, ℕ, zero, suc, ◌+◌, ◌<◌, ◌≤◌, List, [], ◌∷◌, ◌++◌, length, map, take, Option, Some, None, refl, sym, ap, arith, ◌∙◌, ℤ, add-one}
use Rattle.std.specs.Prelude.{slice_get}
use Rattle.std.proofs.lemmas.Option.{same_Some}
use Rattle.std.proofs.lemmas.Bool.{lt-ltb, le-ltb, ne_eqb}
use Rattle.std.proofs.lemmas.List.{take-take, take_all}
use Rattle.executive_program.specs.Owners.{sum_below}
use Rattle.executive_program.specs.Level.{element_at, all_joined}
use Rattle.executive_program.specs.declared.Kind.TheVariants.{Get}
use Rattle.executive_program.specs.declared.Vertex.{Vertex}
use Rattle.executive_program.specs.Meaning.{delay_number, cell_of, cells_after, flat_outputs}
use Rattle.executive_program.specs.declared.program.Instr.{Instr}
use Rattle.executive_program.specs.declared.program.Instr.TheVariants.{Suc0, Suc1, Pre0, Pre1, Call, Send, Recv, Sync}
use Rattle.executive_program.specs.Instructions.{len_of}
use Rattle.executive_program.specs.Steps.{len_at, elements_in}
use Rattle.semaphore_core.specs.Registers.{Own, gathered, compute, compute_by}
use Rattle.semaphore_core.specs.Job.{JobData, reactions}
use Rattle.semaphore_core.specs.Told.{registers_in, buffer_value}
use Rattle.phase_laws.specs.Values.{IsSupplied}
use Rattle.phase_laws.proofs.Lengths.{Carry, Give, carried_sized, output_lens, given_lens, given_value}
use Rattle.phase_laws.proofs.Joined.{take_snoc, element_is, elements_are, element_of_joined}
use Rattle.phase_laws.proofs.Computing.{outputs_are}
use Rattle.syn_base.specs.Vectors.{Vector, vector_at}

-- before its first micro-step an instruction has no registers
pub zero_registers : (j : JobData) (k : ℕ) (o : Option Instr) → registers_in j k o 0 ≡ []
zero_registers j k None = refl
zero_registers j k (Some (Call v ins outs)) = refl
zero_registers j k (Some (Send b o)) = refl
zero_registers j k (Some (Recv b o)) = refl
zero_registers j k (Some (Suc0 q)) = refl
zero_registers j k (Some (Suc1 q)) = refl
zero_registers j k (Some (Pre0 q)) = refl
zero_registers j k (Some (Pre1 q)) = refl
zero_registers j k (Some (Sync q r)) = refl

value_there : (f : ℕ → Vector) (ins : List ℕ) (i b : ℕ) → slice_get ins i ≡ Some b → vector_at (map f ins) i ≡ f b
value_there f [] i b e = absurd cc
value_there f (c ∷ cs) zero b e = ap f (same_Some c b e)
value_there f (c ∷ cs) (suc i) b e = value_there f cs i b e

module _ (j : JobData) (h : IsSupplied j) (k v : ℕ) (x : Vertex) (low : k < reactions j) (is : slice_get j.graph.vertices v ≡ Some x)
    (ins outs : List ℕ) (carry : Carry j h ins (map (λ d. d.source) x.guards ++ x.ins)) (give : Give j h v 0 outs x.outs) where
  abbrev pub Loaded : List ℤ
  Loaded = all_joined (map (λ b. buffer_value j b k) ins)

  abbrev pub Given : List ℤ
  Given = all_joined (flat_outputs j.graph j.sensors j.opening v k)

  sized_in : map length (map (λ b. buffer_value j b k) ins) ≡ map (len_of j.program) ins
  sized_in = carried_sized j h k ins (map (λ d. d.source) x.guards ++ x.ins) low carry

  sized_out : map length (flat_outputs j.graph j.sensors j.opening v k) ≡ map (len_of j.program) outs
  sized_out = output_lens j h k v x low is ∙ sym (given_lens j h v 0 outs x.outs give)

  pub loads_are : length (all_joined (map (λ b. buffer_value j b k) ins)) ≡ elements_in j.program ins
  loads_are = elements_are j.program ins (map (λ b. buffer_value j b k) ins) sized_in

  -- what load number n of input i finds
  pub loaded_at : (i b n : ℕ) → slice_get ins i ≡ Some b → n < len_of j.program b
      → slice_get (all_joined (map (λ b. buffer_value j b k) ins)) (sum_below (len_at j.program ins) i + n) ≡ Some (element_at (buffer_value j b k) n)
  loaded_at i b n e l = element_of_joined j.program ins (map (λ b. buffer_value j b k) ins) sized_in i b n e l
      ∙ ap (λ (u : Vector). Some (element_at u n)) (value_there (λ b. buffer_value j b k) ins i b e)

  -- what store number n of output i stores
  pub stored_at : (i b n : ℕ) → slice_get outs i ≡ Some b → n < len_of j.program b
      → element_at (all_joined (flat_outputs j.graph j.sensors j.opening v k)) (sum_below (len_at j.program outs) i + n) ≡ element_at (buffer_value j b k) n
  stored_at i b n e l = element_is Given (sum_below (len_at j.program outs) i + n) _ (element_of_joined j.program outs (flat_outputs j.graph j.sensors j.opening v k) sized_out i b n e l)
      ∙ ap (λ (u : Vector). element_at u n) (sym (given_value j h k v outs x.outs give i b e))

  loading : (r : ℕ) → r < elements_in j.program ins → registers_in j k (Some (Call v ins outs)) r ≡ take r (all_joined (map (λ b. buffer_value j b k) ins))
  loading zero l = refl
  loading (suc r) l = rw (ne_eqb (suc r) 0 (λ q. omega arith), lt-ltb (suc r) (elements_in j.program ins) l) refl

  pub more_loaded : (r : ℕ) → r + 1 < elements_in j.program ins → registers_in j k (Some (Call v ins outs)) (r + 1) ≡ take (suc r) (all_joined (map (λ b. buffer_value j b k) ins))
  more_loaded r l = loading (r + 1) l ∙ ap (λ (n : ℕ). take n Loaded) (add-one r)

  pub computed : (r : ℕ) → 0 < r → elements_in j.program ins ≤ r → registers_in j k (Some (Call v ins outs)) r ≡ all_joined (flat_outputs j.graph j.sensors j.opening v k)
  computed zero z l = absurd (omega arith)
  computed (suc r) z l = rw (ne_eqb (suc r) 0 (λ q. omega arith), le-ltb (suc r) (elements_in j.program ins) l) refl

  -- one more load
  pub gathers : (r : ℕ) (c : List ℤ) (z : ℤ) → r < elements_in j.program ins → slice_get (all_joined (map (λ b. buffer_value j b k) ins)) r ≡ Some z → c ≡ registers_in j k (Some (Call v ins outs)) r
      → gathered c r z ≡ take (suc r) (all_joined (map (λ b. buffer_value j b k) ins))
  gathers r c z l e q = ap (λ (y : List ℤ). take r y ++ z ∷ []) (q ∙ loading r l) ∙ ap (λ (y : List ℤ). y ++ z ∷ []) (take-take r r Loaded (omega arith)) ∙ sym (take_snoc Loaded r z e)

  -- with the last load all is loaded
  pub full_load : (r : ℕ) (c : List ℤ) (z : ℤ) → r + 1 ≡ elements_in j.program ins
      → slice_get (all_joined (map (λ b. buffer_value j b k) ins)) r ≡ Some z → c ≡ registers_in j k (Some (Call v ins outs)) r
      → gathered c r z ≡ all_joined (map (λ b. buffer_value j b k) ins)
  full_load r c z a e q = gathers r c z (omega arith) e q ∙ take_all (suc r) Loaded (let b = loads_are in omega arith)

  -- the computation gives the outputs
  pub compute_is : (loaded : List ℤ) (c : Own) → loaded ≡ all_joined (map (λ b. buffer_value j b k) ins)
      → ((z : List ℤ) → x.kind ≡ Get z → vector_at c.cells (delay_number j.graph.vertices v) ≡ cell_of j.graph (cells_after j.graph j.sensors j.opening k) v)
      → (compute j.graph j.sensors v k loaded c).registers ≡ all_joined (flat_outputs j.graph j.sensors j.opening v k)
  compute_is loaded c all cell = ap (λ (o : Option Vertex). (compute_by j.graph j.sensors v k loaded c o).registers) is ∙ ap all_joined (outputs_are j h k v x low is ins carry loaded all c.cells cell)
