-- What a load and a store leave of the parts of the sequences, and of a state.
use Rattle.std.proofs.Common.{◌≡◌, ℕ, ◌+◌, ◌<◌, List, [], map, length, get_or, refl, sym, ap, ◌∙◌, ℤ}
use Rattle.std.specs.Prelude.{slice_set}
use Rattle.std.specs.Option.{option_map}
use Rattle.std.proofs.lemmas.Option.{slice_get_read, get_or_from_slice_get, slice_get-map}
use Rattle.std.proofs.lemmas.List.{map-set}
use Rattle.std.proofs.Math.Seq.{map-set_same}
use Rattle.executive_program.specs.declared.steps.Place.{Place}
use Rattle.executive_program.specs.declared.steps.OnLoad.{OnLoad}
use Rattle.executive_program.specs.declared.steps.OnStore.{OnStore}
use Rattle.executive_program.specs.declared.expand.SeqSteps.{SeqSteps}
use Rattle.executive_program.specs.declared.program.Program.{Program}
use Rattle.operation_desks.specs.RegisterFile.{RegisterFile}
use Rattle.operation_desks.specs.Registers.{Own}
use Rattle.semaphore_core.specs.Elements.{element_in}
use Rattle.semaphore_core.specs.Job.{JobData}
use Rattle.semaphore_core.specs.Parts.{Kept, Parts, own_of, own_at, with_values, with_kept, with_own, with_load, with_store, value_stored}
use Rattle.semaphore_core.specs.Core.{Core, home_of, slot_of, element_of, load_by, store_by}
use Rattle.semaphore_core.specs.Held.{Held}
use Rattle.syn_base.specs.Rows.{with_value}

-- an element that was read by an index
pub read_at : {A : Type 0} (xs : List A) (s : ℕ) (x d : A) → s < length xs → x ≡ get_or xs s x → get_or xs s d ≡ x
read_at xs s x d h e = get_or_from_slice_get xs s x d (slice_get_read xs (length xs) s x refl h e)

pub read_map : {A B : Type 0} (f : A → B) (xs : List A) (s : ℕ) (x : A) (d : B) → s < length xs → x ≡ get_or xs s x → get_or (map f xs) s d ≡ f x
read_map f xs s x d h e = get_or_from_slice_get (map f xs) s (f x) d (slice_get-map f xs s ∙ ap (option_map f) (slice_get_read xs (length xs) s x refl h e))

abbrev pub values_of : List RegisterFile → List (List ℤ)
values_of regs = map (λ (r : RegisterFile). r.values) regs

abbrev pub rooms_of : List RegisterFile → List ℕ
rooms_of regs = map (λ (r : RegisterFile). r.room) regs

abbrev pub parts_of : List RegisterFile → Kept → Parts
parts_of files kept = record { registers = values_of files; rooms = rooms_of files; kept = kept }

module _ (files : List RegisterFile) (kept : Kept) (s : ℕ) (r r' : RegisterFile) (there : s < length files) (r_is : r ≡ get_or files s r) where
  pub own_is : own_of r kept ≡ own_at (parts_of files kept) s
  own_is = ap (λ (l : List ℤ). record { registers = l; cells = kept.cells; rows = kept.rows }) (sym (read_map (λ (f : RegisterFile). f.values) files s r [] there r_is))

  -- the registers of s, and what the operations keep, were changed as this says
  pub changed : (kept' : Kept) (f : Own → Own) → r' ≡ with_values r (f (own_of r kept)) → kept' ≡ with_kept kept (f (own_of r kept))
      → parts_of (slice_set files s r') kept' ≡ with_own (parts_of files kept) s (f (own_at (parts_of files kept) s))
  changed kept' f a b = λ i. record { registers = registers_are i; rooms = rooms_are i; kept = (b ∙ ap (λ (c : Own). with_kept kept (f c)) own_is) i }
    where
      registers_are : values_of (slice_set files s r') ≡ slice_set (values_of files) s (f (own_at (parts_of files kept) s)).registers
      registers_are = map-set (λ (f : RegisterFile). f.values) files s r'
          ∙ ap (λ (v : RegisterFile). slice_set (values_of files) s v.values) (a ∙ ap (λ (c : Own). with_values r (f c)) own_is)

      rooms_are : rooms_of (slice_set files s r') ≡ rooms_of files
      rooms_are = map-set_same (λ (f : RegisterFile). f.room) files s r' r (ap (λ (f : RegisterFile). f.room) a ∙ ap (λ (f : RegisterFile). f.room) r_is)

-- the state that has these parts
abbrev pub core_of : List ℕ → List ℕ → List ℕ → List (List ℤ) → Parts → Core
core_of counts semaphores turns elements p = record { counts = counts; semaphores = semaphores; turns = turns; elements = elements; registers = p.registers; cells = p.kept.cells; rows = p.kept.rows }

abbrev pub held_of : List ℕ → List ℕ → List ℕ → List (List ℤ) → Parts → List SeqSteps → Held
held_of counts semaphores turns elements p steps = record { core = core_of counts semaphores turns elements p; steps = steps; rooms = p.rooms; lens = p.kept.lens; desks = p.kept.desks }

module _ (j : JobData) (counts semaphores turns : List ℕ) (elements : List (List ℤ)) (p : Parts) (steps : List SeqSteps) (s k n : ℕ) (few : s < length counts) (n_is : n ≡ get_or counts s n) where
  abbrev z : Core
  z = core_of counts semaphores turns elements p

  count_is : n ≡ get_or counts s 0
  count_is = sym (read_at counts s n 0 few n_is)

  pub loaded : (x : Place) (then : OnLoad) (v : ℤ) (p' : Parts) → v ≡ element_of j z x k → p' ≡ with_load j p s k then v
      → held_of (slice_set counts s (n + 1)) semaphores turns elements p' steps ≡ record { core = load_by j z s x then k; steps = steps; rooms = p.rooms; lens = p.kept.lens; desks = p.kept.desks }
  loaded x then v p' e q = λ i. held_of (slice_set counts s (count_is i + 1)) semaphores turns elements ((q ∙ ap (with_load j p s k then) e) i) steps

  pub stored : (x : Place) (what : OnStore) (v : ℤ) (home slot : ℕ) (elements' : List (List ℤ)) (p' : Parts) → v ≡ value_stored j p s k what → home ≡ home_of j.program x → slot ≡ slot_of j.program x k
      → elements' ≡ with_value elements home slot v → p' ≡ with_store j p s k what
      → held_of (slice_set counts s (n + 1)) semaphores turns elements' p' steps ≡ record { core = store_by j z s x what k; steps = steps; rooms = p.rooms; lens = p.kept.lens; desks = p.kept.desks }
  stored x what v home slot elements' p' e h t f q = λ i. held_of (slice_set counts s (count_is i + 1)) semaphores turns ((f ∙ (λ l. with_value elements (h l) (t l) (e l))) i) (q i) steps

-- an element that was read where it lies
pub found : (j : JobData) (z : Core) (p : Program) (x : Place) (k home slot : ℕ) (lists : List (List ℤ)) (w v : ℤ) → p ≡ j.program → lists
    ≡ z.elements → home ≡ home_of p x → slot ≡ slot_of p x k → w ≡ element_in lists home slot → v ≡ w
    → v ≡ element_of j z x k
found j z p x k home slot lists w v q e h t f g = g ∙ f ∙ (λ i. element_in (e i) (h i) (t i)) ∙ ap (λ (r : Program). element_in z.elements (home_of r x) (slot_of r x k)) q
