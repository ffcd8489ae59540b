-- What is added in several steps.
use Rattle.std.proofs.Common.{◌≡◌, ℕ, Bool, true, false, cond, nat_eq, List, [], ◌∷◌, ◌++◌, length, map, refl, sym, ap, arith, ◌∙◌, append_assoc, Vec, Global, ◌<◌}
use Rattle.std.proofs.lemmas.List.{append-nil, map-append}
use Rattle.sequence_build_laws.specs.declared.Vertex.{Vertex}
use Rattle.sequence_build_laws.specs.declared.Decision.{Decision}
use Rattle.sequence_build_laws.specs.Acts.{carry, run, acts_of, Copy}
use Rattle.sequence_build_laws.specs.declared.Instr.{Instr}
use Rattle.sequence_build_laws.specs.Serial.{Step, step, projection}
use Rattle.sequence_build_laws.proofs.Guarded.{projection-append}
use Rattle.sequence_build.specs.declared.made.Made.{Made}
use Rattle.sequence_build.specs.Numbers.{place}
use Rattle.sequence_build.specs.Made.{Makes, buffer_of}
use Rattle.sequence_build.specs.Plain.{Adds, loop_at}

-- What was added comes, with what is left, to the whole.
abbrev pub ComesTo : List (Vec Instr Global) → List (Vec Instr Global) → List Step → List Step → Type 0
ComesTo old new left whole = (s : ℕ) → s < length old →
    loop_at new s ++ projection left s ≡ loop_at old s ++ projection whole s

-- What was made comes, with what is left, to the whole.
pub record MakesUp (vertices : List Vertex) (old new : Made) (left whole : List Copy) : Type 0 where
  pub buffers : new.buffers.items ++ map (buffer_of vertices) left ≡ old.buffers.items ++ map (buffer_of vertices) whole
  pub places : new.places.items ++ map (place (length vertices)) left ≡
      old.places.items ++ map (place (length vertices)) whole

pub one_projected : (q : ℕ) (x : Instr) (s : ℕ) → projection (step q x ∷ []) s ≡ cond (nat_eq q s) (x ∷ []) []
one_projected q x s = by (nat_eq q s)
  where
    by : (b : Bool) → map (λ (y : Step). y.instr) (cond b (step q x ∷ []) []) ≡ cond b (x ∷ []) []
    by true = refl
    by false = refl

-- a decision, and those after it
pub acts-cons : (d : Decision) (ds : List Decision) → acts_of (d ∷ ds) ≡ acts_of (d ∷ []) ++ acts_of ds
acts-cons d ds = sym (append_assoc (map carry d.transfers) (run d ∷ []) (acts_of ds))

module _ (old mid new : List (Vec Instr Global)) where
  pub adds_twice : (xs ys : List Step) → length mid ≡ length old → Adds old mid xs → Adds mid new ys → Adds old new (xs ++ ys)
  adds_twice xs ys many first second s h =
      second s (omega arith) ∙ ap (λ (l : List Instr). l ++ projection ys s) (first s h) ∙ append_assoc (loop_at old s) (projection xs s) (projection ys s)
      ∙ ap (λ (l : List Instr). loop_at old s ++ l) (sym (projection-append xs ys s))

  pub comes_next : (xs ys whole : List Step) → length mid ≡ length old → ComesTo old mid (xs ++ ys) whole → Adds mid new xs → ComesTo old new ys whole
  comes_next xs ys whole many left more s h =
      ap (λ (l : List Instr). l ++ projection ys s) (more s (omega arith)) ∙ append_assoc (loop_at mid s) (projection xs s) (projection ys s)
      ∙ ap (λ (l : List Instr). loop_at mid s ++ l) (sym (projection-append xs ys s)) ∙ left s h

pub comes_all : (old new : List (Vec Instr Global)) (whole : List Step) → ComesTo old new [] whole → Adds old new whole
comes_all old new whole left s h = sym (append-nil (loop_at new s)) ∙ left s h

pub comes_first : (old : List (Vec Instr Global)) (whole : List Step) → ComesTo old old whole whole
comes_first old whole s h = refl

module _ {vertices : List Vertex} {old mid new : Made} where
  pub makes_twice : {xs ys : List Copy} → Makes vertices old mid xs → Makes vertices mid new ys → Makes vertices old new (xs ++ ys)
  makes_twice {xs} {ys} first second = record {
    buffers = second.buffers ∙ ap (λ l. l ++ map (buffer_of vertices) ys) first.buffers
        ∙ append_assoc old.buffers.items (map (buffer_of vertices) xs) (map (buffer_of vertices) ys)
        ∙ ap (λ l. old.buffers.items ++ l) (sym (map-append (buffer_of vertices) xs ys));
    places = second.places ∙ ap (λ l. l ++ map (place (length vertices)) ys) first.places
        ∙ append_assoc old.places.items (map (place (length vertices)) xs) (map (place (length vertices)) ys)
        ∙ ap (λ l. old.places.items ++ l) (sym (map-append (place (length vertices)) xs ys));
  }

  pub makes_next : {xs ys whole : List Copy} → MakesUp vertices old mid (xs ++ ys) whole → Makes vertices mid new xs → MakesUp vertices old new ys whole
  makes_next {xs} {ys} left more = record {
    buffers = ap (λ l. l ++ map (buffer_of vertices) ys) more.buffers
        ∙ append_assoc mid.buffers.items (map (buffer_of vertices) xs) (map (buffer_of vertices) ys)
        ∙ ap (λ l. mid.buffers.items ++ l) (sym (map-append (buffer_of vertices) xs ys)) ∙ left.buffers;
    places = ap (λ l. l ++ map (place (length vertices)) ys) more.places
        ∙ append_assoc mid.places.items (map (place (length vertices)) xs) (map (place (length vertices)) ys)
        ∙ ap (λ l. mid.places.items ++ l) (sym (map-append (place (length vertices)) xs ys)) ∙ left.places;
  }

pub makes_all : {vertices : List Vertex} {old new : Made} {whole : List Copy} → MakesUp vertices old new [] whole → Makes vertices old new whole
makes_all {new = new} left = record { buffers = sym (append-nil new.buffers.items) ∙ left.buffers; places = sym (append-nil new.places.items) ∙ left.places }

pub makes_first : (vertices : List Vertex) (old : Made) (whole : List Copy) → MakesUp vertices old old whole whole
makes_first vertices old whole = record { buffers = refl; places = refl }
