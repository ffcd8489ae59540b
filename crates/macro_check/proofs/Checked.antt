-- What the parts of the check tell is what the check tells.
use Rattle.std.proofs.Common.{◌≡◌, ℕ, ◌≤◌, ◌^◌, true, false, List, length, Some, None, sym, arith, ◌∙◌}
use Rattle.std.specs.Prelude.{IsTrue}
use Rattle.std.specs.List.{flat_map, range_with_len}
use Rattle.std.proofs.lemmas.Bool.{false≢true}
use Rattle.sequence_build_laws.specs.declared.Vertex.{Vertex}
use Rattle.sequence_build_laws.specs.Graph.{Graph}
use Rattle.sequence_build_laws.specs.declared.Medium.{Medium}
use Rattle.sequence_build_laws.specs.Archi.{Architecture, is_archi}
use Rattle.sequence_build_laws.specs.Sequences.{sequences, sequences_of}
use Rattle.sequence_build_laws.specs.declared.Program.{Program}
use Rattle.sequence_build_laws.specs.WellFormed.{IsOrder, IsWellFormed}
use Rattle.check_laws.specs.Items.{AreNamed}
use Rattle.check_laws.specs.Laws.{IsCause}
use Rattle.check_laws.specs.Tests.{Cause, are_named, cause, sequences_differ}
use Rattle.check_laws.proofs.Causes.{items_of}
use Rattle.check_laws.proofs.Named.{named_of, of_named}
use Rattle.check_laws.proofs.Whole.{cause_is_exact, no_cause_is_well_formed, runs_are_orders, well_formed_has_items}
use Rattle.macro_check.specs.declared.cause.CheckError.{CheckError}
use Rattle.macro_check.specs.declared.cause.CheckError.TheVariants.{Refused, OutOfMemory}
use Rattle.macro_check.specs.Awaiting.{IsWhole}
use Rattle.macro_check.specs.Causes.{AreThere, Refuses, fault, lack}
use Rattle.macro_check.proofs.Few.{few_codes}
use Rattle.macro_check.proofs.Lacks.{all_of, are_there, cause_is, no_name}

pub refuses : (P Q : Cause → Type 0) → ((c : Cause) → P c → Q c) → (e : CheckError) → Refuses P e → Refuses Q e
refuses P Q f (Refused c) h = f _ h
refuses P Q f OutOfMemory h = h

module _ (p : Program) (g : Graph) (a : Architecture) where
  -- as the code asks
  pub named_is : (vs : List Vertex) (os : List (List ℕ)) (ms : List Medium) → vs ≡ g.vertices → os ≡ a.operators → ms ≡ a.media
      → are_named p (length vs) (length os) (flat_map (sequences_of ms) (range_with_len 0 (length os))) ≡ are_named p (length g.vertices) (length a.operators) (sequences a)
  named_is vs os ms v o m = λ i. are_named p (length (v i)) (length (o i)) (flat_map (sequences_of (m i)) (range_with_len 0 (length (o i))))

  module _ (n : are_named p (length g.vertices) (length a.operators) (sequences a) ≡ false) where
    pub names_told : cause p g.vertices (sequences a) (length a.operators) (length a.media) ≡ Some sequences_differ
    names_told = no_name p g.vertices (length a.media) (sequences a) (length a.operators) n

    pub not_named : AreNamed p (length g.vertices) (length a.operators) (sequences a) → ⊥
    not_named x = false≢true (sym n ∙ of_named p (length g.vertices) (length a.operators) (sequences a) x)

    pub not_well_formed : IsTrue (is_archi a.operators a.media) → IsWellFormed p g (sequences a) (length a.media) → ⊥
    not_well_formed valid w = not_named (well_formed_has_items p g a valid w).named

  module _ (n : are_named p (length g.vertices) (length a.operators) (sequences a) ≡ true) where
    names : AreNamed p (length g.vertices) (length a.operators) (sequences a)
    names = named_of p (length g.vertices) (length a.operators) (sequences a) n

    pub there : AreThere p
    there = are_there p (length g.vertices) (length a.operators) (sequences a) names

    pub few : IsTrue (is_archi a.operators a.media) → length p.seqs ≤ 2 ^ 32
    few valid = let l = few_codes a p valid names.sequences in omega arith

    pub accepted : (vs : List Vertex) (media : ℕ) → vs ≡ g.vertices → media ≡ length a.media → (order : List ℕ) → IsWhole p order
        → lack p vs media ≡ None → IsOrder p g (sequences a) (length a.media) order
    accepted vs media v m order w l =
        let none : lack p g.vertices (length a.media) ≡ None = (λ i. lack p (sym v i) (sym m i)) ∙ l in
        let all = all_of p g.vertices (length a.media) none in
        runs_are_orders p g (sequences a) (length a.operators) (length a.media) order
        (items_of p g (sequences a) (length a.operators) (length a.media) n all.called all.transferred all.written all.guarded all.opened) w.run w.ends

    pub cause_here : (vs : List Vertex) (media : ℕ) → vs ≡ g.vertices → media ≡ length a.media → (c : Cause) → fault p vs media ≡ Some c
        → cause p g.vertices (sequences a) (length a.operators) (length a.media) ≡ Some c
    cause_here vs media v m c e = cause_is p g.vertices (length a.media) (sequences a) (length a.operators) n ∙ (λ i. fault p (sym v i) (sym m i)) ∙ e

    pub refused : (vs : List Vertex) (media : ℕ) → vs ≡ g.vertices → media ≡ length a.media → (c : Cause) → fault p vs media ≡ Some c
        → IsCause p g (sequences a) (length a.operators) (length a.media) c
    refused vs media v m c e = cause_is_exact p g (sequences a) (length a.operators) (length a.media) c (cause_here vs media v m c e)

    pub not_refused : (vs : List Vertex) (media : ℕ) → vs ≡ g.vertices → media ≡ length a.media → IsTrue (is_archi a.operators a.media)
        → IsWellFormed p g (sequences a) (length a.media) → (c : Cause) → fault p vs media ≡ Some c → ⊥
    not_refused vs media v m valid w c e =
        let none = (no_cause_is_well_formed p g a valid).1 w in
        let told = cause_here vs media v m c e in
        let z : None ≡ Some c = sym none ∙ told in
        absurd cc
