-- The tests of loops, names, communicators and counts are true exactly where these clauses hold.
use Rattle.std.proofs.Common.{◌≡◌, ℕ, ◌<◌, Bool, true, ◌&&◌, not, nat_eq, List, length, refl, sym, ap, subst, eq-eqb, ◌∙◌, inl, inr}
use Rattle.std.specs.Prelude.{slice_get, Option, Some, None, nat_lt}
use Rattle.std.specs.List.{count_by}
use Rattle.std.specs.Cmp.Derive.{both_true}
use Rattle.std.proofs.lemmas.Bool.{and_parts, eqb-true, ltb-true, lt-ltb}
use Rattle.executive_program.specs.declared.Source.{Source}
use Rattle.executive_program.specs.Graph.{Graph}
use Rattle.executive_program.specs.declared.program.Instr.{Instr}
use Rattle.executive_program.specs.declared.program.Instr.TheVariants.{Suc0, Suc1, Pre0, Pre1, Call, Send, Recv, Sync}
use Rattle.executive_program.specs.declared.program.SeqCode.{SeqCode}
use Rattle.executive_program.specs.declared.program.Program.{Program}
use Rattle.executive_program.specs.Instructions.{is_communication, turn, turn_of, medium, medium_in}
use Rattle.executive_program.specs.MicroSteps.{transfers}
use Rattle.executive_program.specs.Places.{Places}
use Rattle.executive_program.specs.WellFormed.{FollowsLoops, NamesIn, Stands}
use Rattle.order_check.specs.Checked.{are_below, communicators, counts, counts_loops, follows_loops, is_at_medium, is_counted, is_medium, named, names_in, on_media}
use Rattle.program_walks.proofs.ListTests.{all_here, all_there, below_of, of_below, not_true, stands_of, of_stands}

pub below_each : (n : ℕ) (list : List ℕ) → are_below n list ≡ true → (k b : ℕ) → slice_get list k ≡ Some b → b < n
below_each n list h k b e = ltb-true b n (all_here (λ c. nat_lt c n) list h k b e)

pub each_below : (n : ℕ) (list : List ℕ) → ((k b : ℕ) → slice_get list k ≡ Some b → b < n) → are_below n list ≡ true
each_below n list h = all_there (λ c. nat_lt c n) list (λ k b e. lt-ltb b n (h k b e))

module _ (p : Program) where
  pub follows_of : (order : List ℕ) → follows_loops p order ≡ true → FollowsLoops p order
  follows_of order h =
      let parts = and_parts (are_below (length p.seqs) order) (counts_loops p order) h in
      record {
        names = λ i s e. below_each (length p.seqs) order parts.0 i s e;
        lengths = λ s l. eqb-true (count_by (λ t. nat_eq t s) order) (length (turn p s)) (below_of (λ s. nat_eq (count_by (λ t. nat_eq t s) order) (length (turn p s))) (length p.seqs) parts.1 s l);
      }

  pub of_follows : (order : List ℕ) → FollowsLoops p order → follows_loops p order ≡ true
  of_follows order f =
      both_true (each_below (length p.seqs) order f.names)
      (of_below (λ s. nat_eq (count_by (λ t. nat_eq t s) order) (length (turn p s))) (length p.seqs) (λ s l. eq-eqb (count_by (λ t. nat_eq t s) order) (length (turn p s)) (f.lengths s l)))

  module _ (order : List ℕ) (w : Places) (carried : ℕ → Source) (g : Graph) where
    names_of : (x : Instr) → names_in p (length g.vertices) x ≡ true → NamesIn p order w carried g x
    names_of (Suc0 q) h = ltb-true q (length p.pairs) h
    names_of (Suc1 q) h = ltb-true q (length p.pairs) h
    names_of (Pre0 q) h = ltb-true q (length p.pairs) h
    names_of (Pre1 q) h = ltb-true q (length p.pairs) h
    names_of (Call v ins outs) h =
        let most = and_parts (nat_lt v (length g.vertices) && are_below (length p.buffers) ins) (are_below (length p.buffers) outs) h in
        let first = and_parts (nat_lt v (length g.vertices)) (are_below (length p.buffers) ins) most.0 in
        (ltb-true v (length g.vertices) first.0, λ k b e. elim e [ inl i ↦ below_each (length p.buffers) ins first.1 k b i | inr o ↦ below_each (length p.buffers) outs most.1 k b o ])
    names_of (Send b q) h = ltb-true b (length p.buffers) h
    names_of (Recv b q) h = ltb-true b (length p.buffers) h
    names_of (Sync q r) h = tt

    of_names : (x : Instr) → NamesIn p order w carried g x → names_in p (length g.vertices) x ≡ true
    of_names (Suc0 q) h = lt-ltb q (length p.pairs) h
    of_names (Suc1 q) h = lt-ltb q (length p.pairs) h
    of_names (Pre0 q) h = lt-ltb q (length p.pairs) h
    of_names (Pre1 q) h = lt-ltb q (length p.pairs) h
    of_names (Call v ins outs) h =
        both_true (both_true (lt-ltb v (length g.vertices) h.0) (each_below (length p.buffers) ins (λ k b e. h.1 k b (inl e))))
        (each_below (length p.buffers) outs (λ k b e. h.1 k b (inr e)))
    of_names (Send b q) h = lt-ltb b (length p.buffers) h
    of_names (Recv b q) h = lt-ltb b (length p.buffers) h
    of_names (Sync q r) h = refl

    pub named_of : named p (length g.vertices) ≡ true → (s a : ℕ) (x : Instr) → Stands p s a x → NamesIn p order w carried g x
    named_of h s a x e = names_of x (stands_of p (names_in p (length g.vertices)) h s a x e)

    pub of_named : ((s a : ℕ) (x : Instr) → Stands p s a x → NamesIn p order w carried g x) → named p (length g.vertices) ≡ true
    of_named h = of_stands p (names_in p (length g.vertices)) (λ s a x e. of_names x (h s a x e))

  pub communicators_of : communicators p ≡ true → (s a : ℕ) (x : Instr) → Stands p s a x → is_communication x ≡ true → (m : ℕ) × (medium p s ≡ Some m)
  communicators_of h s a x e c = by (slice_get p.seqs s) refl e
    where
      on : (m : Option ℕ) (xs : List Instr) → is_at_medium m xs ≡ true → slice_get xs a ≡ Some x → (n : ℕ) × (m ≡ Some n)
      on None xs t e =
          let none : not (is_communication x) ≡ true = all_here (λ x. not (is_communication x)) xs t a x e in
          absurd (let turned : not true ≡ true = subst (λ (b : Bool). not b ≡ true) c none in cc)
      on (Some m) xs t e = (m, refl)

      by : (o : Option SeqCode) → slice_get p.seqs s ≡ o → slice_get (turn_of o) a ≡ Some x → (m : ℕ) × (medium_in o ≡ Some m)
      by None i e = absurd (cc)
      by (Some q) i e = on q.seq.medium q.turn (all_here (λ (q : SeqCode). is_at_medium q.seq.medium q.turn) p.seqs h s q i) e

  pub of_communicators : ((s a : ℕ) (x : Instr) → Stands p s a x → is_communication x ≡ true → (m : ℕ) × (medium p s ≡ Some m)) → communicators p ≡ true
  of_communicators h = all_there (λ (q : SeqCode). is_at_medium q.seq.medium q.turn) p.seqs (λ s q i. on s q i q.seq.medium refl)
    where
      on : (s : ℕ) (q : SeqCode) → slice_get p.seqs s ≡ Some q → (m : Option ℕ) → q.seq.medium ≡ m → is_at_medium m q.turn ≡ true
      on s q i None e =
          all_there (λ x. not (is_communication x)) q.turn (λ a x there.
          not_true (is_communication x) (λ c.
          let found = h s a x (subst (λ (o : Option SeqCode). slice_get (turn_of o) a ≡ Some x) (sym i) there) c in
          let same : None ≡ Some found.0 = sym e ∙ (sym (ap medium_in i) ∙ found.1) in
          absurd (cc)))
      on s q i (Some m) e = refl

  pub on_media_of : (media : ℕ) → on_media p media ≡ true → (s m : ℕ) → medium p s ≡ Some m → m < media
  on_media_of media h s m e = by (slice_get p.seqs s) refl e
    where
      by : (o : Option SeqCode) → slice_get p.seqs s ≡ o → medium_in o ≡ Some m → m < media
      by None i e = absurd (cc)
      by (Some q) i e = ltb-true m media (subst (λ (o : Option ℕ). is_medium media o ≡ true) e (all_here (λ (q : SeqCode). is_medium media q.seq.medium) p.seqs h s q i))

  pub of_on_media : (media : ℕ) → ((s m : ℕ) → medium p s ≡ Some m → m < media) → on_media p media ≡ true
  of_on_media media h = all_there (λ (q : SeqCode). is_medium media q.seq.medium) p.seqs (λ s q i. on s q i q.seq.medium refl)
    where
      on : (s : ℕ) (q : SeqCode) → slice_get p.seqs s ≡ Some q → (o : Option ℕ) → q.seq.medium ≡ o → is_medium media o ≡ true
      on s q i None e = refl
      on s q i (Some m) e = lt-ltb m media (h s m (ap medium_in i ∙ e))

  pub counts_of : counts p ≡ true → (s m : ℕ) → medium p s ≡ Some m → count_by is_communication (turn p s) ≡ transfers p m
  counts_of h s m e = by (slice_get p.seqs s) refl e
    where
      by : (o : Option SeqCode) → slice_get p.seqs s ≡ o → medium_in o ≡ Some m → count_by is_communication (turn_of o) ≡ transfers p m
      by None i e = absurd (cc)
      by (Some q) i e =
          eqb-true (count_by is_communication q.turn) (transfers p m)
          (subst (λ (o : Option ℕ). is_counted p o q.turn ≡ true) e (all_here (λ (q : SeqCode). is_counted p q.seq.medium q.turn) p.seqs h s q i))

  pub of_counts : ((s m : ℕ) → medium p s ≡ Some m → count_by is_communication (turn p s) ≡ transfers p m) → counts p ≡ true
  of_counts h = all_there (λ (q : SeqCode). is_counted p q.seq.medium q.turn) p.seqs (λ s q i. on s q i q.seq.medium refl)
    where
      on : (s : ℕ) (q : SeqCode) → slice_get p.seqs s ≡ Some q → (o : Option ℕ) → q.seq.medium ≡ o → is_counted p o q.turn ≡ true
      on s q i None e = refl
      on s q i (Some m) e =
          eq-eqb (count_by is_communication q.turn) (transfers p m)
          (subst (λ (o : Option SeqCode). count_by is_communication (turn_of o) ≡ transfers p m) i (h s m (ap medium_in i ∙ e)))
