-- The steps of a valid schedule's acts are right: entries, lines, and the entries of the acts that make what each reads.
use Rattle.std.proofs.Common.{◌≡◌, ℕ, zero, suc, ◌+◌, ◌<◌, ◌≤◌, true, List, [], ◌∷◌, ◌++◌, length, map, take, Option, Some, refl, sym, ap, subst, inl, inr, arith, ◌∙◌, length-append}
use Rattle.std.specs.Prelude.{slice_get}
use Rattle.std.specs.List.{list_any, count_by}
use Rattle.std.proofs.lemmas.Bool.{cases_eq}
use Rattle.std.proofs.lemmas.List.{take_all}
use Rattle.std.proofs.lemmas.Option.{same_Some, slice_get_within}
use Rattle.sequence_build_laws.specs.declared.Vertex.{Vertex}
use Rattle.sequence_build_laws.specs.Graph.{Graph}
use Rattle.sequence_build_laws.specs.FlatValid.{is_flat}
use Rattle.sequence_build_laws.specs.Archi.{Architecture, is_archi}
use Rattle.sequence_build_laws.specs.declared.Schedule.{Schedule}
use Rattle.sequence_build_laws.specs.Acts.{Act, carry, run, acts, Copy, same_copy, read_by, made_by}
use Rattle.sequence_build_laws.specs.Tight.{reads_from}
use Rattle.sequence_build_laws.specs.ScheduleValid.{is_valid}
use Rattle.sequence_build_laws.proofs.Copies.{copy_is, same_copy_self}
use Rattle.sequence_build_laws.proofs.Reading.{any_at, any_of}
use Rattle.sequence_build_laws.proofs.Lists.{tally, counts_tally, tally-append, get_before, get_past, get_some, from_map, map_at, take_next}
use Rattle.sequence_build_laws.proofs.Works.{read_made, one_maker}
use Rattle.self_timed.specs.Entries.{is_transfer, entry_at, entry_of}
use Rattle.self_timed.specs.Dates.{with_act}
use Rattle.self_timed.specs.declared.layout.Step.{Step}
use Rattle.self_timed.specs.Lines.{line_of}
use Rattle.self_timed.specs.Laid.{Laid, maker_in, with_makers, started, entry_after, next_after, step_of, after, after_all, HasPlace, HasShape}
use Rattle.self_timed.proofs.Places.{one_place, shape_kept_all, started_shape, held_place, noted_all_here, noted_all_there}
use Rattle.self_timed.proofs.Held.{held_made}

after_all-append : (l : Laid) (xs ys : List Act) → after_all l (xs ++ ys) ≡ after_all (after_all l xs) ys
after_all-append l [] ys = refl
after_all-append l (x ∷ xs) ys = after_all-append (after l x) xs ys

module _ (vertices : List Vertex) (xs : List Act) where
  -- an act before act j, which is y, that makes what it reads
  pub record Source (j : ℕ) (y : Act) (e : ℕ) : Type 0 where
    pub at : ℕ
    pub it : Act
    pub less : at < j
    pub stands : slice_get xs at ≡ Some it
    pub reads : reads_from vertices y it ≡ true
    pub is : e ≡ entry_of vertices xs at

  pub record IsStepOf (j : ℕ) (y : Act) (st : Step) : Type 0 where
    pub entry : st.entry ≡ entry_of vertices xs j
    pub line : st.line ≡ line_of y
    pub from : (r e : ℕ) → slice_get st.sources r ≡ Some e → Source j y e
    pub to : (m : ℕ) (z : Act) → slice_get xs m ≡ Some z → reads_from vertices y z ≡ true → (r : ℕ) × (slice_get st.sources r ≡ Some (entry_of vertices xs m))

  pub record AreStepsOf (steps : List Step) : Type 0 where
    pub count : length steps ≡ length xs
    pub each : (j : ℕ) (y : Act) → slice_get xs j ≡ Some y → (st : Step) × (slice_get steps j ≡ Some st) × IsStepOf j y st

module _ (g : Graph) (a : Architecture) (ticks : ℕ → ℕ → Option ℕ) (s : Schedule) (flat : is_flat g ≡ true) (archi : is_archi a.operators a.media ≡ true) (valid : is_valid g a ticks s ≡ true) where
  record IsAt (i : ℕ) (l : Laid) : Type 0 where
    vertices : l.vertices ≡ g.vertices
    next : l.next ≡ length g.vertices + tally is_transfer (take i (acts s))
    shape : HasShape g.vertices l.makers
    makers : (j h : ℕ) (y : Act) (c : Copy) → j < i → slice_get (acts s) j ≡ Some y → slice_get (made_by g.vertices y) h ≡ Some c → maker_in l.makers c ≡ entry_of g.vertices (acts s) j
    count : length l.steps ≡ i
    steps : (j : ℕ) (y : Act) → j < i → slice_get (acts s) j ≡ Some y → (st : Step) × (slice_get l.steps j ≡ Some st) × IsStepOf g.vertices (acts s) j y st

  entry_is : (i : ℕ) (x : Act) (l : Laid) → l.next ≡ length g.vertices + tally is_transfer (take i (acts s)) → slice_get (acts s) i ≡ Some x → entry_after l.next x ≡ entry_of g.vertices (acts s) i
  entry_is i x l n e = by x ∙ sym (ap (λ (o : Option Act). with_act o (entry_at (length g.vertices) (count_by is_transfer (take i (acts s))))) e)
    where
      by : (x : Act) → entry_after l.next x ≡ entry_at (length g.vertices) (count_by is_transfer (take i (acts s))) x
      by (run d) = refl
      by (carry t) = let c = counts_tally is_transfer (take i (acts s)) in omega arith

  -- one step more
  module _ (i : ℕ) (x : Act) (l : Laid) (at : IsAt i l) (e : slice_get (acts s) i ≡ Some x) where
    entry_here : entry_after l.next x ≡ entry_of g.vertices (acts s) i
    entry_here = entry_is i x l at.next e

    sources_are : map (maker_in l.makers) (read_by l.vertices x) ≡ map (maker_in l.makers) (read_by g.vertices x)
    sources_are = ap (λ (v : List Vertex). map (maker_in l.makers) (read_by v x)) at.vertices

    from_source : (r n : ℕ) → slice_get (map (maker_in l.makers) (read_by l.vertices x)) r ≡ Some n → Source g.vertices (acts s) i x n
    from_source r n h =
        let m = from_map (maker_in l.makers) (read_by g.vertices x) r n (ap (λ (w : List ℕ). slice_get w r) (sym sources_are) ∙ h) in
        let b = read_made g a ticks s valid i r x m.it e m.stands in
        let z = at.makers b.at b.inner b.act m.it b.less b.stands b.made in
        record {
          at = b.at;
          it = b.act;
          less = b.less;
          stands = b.stands;
          reads = any_at (λ c. list_any (same_copy c) (made_by g.vertices b.act)) (read_by g.vertices x) r m.it m.stands
              (any_at (same_copy m.it) (made_by g.vertices b.act) b.inner m.it b.made (same_copy_self m.it));
          is = sym m.is ∙ z;
        }

    to_source : (m : ℕ) (z : Act) → slice_get (acts s) m ≡ Some z → reads_from g.vertices x z ≡ true → (r : ℕ)
        × (slice_get (map (maker_in l.makers) (read_by l.vertices x)) r ≡ Some (entry_of g.vertices (acts s) m))
    to_source m z q h =
        let c = any_of (λ c. list_any (same_copy c) (made_by g.vertices z)) (read_by g.vertices x) h in
        let d = any_of (same_copy c.1) (made_by g.vertices z) c.3 in
        let made : slice_get (made_by g.vertices z) d.0 ≡ Some c.1 = d.2 ∙ ap (λ (w : Copy). Some w) (sym (copy_is c.1 d.1 d.3)) in
        let b = read_made g a ticks s valid i c.0 x c.1 e c.2 in
        let one = one_maker g a ticks s valid m b.at d.0 b.inner z b.act c.1 q b.stands made b.made in
        let same = one.0 in
        let less = b.less in
        let is = at.makers m d.0 z c.1 (omega arith) q made in
        (c.0, ap (λ (w : List ℕ). slice_get w c.0) sources_are ∙ map_at (maker_in l.makers) (read_by g.vertices x) c.0 c.1 c.2 ∙ ap (λ (n : ℕ). Some n) is)

    made_places : (h : ℕ) (c : Copy) → slice_get (made_by g.vertices x) h ≡ Some c → HasPlace l.makers c × (c.operator < 16)
    made_places h c m = let held = held_made g a ticks s flat archi valid i h x c e m in (held_place g.vertices l.makers c at.shape held, held.operator)

    makers_are : with_makers l.makers (made_by l.vertices x) (entry_after l.next x) ≡ with_makers l.makers (made_by g.vertices x) (entry_of g.vertices (acts s) i)
    makers_are = λ j. with_makers l.makers (made_by (at.vertices j) x) (entry_here j)

    makers_after : (j h : ℕ) (y : Act) (c : Copy) → j < suc i → slice_get (acts s) j ≡ Some y → slice_get (made_by g.vertices y) h ≡ Some c
        → maker_in (with_makers l.makers (made_by g.vertices x) (entry_of g.vertices (acts s) i)) c ≡ entry_of g.vertices (acts s) j
    makers_after j h y c less q m = elim (cases_eq j i) [
      | inl z ↦ (
          let same : y ≡ x = same_Some y x (sym q ∙ ap (slice_get (acts s)) z ∙ e) in
          noted_all_here l.makers (made_by g.vertices x) (entry_of g.vertices (acts s) i) h c
          (ap (λ (w : Act). slice_get (made_by g.vertices w) h) (sym same) ∙ m) made_places ∙ ap (entry_of g.vertices (acts s)) (sym z))
      | inr n ↦ (
          let before : j < i = omega arith in
          let held = held_made g a ticks s flat archi valid j h y c q m in
          let has = held_place g.vertices l.makers c at.shape held in
          noted_all_there l.makers (made_by g.vertices x) c (entry_of g.vertices (acts s) i) (λ k d w same.
          let other = held_made g a ticks s flat archi valid i k x d e w in
          let one = one_place c d held.operator other.operator same in
          n (one_maker g a ticks s valid j i h k y x c q e m (w ∙ ap (λ (v : Copy). Some v) (sym one))).0) has.row
          ∙ at.makers j h y c before q m)
    ]

    is_after : IsAt (suc i) (after l x)
    is_after = record {
      vertices = at.vertices;
      next = nexts x e;
      shape = subst (λ (w : List (List ℕ)). HasShape g.vertices w) (sym makers_are) (shape_kept_all g.vertices l.makers (made_by g.vertices x) (entry_of g.vertices (acts s) i) at.shape);
      makers = λ j h y c less q m. ap (λ (w : List (List ℕ)). maker_in w c) makers_are ∙ makers_after j h y c less q m;
      count = length-append l.steps (step_of l x ∷ []) ∙ (let z = at.count in omega arith);
      steps = λ j y less q. steps_after j y less q;
    }
      where
        nexts : (x : Act) → slice_get (acts s) i ≡ Some x → next_after l.next x ≡ length g.vertices + tally is_transfer (take (suc i) (acts s))
        nexts (run d) e =
            let t = ap (tally is_transfer) (take_next (acts s) i (run d) e) ∙ tally-append is_transfer (take i (acts s)) (run d ∷ []) in
            let n = at.next in
            omega arith
        nexts (carry t) e =
            let t' = ap (tally is_transfer) (take_next (acts s) i (carry t) e) ∙ tally-append is_transfer (take i (acts s)) (carry t ∷ []) in
            let n = at.next in
            omega arith

        steps_after : (j : ℕ) (y : Act) → j < suc i → slice_get (acts s) j ≡ Some y → (st : Step) × (slice_get (l.steps ++ step_of l x ∷ []) j ≡ Some st) × IsStepOf g.vertices (acts s) j y st
        steps_after j y less q = elim (cases_eq j i) [
          | inl z ↦ (
              let same : x ≡ y = same_Some x y (sym e ∙ ap (slice_get (acts s)) (sym z) ∙ q) in
              let count = at.count in
              let place : j ≡ length l.steps + 0 = omega arith in (
                step_of l x,
                ap (slice_get (l.steps ++ step_of l x ∷ [])) place ∙ get_past l.steps (step_of l x ∷ []) 0,
                subst (λ (w : Act). IsStepOf g.vertices (acts s) j w (step_of l x)) same
                    (subst (λ (n : ℕ). IsStepOf g.vertices (acts s) n x (step_of l x)) (sym z) (record { entry = entry_here; line = refl; from = from_source; to = to_source })),
              ))
          | inr n ↦ (let r = at.steps j y (omega arith) q in (r.0, get_before l.steps (step_of l x ∷ []) j r.0 r.1, r.2))
        ]

  at_start : IsAt 0 (started g.vertices)
  at_start = record {
    vertices = refl;
    next = omega arith;
    shape = started_shape g.vertices;
    makers = λ j h y c less q m. absurd (omega arith);
    count = refl;
    steps = λ j y less q. absurd (omega arith);
  }

  laid_at : (i : ℕ) → i ≤ length (acts s) → IsAt i (after_all (started g.vertices) (take i (acts s)))
  laid_at zero l = at_start
  laid_at (suc i) l =
      let x = get_some (acts s) i (omega arith) in
      let before = laid_at i (omega arith) in
      subst (λ (w : Laid). IsAt (suc i) w) (sym (ap (after_all (started g.vertices)) (take_next (acts s) i x.0 x.1) ∙ after_all-append (started g.vertices) (take i (acts s)) (x.0 ∷ [])))
      (is_after i x.0 (after_all (started g.vertices) (take i (acts s))) before x.1)

  laid_all : IsAt (length (acts s)) (after_all (started g.vertices) (acts s))
  laid_all = subst (λ (w : List Act). IsAt (length (acts s)) (after_all (started g.vertices) w)) (take_all (length (acts s)) (acts s) (omega arith)) (laid_at (length (acts s)) (omega arith))

  pub are_steps : AreStepsOf g.vertices (acts s) (after_all (started g.vertices) (acts s)).steps
  are_steps = record { count = laid_all.count; each = λ j y q. laid_all.steps j y (slice_get_within (acts s) j y q) q }

  pub entries_are : (after_all (started g.vertices) (acts s)).next ≡ length g.vertices + count_by is_transfer (acts s)
  entries_are =
      let n = laid_all.next in
      let t = ap (tally is_transfer) (take_all (length (acts s)) (acts s) (omega arith)) in
      let c = counts_tally is_transfer (acts s) in
      omega arith
