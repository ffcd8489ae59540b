-- The limit that is counted from the acts of a valid schedule is that of its program.
use Rattle.std.proofs.Common.{
  ◌≡◌,
  ℕ,
  suc,
  ◌+◌,
  ◌-◌,
  ◌*◌,
  ◌^◌,
  ◌<◌,
  ◌≤◌,
  ◌⊎◌,
  Bool,
  true,
  false,
  not,
  cond,
  min,
  max,
  nat_eq,
  get_or,
  List,
  [],
  ◌∷◌,
  length,
  Option,
  Some,
  None,
  refl,
  sym,
  ap,
  subst,
  inl,
  inr,
  arith,
  ◌∙◌,
}
use Rattle.std.specs.Prelude.{nat_lt, slice_get, Result, Ok, Err, IfOk}
use Rattle.std.specs.List.{flat_map, sum_by}
use Rattle.std.proofs.lemmas.Bool.{cases_lt}
use Rattle.std.proofs.lemmas.Option.{slice_get_past}
use Rattle.std.proofs.lemmas.List.{length-map}
use Rattle.syn_base.specs.declared.limits.LimitKind.{LimitKind}
use Rattle.syn_base.specs.Limits.{bound_of, above}
use Rattle.syn_base.specs.declared.limits.LimitKind.TheVariants.{Words, MicroSteps}
use Rattle.syn_base.specs.declared.limits.LimitFault.{LimitFault}
use Rattle.sequence_build_laws.specs.Graph.{Graph}
use Rattle.sequence_build_laws.specs.FlatValid.{is_flat}
use Rattle.sequence_build_laws.specs.Archi.{Architecture, is_archi, is_depth}
use Rattle.sequence_build_laws.specs.Sequences.{sequences}
use Rattle.sequence_build_laws.specs.declared.Seq.{Seq}
use Rattle.sequence_build_laws.specs.declared.Decision.{Decision}
use Rattle.sequence_build_laws.specs.declared.Schedule.{Schedule}
use Rattle.sequence_build_laws.specs.declared.Transfer.{Transfer}
use Rattle.sequence_build_laws.specs.Acts.{Act, carry, run, acts, acts_of, Copy, copy}
use Rattle.sequence_build_laws.specs.Owners.{sum_below}
use Rattle.sequence_build_laws.proofs.InterleavingSums.{same_below}
use Rattle.sequence_build_laws.specs.declared.Program.{Program}
use Rattle.sequence_build_laws.specs.Instructions.{Reader, len_in, len_of, depth_in, depth_of, depth_at, pair_depth}
use Rattle.sequence_build_laws.specs.Places.{reader}
use Rattle.sequence_build_laws.specs.MicroSteps.{is_on, longest_on, wire_len, words}
use Rattle.sequence_build_laws.specs.Sizes.{looks_at, turn_looks}
use Rattle.sequence_build_laws.specs.Steps.{all_turns}
use Rattle.sequence_build_laws.specs.WellFormed.{IsOrder}
use Rattle.sequence_build_laws.proofs.DeepPairs.{looks_are}
use Rattle.sequence_build_laws.proofs.MicroCounts.{all_turns_size, constant}
use Rattle.sequence_build_laws.specs.Serial.{Step, buffer, buffer_for, copies, number_of, numbers_where, is_other, pairs, plain_program, plain_steps, steps_of}
use Rattle.sequence_build_laws.specs.Built.{is_guarded, operator_of, order_of, program_of}
use Rattle.sequence_build_laws.proofs.Guards as guards
use Rattle.sequence_build_laws.proofs.Lists.{get_some, map_at}
use Rattle.sequence_build_laws.proofs.Setting.{Setting}
use Rattle.sequence_build_laws.proofs.Steps.{setting, from_there}
use Rattle.sequence_build_laws.proofs.Whole as whole
use Rattle.sequence_build.specs.declared.site.Site.{Site}
use Rattle.sequence_build.specs.Answers.{IsValid}
use Rattle.sequence_build.specs.Counted.{all_micros, all_words, buffer_sum, limit_of, longest, pair_micros, step_micros, carried_len, IsLimit, IsLimitOf}
use Rattle.sequence_build.specs.Limit.{program_limit}
use Rattle.sequence_build.specs.Pairs.{plain_pairs}
use Rattle.sequence_build.specs.Plain.{numbering, steps_at, steps_of as steps_by}
use Rattle.sequence_build.specs.Touched.{Counts, readers_in}
use Rattle.sequence_build.proofs.Assembling.{program_is, same_steps}
use Rattle.sequence_build.proofs.Counting.{buffer_sum_is, guarded_here, longest_is, longest_step, longest_step-append, medium_from, medium_is, nothing_sent, pairs_many, sum_is, waits_send}
use Rattle.sequence_build.proofs.Lines.{cores_in, cores_same, lines_are, micros_are, parts_are, steps_coded}
use Rattle.sequence_build.proofs.Silent.{codes_send}

-- one quantity is above its bound, or it is not and the next decides
pub over : (which : LimitKind) (count : ℕ) (next : Option LimitFault) (fault : LimitFault) → above which count None ≡ Some fault → Some fault ≡ above which count next
over which count next fault e = by (nat_lt (bound_of which) count) e
  where
    by : (b : Bool) → cond {A = Option LimitFault} b (Some (record { which = which; count = count; bound = bound_of which })) None ≡ Some fault
        → Some fault ≡ cond {A = Option LimitFault} b (Some (record { which = which; count = count; bound = bound_of which })) next
    by true h = sym h
    by false h = absurd cc

under : (which : LimitKind) (count : ℕ) (next : Option LimitFault) → above which count None ≡ None → above which count next ≡ next
under which count next e = by (nat_lt (bound_of which) count) e
  where
    by : (b : Bool) → cond {A = Option LimitFault} b (Some (record { which = which; count = count; bound = bound_of which })) None ≡ None
        → cond {A = Option LimitFault} b (Some (record { which = which; count = count; bound = bound_of which })) next ≡ next
    by true h = absurd cc
    by false h = refl

pub next_decides : {E : Type 0} (which : LimitKind) (count : ℕ) (next : Option LimitFault) → above which count None ≡ None
    → (r : Result (Option LimitFault) E) → IfOk r (λ limit. limit ≡ next) → IfOk r (λ limit. limit ≡ above which count next)
next_decides which count next e (Ok limit) h = h ∙ sym (under which count next e)
next_decides which count next e (Err x) h = h

-- a number of looks for each pair
by_pair : (b : Bool) (n k : ℕ) → k ≡ n * cond b 0 1 → 4 * n + (k + k) ≡ n * (4 + 2 * cond b 0 1)
by_pair true n k e = omega arith
by_pair false n k e = omega arith

deep_or_one : (t : Bool) (depth : ℕ) → cond (not t) depth 1 ≡ cond t 1 depth
deep_or_one true depth = refl
deep_or_one false depth = refl

max_alone : (a b c : ℕ) → b ≡ 0 → c ≡ 0 → max a (max b c) ≡ a
max_alone a b c e h = omega arith

module _ (g : Graph) (a : Architecture) (s : Schedule) (flat : is_flat g ≡ true) (right : is_archi a.operators a.media ≡ true) (deep : is_depth a.depth ≡ true) (valid : IsValid g a s) where
  abbrev plain : Program
  plain = plain_program g a s

  abbrev It : Setting
  It = setting g a valid.0 s right valid.1 a.depth

  formed : IsOrder (program_of g a s) g (sequences a) (length a.media) (order_of g a s)
  formed = whole.built_are_well_formed g a valid.0 s flat right deep valid.1

  abbrev readers_at : ℕ → ℕ
  readers_at b = readers_in (plain_steps g a s) (length (sequences a)) b

  buffers_plain : length (plain_program g a s).buffers ≡ length (copies g a s)
  buffers_plain = length-map (copies g a s) (buffer g a s 1)

  pairs_are : length (program_of g a s).pairs ≡ sum_below (readers_in (plain_steps g a s) (length (sequences a))) (length (copies g a s))
  pairs_are = length-map (pairs g a s) (λ (r : Reader). operator_of g a s r.buffer)
      ∙ pairs_many (plain_steps g a s) (sequences a) (length (plain_program g a s).buffers) ∙ ap (sum_below readers_at) buffers_plain

  guarded_is : (b : ℕ) → b < length (copies g a s) → is_guarded g a s b ≡ not (nat_eq (readers_at b) 0)
  guarded_is b l = guarded_here (plain_steps g a s) (sequences a) (length (plain_program g a s).buffers) b (let z = buffers_plain in omega arith)

  -- the looks of a pair's takes
  pair_looks : (q : ℕ) → q < length (program_of g a s).pairs → looks_at (pair_depth (program_of g a s) q) ≡ looks_at a.depth
  pair_looks q l =
      let many : length (program_of g a s).pairs ≡ length (pairs g a s) = length-map (pairs g a s) (λ (r : Reader). operator_of g a s r.buffer) in
      let r = guards.of_pair It q (omega arith) in
      let c = get_some (copies g a s) (reader (program_of g a s) q).buffer r.below in
      ap looks_at ((λ i. depth_at (program_of g a s) (slice_get (guards.readers_are It i) q)) ∙ ap (depth_at (program_of g a s)) r.stands
      ∙ ap depth_in (It.buffers_are (reader (program_of g a s) q).buffer c.0 c.1) ∙ It.guarded q (reader (program_of g a s) q) r.stands)

  looks_many : turn_looks (program_of g a s) ≡ length (program_of g a s).pairs * looks_at a.depth + length (program_of g a s).pairs * looks_at a.depth
  looks_many =
      let n = length (program_of g a s).pairs in
      let each = same_below (λ q. looks_at (pair_depth (program_of g a s) q)) (λ q. looks_at a.depth) n pair_looks ∙ constant (looks_at a.depth) n in
      looks_are (program_of g a s) g (sequences a) (length a.media) (order_of g a s) formed ∙ (λ i. each i + each i)

  module _ (bare : Program) (same : bare.buffers ≡ (plain_program g a s).buffers) where
    lens : (b : ℕ) → len_of (program_of g a s) b ≡ len_of bare b
    lens b = by (cases_lt b (length (copies g a s))) ∙ ap (λ l. len_in (slice_get l b)) (sym same)
      where
        by : (b < length (copies g a s)) ⊎ (length (copies g a s) ≤ b) → len_of (program_of g a s) b ≡ len_in (slice_get (plain_program g a s).buffers b)
        by (inl l) = let c = get_some (copies g a s) b l in
            ap len_in (It.buffers_are b c.0 c.1) ∙ sym (ap len_in (map_at (buffer g a s 1) (copies g a s) b c.0 c.1))
        by (inr l) =
            ap len_in (slice_get_past (program_of g a s).buffers b (let z = It.buffers_many in omega arith))
            ∙ sym (ap len_in (slice_get_past (plain_program g a s).buffers b (let z = buffers_plain in omega arith)))

    -- the longest that is carried over a medium
    module _ (m : ℕ) where
      abbrev medium : ℕ → Option ℕ
      medium t = medium_from 0 (sequences a) t

      one_act : (x : Act) → ((t : Transfer) → x ≡ carry t → medium_from 0 (sequences a) (number_of g a s (record { operator = t.from; medium = Some t.medium })) ≡ Some t.medium)
          → longest_step (program_of g a s) m (medium_from 0 (sequences a)) (steps_of g a s x) ≡ carried_len bare (buffer_for g a s) m x
      one_act (run d) h = (λ i. max (nothing_sent (is_on m (medium (number_of g a s (record { operator = d.operator; medium = None })))) i) 0)
      one_act (carry t) h =
          let waits = waits_send (program_of g a s) m (medium_from 0 (sequences a)) t.from t.to (numbers_where (is_other t) 0 (sequences a)) in
          let received = nothing_sent (is_on m (medium (number_of g a s (record { operator = t.to; medium = Some t.medium })))) in
          max_alone _ _ _ received waits
          ∙ (λ i. cond (is_on m (h t refl i)) (lens (buffer_for g a s (copy t.from t.source)) i) 0)

      all_acts : (xs : List Act) → ((i : ℕ) (t : Transfer) → slice_get xs i ≡ Some (carry t)
          → medium_from 0 (sequences a) (number_of g a s (record { operator = t.from; medium = Some t.medium })) ≡ Some t.medium)
          → longest_step (program_of g a s) m (medium_from 0 (sequences a)) (flat_map (steps_of g a s) xs) ≡ longest bare (buffer_for g a s) m xs
      all_acts [] h = refl
      all_acts (x ∷ xs) h =
          longest_step-append (program_of g a s) m (medium_from 0 (sequences a)) (steps_of g a s x) (flat_map (steps_of g a s) xs)
          ∙ (λ i. max (one_act x (λ t e. h 0 t (ap (λ (y : Act). Some y) e)) i) (all_acts xs (λ k t e. h (suc k) t e) i))

      wire_is : wire_len (program_of g a s) m ≡ longest bare (buffer_for g a s) m (acts s)
      wire_is =
          (λ i. longest_on (program_of g a s) (program_is g a s flat right deep valid i).seqs m)
          ∙ codes_send (program_of g a s) a.depth (plain_pairs (plain_program g a s)) 0 (plain_program g a s).seqs m
          ∙ longest_is (program_of g a s) m (sequences a) (plain_steps g a s)
          ∙ all_acts (acts s) (λ i t e.
          let n = number_of g a s (record { operator = t.from; medium = Some t.medium }) in
          medium_is 0 n n (sequences a) (record { operator = t.from; medium = Some t.medium }) (from_there g a valid.0 s right valid.1 i t e) (omega arith))

    module _ (counts : List ℕ) (counted : Counts (length (sequences a)) (length (copies g a s)) (plain_steps g a s) counts) where
      pairs_count : length (program_of g a s).pairs ≡ sum_by (λ n. n) counts
      pairs_count =
          pairs_are ∙ sym (sum_is counts ∙ ap (sum_below (λ b. get_or counts b 0)) counted.many
          ∙ same_below (λ b. get_or counts b 0) readers_at (length (copies g a s)) (λ b l. counted.each b l))

      buffers_are : sum_below (λ b. depth_of (program_of g a s) b * len_of (program_of g a s) b) (length (program_of g a s).buffers) ≡ buffer_sum a.depth counts bare.buffers
      buffers_are =
          ap (sum_below (λ b. depth_of (program_of g a s) b * len_of (program_of g a s) b)) (It.buffers_many ∙ sym buffers_plain)
          ∙ same_below (λ b. depth_of (program_of g a s) b * len_of (program_of g a s) b)
          (λ b. cond (nat_eq (get_or counts b 0) 0) 1 a.depth * len_in (slice_get (plain_program g a s).buffers b)) (length (plain_program g a s).buffers)
          (λ b l. let low : b < length (copies g a s) = (let z = buffers_plain in omega arith) in
          let c = get_some (copies g a s) b low in
          let depth_is = ap depth_in (It.buffers_are b c.0 c.1) ∙ ap (λ (t : Bool). cond t a.depth 1) (guarded_is b low)
          ∙ deep_or_one (nat_eq (readers_at b) 0) a.depth ∙ ap (λ (n : ℕ). cond (nat_eq n 0) 1 a.depth) (sym (counted.each b low)) in
          let len_is = lens b ∙ ap (λ l. len_in (slice_get l b)) same in
          λ i. depth_is i * len_is i)
          ∙ sym (buffer_sum_is a.depth counts (plain_program g a s).buffers (counted.many ∙ sym buffers_plain))
          ∙ ap (buffer_sum a.depth counts) (sym same)

      words_are : words (program_of g a s) (length a.media) ≡ all_words bare counts a.depth (buffer_for g a s) (acts s) (length a.media)
      words_are =
          λ i. 2 * pairs_count i + length a.media + buffers_are i
          + same_below (wire_len (program_of g a s)) (λ m. longest bare (buffer_for g a s) m (acts s)) (length a.media) (λ m l. wire_is m) i

      cores_are : cores_in (program_of g a s) (program_of g a s).seqs ≡ step_micros bare (plain_steps g a s)
      cores_are =
          (λ i. cores_in (program_of g a s) (program_is g a s flat right deep valid i).seqs)
          ∙ cores_same (program_of g a s) a.depth (plain_pairs (plain_program g a s)) 0 (plain_program g a s).seqs
          ∙ steps_coded (program_of g a s) (plain_steps g a s) (sequences a) It.low
          ∙ micros_are (program_of g a s) bare lens (plain_steps g a s) It.plain_only

      micros_all : all_turns (program_of g a s) ≡ all_micros bare counts a.depth (plain_steps g a s)
      micros_all =
          let n = length (program_of g a s).pairs in
          let size = all_turns_size (program_of g a s) in
          let parts = parts_are (program_of g a s) in
          let lines = lines_are (program_of g a s) g (sequences a) (length a.media) (order_of g a s) formed in
          let looks = looks_many in
          let cores = cores_are in
          let each = by_pair (nat_eq a.depth 1) n (n * looks_at a.depth) refl in
          let all : all_turns (program_of g a s) ≡ step_micros bare (plain_steps g a s) + n * pair_micros a.depth = omega arith in
          all ∙ ap (λ (k : ℕ). step_micros bare (plain_steps g a s) + k * pair_micros a.depth) pairs_count

    pub limit_is : (limit : Option LimitFault) → IsLimitOf g a s bare limit → limit ≡ program_limit (program_of g a s) (length a.media)
    limit_is limit h =
        h.is ∙ sym (λ i. above Words (words_are h.counts h.right i) (above MicroSteps (min (micros_all h.counts h.right i) (2 ^ 128 - 1)) None))

    pub limit_told : {E : Type 0} (r : Result (Option LimitFault) E) → IfOk r (IsLimitOf g a s bare) → IfOk r (λ limit. limit ≡ program_limit (program_of g a s) (length a.media))
    limit_told (Ok limit) h = limit_is limit h
    limit_told (Err e) h = h

-- the limit by right counts
pub limit_counted : {E : Type 0} (p : Program) (site : Site) (xs : List Act) (depth media : ℕ) (counts : List ℕ) → Counts (length site.sequences.now) site.copies (flat_map (steps_at site) xs) counts
    → (r : Result (Option LimitFault) E) → IfOk r (λ limit. limit ≡ limit_of p counts depth (numbering site) xs (flat_map (steps_at site) xs) media) → IfOk r (IsLimit p site xs depth media)
limit_counted p site xs depth media counts right (Ok limit) h = record { counts = counts; right = right; is = h }
limit_counted p site xs depth media counts right (Err e) h = h

-- a site with all of a schedule
pub record IsSite (g : Graph) (a : Architecture) (s : Schedule) (site : Site) (ds : List Decision) (places count : ℕ) : Type 0 where
  pub vertices : site.vertices.now ≡ g.vertices
  pub names : site.sequences.now ≡ sequences a
  pub number : (c : Copy) → numbering site c ≡ buffer_for g a s c
  pub many : site.copies ≡ length (copies g a s)
  pub decisions : ds ≡ s.decisions
  pub depth : places ≡ a.depth
  pub media : count ≡ length a.media

module _ (g : Graph) (a : Architecture) (s : Schedule) (p : Program) (site : Site) (ds : List Decision) (depth media : ℕ) (h : IsSite g a s site ds depth media) where
  act_steps : (x : Act) → steps_at site x ≡ steps_of g a s x
  act_steps x = (λ i. steps_by (h.vertices i) (h.names i) (numbering site) x) ∙ same_steps g a s (numbering site) h.number x

  all_steps : flat_map (steps_at site) (acts_of ds) ≡ plain_steps g a s
  all_steps = λ i. flat_map (λ x. act_steps x i) (acts_of (h.decisions i))

  site_limit : (limit : Option LimitFault) → IsLimit p site (acts_of ds) depth media limit → IsLimitOf g a s p limit
  site_limit limit l = record {
    counts = l.counts;
    right = subst (λ (xs : List Step). Counts (length (sequences a)) (length (copies g a s)) xs l.counts) all_steps
        (subst (λ (n : ℕ). Counts (length (sequences a)) n (flat_map (steps_at site) (acts_of ds)) l.counts) h.many
        (subst (λ (n : ℕ). Counts n site.copies (flat_map (steps_at site) (acts_of ds)) l.counts) (ap (λ (qs : List Seq). length qs) h.names) l.right));
    is = l.is ∙ (λ i. limit_of p l.counts (h.depth i) (λ c. h.number c i) (acts_of (h.decisions i)) (all_steps i) (h.media i));
  }

  pub limit_at_site : {E : Type 0} (r : Result (Option LimitFault) E) → IfOk r (IsLimit p site (acts_of ds) depth media) → IfOk r (IsLimitOf g a s p)
  limit_at_site (Ok limit) l = site_limit limit l
  limit_at_site (Err e) l = l
