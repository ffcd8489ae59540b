-- A run may be done in windows.
use Rattle.std.proofs.Common.{◌≡◌, ℕ, zero, suc, ◌+◌, ◌-◌, ◌<◌, ◌≤◌, List, [], map, drop, length, sym, ap, arith, ◌∙◌, add-zero, zero-add, add-suc, min, length-take, length-drop, ext_get_or}
use Rattle.std.specs.Prelude.{slice_index_or}
use Rattle.std.specs.List.{range_with_len}
use Rattle.std.proofs.lemmas.List.{get_or-drop, get_or-take}
use Rattle.std.proofs.lemmas.List.FromFn.{length-map-range_with_len, get_or-map-range_with_len}
use Rattle.executive_program.specs.Graph.{Graph}
use Rattle.executive_program.specs.Meaning.{next_cells, value_in, taken, cells_after, flat_act_row}
use Rattle.semaphore_core.specs.Job.{JobData, reactions}
use Rattle.semaphore_core.proofs.Limits.{fewer_meet_none}
use Rattle.phase_laws.specs.Values.{IsSupplied}
use Rattle.phase_laws.specs.Ended.{all_acts}
use Rattle.phase_laws.specs.Windows.{window, window_job, WindowsMakeTheRun}
use Rattle.phase_laws.proofs.Lengths.{cells_lens}
use Rattle.syn_base.specs.Vectors.{Values}

module _ {A : Type 0} (xs : List A) (s count : ℕ) (fits : s + count ≤ length xs) where
  long : length (window s count xs) ≡ count
  long = length-take count (drop s xs) ∙ ap (min count) (length-drop s xs) ∙ (let e : min count (length xs - s) ≡ count = omega arith in e)

  entry : (k : ℕ) (d : A) → k < count → slice_index_or (window s count xs) k d ≡ slice_index_or xs (s + k) d
  entry k d l = get_or-take count (drop s xs) k d l ∙ get_or-drop s xs k d

-- the reactions of a window are those of the run
module _ (g : Graph) (rows : List Values) (opening : Values) (s count : ℕ) (fits : s + count ≤ length rows) where
  abbrev left : Values
  left = cells_after g rows opening s

  pub cells_there : (k : ℕ) → k ≤ count → cells_after g (window s count rows) left k ≡ cells_after g rows opening (s + k)
  cells_there zero l = ap (cells_after g rows opening) (sym (add-zero s))
  cells_there (suc k) l = (λ i. next_cells g (cells_there k (omega arith) i) (entry rows s count fits k [] (omega arith) i)) ∙ ap (cells_after g rows opening) (sym (add-suc s k))

  acts_there : (k : ℕ) → k < count → flat_act_row g (window s count rows) left k ≡ flat_act_row g rows opening (s + k)
  acts_there k l = λ i. taken (value_in g (cells_there k (omega arith) i) (entry rows s count fits k [] l i)) g.vertices

made_at : {A : Type 0} (f : ℕ → A) (n i : ℕ) (d : A) → i < n → slice_index_or (map f (range_with_len 0 n)) i d ≡ f i
made_at f n i d l = get_or-map-range_with_len f 0 n i i d l (zero-add i)

module _ (j : JobData) (h : IsSupplied j) (s count : ℕ) (fits : s + count ≤ reactions j) where
  few : reactions (window_job j s count) ≡ count
  few = long j.sensors s count fits

  acts_many : length (all_acts j) ≡ reactions j
  acts_many = length-map-range_with_len (flat_act_row j.graph j.sensors j.opening) 0 (reactions j)

  window_many : length (all_acts (window_job j s count)) ≡ count
  window_many = length-map-range_with_len (flat_act_row j.graph (window s count j.sensors) (cells_after j.graph j.sensors j.opening s)) 0 (reactions (window_job j s count)) ∙ few

  window_acts : all_acts (window_job j s count) ≡ window s count (all_acts j)
  window_acts = ext_get_or [] (all_acts (window_job j s count)) (window s count (all_acts j))
      (window_many ∙ sym (long (all_acts j) s count (let e = acts_many in omega arith)))
      (λ k l. one k (let e = window_many in omega arith))
    where
      one : (k : ℕ) → k < count → slice_index_or (all_acts (window_job j s count)) k [] ≡ slice_index_or (window s count (all_acts j)) k []
      one k l =
          made_at (flat_act_row j.graph (window s count j.sensors) (cells_after j.graph j.sensors j.opening s)) (reactions (window_job j s count)) k [] (let e = few in omega arith)
          ∙ acts_there j.graph j.sensors j.opening s count fits k l
          ∙ sym (entry (all_acts j) s count (let e = acts_many in omega arith) k [] l ∙ made_at (flat_act_row j.graph j.sensors j.opening) (reactions j) (s + k) [] (omega arith))

  window_supplied : IsSupplied (window_job j s count)
  window_supplied = record {
    seqs = h.seqs;
    order = h.order;
    formed = h.formed;
    valid = h.valid;
    opened = cells_lens j h s (omega arith) ∙ sym (cells_lens j h 0 (omega arith)) ∙ h.opened;
    sensed = λ k l. let e = few in let r : k < count = omega arith in ap (map length) (entry j.sensors s count fits k [] r) ∙ h.sensed (s + k) (omega arith);
  }

pub windows_make : WindowsMakeTheRun
windows_make j h s count fits = record {
  supplied = window_supplied j h s count fits;
  limit = λ e. fewer_meet_none j.program j.graph (reactions (window_job j s count)) (reactions j) (let n = few j h s count fits in omega arith) e;
  acts = window_acts j h s count fits;
  cells = ap (cells_after j.graph (window s count j.sensors) (cells_after j.graph j.sensors j.opening s)) (few j h s count fits)
      ∙ cells_there j.graph j.sensors j.opening s count fits count (omega arith);
}
