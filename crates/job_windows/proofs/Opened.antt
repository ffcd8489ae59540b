-- The next window is a job that meets no limit, and what is left of it opens the one after it.
use Rattle.std.proofs.Common.{◌≡◌, ℕ, ◌+◌, ◌-◌, ◌<◌, true, Option, None, Some, length, sym, drop, ap, arith, ◌∙◌, length-take}
use Rattle.syn_base.specs.Rows.{Reactions, AreCut}
use Rattle.syn_base.specs.declared.limits.LimitFault.{LimitFault}
use Rattle.executive_program.specs.Archi.{Architecture}
use Rattle.executive_program.specs.Graph.{Graph}
use Rattle.executive_program.specs.Meaning.{cells_after}
use Rattle.executive_program.specs.FlatValid.{is_flat}
use Rattle.executive_program.specs.declared.program.Program.{Program}
use Rattle.word_rule.specs.Job.{JobData, reactions}
use Rattle.word_rule.specs.IsJob.{FitTogether, job_of, limit_of}
use Rattle.word_rule.specs.Ended.{last_cells}
use Rattle.word_rule.specs.Values.{IsSupplied}
use Rattle.word_rule.specs.Windows.{IsWindow, window, WindowsMakeTheRun}
use Rattle.word_rule.proofs.Together.{jobs_are_supplied}
use Rattle.run_laws.specs.Windows.{reactions_from}
use Rattle.job_windows.specs.Windowed.{IsOpen, WindowsData, first_of, next_job, whole_job}
use Rattle.syn_base.specs.Vectors.{Values}

none_some : (o : Option LimitFault) (fault : LimitFault) → o ≡ None → o ≡ Some fault → ⊥
none_some o fault e f = let q = sym e ∙ f in cc

module _ (a : Architecture) (workers : ℕ) (p : Program) (g : Graph) (rows : Reactions) (next : ℕ) (opening : Values)
    (held : IsOpen a workers (whole_job p g a rows) next opening) (cut : AreCut rows) (valid : is_flat g ≡ true) (windows_make : WindowsMakeTheRun) where
  abbrev j : JobData
  j = whole_job p g a rows

  abbrev w : WindowsData
  w = record { job = whole_job p g a rows; next = next }

  abbrev count : ℕ
  count = reactions_from (length rows.reactions) (first_of next)

  supplied : IsSupplied j
  supplied = jobs_are_supplied j (a, (held.fits, (held.limit, cut))) valid

  module _ (there : first_of next < length rows.reactions) where
    pub is_window : IsWindow j (first_of next) count
    is_window = windows_make j supplied (first_of next) count (omega (arith, there))

    pub is_next : (some : Reactions) (cells : Values) → some ≡ record rows { reactions = window (first_of next) count rows.reactions } → cells ≡ opening → job_of p g a some cells ≡ next_job w
    is_next some cells e f = let same = f ∙ held.opened (omega (arith, there)) in λ i. job_of p g a (e i) (same i)

    pub next_fits : FitTogether a (next_job w)
    next_fits = record {
      media = held.fits.media;
      formed = held.fits.formed;
      sensed = held.fits.sensed;
      few = let e = length-take count (drop (first_of next) rows.reactions) in omega (arith, e);
      opened = is_window.supplied.opened;
    }

    -- no limit refuses it
    pub not_refused : (job : JobData) (fault : LimitFault) → job ≡ next_job w → limit_of job ≡ Some fault → ⊥
    not_refused job fault e f = none_some (limit_of job) fault (ap limit_of e ∙ is_window.limit held.limit) f

    pub passes : (cells : Values) → cells ≡ last_cells (next_job w) → IsOpen a workers j (next + 1) cells
    passes cells e = record {
      fits = held.fits;
      limit = held.limit;
      some_work = held.some_work;
      few_work = held.few_work;
      bound = omega (arith, there);
      opened = λ l. e ∙ is_window.cells ∙ ap (cells_after g rows.reactions j.opening) (omega (arith, there, l));
    }
