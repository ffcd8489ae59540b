-- A run in windows of 256 reactions: where each begins, its job, and its lines.
use Rattle.std.specs.Prelude.{◌≡◌, ℕ, ◌+◌, ◌-◌, ◌*◌, ◌/◌, ◌<◌, ◌≤◌, min, List, map, length}
use Rattle.std.specs.List.{range_with_len, flat_map}
use Rattle.act_text.specs.Text.{text_from, output_text}
use Rattle.level_meaning.specs.Vectors.{Values}
use Rattle.word_rule.specs.Job.{JobData, reactions}
use Rattle.word_rule.specs.Windows.{window, window_job}

-- the most reactions of a window
abbrev pub window_bound : ℕ
window_bound = 256

-- how many windows this many reactions have, and the first reaction of each
abbrev pub windows_in : ℕ → ℕ
windows_in n = (n + (window_bound - 1)) / window_bound

-- The first reaction of each window of a run of n reactions, ascending from 0, and none if n is 0.
abbrev pub starts : ℕ → List ℕ
starts n = map (λ w. w * window_bound) (range_with_len 0 (windows_in n))

-- how many reactions the window has that begins with reaction s, of n
abbrev pub reactions_from : ℕ → ℕ → ℕ
reactions_from n s = min window_bound (n - s)

-- the jobs of the windows, each opened by the cells that the reactions before it leave
abbrev pub window_jobs : JobData → List JobData
window_jobs j = map (λ s. window_job j s (reactions_from (reactions j) s)) (starts (reactions j))

-- the lines of the window that begins with reaction s, numbered by the whole run
abbrev pub window_text : List (List ℕ) → List Values → ℕ → List ℕ
window_text names acts s = text_from s names (window s (reactions_from (length acts) s) acts)

-- The lines of the windows, one after another, are those of the run.
abbrev pub WindowsTellTheRun : Type 0
WindowsTellTheRun =
    (names : List (List ℕ)) (acts : List Values) →
    flat_map (window_text names acts) (starts (length acts)) ≡ output_text names acts

-- No window begins after the last reaction, and each but the last is full.
abbrev pub WindowsAreFull : Type 0
WindowsAreFull =
    (n w : ℕ) → w < windows_in n → (w * window_bound < n) ×
    (w + 1 < windows_in n → reactions_from n (w * window_bound) ≡ window_bound)

-- No window has more than 256 reactions, and none ends after the last.
abbrev pub WindowsAreShort : Type 0
WindowsAreShort = (n s : ℕ) → s ≤ n → (reactions_from n s ≤ window_bound) × (s + reactions_from n s ≤ n)
