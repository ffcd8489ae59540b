-- What an accepted text describes is an architecture.
use Rattle.std.proofs.Common.{◌≡◌, ℕ, ◌+◌, Bool, not, true, false, ◌==◌, if◌then◌else◌, List, [], ◌∷◌, length, Option, Some, None, position, Result, Ok, Err, refl, sym, subst, ◌∙◌, arith}
use Rattle.text_lines.specs.Text.{lines_of}
use Rattle.archi_defs.specs.declared.Medium.{Medium}
use Rattle.archi_defs.specs.Archi.{is_archi, is_depth}
use Rattle.archi_defs.specs.Refusals.{ArchiRefusal}
use Rattle.archi_defs.specs.declared.fault.ArchiCause.TheVariants.{BadLine}
use Rattle.syn_base.specs.Bytes.{Bytes}
use Rattle.archi_defs.specs.Text.{Described, Reading, start, next_line, rest_of, whole_of, whole, has_stands, all_joined, apart, described}
use Rattle.text_lines.specs.Refusals.{refused, with_some, and_then}
use Rattle.archi_reader.specs.Views.{IsSound}
use Rattle.archi_reader.proofs.Endings.{told, media_told, valid}
use Rattle.archi_reader.proofs.Following.{sound_next}
use Rattle.archi_reader.specs.Accepted.{DescribedAreArchitectures}

abbrev IsArchitecture : Described → Type 0
IsArchitecture d = (is_archi d.archi.operators d.archi.media ≡ true) × (is_depth d.archi.depth ≡ true)

passed : (b : Bool) (e : ArchiRefusal) (go : Result Described ArchiRefusal) (d : Described) → (if b then Err e else go) ≡ Ok d → (b ≡ false) × (go ≡ Ok d)
passed true e go d h = cc
passed false e go d h = (refl, h)

told_none : (o : Option ℕ) (media : List Medium) (lines : List ℕ) (go : Result Described ArchiRefusal) (d : Described) → told o media lines go ≡ Ok d → (o ≡ None) × (go ≡ Ok d)
told_none None media lines go d h = (refl, h)
told_none (Some k) media lines go d h = cc

joined_none : (r : Reading) (version : ℕ) (o : Option ℕ) (d : Described) → all_joined r version o ≡ Ok d → (o ≡ None) × (described r version ≡ d)
joined_none r version None d h = (refl, cc)
joined_none r version (Some o) d h = cc

-- a reading that is sound, of which the whole is not refused
whole_is : (r : Reading) (version : ℕ) (d : Described) → IsSound r → whole_of r version ≡ Ok d → IsArchitecture d
whole_is r version d sound h =
    let some = passed (length r.operators == 0) _ _ d h in
    let right = told_none (position (λ m. not (has_stands m)) r.media) r.media r.lines (all_joined r version (apart r)) d
    (sym (media_told r.media r.lines (all_joined r version (apart r))) ∙ some.1) in
    let joined = joined_none r version (apart r) d right.1 in
    subst IsArchitecture joined.1 (valid r sound some.0 right.0 joined.0, sound.depth)

at_the_end : (r : Reading) (n : ℕ) (d : Described) → IsSound r → whole r n ≡ Ok d → IsArchitecture d
at_the_end r n d sound h = by r.version h
  where
    by : (o : Option ℕ) → with_some o (refused n BadLine) (whole_of r) ≡ Ok d → IsArchitecture d
    by None e = cc
    by (Some version) e = whole_is r version d sound e

behind_lines : (lines : List Bytes) (r : Reading) (n : ℕ) (d : Described) → IsSound r → rest_of r n lines ≡ Ok d → IsArchitecture d
behind_lines [] r n d sound h = at_the_end r n d sound h
behind_lines (line ∷ lines) r n d sound h = by (next_line r n line) refl h (λ t s k. behind_lines lines t (n + 1) d s k)
  where
    by : (read : Result Reading ArchiRefusal) → next_line r n line ≡ read → and_then read (λ t. rest_of t (n + 1) lines) ≡ Ok d
        → ((t : Reading) → IsSound t → rest_of t (n + 1) lines ≡ Ok d → IsArchitecture d) → IsArchitecture d
    by (Ok t) e k go = go t (sound_next r t n line sound e) k
    by (Err x) e k go = absurd (cc)

start_sound : IsSound start
start_sound = record { operators = omega arith; media = omega arith; lines = refl; stands = refl; connections = omega arith; begun = refl; depth = refl; distinct = refl }

pub described_are : DescribedAreArchitectures
described_are text d h = behind_lines (lines_of text) start 1 d start_sound h
