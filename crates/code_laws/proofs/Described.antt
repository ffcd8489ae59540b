-- An architecture that a text describes has names for its operators and media.
use Rattle.std.proofs.Common.{◌≡◌, ℕ, ◌+◌, Bool, not, true, false, ◌==◌, if◌then◌else◌, List, [], ◌∷◌, length, Option, Some, None, position, Result, Ok, Err, refl, sym, subst, ◌∙◌}
use Rattle.std.specs.List.{list_all}
use Rattle.text_lines.specs.Text.{lines_of}
use Rattle.syn_base.specs.Name.{is_name}
use Rattle.syn_base.specs.Bytes.{Bytes}
use Rattle.text_lines.specs.Refusals.{refused, with_some, and_then}
use Rattle.archi_reader.proofs.Endings.{told, media_told}
use Rattle.archi_reader.proofs.Counted.{IsSpelled, follows_next}
use Rattle.archi_reader.proofs.Accepted.{described_are}
use Rattle.sequence_build_laws.specs.declared.Medium.{Medium}
use Rattle.sequence_build_laws.specs.Archi.{names_of}
use Rattle.sequence_build_laws.specs.Refusals.{ArchiRefusal}
use Rattle.sequence_build_laws.specs.declared.ArchiCause.TheVariants.{BadLine}
use Rattle.sequence_build_laws.specs.Text.{Described, Reading, start, next_line, rest_of, whole_of, whole, has_stands, all_joined, apart, described, description_of}
use Rattle.code_laws.specs.ReadsBack.{DescribedReadBack}
use Rattle.code_laws.proofs.ReadBack.{built_read_back}

abbrev HasNames : Described → Type 0
HasNames d = list_all is_name (names_of d.archi.operators d.archi.media) ≡ true

passed : (b : Bool) (e : ArchiRefusal) (go : Result Described ArchiRefusal) (d : Described) → (if b then Err e else go) ≡ Ok d → go ≡ Ok d
passed true e go d h = cc
passed false e go d h = h

not_told : (o : Option ℕ) (media : List Medium) (lines : List ℕ) (go : Result Described ArchiRefusal) (d : Described) → told o media lines go ≡ Ok d → go ≡ Ok d
not_told None media lines go d h = h
not_told (Some k) media lines go d h = cc

joined_is : (r : Reading) (version : ℕ) (o : Option ℕ) (d : Described) → all_joined r version o ≡ Ok d → described r version ≡ d
joined_is r version None d h = cc
joined_is r version (Some o) d h = cc

at_the_end : (r : Reading) (n : ℕ) (d : Described) → IsSpelled r → whole r n ≡ Ok d → HasNames d
at_the_end r n d spelled h = by r.version h
  where
    by : (o : Option ℕ) → with_some o (refused n BadLine) (whole_of r) ≡ Ok d → HasNames d
    by None e = cc
    by (Some version) e =
        let some = passed (length r.operators == 0) _ _ d e in
        let right = not_told (position (λ m. not (has_stands m)) r.media) r.media r.lines (all_joined r version (apart r)) d
        (sym (media_told r.media r.lines (all_joined r version (apart r))) ∙ some) in
        subst HasNames (joined_is r version (apart r) d right) spelled.names

behind_lines : (lines : List Bytes) (r : Reading) (n : ℕ) (d : Described) → IsSpelled r → rest_of r n lines ≡ Ok d → HasNames d
behind_lines [] r n d spelled h = at_the_end r n d spelled h
behind_lines (line ∷ lines) r n d spelled h = by (next_line r n line) refl h (λ t s k. behind_lines lines t (n + 1) d s k)
  where
    by : (read : Result Reading ArchiRefusal) → next_line r n line ≡ read → and_then read (λ t. rest_of t (n + 1) lines) ≡ Ok d
        → ((t : Reading) → IsSpelled t → rest_of t (n + 1) lines ≡ Ok d → HasNames d) → HasNames d
    by (Ok t) e k go = go t (follows_next r t n line spelled e).spelled k
    by (Err x) e k go = absurd (cc)

described_named : (text : Bytes) (d : Described) → description_of text ≡ Ok d → HasNames d
described_named text d h = behind_lines (lines_of text) start 1 d (record { names = refl; durations = refl; new = tt; version = refl }) h

pub described_read_back : DescribedReadBack
described_read_back text d g ticks s describes flat valid limits =
    let archi = described_are text d describes in
    built_read_back g d.archi ticks s flat (record { valid = archi.0; named = described_named text d describes }) archi.1 valid limits
