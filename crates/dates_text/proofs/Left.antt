-- The text and the latest end, part by part.
use Rattle.std.proofs.Common.{◌≡◌, ℕ, suc, ◌+◌, ◌<◌, List, [], ◌∷◌, ◌++◌, map, max, length, drop, get_or, refl, sym, ap, arith, ◌∙◌, append_assoc, drop-cons}
use Rattle.std.proofs.lemmas.List.{append-nil, map-append}
use Rattle.syn_base.specs.Bytes.{Bytes}
use Rattle.timing_chart.specs.Chart.{line_text, text_of}
use Rattle.timing_chart.proofs.Texts.{text-append}
use Rattle.self_timed.specs.Graph.{Graph}
use Rattle.self_timed.specs.Archi.{Architecture}
use Rattle.self_timed.specs.declared.Transfer.{Transfer}
use Rattle.self_timed.specs.declared.Decision.{Decision}
use Rattle.self_timed.specs.Acts.{Act, carry, run, acts_of}
use Rattle.self_timed.specs.declared.dates.Span.{Span}
use Rattle.self_timed.specs.Running.{span_in}
use Rattle.dates_text.specs.Listing.{Dated, dated, dated_line, end_in_date, latest_end}
use Rattle.dates_text.specs.Printed.{Appends, dated_by, lines_text}

-- What is left of all that is to be printed, if this text and this latest end are there: the text of
-- what is left makes the whole text, and its latest end the latest end of all.
pub record IsLeft (graph : Graph) (archi : Architecture) (old now : Bytes) (latest : ℕ) (left all : List Dated)
    : Type 0 where
  pub text : now ++ lines_text graph archi left ≡ old ++ lines_text graph archi all
  pub end : max latest (latest_end left) ≡ latest_end all

lines-append : (g : Graph) (a : Architecture) (xs ys : List Dated) → lines_text g a (xs ++ ys) ≡ lines_text g a xs ++ lines_text g a ys
lines-append g a xs ys = ap text_of (map-append (dated_line g a) xs ys) ∙ text-append (map (dated_line g a) xs) (map (dated_line g a) ys)

latest-append : (xs ys : List Dated) → latest_end (xs ++ ys) ≡ max (latest_end xs) (latest_end ys)
latest-append [] ys = omega arith
latest-append (x ∷ xs) ys = let z = latest-append xs ys in omega arith

-- what is left of a list from a place on begins with its element there
pub left_from : {A : Type 0} (xs : List A) (i : ℕ) (x : A) → i < length xs → x ≡ get_or xs i x → drop i xs ≡ x ∷ drop (i + 1) xs
left_from xs i x h is = let one : suc i ≡ i + 1 = omega arith in drop-cons xs i x h ∙ (λ j. sym is j ∷ drop (one j) xs)

module _ (k : ℕ) (row : List Span) where
  -- past transfers the next entry is as many later
  pub carried : (next : ℕ) (ts : List Transfer) (rest : List Act) → dated_by k row next (map carry ts ++ rest) ≡ dated_by k row next (map carry ts) ++ dated_by k row (next + length ts) rest
  carried next [] rest = let same : next ≡ next + 0 = omega arith in ap (λ (n : ℕ). dated_by k row n rest) same
  carried next (t ∷ ts) rest =
      let same : next + 1 + length ts ≡ next + suc (length ts) = omega arith in
      ap (λ (l : List Dated). dated k (span_in row next) (carry t) ∷ l) (carried (next + 1) ts rest ∙ ap (λ (n : ℕ). dated_by k row (next + 1) (map carry ts) ++ dated_by k row n rest) same)

  pub transfer_from : (first : ℕ) (ts : List Transfer) (i : ℕ) (t : Transfer) → i < length ts → t ≡ get_or ts i t
      → dated_by k row (first + i) (map carry (drop i ts)) ≡ dated k (span_in row (first + i)) (carry t) ∷ dated_by k row (first + (i + 1)) (map carry (drop (i + 1) ts))
  transfer_from first ts i t h is =
      let same : first + i + 1 ≡ first + (i + 1) = omega arith in
      ap (λ (l : List Transfer). dated_by k row (first + i) (map carry l)) (left_from ts i t h is)
      ∙ ap (λ (n : ℕ). dated k (span_in row (first + i)) (carry t) ∷ dated_by k row n (map carry (drop (i + 1) ts))) same

  pub decision_from : (next : ℕ) (ds : List Decision) (i : ℕ) (d : Decision) → i < length ds → d ≡ get_or ds i d
      → dated_by k row next (acts_of (drop i ds)) ≡ dated_by k row next (map carry d.transfers ++ run d ∷ []) ++ dated_by k row (next + length d.transfers) (acts_of (drop (i + 1) ds))
  decision_from next ds i d h is =
      let before = dated_by k row next (map carry d.transfers) in
      let one = dated k (span_in row d.op) (run d) in
      let rest = dated_by k row (next + length d.transfers) (acts_of (drop (i + 1) ds)) in
      ap (λ (l : List Decision). dated_by k row next (acts_of l)) (left_from ds i d h is)
      ∙ carried next d.transfers (run d ∷ acts_of (drop (i + 1) ds))
      ∙ sym (append_assoc before (one ∷ []) rest)
      ∙ ap (λ (l : List Dated). l ++ rest) (sym (carried next d.transfers (run d ∷ [])))

module _ (g : Graph) (a : Architecture) where
  pub one : (old now : Bytes) (d : Dated) → now ≡ old ++ line_text (dated_line g a d) → Appends g a old now (end_in_date d) (d ∷ [])
  one old now d is = record { text = is ∙ ap (λ (l : Bytes). old ++ l) (sym (append-nil (line_text (dated_line g a d)))); latest = omega arith }

  pub both : (old mid now : Bytes) (first second end : ℕ) (ds es : List Dated) → Appends g a old mid first ds
      → Appends g a mid now second es → end ≡ max second first → Appends g a old now end (ds ++ es)
  both old mid now first second end ds es x y is = record {
    text = y.text ∙ ap (λ (l : Bytes). l ++ lines_text g a es) x.text ∙ append_assoc old (lines_text g a ds) (lines_text g a es) ∙ ap (λ (l : Bytes). old ++ l) (sym (lines-append g a ds es));
    latest = (let z = latest-append ds es in let p = x.latest in let q = y.latest in omega arith);
  }

  pub begins : (old : Bytes) (all : List Dated) → IsLeft g a old old 0 all all
  begins old all = record { text = refl; end = omega arith }

  pub goes_on : (old now later : Bytes) (latest end after : ℕ) (ds left next all : List Dated) → IsLeft g a old now latest left all → left
      ≡ ds ++ next → Appends g a now later end ds → after ≡ max end latest → IsLeft g a old later after next all
  goes_on old now later latest end after ds left next all l e x is = record {
    text = ap (λ (b : Bytes). b ++ lines_text g a next) x.text ∙ append_assoc now (lines_text g a ds) (lines_text g a next)
        ∙ ap (λ (b : Bytes). now ++ b) (sym (lines-append g a ds next) ∙ ap (λ (b : List Dated). lines_text g a b) (sym e)) ∙ l.text;
    end = (let z = latest-append ds next in let w = ap latest_end e in let p = x.latest in let q = l.end in omega arith);
  }

  pub ends : (old now : Bytes) (latest : ℕ) (all : List Dated) → IsLeft g a old now latest [] all → Appends g a old now latest all
  ends old now latest all l = record { text = sym (append-nil now) ∙ l.text; latest = (let q = l.end in omega arith) }
