-- The text of dated acts, part by part.
use Rattle.std.proofs.Common.{◌≡◌, List, [], ◌∷◌, ◌++◌, sym, ap, ◌∙◌, append_assoc}
use Rattle.std.specs.List.{flat_map}
use Rattle.std.proofs.lemmas.Grind.{flat_map-append}
use Rattle.std.proofs.lemmas.List.{append-nil}
use Rattle.syn_base.specs.Bytes.{Bytes}
use Rattle.self_timed.specs.declared.Vertex.{Vertex}
use Rattle.self_timed.specs.declared.Decision.{Decision}
use Rattle.self_timed.specs.Graph.{Graph}
use Rattle.self_timed.specs.Archi.{Architecture}
use Rattle.self_timed.specs.declared.Schedule.{Schedule}
use Rattle.dates_text.specs.Listing.{Dated}
use Rattle.trace_events.specs.Events.{closing, opening, text_of}
use Rattle.trace_events.specs.Trace.{lanes}
use Rattle.trace_events.proofs.Texts.{text_append, text_flat}
use Rattle.trace_events.specs.DatesTrace.{dates_events, events_of, told, trace_of}

module _ (vertices : List Vertex) (operators : List Bytes) (ds : List Decision) where
  pub told-append : (xs ys : List Dated) → told vertices operators ds (xs ++ ys) ≡ told vertices operators ds xs ++ told vertices operators ds ys
  told-append xs ys = flat_map-append (λ (d : Dated). text_of (events_of vertices operators ds d)) xs ys

  pub one : (d : Dated) → text_of (events_of vertices operators ds d) ≡ told vertices operators ds (d ∷ [])
  one d = sym (append-nil (text_of (events_of vertices operators ds d)))

  -- what is there and what is left is the whole, some more of it there
  pub goes_on : (whole now later : Bytes) (here left next : List Dated) → now ++ told vertices operators ds left ≡ whole → left ≡ here
      ++ next → later ≡ now ++ told vertices operators ds here → later ++ told vertices operators ds next ≡ whole
  goes_on whole now later here left next l e is =
      ap (λ (b : Bytes). b ++ told vertices operators ds next) is
      ∙ append_assoc now (told vertices operators ds here) (told vertices operators ds next)
      ∙ ap (λ (b : Bytes). now ++ b) (sym (told-append here next) ∙ ap (λ (x : List Dated). told vertices operators ds x) (sym e))
      ∙ l

  -- two parts, one after the other
  pub both : (old now later : Bytes) (xs ys : List Dated) → now ≡ old ++ told vertices operators ds xs → later ≡ now
      ++ told vertices operators ds ys → later ≡ old ++ told vertices operators ds (xs ++ ys)
  both old now later xs ys e f =
      f ∙ ap (λ (b : Bytes). b ++ told vertices operators ds ys) e
      ∙ append_assoc old (told vertices operators ds xs) (told vertices operators ds ys) ∙ ap (λ (b : Bytes). old ++ b) (sym (told-append xs ys))

-- a trace is its opening, its lanes, its dates and its closing
pub whole : (g : Graph) (a : Architecture) (s : Schedule) (xs : List Dated)
    → trace_of g a s xs ≡ opening ++ (text_of (lanes a) ++ (told g.vertices a.operators s.decisions xs ++ closing))
whole g a s xs =
    ap (λ (l : Bytes). opening ++ (l ++ closing))
    (text_append (lanes a) (dates_events g a s xs)
    ∙ ap (λ (l : Bytes). text_of (lanes a) ++ l) (text_flat (events_of g.vertices a.operators s.decisions) xs))
    ∙ ap (λ (l : Bytes). opening ++ l) (append_assoc (text_of (lanes a)) (told g.vertices a.operators s.decisions xs) closing)

-- four texts that were appended to nothing
pub joined : (t0 t1 t2 t3 t4 p q r s : Bytes) → t0 ≡ [] → t1 ≡ t0 ++ p → t2 ≡ t1 ++ q → t3 ≡ t2 ++ r → t4 ≡ t3 ++ s → t4 ≡ p ++ (q ++ (r ++ s))
joined t0 t1 t2 t3 t4 p q r s none e1 e2 e3 e4 =
    e4 ∙ ap (λ (b : Bytes). b ++ s) (e3 ∙ ap (λ (b : Bytes). b ++ r) (e2 ∙ ap (λ (b : Bytes). b ++ q) (e1 ∙ ap (λ (b : Bytes). b ++ p) none)))
    ∙ append_assoc (p ++ q) r s ∙ append_assoc p q (r ++ s)
