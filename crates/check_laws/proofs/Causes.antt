-- The first cause is exact.
use Rattle.std.proofs.Common.{◌≡◌, ℕ, Bool, true, false, cond, List, [], ◌∷◌, length, Option, Some, None, refl, sym, subst, ◌∙◌}
use Rattle.std.specs.Cmp.Derive.{both_true}
use Rattle.std.proofs.lemmas.Bool.{false≢true, and_parts}
use Rattle.std.proofs.lemmas.Option.{same_Some}
use Rattle.sequence_build_laws.specs.Graph.{Graph}
use Rattle.sequence_build_laws.specs.declared.Seq.{Seq}
use Rattle.sequence_build_laws.specs.declared.Program.{Program}
use Rattle.sequence_build_laws.specs.WellFormed.{IsWellFormed}
use Rattle.order_check.specs.Checked.{communicators, on_media, counts}
use Rattle.program_walks.specs.Opened.{are_opened}
use Rattle.order_check.proofs.Exact.{communicators_of, of_communicators, on_media_of, of_on_media, counts_of, of_counts}
use Rattle.program_walks.proofs.Prologues.{opened_of, of_opened}
use Rattle.check_laws.specs.Items.{AreTransferred, AreGuarded, HasItems}
use Rattle.check_laws.specs.Run.{Place, run, stuck}
use Rattle.check_laws.specs.Tests.{
  Cause,
  sequences_differ,
  calls_wrong,
  transfers_wrong,
  buffers_wrong,
  pairs_wrong,
  prologue_wrong,
  stuck_at,
  stopped,
  are_named,
  are_called,
  are_moved,
  are_transferred,
  are_written,
  are_guarded,
  cause,
}
use Rattle.check_laws.specs.Laws.{IsCause}
use Rattle.check_laws.proofs.Running.{is_run, none_stuck, follows_loops, keeps_awaited}
use Rattle.check_laws.proofs.Orders.{keeps, is_order}
use Rattle.check_laws.proofs.CalledOnce.{called_of, of_called}
use Rattle.check_laws.proofs.Moved.{all_moved, of_all_moved}
use Rattle.check_laws.proofs.Guarded.{numbered_of, pairs_of, of_pairs}
use Rattle.check_laws.proofs.Named.{named_of, of_named, written_of, of_written}

module _ (p : Program) (g : Graph) (seqs : List Seq) (operators media : ℕ) where
  pub moved_of : are_transferred p media ≡ true → AreTransferred p media
  moved_of h =
      let all = and_parts _ (are_moved p media) h in
      let counted = and_parts _ (counts p) all.0 in
      let on = and_parts (communicators p) (on_media p media) counted.0 in
      record { communicators = communicators_of p on.0; on_media = on_media_of p media on.1; counts = counts_of p counted.1; transfers = all_moved p media all.1 }

  of_moved : AreTransferred p media → are_transferred p media ≡ true
  of_moved h = both_true (both_true (both_true (of_communicators p h.communicators) (of_on_media p media h.on_media)) (of_counts p h.counts)) (of_all_moved p media h.transfers)

  pub guarded_of : are_guarded p ≡ true → AreGuarded p
  guarded_of h = record { numbered = numbered_of p h; pairs = pairs_of p h }

  order_is_found : IsWellFormed p g seqs media → stuck p ≡ []
  order_is_found w = none_stuck p w.0 w.1.follows (keeps p g seqs media w.0 w.1)

  stuck_is : (l : List Place) (c : Cause) → stopped l ≡ Some c → stuck p ≡ l → HasItems p g seqs operators media → IsCause p g seqs operators media c
  stuck_is [] c e s h = absurd cc
  stuck_is (x ∷ xs) c e s h = subst (λ d. IsCause p g seqs operators media d) (same_Some (stuck_at (x ∷ xs)) c e) (h, λ w. (let z : x ∷ xs ≡ [] = sym s ∙ order_is_found w in absurd cc), sym s)

  no_stuck : (l : List Place) → stopped l ≡ None → l ≡ []
  no_stuck [] e = refl
  no_stuck (x ∷ xs) e = absurd cc

  wrong : (c d : Cause) → ◌≡◌ {A = Option Cause} (Some c) (Some d) → IsCause p g seqs operators media c → IsCause p g seqs operators media d
  wrong c d e h = subst (λ x. IsCause p g seqs operators media x) (same_Some c d e) h

  pub items_of : are_named p (length g.vertices) operators seqs ≡ true → are_called p g.vertices ≡ true → are_transferred p media ≡ true
      → are_written p g.vertices media ≡ true → are_guarded p ≡ true → are_opened p ≡ true → HasItems p g seqs operators media
  items_of n c m w u o = record {
    named = named_of p (length g.vertices) operators seqs n;
    called = called_of p g.vertices c;
    transferred = moved_of m;
    written = written_of p g media c w;
    guarded = guarded_of u;
    opened = opened_of p o;
  }

  pub exact : (c : Cause) → cause p g.vertices seqs operators media ≡ Some c → IsCause p g seqs operators media c
  exact c e = by (are_named p (length g.vertices) operators seqs) refl (are_called p g.vertices) refl (are_transferred p media) refl
      (are_written p g.vertices media) refl (are_guarded p) refl (are_opened p) refl e
    where
      by : (n : Bool) → are_named p (length g.vertices) operators seqs ≡ n → (l : Bool) → are_called p g.vertices ≡ l → (m : Bool)
          → are_transferred p media ≡ m → (w : Bool) → are_written p g.vertices media ≡ w
          → (u : Bool) → are_guarded p ≡ u → (o : Bool) → are_opened p ≡ o
          → cond n (cond l (cond m (cond w (cond u (cond o (stopped (stuck p)) (Some prologue_wrong)) (Some pairs_wrong))
          (Some buffers_wrong)) (Some transfers_wrong)) (Some calls_wrong)) (Some sequences_differ) ≡ Some c
          → IsCause p g seqs operators media c
      by false n l a m b w d u f o h e = wrong sequences_differ c e (λ x. false≢true (sym n ∙ of_named p (length g.vertices) operators seqs x))
      by true n false a m b w d u f o h e = wrong calls_wrong c e (named_of p (length g.vertices) operators seqs n, λ x. false≢true (sym a ∙ of_called p g.vertices x))
      by true n true a false b w d u f o h e = wrong transfers_wrong c e (named_of p (length g.vertices) operators seqs n, called_of p g.vertices a, λ x. false≢true (sym b ∙ of_moved x))
      by true n true a true b false d u f o h e =
          wrong buffers_wrong c e (
            named_of p (length g.vertices) operators seqs n,
            called_of p g.vertices a,
            moved_of b,
            λ x. false≢true (sym d ∙ of_written p g media (called_of p g.vertices a) x),
          )
      by true n true a true b true d false f o h e =
          wrong pairs_wrong c e (
            named_of p (length g.vertices) operators seqs n,
            called_of p g.vertices a,
            moved_of b,
            written_of p g media a d,
            λ x. false≢true (sym f ∙ of_pairs p x.numbered x.pairs),
          )
      by true n true a true b true d true f false h e =
          wrong prologue_wrong c e (
            named_of p (length g.vertices) operators seqs n,
            called_of p g.vertices a,
            moved_of b,
            written_of p g media a d,
            guarded_of f,
            λ x. false≢true (sym h ∙ of_opened p (numbered_of p f) x),
          )
      by true n true a true b true d true f true h e = stuck_is (stuck p) c e refl (items_of n a b d f h)

  -- no cause
  pub nothing_wrong : cause p g.vertices seqs operators media ≡ None → HasItems p g seqs operators media × (stuck p ≡ [])
  nothing_wrong e = by (are_named p (length g.vertices) operators seqs) refl (are_called p g.vertices) refl (are_transferred p media) refl
      (are_written p g.vertices media) refl (are_guarded p) refl (are_opened p) refl e
    where
      by : (n : Bool) → are_named p (length g.vertices) operators seqs ≡ n → (l : Bool) → are_called p g.vertices ≡ l → (m : Bool)
          → are_transferred p media ≡ m → (w : Bool) → are_written p g.vertices media ≡ w
          → (u : Bool) → are_guarded p ≡ u → (o : Bool) → are_opened p ≡ o
          → cond n (cond l (cond m (cond w (cond u (cond o (stopped (stuck p)) (Some prologue_wrong)) (Some pairs_wrong))
          (Some buffers_wrong)) (Some transfers_wrong)) (Some calls_wrong)) (Some sequences_differ) ≡ None
          → HasItems p g seqs operators media × (stuck p ≡ [])
      by true n true a true b true d true f true h e = (items_of n a b d f h, no_stuck (stuck p) e)
      by true n true a true b true d true f false h e = absurd cc
      by true n true a true b true d false f o h e = absurd cc
      by true n true a true b false d u f o h e = absurd cc
      by true n true a false b w d u f o h e = absurd cc
      by true n false a m b w d u f o h e = absurd cc
      by false n l a m b w d u f o h e = absurd cc

  -- a program with all items, and with no place where the run stops, has no cause
  pub not_cause : (c : Cause) → HasItems p g seqs operators media → stuck p ≡ [] → IsCause p g seqs operators media c → ⊥
  not_cause sequences_differ h s x = x h.named
  not_cause calls_wrong h s x = x.1 h.called
  not_cause transfers_wrong h s x = x.2 h.transferred
  not_cause buffers_wrong h s x = x.3 h.written
  not_cause pairs_wrong h s x = x.4 h.guarded
  not_cause prologue_wrong h s x = x.5 h.opened
  not_cause (stuck_at l) h s x = x.1 (run p, is_order p g seqs media (run p) operators h (follows_loops p (run p) (is_run p) s) (keeps_awaited p (run p) (is_run p) s))

  pub none_told : HasItems p g seqs operators media → stuck p ≡ [] → cause p g.vertices seqs operators media ≡ None
  none_told h s = by (cause p g.vertices seqs operators media) refl
    where
      by : (o : Option Cause) → cause p g.vertices seqs operators media ≡ o → cause p g.vertices seqs operators media ≡ None
      by None e = e
      by (Some c) e = absurd (not_cause c h s (exact c e))
