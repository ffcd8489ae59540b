-- Names need no escape.
use Rattle.std.proofs.Common.{◌≡◌, ℕ, Bool, true, false, ◌&&◌, ◌||◌, ◌==◌, List, [], ◌∷◌, Option, None, Some, refl, sym, ap, ◌∙◌}
use Rattle.std.specs.Prelude.{All, IsTrue, slice_get, not, nat_le, length}
use Rattle.std.specs.List.{list_all}
use Rattle.std.proofs.lemmas.Bool.{false≢true, and_parts, ne_eqb}
use Rattle.std.proofs.lemmas.List.Elements.{All-nil, All-cons}
use Rattle.syn_base.specs.Bytes.{Bytes}
use Rattle.syn_base.specs.Name.{begins_name, is_name, is_name_byte}
use Rattle.self_timed.specs.declared.Vertex.{Vertex}
use Rattle.self_timed.specs.Graph.{Graph, with_vertex, lens_of}
use Rattle.self_timed.specs.FlatValid.{is_flat, is_len, is_path, is_path_byte, is_guard, fits, has_twin}
use Rattle.self_timed.proofs.Facts.{vertex_valid}
use Rattle.chart_picture.specs.Truth.{NamesNeedNoEscape, is_bare}

module _ (allowed : ℕ → Bool) where
  -- a byte that is allowed is none that is not
  other : (b n : ℕ) → allowed b ≡ true → allowed n ≡ false → (b == n) ≡ false
  other b n h k = ne_eqb b n (λ e. false≢true (sym k ∙ ap allowed (sym e) ∙ h))

  module _ (quote : allowed 34 ≡ false) (amp : allowed 38 ≡ false) (single : allowed 39 ≡ false) (less : allowed 60 ≡ false) (more : allowed 62 ≡ false) where
    one : (b : ℕ) → allowed b ≡ true → is_bare b ≡ true
    one b h = λ j. not (other b 34 h quote j || other b 38 h amp j || other b 39 h single j || other b 60 h less j || other b 62 h more j)

    all : (bs : Bytes) → list_all allowed bs ≡ true → All (λ b. IsTrue (is_bare b)) bs
    all [] h = All-nil (λ (b : ℕ). IsTrue (is_bare b))
    all (b ∷ bs) h =
        let p = and_parts (allowed b) (list_all allowed bs) h in
        All-cons (λ (b : ℕ). IsTrue (is_bare b)) b bs (one b p.0) (all bs p.1)

of_path : (name : Bytes) → is_path name ≡ true → All (λ b. IsTrue (is_bare b)) name
of_path name h = all is_path_byte refl refl refl refl refl name (and_parts (nat_le 1 (length name)) (list_all is_path_byte name) h).1

of_vertex : (g : Graph) (v : ℕ) → is_flat g ≡ true → (o : Option Vertex) → slice_get g.vertices v ≡ o → All (λ b. IsTrue (is_bare b)) (with_vertex o [] (λ x. x.name))
of_vertex g v flat None e = All-nil (λ (b : ℕ). IsTrue (is_bare b))
of_vertex g v flat (Some x) e =
    let outs = nat_le (length x.outs) 64 && list_all is_len x.outs in
    let guards = list_all (is_guard g.vertices) x.guards in
    let ins = list_all (nat_le 1) (lens_of g.vertices x.ins) in
    let fit = fits g.bodies x.kind (lens_of g.vertices x.ins) x.outs in
    let twin = has_twin g.vertices v x.kind x.twin in
    let p = and_parts (is_path x.name && outs && guards && ins && fit) twin (vertex_valid g flat v x e) in
    let q = and_parts (is_path x.name && outs && guards && ins) fit p.0 in
    let r = and_parts (is_path x.name && outs && guards) ins q.0 in
    let u = and_parts (is_path x.name && outs) guards r.0 in
    of_path x.name (and_parts (is_path x.name) outs u.0).0

of_name : (name : Bytes) → is_name name ≡ true → All (λ b. IsTrue (is_bare b)) name
of_name name h = all is_name_byte refl refl refl refl refl name (and_parts (begins_name name && nat_le (length name) 32) (list_all is_name_byte name) h).1

pub names_need_no_escape : NamesNeedNoEscape
names_need_no_escape = ((λ g v flat. of_vertex g v flat (slice_get g.vertices v) refl), of_name)
