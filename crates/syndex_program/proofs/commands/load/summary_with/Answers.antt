use Rattle.std.proofs.Common.{rules, ℤ, to_z, of_z, w64, ◌≡◌, ◌∙◌, ℕ, [], ◌++◌, length, sym, ap, append_assoc}
use Rattle.std.specs.Prelude.{codes}
use Rattle.std.specs.Fmt.{decimal, signed_decimal}
use Rattle.std.proofs.Math.Facts.{to_z-of_z}
use Rattle.std.proofs.lemmas.List.{length-map}
use Rattle.syn_base.specs.Bytes.{Bytes}
use Rattle.word_rule.specs.Job.{total_steps}
use Rattle.self_timed.specs.Sequences.{sequences}
use Rattle.self_timed.specs.Archi.{Architecture}
use Rattle.self_timed.specs.declared.SeqCode.{SeqCode}
use Rattle.self_timed.specs.WellFormed.{IsWellFormed}
use Rattle.self_timed.specs.declared.Program.{Program}
use Rattle.self_timed.specs.Graph.{Graph}
use Rattle.top_plans.specs.FlatOf.{flat_of}
use Rattle.syndex_program.proofs.commands.load.summary_with.Goals as goal

-- nine pieces, one after another
nine : (a b c d e f g h i o0 o1 o2 o3 o4 o5 o6 o7 o8 o9 : Bytes) → o0 ≡ []
    → o1 ≡ o0 ++ a → o2 ≡ o1 ++ b → o3 ≡ o2 ++ c → o4 ≡ o3 ++ d → o5 ≡ o4 ++ e → o6 ≡ o5 ++ f → o7 ≡ o6 ++ g → o8 ≡ o7 ++ h → o9 ≡ o8 ++ i
    → o9 ≡ a ++ (b ++ (c ++ (d ++ (e ++ (f ++ (g ++ (h ++ i)))))))
nine a b c d e f g h i o0 o1 o2 o3 o4 o5 o6 o7 o8 o9 p0 p1 p2 p3 p4 p5 p6 p7 p8 p9 =
    let q1 : o1 ≡ a = p1 ∙ ap (λ (o : Bytes). o ++ a) p0 in
    let q2 : o2 ≡ a ++ b = p2 ∙ ap (λ (o : Bytes). o ++ b) q1 in
    let q3 : o3 ≡ (a ++ b) ++ c = p3 ∙ ap (λ (o : Bytes). o ++ c) q2 in
    let q4 : o4 ≡ ((a ++ b) ++ c) ++ d = p4 ∙ ap (λ (o : Bytes). o ++ d) q3 in
    let q5 : o5 ≡ (((a ++ b) ++ c) ++ d) ++ e = p5 ∙ ap (λ (o : Bytes). o ++ e) q4 in
    let q6 : o6 ≡ ((((a ++ b) ++ c) ++ d) ++ e) ++ f = p6 ∙ ap (λ (o : Bytes). o ++ f) q5 in
    let q7 : o7 ≡ (((((a ++ b) ++ c) ++ d) ++ e) ++ f) ++ g = p7 ∙ ap (λ (o : Bytes). o ++ g) q6 in
    let q8 : o8 ≡ ((((((a ++ b) ++ c) ++ d) ++ e) ++ f) ++ g) ++ h = p8 ∙ ap (λ (o : Bytes). o ++ h) q7 in
    p9 ∙ ap (λ (o : Bytes). o ++ i) q8 ∙ simp append_assoc

-- a program has the architecture's sequences
as_many : (p : Program) (g : Graph) (a : Architecture) (media : ℕ) → IsWellFormed p g (sequences a) media → length p.seqs ≡ length (sequences a)
as_many p g a media h = sym (length-map p.seqs (λ (q : SeqCode). q.seq)) ∙ ap length h.1.sequences

pub returns : goal.returns
returns c =
    let x = c.args.execution.now in
    let a = x.text.archi in
    let operations : length c.vertices.result.now ≡ length (flat_of x.tree).vertices = ap length (c.vertices.ensures.same ∙ ap (λ (g : Graph). g.vertices) c.requires.flat) in
    let many : length c.as_slice.result.now ≡ length (sequences a) = ap length c.as_slice.ensures ∙ as_many x.program (flat_of x.tree) a (length a.media) c.requires.fits.formed in
    let same : to_z w64 (of_z w64 c.args.sum) ≡ c.args.sum = search (rules, to_z-of_z) in
    nine (codes "operations ") (decimal (length (flat_of x.tree).vertices)) (codes "\nsequences ") (decimal (length (sequences a)))
    (codes "\nsteps ") (decimal (total_steps x.program (length x.rows.reactions))) (codes "\nsum ") (signed_decimal c.args.sum) (codes "\n")
    c.new-text.result.items c.append.new.out.items c.append_count.new.out.items c.append-2.new.out.items c.append_count-2.new.out.items
    c.append-3.new.out.items c.append_count-3.new.out.items c.append-4.new.out.items c.print_int.new.out.items c.append-5.new.out.items
    c.new-text.ensures.items
    c.in_ok-append.ensures.text
    (c.in_ok-append_count.ensures.text ∙ ap (λ (n : ℕ). c.append.new.out.items ++ decimal n) operations)
    c.in_ok-append-2.ensures.text
    (c.in_ok-append_count-2.ensures.text ∙ ap (λ (n : ℕ). c.append-2.new.out.items ++ decimal n) many)
    c.in_ok-append-3.ensures.text
    (c.in_ok-append_count-3.ensures.text ∙ ap (λ (n : ℕ). c.append-3.new.out.items ++ decimal n) c.requires.steps)
    c.in_ok-append-4.ensures.text
    (c.in_ok-print_int.ensures.ok ∙ ap (λ (z : ℤ). c.append-4.new.out.items ++ signed_decimal z) same)
    c.in_ok-append-5.ensures.text
