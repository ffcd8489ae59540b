-- The lines of a repetition of a text, and the repetition of a tree that has them.
use Rattle.std.specs.Prelude.{◌≡◌, ℕ, List, [], ◌∷◌, length, map, replicate, Some, None, Ok}
use Rattle.std.specs.List.{flat_map, range_with_len}
use Rattle.syn_base.specs.Bytes.{Bytes}
use Rattle.algo_laws.specs.declared.Feed.{Feed}
use Rattle.algo_laws.specs.declared.Feed.TheVariants as feed
use Rattle.algo_laws.specs.Level.{Path}
use Rattle.algo_laws.specs.Tree.{Kind, explode, repeat, Vertex, vertex, Vertices, no_vertices, and_vertex}
use Rattle.algo_laws.specs.declared.Def.{Def}
use Rattle.algo_laws.specs.declared.Body.TheVariants.{Repeat}
use Rattle.algo_laws.specs.declared.Defs.{Defs}
use Rattle.algo_laws.specs.declared.Frontier.{Frontier}
use Rattle.algo_laws.specs.declared.Frontier.TheVariants.{Fork, Diffuse, Iterate, Join}
use Rattle.algo_laws.specs.declared.FrontierLine.{FrontierLine}
use Rattle.algo_laws.specs.Text.{definitions_of}
use Rattle.algo_laws.specs.RuleLinks.{definition}
use Rattle.algo_laws.specs.Ports.{ports_of, len_of, number_of}
use Rattle.algo_laws.specs.declared.Ports.{Ports}
use Rattle.algo_laws.specs.Resolved.{refusal, tree_of}
use Rattle.algo_laws.specs.WellRead.{AreWellRead}
use Rattle.elaboration.specs.Elaborated.{elaboration_of}
use Rattle.flat_laws.specs.Lines.{outer_of, in_line_order}
use Rattle.flat_laws.specs.Flat.{runs}
use Rattle.flat_laws.specs.Origins.{Origin, origin_at, port}
use Rattle.flat_laws.specs.Table.{Condition, Row, row, explode_rows}

-- What a line feeds, where the body has the ports `inner` and the repetition the ports `own`. A join line feeds
-- nothing.
abbrev pub feeds_by : Ports → Ports → Frontier → List Feed
feeds_by inner own (Fork p x) = feed.Fork p (number_of own.ins p) (len_of inner.ins x) ∷ []
feeds_by inner own (Diffuse p x) = feed.Diffuse (number_of own.ins p) ∷ []
feeds_by inner own (Iterate p x y q) = feed.Iterate (number_of own.ins p) (number_of inner.outs y) ∷ []
feeds_by inner own (Join y q) = []

-- The lines of a text that feed the body, in order.
abbrev pub text_feeds : Ports → Ports → List FrontierLine → List Feed
text_feeds inner own lines = flat_map (λ l. feeds_by inner own l.frontier) lines

-- The explode of a fork line, of a repetition with the ports `own` whose inputs come from `ins`: it takes the input
-- that the line names, and has an output for each copy, of the length of the inner input.
abbrev pub explodes_by : Path → List Condition → Bytes → List Origin → ℕ → Ports → Ports → Frontier → List Row
explodes_by path conditions definition ins copies inner own (Fork name x) =
    row (port path name) definition (origin_at ins (number_of own.ins name) ∷ []) conditions
    (replicate copies (len_of inner.ins x)) (runs explode) ∷ []
explodes_by path conditions definition ins copies inner own (Diffuse name x) = []
explodes_by path conditions definition ins copies inner own (Iterate name x y z) = []
explodes_by path conditions definition ins copies inner own (Join y z) = []

-- The explodes of the fork lines among these lines of a text, in order.
abbrev pub text_explodes : Path → List Condition → Bytes → List Origin → ℕ → Ports → Ports → List FrontierLine →
    List Row
text_explodes path conditions definition ins copies inner own lines =
    flat_map (λ l. explodes_by path conditions definition ins copies inner own l.frontier) lines

-- The repetition of these copies and feeds is that of the definition of this name.
pub record IsOfText (ds : List Def) (name : Bytes) (copies : ℕ) (feeds : List Feed) : Type 0 where
  pub line : ℕ
  pub body : Bytes
  pub lines : List FrontierLine
  pub defined : definition ds name ≡ Some (record { name = name; line = line; body = Repeat copies body lines })
  pub in_order : in_line_order feeds ≡ text_feeds (ports_of ds body) (ports_of ds name) lines
  pub numbered : map outer_of (in_line_order feeds) ≡ range_with_len 0 (length (in_line_order feeds))
  pub explodes : (p : Path) (cs : List Condition) (ins : List Origin) →
      explode_rows p cs name ins copies (in_line_order feeds) ≡
      text_explodes p cs name ins copies (ports_of ds body) (ports_of ds name) lines

-- If the kind is that of a repetition, it is the repetition that the definition of this name has.
abbrev pub IsKindOfText : List Def → Bytes → Kind → Type 0
IsKindOfText ds name (repeat copies feeds gives) = IsOfText ds name copies feeds
IsKindOfText ds name _ = Unit {0}

abbrev mutual
  -- Each repetition in this vertex, itself among them.
  pub IsVertexOfText : List Def → Vertex → Type 0
  IsVertexOfText ds (vertex l us) = IsKindOfText ds l.definition l.kind × AreVerticesOfText ds us

  -- The same for each of these vertices.
  pub AreVerticesOfText : List Def → Vertices → Type 0
  AreVerticesOfText ds no_vertices = Unit {0}
  AreVerticesOfText ds (and_vertex u us) = IsVertexOfText ds u × AreVerticesOfText ds us

-- Each repetition in the tree of accepted definitions has the lines of its
-- definition, in their order.
abbrev pub LinesStandInTextOrder : Type 0
LinesStandInTextOrder = (ds : List Def) → AreWellRead ds → refusal ds ≡ None → IsVertexOfText ds (tree_of ds)

-- The tree of an accepted text, in which marked references have become graphs.
abbrev pub ElaboratedLinesStandInTextOrder : Type 0
ElaboratedLinesStandInTextOrder =
    (text : Bytes) (defs : Defs) (made : Vertex) → definitions_of text ≡ Ok defs → elaboration_of defs ≡ Ok made →
    IsVertexOfText defs.defs made
