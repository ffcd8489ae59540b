-- The elements of a picture, as text, one a line.
use Rattle.std.specs.Prelude.{ℕ, ◌+◌, ◌/◌, ◌%◌, ◌++◌, codes}
use Rattle.std.specs.Fmt.{decimal}
use Rattle.syn_base.specs.Bytes.{Bytes}
use Rattle.svg_text.specs.declared.style.TheConstants.{STYLE}
use Rattle.svg_text.specs.declared.shapes.Point.{Point}

-- The point that is x units right of the origin and y units below it.
abbrev pub point : ℕ → ℕ → Point
point x y = record { x = x; y = y }

-- `x y`
unfoldable pub point_text : Point → Bytes
point_text p = decimal p.x ++ (codes " " ++ decimal p.y)

-- ` width="x" height="y"`
unfoldable pub sides_text : Point → Bytes
sides_text p = codes " width=\"" ++ (decimal p.x ++ (codes "\" height=\"" ++ (decimal p.y ++ codes "\"")))

-- all of it is seen
unfoldable pub view_text : Point → Bytes
view_text size = codes " viewBox=\"0 0 " ++ (point_text size ++ codes "\">\n")

-- the root element, of these sides
unfoldable pub root_text : Point → Bytes
root_text size = codes "<svg xmlns=\"http://www.w3.org/2000/svg\"" ++ (sides_text size ++ view_text size)

-- a rectangle below everything
unfoldable pub paper_text : Point → Bytes
paper_text size = codes "<rect class=\"paper\"" ++ (sides_text size ++ codes "/>\n")

-- the beginning of a picture of these sides
unfoldable pub head_text : Point → Bytes
head_text size = root_text size ++ (STYLE.now ++ paper_text size)

-- The value of an attribute, `"translate(x y)"` with its quotes, that moves the origin to a point.
unfoldable pub move_text : Point → Bytes
move_text p = codes "\"translate(" ++ (point_text p ++ codes ")\"")

-- The rest of the tag that begins a group, after its identifier: the move of its origin to a point.
unfoldable pub origin_text : Point → Bytes
origin_text p = codes "\" transform=" ++ (move_text p ++ codes ">\n")

-- the beginning of a group, whose identifier is a word and then a name, and whose origin is at a point
unfoldable pub group_text : Bytes → Bytes → Point → Bytes
group_text word name p =
    codes "<g id=\"" ++ (word ++ (name ++ origin_text p))

-- ` class="class"`, after the name of an element
unfoldable pub class_text : Bytes → Bytes
class_text class = codes " class=\"" ++ (class ++ codes "\"")

-- from the left to the right, at the height of all bars in their lane
unfoldable pub sides_of_bar : ℕ → ℕ → Bytes
sides_of_bar left right =
    codes " d=\"M" ++
    (decimal left ++ (codes " 6H" ++ (decimal right ++ (codes "V30H" ++ (decimal left ++ codes "z\"")))))

-- a bar in its lane, up to where the text of its title stands
unfoldable pub bar_text : Bytes → ℕ → ℕ → Bytes
bar_text class left right =
    codes "<path" ++ (class_text class ++ (sides_of_bar left right ++ codes "><title>"))

-- from the left to the right, and from the top to 24 units below it
unfoldable pub tile_text : ℕ → ℕ → ℕ → Bytes
tile_text left right top =
    codes "<path d=\"M" ++
    (point_text (record { x = left; y = top }) ++
    (codes "H" ++ (decimal right ++ (codes "v24H" ++ (decimal left ++ codes "z\"><title>")))))

-- the beginning of a group for a reaction, which has one of eight shades in turn
unfoldable pub shade_text : Bytes → ℕ → Bytes
shade_text word k =
    codes "<g id=\"" ++
    (word ++ (decimal k ++ (codes "\" class=\"shade" ++ (decimal (k % 8 + 1) ++ codes "\">\n"))))

-- The end of a bar or a tile, after its title, and of its line.
unfoldable pub bar_end : Bytes
bar_end = codes "</title></path>\n"

-- a vertical line down from a point, of this length
unfoldable pub line_text : Bytes → Point → ℕ → Bytes
line_text class p length =
    codes "<path" ++
    (class_text class ++
    (codes " d=\"M" ++ (point_text p ++ (codes "v" ++ (decimal length ++ codes "\"/>\n")))))

-- a curve that leaves and arrives vertically
unfoldable pub curve_text : Point → Point → Bytes
curve_text p q =
    let half = (p.y + q.y) / 2 in
    point_text p ++
    (codes "C" ++
    (point_text (record { x = p.x; y = half }) ++
    (codes " " ++ (point_text (record { x = q.x; y = half }) ++ (codes " " ++ point_text q)))))

-- an arrow from a point to another
unfoldable pub arrow_text : Point → Point → Bytes
arrow_text p q = codes "<path class=\"arrow\" d=\"M" ++ (curve_text p q ++ codes "\"/>\n")

-- a text at a place, up to where it stands
unfoldable pub words_text : Bytes → ℕ → Bytes → Bytes
words_text class x y =
    codes "<text" ++ (class_text class ++ (codes " x=\"" ++ (decimal x ++ (codes "\" y=\"" ++ (y ++ codes "\">")))))

-- a text left of the origin, up to where it stands
unfoldable pub aside_text : Bytes → Bytes → Bytes
aside_text class y = codes "<text" ++ (class_text class ++ (codes " x=\"-8\" y=\"" ++ (y ++ codes "\">")))

-- The end of an element of text, after its words, and of its line.
unfoldable pub words_end : Bytes
words_end = codes "</text>\n"
