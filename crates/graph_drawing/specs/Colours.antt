-- The colours of operators and media.
use Rattle.std.specs.Prelude.{ℕ, ◌+◌, ◌*◌, ◌%◌, ◌++◌, codes, slice_range}
use Rattle.syn_base.specs.Bytes.{Bytes}

-- sixteen light colours, on which black letters are read
abbrev pub fills : Bytes
fills =
    codes "#77aadd#ee8866#eedd88#ffaabb#99ddff#44bb99#bbcc33#aaaa00" ++
    codes "#dddddd#cc99bb#f4a582#92c5de#d9f0d3#fddbc7#c2a5cf#e6f5a0"

-- sixteen dark ones, for lines on white
abbrev pub strokes : Bytes
strokes =
    codes "#0077bb#cc3311#009988#ee3377#aa4499#117733#332288#882255" ++
    codes "#ee7733#33bbee#999933#661100#6699cc#aa4466#4477aa#228833"

-- the colour of this number in a list of sixteen, of seven bytes each
abbrev pub colour_at : Bytes → ℕ → Bytes
colour_at colours n = slice_range colours (n % 16 * 7) (n % 16 * 7 + 7)

-- The colour with which operations on operator o are filled, one of sixteen in turn.
unfoldable pub fill_of : ℕ → Bytes
fill_of o = colour_at fills o

-- The colour in which lines over medium m are drawn, one of sixteen in turn.
unfoldable pub stroke_of : ℕ → Bytes
stroke_of m = colour_at strokes m
