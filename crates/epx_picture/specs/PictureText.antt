-- The text of a picture, in DOT, the language of Graphviz.
use Rattle.std.specs.Prelude.{ℕ, Bool, true, false, List, [], ◌++◌, flat_map, Option, Some, None}
use Rattle.std.specs.Prelude.{codes, decimal}
use Rattle.epx_types.specs.declared.id.Id.{Id}
use Rattle.epx_types.specs.Faults.{id_text}
use Rattle.epx_types.specs.Instances.{Instance}
use Rattle.epx_picture.specs.declared.node_box.NodeBox.{NodeBox}

-- the first lines of every picture: a directed graph whose nodes are boxes
abbrev pub head_text : List ℕ
head_text = codes "digraph dependencies {\n  node [shape=box];\n"

-- the last line of every picture: `}`
abbrev pub foot_text : List ℕ
foot_text = codes "}\n"

-- the style of a box: `, style=dashed` if its instance waits, and no text otherwise
abbrev pub style_text : Bool → List ℕ
style_text true = codes ", style=dashed"
style_text false = []

-- the text `"r.i" [label="r.i\ndepth D, seq S"];` of the box of an instance. If it waits, there is
-- `, style=dashed` behind the label
abbrev pub box_text : NodeBox → List ℕ
box_text d =
    codes "\""
    ++ (id_text d.id
    ++ (codes "\" [label=\""
    ++ (id_text d.id
    ++ (codes "\\ndepth "
    ++ (decimal d.depth
    ++ (codes ", seq "
    ++ (decimal d.seq ++ (codes "\"" ++ (style_text d.waits ++ codes "];")))))))))

-- the line of a box: the box alone, or in `subgraph "cluster r.i" { .. }`, where r.i is the leader
abbrev pub in_cluster : Option Id → List ℕ → List ℕ
in_cluster None box = codes "  " ++ (box ++ codes "\n")
in_cluster (Some leader) box = codes "  subgraph \"cluster "
    ++ (id_text leader ++ (codes "\" { " ++ (box ++ codes " }\n")))

-- the line of a committed instance: its box, in its cluster if it has one
abbrev pub box_line : NodeBox → List ℕ
box_line d = in_cluster d.cluster (box_text d)

-- the line `"r.i" [style=dotted];` of a missing instance, indented by two spaces
abbrev pub missing_box_line : Id → List ℕ
missing_box_line x = codes "  \"" ++ (id_text x ++ codes "\" [style=dotted];\n")

-- the line `"r.i" -> "r2.i2";`, indented by two spaces: an arrow from the first instance to the
-- second, on which it depends
abbrev pub arrow_line : Id → Id → List ℕ
arrow_line x y = codes "  \"" ++ (id_text x ++ (codes "\" -> \"" ++ (id_text y ++ codes "\";\n")))

-- the lines of the arrows from the instance to each of its dependencies
abbrev pub arrow_lines : Instance → List ℕ
arrow_lines e = flat_map (arrow_line e.id) e.deps

-- the whole text: the first lines, the boxes of the committed instances, those of the missing
-- instances, the arrows of all dependencies of m, and the last line
abbrev pub picture_text : List Instance → List NodeBox → List Id → List ℕ
picture_text m node_boxes missing =
    head_text ++ (flat_map box_line node_boxes
    ++ (flat_map missing_box_line missing ++ (flat_map arrow_lines m ++ foot_text)))
