-- The line of a path, and lines that are appended one after another.
use Rattle.std.proofs.Common.{◌≡◌, ◌<◌, ◌+◌, ℕ, false, List, [], ◌∷◌, ◌++◌, map, take, length}
use Rattle.std.proofs.Common.{get_or, codes, refl, sym, ap, ap₂, ◌∙◌}
use Rattle.epx_types.proofs.Common.{take_more, map_push}
use Rattle.epx_types.specs.declared.id.Id.{Id}
use Rattle.serde_json.specs.Data.{Data, string}
use Rattle.serde_json.specs.Written.{has_float}
use Rattle.epx_lines.proofs.FloatLemmas.{no_float-items}
use Rattle.epx_report.specs.ReportLines.{array_of}
use Rattle.epx_graph.proofs.Common.{DependencyGraph}
use Rattle.epx_why.specs.inner.NodeWalks.{id_at}
use Rattle.epx_why.specs.WhyLines.{id_data, path_data}

pub no_float-path : (ids : List Id) → has_float (array_of (path_data ids)) ≡ false
no_float-path ids = rw (no_float-items id_data (λ x. refl) ids) refl

-- one more node of a path
pub path_data-push : (g : DependencyGraph) (start : Id) (nodes : List ℕ) (i : ℕ) (parts : List Data)
    (part : Data) → i < length nodes → parts ≡ path_data (start ∷ map (id_at g) (take i nodes))
    → part ≡ id_data (id_at g (get_or nodes i 0))
    → parts ++ part ∷ [] ≡ path_data (start ∷ map (id_at g) (take (i + 1) nodes))
path_data-push g start nodes i parts part l same last =
    let ids = map (id_at g) (take i nodes) in
    let next = ap (map (id_at g)) (take_more nodes i 0 l)
    ∙ map_push (id_at g) (take i nodes) (get_or nodes i 0) in
    ap₂ (λ ds d. ds ++ d ∷ []) same last
    ∙ ap (λ ds. string (codes "path") ∷ id_data start ∷ ds)
    (sym (map_push id_data ids (id_at g (get_or nodes i 0))))
    ∙ ap (λ xs. path_data (start ∷ xs)) (sym next)
