use Rattle.std.proofs.Common.{◌≡◌, ℕ, suc, ◌∷◌, ◌∙◌, map, List, ap, subst, sym, inl, inr}
use Rattle.epx_types.proofs.Common.{IfOk-weaker, slice_get_within}
use Rattle.std.proofs.lemmas.Option.{MatchOption-at_some, MatchOption-at_none}
use Rattle.epx_graph.proofs.Common.{edges_of, IsGraphOf, LeadsTo}
use Rattle.epx_why.specs.WhyLines.{path_line, none_line}
use Rattle.epx_why.specs.WhyTexts.{IsPathText}
use Rattle.epx_why.specs.inner.NodeWalks.{id_at, IsFirstNodePath}
use Rattle.epx_why.proofs.WalkLemmas.{HasNoPath-no_start, HasNoPath-no_end, HasNoPath-not_reached}
use Rattle.epx_why.proofs.WalkLemmas.{IsFirstPath-from_nodes, IsFirstNodePath-within}
use Rattle.epx_why.proofs.path.path_text.Goals as goal

pub returns-in_default : goal.returns-in_default
returns-in_default c =
    let g = c.args.graph.now in
    IfOk-weaker c.no_path.result (λ text. text.items ≡ none_line)
    (λ text. (m : List _) → IsGraphOf m g → IsPathText m c.args.from c.args.to text.items)
    (λ text is m of. inr (HasNoPath-no_start m g of c.args.from c.args.to c.in_default.ensures, is))
    c.no_path.ensures

pub returns-in_default-node : goal.returns-in_default-node
returns-in_default-node c =
    let g = c.args.graph.now in
    IfOk-weaker c.no_path-in_default-node.result (λ text. text.items ≡ none_line)
    (λ text. (m : List _) → IsGraphOf m g → IsPathText m c.args.from c.args.to text.items)
    (λ text is m of. inr
    (HasNoPath-no_end m g of c.args.from c.args.to c.in_default-node.ensures, is))
    c.no_path-in_default-node.ensures

pub first_walk-requires-clause-graph : goal.first_walk-requires-clause-graph
first_walk-requires-clause-graph c = c.requires.1.graph

pub first_walk-requires-clause-node : goal.first_walk-requires-clause-node
first_walk-requires-clause-node c =
    slice_get_within c.args.graph.now.ids c.in-Some.node c.args.from c.in-Some.ensures

pub first_walk-requires-clause-target : goal.first_walk-requires-clause-target
first_walk-requires-clause-target c =
    slice_get_within c.args.graph.now.ids c.in-Some-node.target c.args.to c.in-Some-node.ensures

-- the walk that was found
walk : (c : goal.After-deref)
    → IsFirstNodePath c.args.graph.now c.in-Some-node.target c.in-Some.node
    c.deref.result.now
walk c =
    let g = c.args.graph.now in
    let t = c.in-Some-node.target in
    let k = c.in-Some.node in
    subst (IsFirstNodePath g t k) (sym c.deref.ensures.value)
    (MatchOption-at_some ((n : ℕ) → ¬ LeadsTo (edges_of g) k (suc n) t)
    (λ nodes. IsFirstNodePath g t k nodes.items) c.in-Some-2.nodes c.in-Some-2.is
    c.in_ok-nodes.ensures)

pub path_line-requires : goal.path_line-requires
path_line-requires c =
    IsFirstNodePath-within c.requires.0 c.args.graph.now c.requires.1 c.in-Some.node
    c.in-Some-node.target c.args.from c.args.to c.in-Some.ensures c.in-Some-node.ensures
    c.deref.result.now (walk c)

pub returns-in-Some-2 : goal.returns-in-Some-2
returns-in-Some-2 c =
    let g = c.args.graph.now in
    let t = c.in-Some-node.target in
    let k = c.in-Some.node in
    let x = c.args.from in
    let y = c.args.to in
    let nodes = c.deref.result.now in
    let found : IsFirstNodePath g t k nodes = subst (IsFirstNodePath g t k)
    (sym c.deref.ensures.value)
    (MatchOption-at_some ((n : ℕ) → ¬ LeadsTo (edges_of g) k (suc n) t)
    (λ ns. IsFirstNodePath g t k ns.items) c.in-Some-2.nodes c.in-Some-2.is
    c.in_ok-nodes.ensures) in
    IfOk-weaker c.path_line.result (λ text. text.items ≡ path_line (x ∷ map (id_at g) nodes))
    (λ text. (m : List _) → IsGraphOf m g → IsPathText m x y text.items)
    (λ text is m of.
    let path = IsFirstPath-from_nodes m g of k t x y c.in-Some.ensures c.in-Some-node.ensures nodes
    found in
    inl (record { via = path.0; first = path.1; printed = is ∙ ap path_line path.2 }))
    c.path_line.ensures

pub returns-in-None : goal.returns-in-None
returns-in-None c =
    let g = c.args.graph.now in
    let t = c.in-Some-node.target in
    let k = c.in-Some.node in
    let x = c.args.from in
    let y = c.args.to in
    let none : (n : ℕ) → ¬ LeadsTo (edges_of g) k (suc n) t =
    MatchOption-at_none ((n : ℕ) → ¬ LeadsTo (edges_of g) k (suc n) t)
    (λ nodes. IsFirstNodePath g t k nodes.items) c.in-None.is c.in_ok-nodes.ensures in
    IfOk-weaker c.no_path-in-None.result (λ text. text.items ≡ none_line)
    (λ text. (m : List _) → IsGraphOf m g → IsPathText m x y text.items)
    (λ text is m of. inr
    (HasNoPath-not_reached m g of k t x y c.in-Some.ensures c.in-Some-node.ensures none, is))
    c.no_path-in-None.ensures
