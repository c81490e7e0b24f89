use Rattle.std.proofs.Common.{◌++◌, ◌∙◌, List, ℕ, flat_map, ap, ap₂}
use Rattle.epx_blockers.specs.BlockerLines.{blocks_line, several_line}
use Rattle.epx_blockers.specs.declared.blocker.Blocker.{Blocker}
use Rattle.epx_blockers.proofs.NodeBlockerLemmas.{IsCount-several}
use Rattle.epx_blockers.proofs.blockers.blockers_text.Goals as goal

pub returns : goal.returns
returns c m is =
    let several = c.in_ok-counts.counts.several in
    record {
      blockers = c.in_ok-blockers.blockers.items;
      several = several;
      missing = c.in_ok-blockers.ensures m is;
      others = IsCount-several m c.args.graph.now is several c.in_ok-counts.ensures.several;
      printed = c.in_ok-append_several.ensures
          ∙ ap (λ (text : List ℕ). text ++ several_line several)
          (c.in_ok-append_blockers.ensures
          ∙ ap₂ (λ (text : List ℕ) (bs : List Blocker). text ++ flat_map blocks_line bs)
          c.new-text.ensures.items c.deref-2.ensures.value);
    }
