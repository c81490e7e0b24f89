-- The texts that say why an instance is executed where it is, or why it is not, and by which path
-- one reaches another.
use Rattle.std.specs.Prelude.{◌≡◌, ◌⊎◌, ℕ, List, ◌++◌, flat_map, Some, slice_get, codes}
use Rattle.epx_types.specs.declared.id.Id.{Id}
use Rattle.epx_types.specs.Instances.{Instance}
use Rattle.epx_types.specs.CommittedMap.{IsCommitted}
use Rattle.epx_types.specs.ExecutionOrder.{Ranked, IsExecutionOrder}
use Rattle.epx_types.specs.Readiness.{WaitsFor}
use Rattle.epx_report.specs.ReportLines.{waiting_line}
use Rattle.epx_report.specs.ViewLines.{missing_line}
use Rattle.epx_why.specs.declared.need.Need.{Need}
use Rattle.epx_why.specs.FirstPaths.{IsFirstPath, HasNoPath, path_ids}
use Rattle.epx_why.specs.Needs.{AreNeedsOf, AreNeeding}
use Rattle.epx_why.specs.WhyLines.{ready_line, need_line, path_line, none_line}

-- x is ready; the text is the line `["ready",r,i,p,depth,lr,li]` of x at its position in the
-- execution order
pub record IsReadyText (m : List Instance) (x : Id) (text : List ℕ) : Type 0 where
  pub order : List Ranked
  pub executed : IsExecutionOrder m order
  pub position : ℕ
  pub ranked : Ranked
  pub there : slice_get order position ≡ Some ranked
  pub named : ranked.id ≡ x
  pub printed : text ≡ ready_line position ranked

-- x waits; the text is its line `["waiting",r,i,mr,mi]`, and a line `["needs",r2,i2,steps]` for
-- each missing instance that it reaches, by rising Id
pub record IsWaitingText (m : List Instance) (x : Id) (text : List ℕ) : Type 0 where
  pub missing : Id
  pub needs : List Need
  pub waits : WaitsFor m x missing
  pub needed : AreNeedsOf m x needs
  pub printed : text ≡ waiting_line (record { id = x; missing = missing })
      ++ flat_map (need_line (codes "needs")) needs

-- x is not committed; the text is its line `["missing",r,i]`, and a line `["needed",r2,i2,steps]`
-- for each instance from which a path leads to x, by rising Id
pub record IsMissingText (m : List Instance) (x : Id) (text : List ℕ) : Type 0 where
  pub needing : List Need
  pub missing : ¬ IsCommitted m x
  pub reaching : AreNeeding m x needing
  pub printed : text ≡ missing_line x ++ flat_map (need_line (codes "needed")) needing

-- the text says why x is executed where it is, or why not: it is that of a ready, a waiting or a
-- missing instance
abbrev pub IsWhyText : List Instance → Id → List ℕ → Type 0
IsWhyText m x text = IsReadyText m x text ⊎ (IsWaitingText m x text ⊎ IsMissingText m x text)

-- the text is the line `["path",[r,i],..,[r2,i2]]` of the first of the shortest paths from x to y
pub record IsFoundPathText (m : List Instance) (x y : Id) (text : List ℕ) : Type 0 where
  pub via : List Id
  pub first : IsFirstPath m x via y
  pub printed : text ≡ path_line (path_ids x via y)

-- the text is the line of the first of the shortest paths from x to y, or the line `["none"]` if
-- there is no path
abbrev pub IsPathText : List Instance → Id → Id → List ℕ → Type 0
IsPathText m x y text = IsFoundPathText m x y text ⊎ (HasNoPath m x y × (text ≡ none_line))
