use Rattle.std.proofs.Common.{◌≡◌, take}
use Rattle.epx_versions.specs.SameInstances.{same_seq, same_deps, same_ops}
use Rattle.epx_compare.specs.inner.NumberedVersions.{differs_from}
use Rattle.epx_compare.proofs.members.Members.from_first.Given as goal

abbrev pub invariant-loop-number : goal.invariant-loop-number
invariant-loop-number l = record {
  seq : l.members.seq
      ≡ differs_from same_seq l.first l.versions.keys (take l.number-index l.later);
  deps : l.members.deps
      ≡ differs_from same_deps l.first l.versions.keys (take l.number-index l.later);
  ops : l.members.ops
      ≡ differs_from same_ops l.first l.versions.keys (take l.number-index l.later);
}
