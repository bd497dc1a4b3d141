-- A report of findings, and the numbers of kinds.
use Rattle.std.specs.Prelude.{◌≡◌, ℕ, List}
use Rattle.findings.specs.declared.report.Report.{Report}
use Rattle.findings.specs.declared.kind.Kind.{Kind}
use Rattle.findings.specs.declared.kind.Kind.TheVariants.{PointerToNonexistentDevice, BackpointerForMissingDevice, BkeySizeNonzero, BkeySnapshotNonzero, BkeyValSizeTooSmall, AccountingKeyJunkAtEnd, AccountingReplicasBad, AccountingKeyCountersBad, InodeStrHashInvalid, InodeFieldsStartBad, SnapshotPadNonzero, AllocV4ValSizeBad, InodePosInodeNonzero, SubvolPosBad, SnapshotPosBad, ReflinkVPosBad, ReflinkPFrontPadBad, InodeAllocCursorInodeBad, SnapshotTreePosBad, BackpointerLevelBad, XattrValSizeTooSmall, BkeyInvalidTypeForBtree, SnapshotStateBitflip, SnapshotStateBad, SubvolStateBad, SubvolStateBitflip, SubvolStateInvalid, SubvolPadNonzero, RootSubvolMissing, SnapshotSubvolStateMismatch, SnapshotTreeToMissingSubvol, SnapshotClaimedTwice, SnapshotDeletedButSubvolLive, SnapshotDeletedHasLiveChildren, SnapshotDeletedButHasData, SnapshotSubvolFlagWrong, SubvolChildrenEntryMissing, SubvolChildrenEntryWrong, SnapshotTreeToBadRootSnapshot, SnapshotTreeToWrongSubvol, SnapshotToBadSnapshotTree, SnapshotBadDepth, SnapshotSubvolBackrefWrong, SnapshotBadChild, SnapshotBadSkiplist, IncorrectGenInBucketGens, FreespaceEntryForNonexistentBucket, BucketIncorrectlySetInFreespaceBtree, BucketIncorrectlyUnsetInFreespaceBtree, HoleInAllocBtreeMissingInFreespaceBtree}
use Rattle.findings.specs.Findings.{Finding, sink, Added}

-- the report r holds the findings fs besides, and is s now: it has the buffer and the counts that it was lent
pub record Reports (r : Report) (fs : List Finding) (s : Report) : Type 0 where
  pub same_buffer : s.buffer.ghost_name ≡ r.buffer.ghost_name
  pub same_counts : s.counts.ghost_name ≡ r.counts.ghost_name
  pub added : Added (sink r.buffer.now r.counts.now) r.found fs s.found (sink s.buffer.now s.counts.now)

-- the number of a kind (document 01, "Kinds 1 to 28" and "Cross-checks")
abbrev pub kind_number : Kind → ℕ
kind_number PointerToNonexistentDevice = 1
kind_number BackpointerForMissingDevice = 2
kind_number BkeySizeNonzero = 3
kind_number BkeySnapshotNonzero = 4
kind_number BkeyValSizeTooSmall = 5
kind_number AccountingKeyJunkAtEnd = 6
kind_number AccountingReplicasBad = 7
kind_number AccountingKeyCountersBad = 8
kind_number InodeStrHashInvalid = 9
kind_number InodeFieldsStartBad = 10
kind_number SnapshotPadNonzero = 11
kind_number AllocV4ValSizeBad = 12
kind_number InodePosInodeNonzero = 13
kind_number SubvolPosBad = 14
kind_number SnapshotPosBad = 15
kind_number ReflinkVPosBad = 16
kind_number ReflinkPFrontPadBad = 17
kind_number InodeAllocCursorInodeBad = 18
kind_number SnapshotTreePosBad = 19
kind_number BackpointerLevelBad = 20
kind_number XattrValSizeTooSmall = 21
kind_number BkeyInvalidTypeForBtree = 22
kind_number SnapshotStateBitflip = 23
kind_number SnapshotStateBad = 24
kind_number SubvolStateBad = 25
kind_number SubvolStateBitflip = 26
kind_number SubvolStateInvalid = 27
kind_number SubvolPadNonzero = 28
kind_number RootSubvolMissing = 29
kind_number SnapshotSubvolStateMismatch = 30
kind_number SnapshotTreeToMissingSubvol = 31
kind_number SnapshotClaimedTwice = 32
kind_number SnapshotDeletedButSubvolLive = 33
kind_number SnapshotDeletedHasLiveChildren = 34
kind_number SnapshotDeletedButHasData = 35
kind_number SnapshotSubvolFlagWrong = 36
kind_number SubvolChildrenEntryMissing = 37
kind_number SubvolChildrenEntryWrong = 38
kind_number SnapshotTreeToBadRootSnapshot = 39
kind_number SnapshotTreeToWrongSubvol = 40
kind_number SnapshotToBadSnapshotTree = 41
kind_number SnapshotBadDepth = 42
kind_number SnapshotSubvolBackrefWrong = 43
kind_number SnapshotBadChild = 44
kind_number SnapshotBadSkiplist = 45
kind_number IncorrectGenInBucketGens = 46
kind_number FreespaceEntryForNonexistentBucket = 47
kind_number BucketIncorrectlySetInFreespaceBtree = 48
kind_number BucketIncorrectlyUnsetInFreespaceBtree = 49
kind_number HoleInAllocBtreeMissingInFreespaceBtree = 50
