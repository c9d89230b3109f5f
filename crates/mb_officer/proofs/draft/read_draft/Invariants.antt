use Rattle.std.proofs.Common.{◌≤◌, ◌+◌, length}
use Rattle.mb_officer.proofs.Drafts.{HasRead}
use Rattle.mb_officer.proofs.draft.read_draft.Given as goal

abbrev pub invariant-loop-rest : goal.invariant-loop-rest
invariant-loop-rest l = record {
  room : l.number + length l.rest ≤ 4194305;
  read : HasRead l.text l.rest l.number l.said l.targets;
}

abbrev pub decreases-loop-rest : goal.decreases-loop-rest
decreases-loop-rest l = length l.rest
