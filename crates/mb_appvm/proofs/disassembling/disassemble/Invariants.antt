use Rattle.std.proofs.Common.{◌-◌, length}
use Rattle.mb_appvm.proofs.Listings.{IsListedTo}
use Rattle.mb_appvm.proofs.disassembling.disassemble.Given as goal

abbrev pub invariant-loop-place : goal.invariant-loop-place
invariant-loop-place l = IsListedTo l.code l.place l.text.items

abbrev pub decreases-loop-place : goal.decreases-loop-place
decreases-loop-place l = length l.code - l.place
