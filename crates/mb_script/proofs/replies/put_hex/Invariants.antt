use Rattle.std.proofs.Common.{◌<◌, take, length}
use Rattle.hex.specs.Hex.{encode_lower}
use Rattle.mb_bytes.specs.Puts.{Appends}
use Rattle.mb_script.proofs.replies.put_hex.Given as goal

abbrev pub invariant-loop-byte : goal.invariant-loop-byte
invariant-loop-byte l = record {
  some : 0 < length l.bytes;
  written : Appends (encode_lower (take l.byte-index l.bytes)) l.fn.out l.out;
}
