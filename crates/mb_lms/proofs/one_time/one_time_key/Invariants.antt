use Rattle.std.proofs.Common.{◌++◌}
use Rattle.std.specs.Int.{w32, to_be_bytes}
use Rattle.sha2.specs.Hashers.{Holds256}
use Rattle.mb_model.specs.signatures.Key.{digit_bits}
use Rattle.mb_model.specs.signatures.Winternitz.{one_time_key_mark, chain_ends}
use Rattle.mb_lms.proofs.one_time.one_time_key.Given as goal

abbrev pub invariant-loop-i : goal.invariant-loop-i
invariant-loop-i l =
    Holds256 l.hasher (l.key.identifier ++ to_be_bytes w32 l.q ++ one_time_key_mark
    ++ chain_ends l.key.identifier l.q (digit_bits l.key.chains) l.digits l.values l.i)
