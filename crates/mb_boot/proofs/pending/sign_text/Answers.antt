use Rattle.std.proofs.Common.{arith}
use Rattle.mb_boot.proofs.Completed.{log_put}
use Rattle.mb_boot.proofs.pending.sign_text.Goals as goal

pub returns-clause-signed : goal.returns-clause-signed
returns-clause-signed g c =
    (log_put c.args.signer.now c.args.text.now c.sign_entry.new.signature c.clear.new.self c.put_log.new.out c.put_log.result c.requires.text.0 c.requires.text.1 c.sign_entry.ensures.signature
    c.clear.ensures.items c.clear.ensures.len (omega (arith, c.requires.room, c.clear.ensures.capacity)) c.put_log.ensures).log

pub returns-clause-room : goal.returns-clause-room
returns-clause-room g c =
    (log_put c.args.signer.now c.args.text.now c.sign_entry.new.signature c.clear.new.self c.put_log.new.out c.put_log.result c.requires.text.0 c.requires.text.1 c.sign_entry.ensures.signature
    c.clear.ensures.items c.clear.ensures.len (omega (arith, c.requires.room, c.clear.ensures.capacity)) c.put_log.ensures).room
