use Rattle.std.proofs.Common.{◌≡◌, true, false, sym, ◌∙◌}
use Rattle.mb_model.specs.owners.Log.{entries_of}
use Rattle.mb_log.proofs.KeyLives.{no_new_key}
use Rattle.mb_verifier.proofs.SignerLemmas.{makes_signer, makes_no_signer, makes_unsigned}
use Rattle.mb_verifier.proofs.signer.signer_in.Goals as goal

pub returns-in_default : goal.returns-in_default
returns-in_default c = λ n makes. makes_no_signer (entries_of c.args.log.now) c.args.statement.now c.args.entry.now n (no_new_key n c.args.entry.now c.in_default.not-NewKey) makes

pub returns-then-is_stated : goal.returns-then-is_stated
returns-then-is_stated c =
    let own = c.in-NewKey in
    makes_signer (entries_of c.args.log.now) c.args.statement.now c.args.entry.now own.position own.number own.key_number own.layer own.kind own.key own.is (c.is_stated.ensures.0 c.if-is_stated.true)

pub returns-else-is_stated : goal.returns-else-is_stated
returns-else-is_stated c = λ n makes.
    let own = c.in-NewKey in
    makes_unsigned (entries_of c.args.log.now) c.args.statement.now c.args.entry.now own.position own.number own.key_number own.layer own.kind own.key n own.is
    (λ stated. let no : false ≡ true = sym c.if-is_stated.false ∙ c.is_stated.ensures.1 stated in cc) makes
