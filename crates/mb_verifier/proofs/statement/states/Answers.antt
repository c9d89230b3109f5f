use Rattle.std.proofs.Common.{List, ℕ, [], subst}
use Rattle.std.specs.Prelude.{◌↔◌, IsTrue}
use Rattle.mb_model.specs.signatures.Merkle.{Verifies}
use Rattle.mb_verifier.proofs.Stating.{pieces_are}
use Rattle.mb_verifier.proofs.statement.states.Goals as goal

pub returns : goal.returns
returns c =
    let key = c.args.key.now in
    let signature = c.args.statement.now.signature in
    let fed = c.feed_said.ensures key signature _ (c.feed-4.ensures key signature _ (c.feed-3.ensures key signature _ (c.feed-2.ensures key signature _ (c.feed.ensures key signature [] c.in-Some.ensures.checking)))) in
    let text = pieces_are c.args.serial.now c.to_be_bytes.result c.to_be_bytes-2.result c.said_separator.result c.args.number c.args.statement.now.number c.args.statement.now.said
    c.said_separator.ensures c.to_be_bytes.ensures c.to_be_bytes-2.ensures in
    subst (λ (t : List ℕ). IsTrue c.finish.result ↔ Verifies key t signature) text (c.finish.ensures key _ fed)
