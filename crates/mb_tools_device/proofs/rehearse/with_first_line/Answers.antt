use Rattle.std.proofs.Common.{◌≡◌, ◌++◌, [], ◌∷◌, List, ℕ, ap, ◌∙◌, length, arith, append_assoc}
use Rattle.std.specs.Prelude.{codes}
use Rattle.std.specs.Fmt.{decimal}
use Rattle.mb_model.specs.chains.Replies.{reply_line}
use Rattle.mb_tools_device.proofs.RehearseLemmas.{last_taken, same_lines}
use Rattle.mb_tools_device.proofs.rehearse.with_first_line.Goals as goal

pub returns : goal.returns
returns c =
    let text = c.args.text.items in
    let words = codes "first " ++ (decimal c.args.line ++ 32 ∷ []) in
    let reply = reply_line c.args.reply.now in
    let whole = c.write_reply.new.out.items in
    let bytes : c.as_bytes.result.now ≡ words = c.as_bytes.ensures.value ∙ c.in_ok-words.ensures.ok in
    let put : c.extend_from_slice.new.self.items ≡ text ++ words = c.in_ok-extend_from_slice.ensures.items ∙ ap (λ (t : List ℕ). text ++ t) bytes in
    let written : whole ≡ (text ++ words) ++ (reply ++ 10 ∷ []) = c.in_ok-write_reply.ensures.items ∙ ap (λ (t : List ℕ). t ++ (reply ++ 10 ∷ [])) put in
    let sized : c.write_reply.new.out.len ≡ length whole = omega (arith, c.write_reply.new.out.ok) in
    let lines : c.pop.new.self.items ≡ text ++ (words ++ reply) = last_taken text words whole c.pop.new.self.items reply c.write_reply.new.out.len written sized c.pop.ensures.rest in
    same_lines c.new.result c.pop.new.self.items _ (lines ∙ ap (λ (t : List ℕ). text ++ (codes "first " ++ t)) (append_assoc (decimal c.args.line) (32 ∷ []) reply)) c.new.ensures
