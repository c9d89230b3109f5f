-- What is signed is the text of what is said.
use Rattle.std.proofs.Common.{◌≡◌, ℕ, List, ◌∷◌, ◌++◌, ap, ◌∙◌, sym, append_assoc}
use Rattle.std.specs.Int.{w32, to_be_bytes}
use Rattle.mb_model.specs.declared.entry.Said.{Said}
use Rattle.mb_model.specs.declared.entry.Said.TheVariants.{Message, Answer}
use Rattle.mb_model.specs.declared.key.KeySeed.{KeySeed}
use Rattle.mb_model.specs.signatures.Signing.{signature_of}
use Rattle.mb_model.specs.machine.SignedTexts.{statement_text, call_text, said_text}
use Rattle.mb_outbound.specs.declared.stating.Subject.{Subject}

-- the text of a statement before what it says
abbrev head_of : ℕ → Subject → List ℕ
head_of separator subject = separator ∷ subject.serial ++ to_be_bytes w32 subject.key ++ to_be_bytes w32 subject.number

abbrev text_of : Subject → Said → List ℕ
text_of subject said = said_text subject.serial subject.key subject.number said

message_text : (subject : Subject) (message : List ℕ) → head_of 4 subject ++ message ≡ text_of subject (Message message)
unfolding statement_text
message_text subject message = simp append_assoc

answer_text : (subject : Subject) (input answer : List ℕ) → (head_of 6 subject ++ input) ++ answer ≡ text_of subject (Answer input answer)
unfolding call_text
answer_text subject input answer = simp append_assoc

pub message_stated : {out : List ℕ} (seed : KeySeed) (index : ℕ) (subject : Subject) (message read head : List ℕ) (said : Said) → said ≡ Message message → read ≡ message → head ≡ head_of 4 subject
    → out ≡ signature_of seed index (head ++ read) → out ≡ signature_of seed index (text_of subject said)
message_stated seed index subject message read head said is same first signed =
    signed
    ∙ ap (λ (front : List ℕ). signature_of seed index (front ++ read)) first
    ∙ ap (λ (more : List ℕ). signature_of seed index (head_of 4 subject ++ more)) same
    ∙ ap (signature_of seed index) (message_text subject message)
    ∙ ap (λ (it : Said). signature_of seed index (text_of subject it)) (sym is)

pub answer_stated : {out : List ℕ} (seed : KeySeed) (index : ℕ) (subject : Subject) (input answer read head : List ℕ) (said : Said) → said ≡ Answer input answer → read ≡ answer → head ≡ head_of 6 subject ++ input
    → out ≡ signature_of seed index (head ++ read) → out ≡ signature_of seed index (text_of subject said)
answer_stated seed index subject input answer read head said is same first signed =
    signed
    ∙ ap (λ (front : List ℕ). signature_of seed index (front ++ read)) first
    ∙ ap (λ (more : List ℕ). signature_of seed index ((head_of 6 subject ++ input) ++ more)) same
    ∙ ap (signature_of seed index) (answer_text subject input answer)
    ∙ ap (λ (it : Said). signature_of seed index (text_of subject it)) (sym is)
