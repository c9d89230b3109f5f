-- The line of each reply. Does what is printed tell one reply from another?
use Rattle.std.specs.Prelude.{ℕ, List, [], ◌∷◌, codes, flat_map, IsSome, unwrap_or}
use Rattle.std.specs.Fmt.{decimal}
use Rattle.mb_model.specs.declared.event.Answered.{Answered}
use Rattle.mb_model.specs.declared.reply.Reply.{Reply}
use Rattle.mb_model.specs.declared.reply.Reply.TheVariants as reply
use Rattle.mb_model.specs.declared.reply.Standing.{Standing}
use Rattle.mb_model.specs.declared.reply.Standing.TheVariants as stands
use Rattle.mb_model.specs.outside.Texts.{line_with_lf}
use Rattle.mb_model.specs.machine.Refusals.{refusal_words}
use Rattle.mb_model.specs.chains.Lines.{spaced_words, hex_word}

-- the word for how a layer stands
abbrev pub standing_word : Standing → List ℕ
standing_word stands.Unowned = codes "unowned"
standing_word stands.Unreliable = codes "unreliable"
standing_word stands.Reliable = codes "reliable"
standing_word stands.Runnable = codes "runnable"

-- Every reply has a line, except a refusal whose number has no words.
abbrev pub HasLine : Reply → Type 0
HasLine (reply.Refused number) = IsSome (refusal_words number)
HasLine _ = Unit {0}

-- the line of a reply
abbrev pub reply_line : Reply → List ℕ
reply_line reply.Booted = codes "booted"
reply_line reply.Off = codes "off"
reply_line reply.Tampered = codes "tampered"
reply_line reply.Armed = codes "armed"
reply_line (reply.At layer) = spaced_words (codes "at" ∷ decimal layer ∷ [])
reply_line (reply.Done number length) = spaced_words (codes "done" ∷ decimal number ∷ decimal length ∷ [])
reply_line reply.Kept = codes "kept"
reply_line reply.Dropped = codes "dropped"
reply_line (reply.Value value) = spaced_words (codes "value" ∷ hex_word value ∷ [])
reply_line reply.Absent = codes "absent"
reply_line (reply.Signed key index statement) =
    spaced_words (codes "signed" ∷ decimal key ∷ decimal index ∷ hex_word statement ∷ [])
reply_line (reply.Called answer) = spaced_words (codes "called" ∷ hex_word answer ∷ [])
reply_line (reply.Status serial number length one two three) =
    spaced_words (codes "status" ∷ hex_word serial ∷ decimal number ∷ decimal length
    ∷ standing_word one ∷ standing_word two ∷ standing_word three ∷ [])
reply_line (reply.Refused number) =
    spaced_words (codes "refused" ∷ decimal number ∷ unwrap_or (refusal_words number) [] ∷ [])
reply_line reply.Stopped = codes "stopped"
reply_line reply.NoMemory = codes "no memory"

-- what is printed of answered events: the line of each reply
abbrev pub replies_text : List Answered → List ℕ
replies_text answered = flat_map (λ each. line_with_lf (reply_line each.reply)) answered
