-- Whether a statement is current.
use Rattle.std.proofs.Common.{◌≡◌, ℕ, List, ◌∷◌, ◌++◌, Some, ap, ◌∙◌, append_assoc}
use Rattle.std.specs.Int.{w32, to_be_bytes}
use Rattle.std.specs.Option.{option_map}
use Rattle.mb_model.specs.declared.entry.Entry.{Entry}
use Rattle.mb_model.specs.declared.entry.Said.{Said}
use Rattle.mb_model.specs.declared.entry.Said.TheVariants.{Message, Answer}
use Rattle.mb_model.specs.machine.SignedTexts.{statement_text, call_text, said_text}
use Rattle.mb_model.specs.chains.Acceptance.{key_of, is_alive}
use Rattle.mb_log.specs.declared.life.BornKey.{BornKey}
use Rattle.mb_log.specs.declared.life.Life.{Life}
use Rattle.mb_log.specs.KeyLife.{as_entry, IsLifeOf}
use Rattle.mb_verifier.specs.SaidParts.{said_separator, said_bytes}

-- ---- the signature

-- what is fed piece by piece is the text of the statement
pub pieces_are : (serial front middle : List ℕ) (separator key number : ℕ) (said : Said) → separator ≡ said_separator said → front ≡ to_be_bytes w32 key → middle ≡ to_be_bytes w32 number
    → separator ∷ (((serial ++ front) ++ middle) ++ said_bytes said) ≡ said_text serial key number said
unfolding statement_text call_text
pieces_are serial front middle separator key number (Message message) separator_is key_is number_is = rw (separator_is, key_is, number_is) (simp append_assoc)
pieces_are serial front middle separator key number (Answer input answer) separator_is key_is number_is = rw (separator_is, key_is, number_is) (simp append_assoc)

-- ---- what the entries say

-- the entry of the key that was born
pub born_is : (log : List Entry) (n : ℕ) (life : Life) (born : BornKey) → IsLifeOf log n life → life.born ≡ Some born → key_of log n ≡ Some (as_entry born)
born_is log n life born is some = is.born ∙ ap (option_map as_entry) some

pub alive_is : (log : List Entry) (n : ℕ) (life : Life) (born : BornKey) → IsLifeOf log n life → life.born ≡ Some born → life.alive ≡ is_alive log n born.layer
alive_is log n life born is some = is.alive (as_entry born) (born_is log n life born is some)
