-- How commands do not end, and what hosts do not do; the checker refutes each line. Can a command end in any way?
use Rattle.std.specs.Prelude.{◌≡◌, ℕ, ◌≤◌, List, [], ◌∷◌, length, get_or, Option, None, Some, true, codes}
use Rattle.mb_model_commands.specs.Commands.{Command, read, find, write, print, Output, Past, Ended, HasRead}
use Rattle.mb_model_commands.specs.Commands.{CommandEnds, HasInputsFor}
use Rattle.mb_model_commands.specs.Outside.{Outside, FailsToRead, FailsToPrint}
use Rattle.mb_model_commands.specs.Inputs.{code_input}
use Rattle.mb_model_commands.specs.Keygen.{KeygenNames, keygen}
use Rattle.mb_model_commands.specs.Sign.{SignNames, CountersignNames, sign, countersign}
use Rattle.mb_model_commands.specs.FactoryCommand.{FactoryNames, factory}
use Rattle.mb_model_commands.specs.RunCommand.{RunNames, run}
use Rattle.mb_model_commands.specs.VerifyCommand.{VerifyNames, verify}
use Rattle.mb_model_commands.specs.ChainCommands.{ChainNames, AttachNames, chain, attach}
use Rattle.mb_model_commands.specs.AuditCommand.{AuditNames, audit}
use Rattle.mb_model_commands.specs.GenerateCommand.{GenerateNames, generate}

-- the command ends neither with status 1 nor with status 2, which says that the words are no command
abbrev pub EndsOtherwise : Past → Ended → Command → Type 0
EndsOtherwise past e command = 1 ≤ e.status → e.status ≤ 2 → CommandEnds command past e → ⊥

-- no command of the program ends with status 1 or 2
pub record StatusCounterExamples (past : Past) (e : Ended) : Type 0 where
  pub run : (names : RunNames) → EndsOtherwise past e (run names)
  pub keygen : (names : KeygenNames) → EndsOtherwise past e (keygen names)
  pub sign : (names : SignNames) → EndsOtherwise past e (sign names)
  pub countersign : (names : CountersignNames) → EndsOtherwise past e (countersign names)
  pub factory : (names : FactoryNames) → EndsOtherwise past e (factory names)
  pub verify : (names : VerifyNames) → EndsOtherwise past e (verify names)
  pub audit : (names : AuditNames) → EndsOtherwise past e (audit names)
  pub chain : (names : ChainNames) → EndsOtherwise past e (chain names)
  pub attach : (names : AttachNames) → EndsOtherwise past e (attach names)
  pub generate : (names : GenerateNames) → EndsOtherwise past e (generate names)

-- how small commands do not end
pub record CommandCounterExamples (past : Past) (e : Ended) (text : List ℕ) : Type 0 where
  -- a command that reads and prints ends with a refusal
  pub refused : (name : List ℕ) → e.status ≡ 7
      → CommandEnds (read (code_input name) (λ code. print text)) past e → ⊥
  -- a command that has to find what is not there is done
  pub found : e.status ≡ 0 → CommandEnds (find (λ (n : ℕ). ⊥) (λ n. print text)) past e → ⊥
  -- a command that writes and prints ends at an input
  pub not_read : (output : Output) → e.status ≡ 4 → CommandEnds (write output (print text)) past e → ⊥
  -- a command lacks memory after it has written a file
  pub late : past.wrote ≡ true → e.status ≡ 6 → CommandEnds (print text) past e → ⊥
  -- a command that prints `a` is done, and `b` is printed
  pub other_text : e.before.printed ≡ Some [] → e.after.printed ≡ Some (codes "b") → e.status ≡ 0
      → CommandEnds (print (codes "a")) past e → ⊥
  -- a command that writes a byte is done, and the file is empty
  pub not_written : (output : Output) (files now : List ℕ → Option (List ℕ)) → e.status ≡ 0
      → output.bytes ≡ 7 ∷ [] → e.before.files ≡ Some files → e.after.files ≡ Some now → now output.name ≡ Some []
      → CommandEnds (write output (print text)) past e → ⊥

-- files among which an input is missing
pub record FileCounterExamples (name text : List ℕ) (files : List ℕ → Option (List ℕ)) : Type 0 where
  pub absent : files name ≡ None → HasInputsFor (read (code_input name) (λ code. print text)) files → ⊥

-- what a call of a host does not do
pub record HostCounterExamples (before after : Outside) (name bytes : List ℕ) : Type 0 where
  -- a host reads a file that is too long, other bytes than the file holds, or what are no bytes
  pub too_long : length bytes ≡ 4194305 → HasRead before name bytes → ⊥
  pub other_bytes : (files : List ℕ → Option (List ℕ)) → before.files ≡ Some files → files name ≡ Some []
      → HasRead before name (7 ∷ []) → ⊥
  pub no_byte : get_or bytes 0 0 ≡ 300 → HasRead before name bytes → ⊥
  -- a host fails to read and counts no call
  pub uncounted : before.reads ≡ 0 → after.reads ≡ 0 → FailsToRead name before after → ⊥
  -- a host fails to print `a` and has printed `b`
  pub other_text : before.printed ≡ Some [] → after.printed ≡ Some (codes "b")
      → FailsToPrint (codes "a") before after → ⊥
