-- What the command `enrol` does. Is a chain answered as one item of `fleet` is, and the register written only if its
-- rows have changed?
use Rattle.std.specs.Prelude.{ℕ, List}
use Rattle.mb_model.specs.declared.key.PublicKey.{PublicKey}
use Rattle.mb_model.specs.outside.Texts.{line_with_lf}
use Rattle.mb_model_commands.specs.declared.role.Role.TheVariants as role
use Rattle.mb_model_commands.specs.Commands.{Command, read, find, write, print, refuse}
use Rattle.mb_model_commands.specs.Inputs.{root_input, chain_bytes_input}
use Rattle.mb_fleet.specs.declared.row.Row.{Row}
use Rattle.mb_fleet.specs.RegisterFormat.{register_format}
use Rattle.mb_fleet.specs.Serving.{answer_line}
use Rattle.mb_fleet.specs.Showing.{Answer, newly_added, same, extended, chain_refused, older, forked, full}
use Rattle.mb_fleet.specs.Showing.{IsChainAnswered}
use Rattle.mb_fleet.specs.Laws.{register_input}

-- the names of the files
pub record EnrolNames : Type 0 where
  pub root : List ℕ
  pub register : List ℕ
  pub chain : List ℕ

-- what a register comes to when it is shown a chain: the answer, and the rows afterwards
pub record Enrolment : Type 0 where
  pub answer : Answer
  pub after : List Row

-- a register with these rows comes to this when it is shown the chain
abbrev pub ComesToEnrolment : PublicKey → List Row → List ℕ → Enrolment → Type 0
ComesToEnrolment maker rows chain enrolment = IsChainAnswered maker rows chain enrolment.answer enrolment.after

-- the register is written with these rows, and then the line is printed
abbrev pub write_register : List ℕ → List Row → List ℕ → Command
write_register name after line =
    write (record { role = role.Register; name = name; bytes = register_format.spelling after })
    (print (line_with_lf line))

-- The line of the answer is printed, after the register is written if the rows have changed: most chains that are
-- shown each day are the same, and a file of two million bytes is then read and not written. If the register does not
-- have all that was shown, the command is refused with this line, so that a script sees it by the status. `fleet` is
-- not refused, since it has many items.
abbrev pub tell_answer : List ℕ → List Row → Answer → Command
tell_answer name after (newly_added serial n) = write_register name after (answer_line (newly_added serial n))
tell_answer name after (extended serial n) = write_register name after (answer_line (extended serial n))
tell_answer name after (same serial n) = print (line_with_lf (answer_line (same serial n)))
tell_answer name after (chain_refused why) = refuse (answer_line (chain_refused why))
tell_answer name after (older serial have) = refuse (answer_line (older serial have))
tell_answer name after (forked serial place) = refuse (answer_line (forked serial place))
tell_answer name after full = refuse (answer_line full)

abbrev pub tell_enrolment : List ℕ → Enrolment → Command
tell_enrolment name enrolment = tell_answer name enrolment.after enrolment.answer

-- the maker's public key, the register and the chain are read, and the chain is shown to the register
unfoldable pub enrol : EnrolNames → Command
enrol names =
    read (root_input names.root) (λ maker.
    read (register_input names.register) (λ rows.
    read (chain_bytes_input names.chain) (λ chain.
    find (ComesToEnrolment maker rows chain) (tell_enrolment names.register))))
